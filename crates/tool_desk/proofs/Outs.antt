-- Views that go out one after another, and come back.
use Rattle.std.proofs.Common.{◌≡◌, ◌≤◌, ◌<◌, ◌+◌, ◌-◌, ℕ, false, List, [], ◌∷◌, length, map, All, IsTrue, refl, sym, ap, ◌∙◌, ◌++◌, subst, arith, append_assoc, append-nil, length-append}
use Rattle.std.proofs.lemmas.List.{length-map, map-append}
use Rattle.std.proofs.lemmas.List.Elements.{All-cons, All-nil, All-push, All-weaker}
use Rattle.std.proofs.lemmas.List.Sums.{sum_by-cons}
use Rattle.std.specs.Str.{bytes_eq}
use Rattle.coalition_map.specs.Coalitions.{PlanNumbers}
use Rattle.disk_trait.specs.declared.disk.Pages as ghosts
use Rattle.disk_trait.specs.declared.faults.Faults as faults
use Rattle.lms_bytes.specs.declared.params.Params.{Params}
use Rattle.reference_value.specs.Paged.{pages_of}
use Rattle.reference_value.specs.declared.paged.Paged.{Paged}
use Rattle.share_files.specs.declared.reference.RefHeader.{RefHeader}
use Rattle.stream_io.specs.Store.{PagesState, StoreOnward, StoreState, ViewEnded, Viewed}
use Rattle.tool_base.proofs.Runs.{onward_none, onward_on}
use Rattle.tool_base.specs.Ending.{Ending}
use Rattle.tool_base.specs.Touched.{Keeps}
use Rattle.tool_base.specs.World.{IsUnchanged, IsRead, Failed, from_to}
use Rattle.tool_desk.specs.Reference.{FailsReference, IsNoReference, IsReferenceOf, device, no_memory, no_view, not_in_grammar}
use Rattle.tool_base.specs.Disks.{DeviceFails}
use Rattle.tool_base.specs.Loads.{ReadsAs}
use Rattle.tool_desk.specs.Views.{AddsCells, AreOfSet, CellsOut, IsViewOf, ViewsBack, ViewsOut}

pub out_none : (a : StoreState) → ViewsOut a 0 a
out_none a = record {
  onward = onward_none a;
  file = λ told name. refl;
  leaves = λ told name image. (λ x. x, λ x. x);
  out = λ told name. refl;
  views = λ told. (omega arith);
}

-- one more
pub out_more : (a b c : StoreState) (count : ℕ) (name : List ℕ) (view : PagesState) → ViewsOut a count b → Viewed b name view c → StoreOnward b c → ViewsOut a (count + 1) c
out_more a b c count name view out viewed onward = record {
  onward = onward_on a b c out.onward onward;
  file = λ told other. ap (λ f. f other) viewed.names.file ∙ out.file told other;
  leaves = λ told other image. (let x = out.leaves told other image in let y = viewed.names.leaves other image in (λ z. x.0 (y.0 z), λ z. y.1 (x.1 z)));
  out = λ told other. ap (λ f. f other) viewed.names.out ∙ out.out told other;
  views = λ told. (let x = out.views told in let y = viewed.views (rw out.onward.told told) in omega (arith, x, y));
}

-- a call in between that keeps all names
pub out_kept : (a b c : StoreState) (count : ℕ) → ViewsOut a count b → Keeps [] b c → ViewsOut a count c
out_kept a b c count out keeps = record {
  onward = onward_on a b c out.onward keeps.back.onward;
  file = λ told other. keeps.file (rw out.onward.told told) other (All-nil (λ one. bytes_eq other one ≡ false)) ∙ out.file told other;
  leaves = λ told other image. (let x = out.leaves told other image in let y = keeps.leaves (rw out.onward.told told) other image (All-nil (λ one. bytes_eq other one ≡ false)) in (λ z. x.0 (y.0 z), λ z. y.1 (x.1 z)));
  out = λ told other. keeps.back.out (rw out.onward.told told) other ∙ out.out told other;
  views = λ told. keeps.back.views (rw out.onward.told told) ∙ out.views told;
}

-- a view obtained while others were out is one of the store before
pub view_of : (a b c : StoreState) (count : ℕ) (name : List ℕ) (view : PagesState) → ViewsOut a count b → Viewed b name view c → IsViewOf a name view
view_of a b c count name view out viewed = record {
  given = record {
    fresh = viewed.given.fresh;
    told = λ told. viewed.given.told (rw out.onward.told told);
    steady = λ steady. viewed.given.steady (rw out.onward.steady steady);
  };
  reads = λ told. sym (out.file told name) ∙ viewed.reads (rw out.onward.told told);
}

-- what is said while views are out, as a statement about the whole run
module _ (a b c d : StoreState) (count : ℕ) (out : ViewsOut a count b) (later : StoreOnward c d) where
  told_b : IsTrue a.told → IsTrue b.told
  told_b told = rw out.onward.told told

  pub reads_out : (name : List ℕ) (Is : List ℕ → Type 0) → ReadsAs (from_to b c) name Is → ReadsAs (from_to a d) name Is
  reads_out name Is reads = record {
    file = reads.file;
    is_read = λ told. sym (out.file told name) ∙ reads.is_read (told_b told);
    is = λ told. reads.is (told_b told);
  }

  failed_out : (name : List ℕ) → IsRead (from_to b c) name Failed → IsRead (from_to a d) name Failed
  failed_out name r = (
    let rose = r.0 in let begins = out.onward.count in let ends = later.count in omega arith,
    λ told steady. sym (out.file told name) ∙ r.1 (told_b told) (rw out.onward.steady steady),
  )

  device_out : DeviceFails (from_to b c) → DeviceFails (from_to a d)
  device_out fails = record {
    rose = let rose = fails.rose in let begins = out.onward.disk_count in let ends = later.disk_count in omega arith;
    unsteady = λ told steady. fails.unsteady (told_b told) (rw out.onward.steady steady);
  }

  pub fails_out : (name : List ℕ) (end : Ending) → FailsReference (from_to b c) name end → FailsReference (from_to a d) name end
  fails_out name _ (no_view r) = no_view (failed_out name r)
  fails_out name _ (not_in_grammar fault reads) = not_in_grammar fault (reads_out name (IsNoReference fault) reads)
  fails_out name _ (device fails) = device (device_out fails)
  fails_out name _ no_memory = no_memory

-- all are back
pub all_back : (a c d : StoreState) (count : ℕ) (counts : List ℕ) → ViewsOut a count c → ViewsBack c counts d → length counts ≡ count → Keeps [] a d
all_back a c d count counts out back many = record {
  back = record {
    onward = onward_on a c d out.onward back.onward;
    out = λ told name. ap (λ f. f name) back.names.out ∙ out.out told name;
    views = λ told. (let x = out.views told in let y = back.views (rw out.onward.told told) in omega (arith, x, y, many));
  };
  file = λ told name other. ap (λ f. f name) back.names.file ∙ out.file told name;
  leaves = λ told name image other. (let x = out.leaves told name image in let y = back.names.leaves name image in (λ z. x.0 (y.0 z), λ z. y.1 (x.1 z)));
}

-- one more view came back
pub back_none : (a : StoreState) → ViewsBack a [] a
back_none a = record {
  names = record { file = refl; leaves = λ name image. (λ x. x, λ x. x); out = refl };
  rise = omega arith;
  views = λ told. (omega arith);
  onward = onward_none a;
}

pub back_more : (a b c : StoreState) (counts : List ℕ) (view : PagesState) → ViewsBack a counts b → ViewEnded b view c → StoreOnward b c → ViewsBack a (view.count ∷ counts) c
back_more a b c counts view back ended onward = record {
  names = record {
    file = ended.names.file ∙ back.names.file;
    leaves = λ name image. (let x = back.names.leaves name image in let y = ended.names.leaves name image in (λ z. x.0 (y.0 z), λ z. y.1 (x.1 z)));
    out = ended.names.out ∙ back.names.out;
  };
  rise = (let all = sum_by-cons (λ count. count) view.count counts in let before = back.rise in let now = ended.disk_count in omega (arith, all, before, now));
  views = λ told. (let x = back.views told in let y = ended.views (rw back.onward.told told) in omega (arith, x, y));
  onward = onward_on a b c back.onward onward;
}

pub counts_more : {X : Type 0} (count : X → ℕ) (xs : List X) (x : X) (back : List ℕ) → map count (xs ++ x ∷ []) ++ back ≡ map count xs ++ (count x ∷ back)
counts_more count xs x back = rw (map-append, append_assoc) refl

-- views that are all back at once
pub kept_none : (a b : StoreState) → ViewsOut a 0 b → Keeps [] a b
kept_none a b out = record {
  back = record { onward = out.onward; out = out.out; views = λ told. (let x = out.views told in omega (arith, x)) };
  file = λ told name other. out.file told name;
  leaves = λ told name image other. out.leaves told name image;
}

-- one state after another
pub out_on : (a b c : StoreState) (count more : ℕ) → ViewsOut a count b → ViewsOut b more c → ViewsOut a (count + more) c
out_on a b c count more one two = record {
  onward = onward_on a b c one.onward two.onward;
  file = λ told name. two.file (rw one.onward.told told) name ∙ one.file told name;
  leaves = λ told name image. (let x = one.leaves told name image in let y = two.leaves (rw one.onward.told told) name image in (λ z. x.0 (y.0 z), λ z. y.1 (x.1 z)));
  out = λ told name. two.out (rw one.onward.told told) name ∙ one.out told name;
  views = λ told. (let x = one.views told in let y = two.views (rw one.onward.told told) in omega (arith, x, y));
}

-- a view obtained and given back at once
pub out_ended : (a b c d : StoreState) (count : ℕ) (name : List ℕ) (view now : PagesState) → ViewsOut a count b → Viewed b name view c → StoreOnward b c
    → ViewEnded c now d → StoreOnward c d → ViewsOut a count d
out_ended a b c d count name view now out viewed onward ended ends = record {
  onward = onward_on a b d out.onward (onward_on b c d onward ends);
  file = λ told other. ap (λ f. f other) ended.names.file ∙ ap (λ f. f other) viewed.names.file ∙ out.file told other;
  leaves = λ told other image. (
      let x = out.leaves told other image in
      let y = viewed.names.leaves other image in
      let z = ended.names.leaves other image in
      (λ it. x.0 (y.0 (z.0 it)), λ it. z.1 (y.1 (x.1 it)))
      );
  out = λ told other. ap (λ f. f other) ended.names.out ∙ ap (λ f. f other) viewed.names.out ∙ out.out told other;
  views = λ told. (
      let x = out.views told in
      let y = viewed.views (rw out.onward.told told) in
      let z = ended.views (rw onward.told (rw out.onward.told told)) in
      omega (arith, x, y, z)
      );
}

-- ---- cells that are put after others
module _ {V : Type 0} {p : ghosts.Ghosts V} {f : faults.Ghosts V} (pages : V → PagesState) (a : StoreState) (name : List ℕ) (before : List (Paged V p f)) where
  abbrev Is : Paged V p f → Type 0
  Is one = IsViewOf a name (pages (pages_of one))

  pub adds_none : AddsCells a name pages before before a
  adds_none = record { added = []; items = sym (append-nil before); cells = record { are = All-nil Is; out = out_none a } }

  module _ (after : List (Paged V p f)) (b : StoreState) (adds : AddsCells a name pages before after b) where
    pub adds_kept : (c : StoreState) → Keeps [] b c → AddsCells a name pages before after c
    adds_kept c keeps = record {
      added = adds.added;
      items = adds.items;
      cells = record { are = adds.cells.are; out = out_kept a b c (length adds.added) adds.cells.out keeps };
    }

    pub adds_ended : (c d : StoreState) (view now : PagesState) → Viewed b name view c → StoreOnward b c → ViewEnded c now d → StoreOnward c d → AddsCells a name pages before after d
    adds_ended c d view now viewed onward ended ends = record {
      added = adds.added;
      items = adds.items;
      cells = record { are = adds.cells.are; out = out_ended a b c d (length adds.added) name view now adds.cells.out viewed onward ended ends };
    }

    pub adds_more : (c : StoreState) (own : Paged V p f) (view : V) → pages_of own ≡ view → Viewed b name (pages view) c → StoreOnward b c
        → AddsCells a name pages before (after ++ own ∷ []) c
    adds_more c own view of viewed onward = record {
      added = adds.added ++ own ∷ [];
      items = ap (λ (l : List (Paged V p f)). l ++ own ∷ []) adds.items ∙ append_assoc before adds.added (own ∷ []);
      cells = record {
        are = All-push Is adds.added own adds.cells.are
            (subst (λ (v : V). IsViewOf a name (pages v)) (sym of) (view_of a b c (length adds.added) name (pages view) adds.cells.out viewed));
        out = subst (λ (n : ℕ). ViewsOut a n c) (sym (length-append adds.added (own ∷ []))) (out_more a b c (length adds.added) name (pages view) adds.cells.out viewed onward);
      };
    }

-- the file of which a view was obtained
pub reads_viewed : (a b c : StoreState) (count : ℕ) (name : List ℕ) → ViewsOut a count b → (header : RefHeader) (view : PagesState) (last : StoreState) → Viewed b name view c
    → (IsTrue view.told → IsReferenceOf header view.reads) → ReadsAs (from_to a last) name (IsReferenceOf header)
reads_viewed a b c count name out header view last viewed is = record {
  file = view.reads;
  is_read = λ told. sym (out.file told name) ∙ viewed.reads (rw out.onward.told told);
  is = λ told. is (viewed.given.told (rw out.onward.told told));
}

-- a view obtained after another one is one of the store before both
pub view_before : (a b : StoreState) (count : ℕ) (name : List ℕ) (view : PagesState) → ViewsOut a count b → IsViewOf b name view → IsViewOf a name view
view_before a b count name view out is = record {
  given = record {
    fresh = is.given.fresh;
    told = λ told. is.given.told (rw out.onward.told told);
    steady = λ steady. is.given.steady (rw out.onward.steady steady);
  };
  reads = λ told. sym (out.file told name) ∙ is.reads (rw out.onward.told told);
}

pub out_unchanged : (a b : StoreState) → IsUnchanged a b → ViewsOut a 0 b
out_unchanged a b unchanged = record {
  onward = unchanged.onward;
  file = λ told name. ap (λ f. f name) unchanged.same.names.file;
  leaves = λ told name image. unchanged.same.names.leaves name image;
  out = λ told name. ap (λ f. f name) unchanged.same.names.out;
  views = λ told. (let x = unchanged.same.loans.views in omega (arith, x));
}

-- the first cells and those after them
module _ {V : Type 0} {p : ghosts.Ghosts V} {f : faults.Ghosts V} (pages : V → PagesState) (a b c : StoreState) (name : List ℕ) (own : Paged V p f) (view : V) (of : pages_of own ≡ view) (all : List (Paged V p f))
    (viewed : Viewed a name (pages view) b) (onward : StoreOnward a b) (adds : AddsCells b name pages (own ∷ []) all c) where
  abbrev first : ViewsOut a (0 + 1) b
  first = out_more a a b 0 name (pages view) (out_none a) viewed onward

  both : ViewsOut a (0 + 1 + length adds.added) c
  both = out_on a b c (0 + 1) (length adds.added) first adds.cells.out

  many : length all ≡ 0 + 1 + length adds.added
  many = let sizes = ap length adds.items in omega (arith, sizes, length-append (own ∷ []) adds.added)

  pub all_cells : CellsOut a name pages all c
  all_cells =
      let Is : Paged V p f → Type 0 = λ one. IsViewOf a name (pages (pages_of one)) in
      record {
        are = subst (All Is) (sym adds.items)
            (All-cons Is own adds.added (subst (λ (v : V). IsViewOf a name (pages v)) (sym of) (view_of a a b 0 name (pages view) (out_none a) viewed))
            (All-weaker (λ one. IsViewOf b name (pages (pages_of one))) Is (λ one is. view_before a b (0 + 1) name (pages (pages_of one)) first is) adds.added adds.cells.are));
        out = subst (λ (n : ℕ). ViewsOut a n c) (sym many) both;
      }

  pub keeps_all : (d : StoreState) (count : Paged V p f → ℕ) → ViewsBack c (map count all) d → Keeps [] a d
  keeps_all d count back = all_back a c d (0 + 1 + length adds.added) (map count all) both back (length-map all count ∙ many)

-- ---- the first cell of several
pub one_of_set : {V : Type 0} {p : ghosts.Ghosts V} {f : faults.Ghosts V} (params : Params) (plan : PlanNumbers) (own : Paged V p f) (cells : List (Paged V p f)) → cells ≡ own ∷ []
    → own.layout.params ≡ params → own.layout.plan ≡ plan → AreOfSet params plan cells
one_of_set {V} {p} {f} params plan own cells is set of =
    let Is : Paged V p f → Type 0 = λ own. (own.layout.params ≡ params) × (own.layout.plan ≡ plan) in
    subst (All Is) (sym is) (All-cons Is own [] (set, of) (All-nil Is))

pub room_for_first : {had room count : ℕ} → 1 ≤ count → had ≡ 0 → room ≡ count → had < room
room_for_first some none exact = omega (arith, some, none, exact)

pub room_for_others : {had one old room count : ℕ} → 1 ≤ count → had ≡ 0 → one ≡ had + 1 → old ≡ count → room ≡ old → one + (count - 1) ≤ room
room_for_others some none first exact same = omega (arith, some, none, first, exact, same)

pub all_had : {had one all count : ℕ} → 1 ≤ count → had ≡ 0 → one ≡ had + 1 → all ≡ one + (count - 1) → all ≡ count
all_had some none first rest = omega (arith, some, none, first, rest)
