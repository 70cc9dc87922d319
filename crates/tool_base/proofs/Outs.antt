-- Disks that go out of a store and come back.
use Rattle.std.proofs.Common.{◌≡◌, ◌↔◌, ◌⊎◌, ◌+◌, ◌-◌, ◌^◌, min, ℕ, List, [], ◌∷◌, Bool, true, false, Some, IsTrue, refl, sym, ap, ◌∙◌, inl, inr, rules}
use Rattle.std.proofs.lemmas.Bool.{false≢true}
use Rattle.std.proofs.lemmas.List.Elements.{All-head, All-tail}
use Rattle.std.proofs.lemmas.Slice.Eq.{bytes_eq-Decides}
use Rattle.std.specs.Str.{bytes_eq}
use Rattle.stream_io.specs.Store.{Made, PagesState, Returned, StoreOnward, StoreState, Taken, added, handed, has_name}
use Rattle.stream_io.specs.declared.store.Readers.{Readers}
use Rattle.tool_base.specs.Ending.{Ending}
use Rattle.tool_base.specs.Touched.{EndsTouching, Keeps}
use Rattle.tool_base.specs.World.{IsUnchanged, StoreRun, from_to}
use Rattle.tool_base.proofs.Runs.{back_unchanged, onward_on, unchanged_none}
use Rattle.tool_base.specs.Disks.{IsOut}

-- A disk was out and is back, as it was at the end: the store keeps all but its name, which stands for this disk.
pub record IsBackAs (old : StoreState) (name : List ℕ) (disk : PagesState) (new : StoreState) : Type 0 where
  pub keeps : Keeps (name ∷ []) old new
  pub kind : IsTrue old.told → old.disks name ≡ handed disk
  pub file : IsTrue old.told → new.file name ≡ Some disk.reads
  pub leaves : IsTrue old.told → (image : List ℕ) → new.leaves name image ↔ disk.may_leave image
  pub disk_count : new.disk_count ≡ min (old.disk_count + disk.count) (2 ^ 64 - 1)

pub keeps_unchanged : (touched : List (List ℕ)) (a b : StoreState) → IsUnchanged a b → Keeps touched a b
keeps_unchanged touched a b unchanged = record {
  back = back_unchanged a b unchanged;
  file = λ told name other. rw unchanged.same.names.file refl;
  leaves = λ told name image other. unchanged.same.names.leaves name image;
}

pub ends_unchanged : (a b : StoreState) → IsUnchanged a b → (ends : Ending → List (List ℕ) → Type 0) (end : Ending) → ends end [] → EndsTouching ends (from_to a b) end
ends_unchanged a b unchanged ends end is = record { touched = []; cause = is; keeps = keeps_unchanged [] a b unchanged }

pub ends_map : (run : StoreRun) (one two : Ending → List (List ℕ) → Type 0) (end : Ending) → EndsTouching one run end
    → ((touched : List (List ℕ)) → one end touched → two end touched) → EndsTouching two run end
ends_map run one two end ends f = record { touched = ends.touched; cause = f ends.touched ends.cause; keeps = ends.keeps }

-- a disk that is out since the first state of a run
pub out_unchanged : (first a b : StoreState) (name : List ℕ) (disk : PagesState) → IsUnchanged first a → IsOut a name disk b → IsOut first name disk b
out_unchanged first a b name disk unchanged out = record {
  onward = onward_on first a b unchanged.onward out.onward;
  told = λ told. out.told (rw unchanged.onward.told told);
  steady = λ steady. out.steady (rw unchanged.onward.steady steady);
  kind = λ told. sym (unchanged.onward.disks name) ∙ out.kind (rw unchanged.onward.told told);
  was_in = λ told. rw (← unchanged.same.names.out) (out.was_in (rw unchanged.onward.told told));
  file = λ told other differs. out.file (rw unchanged.onward.told told) other differs ∙ rw unchanged.same.names.file refl;
  out = λ told other. rw (← unchanged.same.names.out) (out.out (rw unchanged.onward.told told) other);
  others = λ told other image differs. let x = unchanged.same.names.leaves other image in let y = out.others (rw unchanged.onward.told told) other image differs in (λ z. x.0 (y.0 z), λ z. y.1 (x.1 z));
  loans = record {
    disk_count = out.loans.disk_count ∙ unchanged.same.loans.disk_count;
    views = out.loans.views ∙ unchanged.same.loans.views;
  };
}

-- a disk that is out stays out while it is worked on
pub out_same : (a b : StoreState) (name : List ℕ) (before now : PagesState) → IsOut a name before b
    → now.told ≡ before.told → now.honest ≡ before.honest → now.steady ≡ before.steady → IsOut a name now b
out_same a b name before now out told honest steady =
    let kind : handed now ≡ handed before = cc in
    record {
      onward = out.onward;
      told = λ is. rw told (out.told is);
      steady = λ is. rw steady (out.steady is);
      kind = λ is. out.kind is ∙ sym kind;
      was_in = out.was_in;
      file = out.file;
      out = λ is other. out.out is other ∙ ap (λ h. added a.out name h other) (sym kind);
      others = out.others;
      loans = out.loans;
    }

-- a disk that was taken is out
pub taken_out : (a b : StoreState) (name : List ℕ) (disk : PagesState) → Taken a name disk b → StoreOnward a b → IsOut a name disk b
taken_out a b name disk taken onward = record {
  onward = onward;
  told = taken.given.told;
  steady = taken.given.steady;
  kind = taken.kind;
  was_in = taken.was_in;
  file = λ told other differs. rw (taken.file told other, differs) refl;
  out = taken.out;
  others = taken.others;
  loans = taken.loans;
}

-- a disk that was made is out
pub made_out : (a b : StoreState) (name : List ℕ) (size : ℕ) {who : Readers} (disk : PagesState) → Made a name size who disk b → StoreOnward a b → IsOut a name disk b
made_out a b name size disk made onward = record {
  onward = onward;
  told = made.given.told;
  steady = made.given.steady;
  kind = made.kind;
  was_in = search rules;
  file = λ told other differs. made.file told other;
  out = made.out;
  others = made.others;
  loans = made.loans;
}

-- a disk that was out while other names were touched, and is back
pub record Round (a c e : StoreState) (name : List ℕ) (touched : List (List ℕ)) (disk : PagesState) : Type 0 where
  pub keeps : Keeps (name ∷ touched) a e
  pub file : IsTrue a.told → e.file name ≡ Some disk.reads
  pub leaves : IsTrue a.told → (image : List ℕ) → e.leaves name image ↔ disk.may_leave image
  pub disk_count : e.disk_count ≡ min (c.disk_count + disk.count) (2 ^ 64 - 1)
  pub others_file : IsTrue a.told → (other : List ℕ) → bytes_eq other name ≡ false → e.file other ≡ c.file other
  pub others_leave : IsTrue a.told → (other image : List ℕ) → bytes_eq other name ≡ false → e.leaves other image ↔ c.leaves other image

true_or_false : (b : Bool) → (b ≡ true) ⊎ (b ≡ false)
true_or_false true = inl refl
true_or_false false = inr refl

other_cases : (other name : List ℕ) → (other ≡ name) ⊎ (bytes_eq other name ≡ false)
other_cases other name = elim (true_or_false (bytes_eq other name)) [ inl same ↦ inl ((bytes_eq-Decides other name).0 same) | inr differs ↦ inr differs ]

same_true : (name : List ℕ) → bytes_eq name name ≡ true
same_true name = (bytes_eq-Decides name name).1 refl

module _ (a b c e : StoreState) (name : List ℕ) (touched : List (List ℕ)) (disk : PagesState)
    (out : IsOut a name disk b) (keeps : Keeps touched b c) (step : Returned c name disk e) (onward : StoreOnward c e) where
  told_b : IsTrue a.told → IsTrue b.told
  told_b told = rw out.onward.told told

  told_c : IsTrue a.told → IsTrue c.told
  told_c told = rw keeps.back.onward.told (told_b told)

  round_file : IsTrue a.told → (other : List ℕ) → bytes_eq other name ≡ false → e.file other ≡ c.file other
  round_file told other differs = rw (step.file (told_c told) other, differs) refl

  round_out : IsTrue a.told → (other : List ℕ) → e.out other ≡ a.out other
  round_out told other = elim (other_cases other name) [
    | inl same ↦ rw (same, step.out (told_c told) name, same_true name, out.was_in told) refl
    | inr differs ↦ rw (step.out (told_c told) other, differs) (keeps.back.out (told_b told) other ∙ rw (out.out told other, differs) refl)
  ]

  pub round : Round a c e name touched disk
  round = record {
    keeps = record {
      back = record {
        onward = onward_on a c e (onward_on a b c out.onward keeps.back.onward) onward;
        out = round_out;
        views = λ told. step.views ∙ keeps.back.views (told_b told) ∙ out.loans.views;
      };
      file = λ told other untouched.
          round_file told other (All-head (λ one. bytes_eq other one ≡ false) name touched untouched) ∙ keeps.file (told_b told) other (All-tail (λ one. bytes_eq other one ≡ false) name touched untouched)
          ∙ out.file told other (All-head (λ one. bytes_eq other one ≡ false) name touched untouched);
      leaves = λ told other image untouched.
          let differs = All-head (λ one. bytes_eq other one ≡ false) name touched untouched in
          let x = out.others told other image differs in
          let y = keeps.leaves (told_b told) other image (All-tail (λ one. bytes_eq other one ≡ false) name touched untouched) in
          let z = step.others (told_c told) other image differs in
          (λ w. x.0 (y.0 (z.0 w)), λ w. z.1 (y.1 (x.1 w)));
    };
    file = λ told. rw (step.file (told_c told) name, same_true name) refl;
    leaves = λ told. step.images (told_c told);
    disk_count = step.disk_count;
    others_file = round_file;
    others_leave = λ told other image differs. step.others (told_c told) other image differs;
  }

-- a disk that was out is back, and nothing else was touched
pub back_as : (a b c : StoreState) (name : List ℕ) (disk : PagesState) → IsOut a name disk b → Returned b name disk c → StoreOnward b c → IsBackAs a name disk c
back_as a b c name disk out step onward =
    let whole = round a b b c name [] disk out (keeps_unchanged [] b b (unchanged_none b)) step onward in
    record {
      keeps = whole.keeps;
      kind = out.kind;
      file = whole.file;
      leaves = whole.leaves;
      disk_count = whole.disk_count ∙ ap (λ (n : ℕ). min (n + disk.count) (2 ^ 64 - 1)) out.loans.disk_count;
    }

-- a name that is new is not that of a disk in the store, and stays new while the disk is out
module _ (a b : StoreState) (name new : List ℕ) (disk : PagesState) (out : IsOut a name disk b)
    (there : IsTrue a.told → a.file name ≡ Some disk.reads) (is_new : IsTrue a.told → has_name a new ≡ false) where
  pub new_differs : IsTrue a.told → bytes_eq new name ≡ false
  new_differs told = elim (other_cases new name)
      [ inl same ↦ absurd (false≢true (sym (is_new told) ∙ rw (same, there told) refl)) | inr differs ↦ differs ]

  pub new_beside : IsTrue b.told → has_name b new ≡ false
  new_beside told =
      let before : IsTrue a.told = rw (← out.onward.told) told in
      let differs = new_differs before in
      rw (out.file before new differs, out.out before new, differs) (is_new before)

-- what the store keeps of a disk that is out
pub out_here : (a b : StoreState) (name : List ℕ) (disk : PagesState) → IsOut a name disk b → IsTrue b.told → b.out name ≡ Some (handed disk)
out_here a b name disk out told = rw (out.out (rw (← out.onward.told) told) name, same_true name) refl
