-- What is said while views are out, as a statement about the whole command.
use Rattle.aggregator_session.specs.Desks.{DeskState}
use Rattle.std.proofs.Common.{◌≡◌, ◌+◌, ◌-◌, ◌^◌, ◌≤◌, ◌++◌, min, ℕ, List, [], ◌∷◌, All, length, drop, map, Some, IsTrue, refl, sym, ap, ◌∙◌, subst, arith}
use Rattle.std.proofs.Math.Seq.{drop-append_seam}
use Rattle.std.proofs.lemmas.List.Elements.{All-cons, All-head, All-nil, All-tail, All-weaker}
use Rattle.std.proofs.lemmas.List.Sums.{sum_by-cons}
use Rattle.aggregator_node.specs.Ports.{Place}
use Rattle.coalition_map.specs.Coalitions.{PlanNumbers}
use Rattle.disk_trait.specs.declared.disk.Pages as pages
use Rattle.disk_trait.specs.declared.faults.Faults as faults
use Rattle.leaf_table.specs.State.{TableState}
use Rattle.reference_value.specs.Paged.{pages_of}
use Rattle.reference_value.specs.declared.paged.Paged.{Paged}
use Rattle.share_files.specs.Reference.{HasReferenceLayout, reference_head}
use Rattle.share_files.specs.declared.reference.RefHeader.{RefHeader}
use Rattle.slot_file.specs.declared.header.Header.{Header}
use Rattle.stream_io.specs.Store.{PagesState, StoreState, pages_state}
use Rattle.tool_base.proofs.Runs.{onward_on}
use Rattle.tool_base.specs.Ending.{Ending}
use Rattle.tool_base.specs.Touched.{Keeps}
use Rattle.tool_base.specs.World.{Failed, IsRead, from_to}
use Rattle.tool_aggregate.specs.Aggregate.{TableEnds, no_memory, no_ports, no_table, not_loaded, served}
use Rattle.tool_aggregate.specs.Desks.{ReadsReference}
use Rattle.tool_aggregate.specs.Serving.{CellsRun, ServedTable, ServesTable, ServesWith, faults_of}
use Rattle.tool_desk.specs.Files.{reference_name}
use Rattle.tool_desk.specs.Reference.{IsReferenceOf, IsReferenceViewed}
use Rattle.tool_base.specs.Disks.{DeviceFails, Stays}
use Rattle.tool_base.specs.Loads.{FailsToLoad, ReadsAs, IsDamagedFile, IsOtherFile, damaged, device, other_file}
use Rattle.tool_base.specs.Loads as loads
use Rattle.tool_sign.specs.Ports.{NetRun}
use Rattle.tool_sign.specs.Tables.{IsTable, LeavesTable, table_header}
use Rattle.tool_desk.specs.Views.{IsViewOf, ViewsBack, ViewsOut, sum_of}
use Rattle.tool_words.specs.Words.{AggregateWords}

-- from the state before the views to the state after them
module _ (a b c d : StoreState) (count : ℕ) (counts : List ℕ) (goes : ViewsOut a count b) (same : b.disk_count ≡ a.disk_count) (comes : ViewsBack c counts d) where
  told_b : IsTrue a.told → IsTrue b.told
  told_b told = rw goes.onward.told told

  steady_b : IsTrue a.steady → IsTrue b.steady
  steady_b steady = rw goes.onward.steady steady

  honest_b : (name : List ℕ) → IsTrue (a.disks name).honest → IsTrue (b.disks name).honest
  honest_b name honest = rw (goes.onward.disks name) honest

  failed_in : (name : List ℕ) → IsRead (from_to b c) name Failed → IsRead (from_to a d) name Failed
  failed_in name r = (
    let rose = r.0 in let begins = goes.onward.count in let ends = comes.onward.count in omega arith,
    λ told steady. sym (goes.file told name) ∙ r.1 (told_b told) (steady_b steady),
  )

  reads_as_in : (name : List ℕ) (Is : List ℕ → Type 0) → ReadsAs (from_to b c) name Is → ReadsAs (from_to a d) name Is
  reads_as_in name Is reads = record {
    file = reads.file;
    is_read = λ told. sym (goes.file told name) ∙ reads.is_read (told_b told);
    is = λ told. reads.is (told_b told);
  }

  stays_in : (name : List ℕ) → Stays (from_to b c) name → Stays (from_to a d) name
  stays_in name stays = record {
    file = λ told. ap (λ f. f name) comes.names.file ∙ stays.file (told_b told) ∙ goes.file told name;
    leaves = λ told honest image left.
        (goes.leaves told name image).0 (stays.leaves (told_b told) (honest_b name honest) image ((comes.names.leaves name image).0 left));
  }

  device_in : DeviceFails (from_to b c) → DeviceFails (from_to a d)
  device_in fails = record {
    rose = let rose = fails.rose in let later = comes.onward.disk_count in omega (arith, rose, same, later);
    unsteady = λ told steady. fails.unsteady (told_b told) (steady_b steady);
  }

  not_loaded_in : (header : Header) (slots : ℕ) (name : List ℕ) (end : Ending) → FailsToLoad header slots (from_to b c) name end → FailsToLoad header slots (from_to a d) name end
  not_loaded_in header slots name _ (other_file fault reads) = other_file fault (reads_as_in name (IsOtherFile header slots fault) reads)
  not_loaded_in header slots name _ (damaged reads) = damaged (reads_as_in name (IsDamagedFile header slots) reads)
  not_loaded_in header slots name _ (device fails) = device (device_in fails)
  not_loaded_in header slots name _ loads.no_memory = loads.no_memory

  left_in : (header : Header) (plan : PlanNumbers) (name : List ℕ) (state : TableState) → LeavesTable (from_to b c) name header plan state → LeavesTable (from_to a d) name header plan state
  left_in header plan name state left = record {
    file = left.file;
    is_read = λ told. ap (λ f. f name) comes.names.file ∙ left.is_read (told_b told);
    stands = λ told. left.stands (told_b told);
    images = λ told honest image may. left.images (told_b told) (honest_b name honest) image ((comes.names.leaves name image).0 may);
    many = left.many;
    one_lease = left.one_lease;
  }

  pub keeps_in : (touched : List (List ℕ)) → length counts ≡ count → Keeps touched b c → Keeps touched a d
  keeps_in touched many keeps = record {
    back = record {
      onward = onward_on a b d goes.onward (onward_on b c d keeps.back.onward comes.onward);
      out = λ told name. ap (λ f. f name) comes.names.out ∙ keeps.back.out (told_b told) name ∙ goes.out told name;
      views = λ told. (
          let first = goes.views told in
          let between = keeps.back.views (told_b told) in
          let last = comes.views (rw keeps.back.onward.told (told_b told)) in
          omega (arith, first, between, last, many)
          );
    };
    file = λ told name other. ap (λ f. f name) comes.names.file ∙ keeps.file (told_b told) name other ∙ goes.file told name;
    leaves = λ told name image other. (
        let x = goes.leaves told name image in
        let y = keeps.leaves (told_b told) name image other in
        let z = comes.names.leaves name image in
        (λ w. x.0 (y.0 (z.0 w)), λ w. z.1 (y.1 (x.1 w)))
        );
  }

  module _ (words : AggregateWords) (net : NetRun) (desk : DeskState) where
    abbrev serves_in : (olds news : List Place) (end : Ending) → ServesTable words (from_to b c) net desk olds news end → ServesTable words (from_to a d) net desk olds news end
    serves_in olds news end s = record {
      old = s.old;
      new = s.new;
      fresh = record {
        told = λ told. s.fresh.told (told_b told);
        steady = λ steady. s.fresh.steady (steady_b steady);
        kind = λ told. sym (goes.onward.disks words.table) ∙ s.fresh.kind (told_b told);
        header_is = s.fresh.header_is;
        plan_is = s.fresh.plan_is;
        faults = s.fresh.faults;
        doubt = s.fresh.doubt;
      };
      table_is = reads_as_in words.table (IsTable (table_header desk.key) desk.plan s.old.state.entries) s.table_is;
      name_is = s.name_is;
      over = s.over;
      left = left_in (table_header desk.key) desk.plan words.table s.new.state s.left;
      sure = s.sure;
      rise = let rise = s.rise in let later = comes.onward.disk_count in omega (arith, rise, same, later);
    }

    sum-places : (places : List Place) → faults_of places ≡ sum_of (map (λ (place : Place). place.faults) places)
    sum-places [] = refl
    sum-places (place ∷ places) =
        sum_by-cons (λ (one : Place). one.faults) place places ∙ ap (λ n. place.faults + n) (sum-places places)
        ∙ sym (sum_by-cons (λ (n : ℕ). n) place.faults (map (λ (one : Place). one.faults) places))

    module _ (header : RefHeader) (own : CellsRun) where
      -- places that have these cells read the reference of the words
      abbrev pub AllRead : Type 0
      AllRead = (places : List Place) → map (λ (place : Place). place.reference) places ≡ own.references
          → map (λ (place : Place). place.faults) places ≡ own.before → All (ReadsReference words (from_to a d) header) places

      served_in : (end : Ending) → ServesWith words (from_to b c) net desk own end → AllRead → sum_of counts ≡ sum_of own.after → ServedTable words (from_to a d) net header desk end
      served_in end s reads counted = record {
        places_old = s.places_old;
        places_new = s.places_new;
        serves = serves_in s.places_old s.places_new end s.serves;
        reads = reads s.places_old s.have.references s.have.before;
        faults =
            let rise : min (b.disk_count + s.serves.new.faults) (2 ^ 64 - 1) ≤ c.disk_count = s.serves.rise in
            let back : min (c.disk_count + sum_of counts) (2 ^ 64 - 1) ≤ d.disk_count = comes.rise in
            let sums : faults_of s.places_new ≡ sum_of counts = sum-places s.places_new ∙ ap sum_of s.have.after ∙ sym counted in
            let all : min (a.disk_count + s.serves.new.faults + faults_of s.places_new) (2 ^ 64 - 1) ≤ d.disk_count = omega (arith, rise, back, sums, same) in
            all;
      }

    pub ends_in : (header : RefHeader) {own : CellsRun} {end : Ending} {touched : List (List ℕ)}
        → TableEnds words (from_to b c) net desk (ServesWith words (from_to b c) net desk own) end touched
        → AllRead header own → sum_of counts ≡ sum_of own.after
        → TableEnds words (from_to a d) net desk (ServedTable words (from_to a d) net header desk) end touched
    ends_in header (no_memory touched heard stays) reads counted = no_memory touched heard (All-weaker (Stays (from_to b c)) (Stays (from_to a d)) stays_in touched stays)
    ends_in header (no_table read heard) reads counted = no_table (failed_in words.table read) heard
    ends_in header (not_loaded end fails heard stays) reads counted = not_loaded end (not_loaded_in (table_header desk.key) (2 ^ desk.plan.h) words.table end fails) heard (stays_in words.table stays)
    ends_in header (no_ports entries have heard rose never stays) reads counted =
        no_ports entries (reads_as_in words.table (IsTable (table_header desk.key) desk.plan entries) have) heard rose never (stays_in words.table stays)
    ends_in header {own} (served end serves) reads counted = served end (served_in header own end serves reads counted)

-- the reference that is read through views
module _ (header : RefHeader) where
  leaves-are : (file leaves : List ℕ) → HasReferenceLayout header file leaves → drop 32 file ≡ leaves
  leaves-are file leaves layout =
      let size : length (reference_head header) ≡ 32 = omega (arith, header.id_length) in
      ap (λ (bytes : List ℕ). drop 32 bytes) layout.parts ∙ subst (λ (n : ℕ). drop n (reference_head header ++ leaves) ≡ leaves) size (drop-append_seam (reference_head header) leaves)

  layout-of : (file : List ℕ) → IsReferenceOf header file → HasReferenceLayout header file (drop 32 file)
  layout-of file is = subst (HasReferenceLayout header file) (sym (leaves-are file is.leaves is.layout)) is.layout

module _ {V : Type 0} (p : pages.Ghosts V) (f : faults.Ghosts V) (words : AggregateWords) (a d : StoreState) (header : RefHeader)
    (viewed : IsReferenceViewed (from_to a d) (reference_name words.prefix) header) where
  abbrev state_of : V → PagesState
  state_of = pages_state p.told p.honest f.steady f.count p.room p.reads p.may_leave

  one-some : {A : Type 0} (x y : A) → Some x ≡ Some y → x ≡ y
  one-some x y is = cc

  one_reads : (place : Place) (view : V) → IsViewOf a (reference_name words.prefix) (state_of view) → place.reference ≡ record { told = p.told view; steady = f.steady view; leaves = drop 32 (p.reads view) }
      → place.faults ≡ f.count view → ReadsReference words (from_to a d) header place
  one_reads place view is reference faults = record {
    told = λ told. rw reference (is.given.told told);
    steady = λ steady. rw reference (is.given.steady steady);
    leaves = record {
      file = p.reads view;
      is_read = is.reads;
      is = λ told.
          let file : viewed.reads.file ≡ p.reads view = one-some viewed.reads.file (p.reads view) (sym (viewed.reads.is_read told) ∙ is.reads told) in
          rw reference (layout-of header (p.reads view) (subst (IsReferenceOf header) file (viewed.reads.is told)));
    };
    fresh = faults ∙ is.given.fresh;
  }

  pub all_read : (places : List Place) (own : List (Paged V p f)) → All (λ one. IsViewOf a (reference_name words.prefix) (state_of (pages_of one))) own
      → map (λ (place : Place). place.reference) places ≡ map (λ (one : Paged V p f). record { told = p.told one.pages; steady = f.steady one.pages; leaves = drop 32 (p.reads one.pages) }) own
      → map (λ (place : Place). place.faults) places ≡ map (λ (one : Paged V p f). f.count one.pages) own → All (ReadsReference words (from_to a d) header) places
  all_read [] own are references faults = All-nil (ReadsReference words (from_to a d) header)
  all_read (place ∷ places) [] are references faults = absurd (cc)
  all_read (place ∷ places) (one ∷ own) are references faults =
      let Is : Paged V p f → Type 0 = λ it. IsViewOf a (reference_name words.prefix) (state_of (pages_of it)) in
      All-cons (ReadsReference words (from_to a d) header) place places
      (one_reads place one.pages (All-head Is one own are) (cc) (cc))
      (all_read places own (All-tail Is one own are) (cc) (cc))
