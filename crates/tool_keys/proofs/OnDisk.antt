-- A reference that is made on a disk while other files are written.
use Rattle.std.proofs.Common.{◌≡◌, ◌≢◌, false, ◌^◌, ℕ, List, [], ◌∷◌, Some, IsTrue, All, map, refl, ap, subst, ◌∙◌, arith}
use Rattle.std.proofs.lemmas.List.Elements.{All-head, All-tail, All-nil}
use Rattle.std.specs.Str.{bytes_eq}
use Rattle.disk_trait.specs.Faults.{Rose}
use Rattle.stream_io.specs.Store.{Handed, PagesState, Returned, StoreOnward, StoreState}
use Rattle.stream_io.specs.declared.store.Readers.TheVariants.{Anyone}
use Rattle.tool_base.specs.Disks.{DeviceFails, IsOut}
use Rattle.tool_base.specs.Outputs.{IsLeft, Output}
use Rattle.tool_base.specs.World.{IsBack, from_to}
use Rattle.tool_base.proofs.Beside.{added_alike, keeps_left}
use Rattle.tool_base.proofs.Outs.{Round, round}
use Rattle.tool_base.proofs.Writing.{read_on, stable_still}
use Rattle.std.proofs.Common.{◌⊎◌, ◌*◌, ◌≤◌, Bool, true, inl, inr, length, ◌++◌}
use Rattle.std.proofs.lemmas.List.{length-map}
use Rattle.std.proofs.lemmas.List.FromFn.{length-map-range_with_len}
use Rattle.coalition_map.specs.Coalitions.{IsPlan, PlanNumbers, count_of}
use Rattle.disk_trait.specs.Gate.{AreUnready}
use Rattle.disk_trait.specs.declared.disk.Pages as pages
use Rattle.dealer.specs.Entropy.{dealing_of}
use Rattle.dealer.specs.Faults.{IsDealable}
use Rattle.dealer.specs.Files.{AreKeyFiles, reference_file, share_file}
use Rattle.dealer.specs.Onto as onto
use Rattle.dealer.specs.Onto.{FailsOnto, IsUnready, IsWritten, Stops, part_leaves, shut, told_all, told_first}
use Rattle.dealer.specs.declared.files.KeyFiles.{KeyFiles}
use Rattle.dealer.specs.declared.onto.OntoFault.{OntoFault}
use Rattle.dealer.specs.declared.onto.OntoFault.TheVariants.{Device}
use Rattle.dealer.proofs.Exclusive.{none_dealable}
use Rattle.lms_bytes.specs.declared.params.Params.{Params}
use Rattle.reference_value.specs.Dealing.{Dealing}
use Rattle.stream_io.specs.Store.{pages_state}
use Rattle.tool_base.specs.Ending as ending
use Rattle.tool_base.specs.Ending.{Ending, status_of}
use Rattle.tool_base.specs.Outputs as outputs
use Rattle.tool_base.specs.Outputs.{IsNotWritten}
use Rattle.tool_base.specs.World.{StoreRun}
use Rattle.tool_keys.specs.Large.{FailsOnDisk, IsBegun, IsDisk, IsLeftBeside, IsMadeAs, head_alone, out_of_memory, some_parts}
use Rattle.std.proofs.lemmas.Bool.{false≢true}
use Rattle.std.proofs.lemmas.List.Elements.{All-cons}
use Rattle.tool_base.specs.Outputs.{IsNew, IsNotNew}
use Rattle.tool_base.specs.World.{IsUnchanged}
use Rattle.tool_base.proofs.Writing.{differ_so, none_left}
use Rattle.tool_desk.specs.Files.{reference_name}
use Rattle.tool_keys.specs.Large as large
use Rattle.tool_keys.specs.Large.{EndsOn, IsAsked, IsAskedFor, LargeRest, dealing_in, done_of}
use Rattle.tool_keys.specs.declared.large.Asked.{Asked}
use Rattle.tool_words.specs.Words.{DealWords}
use Rattle.tool_keys.proofs.Names.{key_others}
use Rattle.tool_keys.specs.Undealt.{end_of_onto}

-- A disk of this name was made in a run from a, and is out in b; the files were written up to c, and the disk is back in
-- e, as `now`.
module _ (a b c e : StoreState) (name : List ℕ) (written : List Output) (now : PagesState)
    (out : IsOut a name now b) (left : IsLeft (from_to b c) written) (back : IsBack b c)
    (step : Returned c name now e) (comes : StoreOnward c e)
    (differ : All (λ other. other ≢ name) (map (λ output. output.name) written)) where
  whole : Round a c e name (map (λ output. output.name) written) now
  whole = round a b c e name (map (λ output. output.name) written) now out (keeps_left b c written left back) step comes

  told_b : IsTrue a.told → IsTrue b.told
  told_b told = rw out.onward.told told

  told_c : IsTrue a.told → IsTrue c.told
  told_c told = rw back.onward.told (told_b told)

  pub all_back : IsBack a e
  all_back = whole.keeps.back

  pub left_beside : IsLeftBeside (name ∷ []) (from_to a e) written
  left_beside = record {
    file = λ told other untouched.
        let differs = All-head (λ one. bytes_eq other one ≡ false) name [] untouched in
        whole.others_file told other differs ∙ left.file (told_b told) other ∙ added_alike b.file a.file written other (out.file told other differs);
    stable = λ told. stable_still c e name (step.others (told_c told)) written differ (left.stable (told_b told));
    readers = λ told. read_on c e comes (told_c told) written (left.readers (told_b told));
    others = λ told other image untouched none.
        let differs = All-head (λ one. bytes_eq other one ≡ false) name [] untouched in
        let x = out.others told other image differs in
        let y = left.others (told_b told) other image none in
        let z = whole.others_leave told other image differs in
        (λ w. x.0 (y.0 (z.0 w)), λ w. z.1 (y.1 (x.1 w)));
  }

  pub made_as : (Reads Leaves : List ℕ → Type 0) → (IsTrue b.told → b.readers name ≡ Some Anyone) → IsDisk now Reads Leaves → IsMadeAs (from_to a e) name Reads Leaves
  made_as Reads Leaves readers disk = record {
    file = now.reads;
    is_read = whole.file;
    reads = λ told. disk.reads (out.told told);
    readers = λ told. comes.readers (told_c told) name Anyone (back.onward.readers (told_b told) name Anyone (readers (told_b told)));
    images = λ told honest image leaves.
        disk.images (out.told told) (subst (λ (h : Handed). IsTrue h.honest) (out.kind told) honest) image ((whole.leaves told image).0 leaves);
  }

  pub device_failed : Rose 0 now.count → (IsTrue a.told → IsTrue a.steady → ⊥) → DeviceFails (from_to a e)
  device_failed rose never = record {
    rose =
        let after = whole.disk_count in
        let between = back.onward.disk_count in
        let before = out.loans.disk_count in
        omega (arith, after, between, before, rose);
    unsteady = never;
  }

-- how a dealing onto a disk fails, of the disk and of what was told
module _ {D P : Type 0} (p : pages.Ghosts D) (steady : D → Bool) (count : D → ℕ) (told : P → ℕ → ℕ → P) (params : Params) (plan : PlanNumbers) (entropy : List ℕ)
    (old new : D) (before after : P) (dealable : IsDealable true params plan entropy) where
  abbrev d : Dealing
  d = dealing_of params plan entropy

  abbrev now : PagesState
  now = pages_state p.told p.honest steady count p.room p.reads p.may_leave new

  module _ (told_is : p.told new ≡ p.told old) (honest_is : p.honest new ≡ p.honest old) (unready : AreUnready p 0x54 32 old new) where
    then : IsTrue (p.told new) → IsTrue (p.told old)
    then is = rw told_is at is

    images : IsTrue (p.told new) → IsTrue (p.honest new) → (image : List ℕ) → p.may_leave new image → IsUnready image
    images is honest image leaves = unready.images (then is) (rw honest_is at honest) image leaves

    pub shut_disk : IsWritten p told d old new before after → IsDisk now (λ file. file ≡ shut (reference_file d)) IsUnready
    shut_disk written = record { reads = λ is. written.reads (then is); images = images }

    pub behind_disk : IsWritten p told d old new before after → FailsOnDisk d now ending.NoMemory
    behind_disk written = out_of_memory (record { reads = λ is. inr (written.reads (then is)); images = images })

    begun : Stops p told d old new before after → IsTrue (p.told new) → IsBegun d (p.reads new)
    begun (inl head) is = head_alone (head.reads (then is))
    begun (inr some) is = some_parts some.0 some.1.most (some.1.reads (then is))

    pub fails_disk : (fault : OntoFault) → FailsOnto p told params plan entropy old new before after fault → (IsTrue (p.told old) → p.reads old ≡ [])
        → FailsOnDisk d now (end_of_onto fault)
    fails_disk _ (onto.refused fault has same nothing) empty = absurd (none_dealable true params plan entropy fault dealable has)
    fails_disk _ (onto.no_memory is same nothing) empty =
        out_of_memory (record { reads = λ t. inl (ap p.reads same ∙ empty (then t)); images = images })
    fails_disk _ (onto.no_memory_behind is written) empty = behind_disk written
    fails_disk _ (onto.device is stops) empty = FailsOnDisk.device (record { reads = begun stops; images = images })

  some_told : Stops p told d old new before after → (after ≡ before) ⊎ (after ≡ told_all told params before)
      ⊎ ((status_of (end_of_onto Device) ≡ 10) × ((k : ℕ) × (k * part_leaves params ≤ 2 ^ params.h) × (after ≡ told_first told params k before)))
  some_told (inl head) = inl head.told_of
  some_told (inr some) = inr (inr (refl, (some.0, some.1.most, some.1.told_of)))

  pub parts_told : (fault : OntoFault) → FailsOnto p told params plan entropy old new before after fault → (after ≡ before) ⊎ (after ≡ told_all told params before)
      ⊎ ((status_of (end_of_onto fault) ≡ 10) × ((k : ℕ) × (k * part_leaves params ≤ 2 ^ params.h) × (after ≡ told_first told params k before)))
  parts_told _ (onto.refused fault has same nothing) = inl nothing
  parts_told _ (onto.no_memory is same nothing) = inl nothing
  parts_told _ (onto.no_memory_behind is written) = inr (inl written.told_of)
  parts_told _ (onto.device is stops) = some_told stops

-- an output that is not written is no fault of a disk
pub not_written-device : (store : StoreRun) (written : List Output) (name : List ℕ) (end : Ending) → IsNotWritten store written name end → end ≢ ending.DeviceFailed
not_written-device store written name _ (outputs.write_failed failed) = λ e. cc
not_written-device store written name _ (outputs.was_there there) = λ e. cc
not_written-device store written name _ outputs.no_memory_to_write = λ e. cc

-- the shares of a plan
pub few_key : (d : Dealing) (files : KeyFiles) → IsPlan d.plan → AreKeyFiles d files → length files.shares.items ≤ 12
few_key d files sound are =
    let n = sound.threshold.n_within in
    let sizes = ap length are.shares_are in
    let made = length-map files.shares.items (λ file. file.items) in
    let all = length-map-range_with_len (share_file d) 1 d.plan.n in
    omega (arith, sizes, made, all, n)

-- nothing was written, and no disk was made
pub beside_none : (first last : StoreState) → IsUnchanged first last → IsLeftBeside [] (from_to first last) []
beside_none first last unchanged =
    let left = none_left first last unchanged in
    record {
      file = λ told name untouched. left.file told name;
      stable = left.stable;
      readers = left.readers;
      others = λ told name image untouched none. left.others told name image none;
    }

-- a name that was new, and under which no disk was made
pub not_made_disk : (run : StoreRun) (name : List ℕ) (end : Ending) → IsNew run name → IsNotNew run name end → IsNotWritten run [] name end
not_made_disk run name _ new (outputs.test_failed failed) = outputs.write_failed failed
not_made_disk run name _ new (outputs.is_there there) = outputs.was_there (λ told. let is : IsTrue false = rw (new told) at (there told) in absurd (false≢true is))
not_made_disk run name _ new outputs.no_memory_to_name = outputs.no_memory_to_write

-- names that were new still are once a disk of another one is out
pub all_beside : (a b last : StoreState) (name : List ℕ) (disk : PagesState) → IsOut a name disk b → (names : List (List ℕ)) → All (IsNew (from_to a last)) names
    → All (λ other. other ≢ name) names → All (IsNew (from_to b b)) names
all_beside a b last name disk out [] new others = All-nil (IsNew (from_to b b))
all_beside a b last name disk out (one ∷ names) new others =
    let differs = differ_so one name (All-head (λ other. other ≢ name) one names others) in
    let own : IsNew (from_to a last) one = All-head (IsNew (from_to a last)) one names new in
    All-cons (IsNew (from_to b b)) one names
    (λ told. let before : IsTrue a.told = rw (← out.onward.told) told in rw (out.file before one differs, out.out before one, differs) (own before))
    (all_beside a b last name disk out names (All-tail (IsNew (from_to a last)) one names new) (All-tail (λ other. other ≢ name) one names others))

-- what the words ask for
pub asked_for : (store : StoreRun) (words : DealWords) (asked : Asked) → IsAsked store words asked → IsAskedFor store words (dealing_in asked) (done_of asked)
asked_for store words asked is = record {
  params = asked.params;
  entropy = asked.entropy.items;
  read = is.read;
  set = is.are.set;
  plan = subst IsPlan is.are.plan_is is.are.sound;
  dealable = subst (λ p. IsDealable true asked.params p asked.entropy.items) is.are.plan_is is.dealable;
  d_is = ap (λ p. dealing_of asked.params p asked.entropy.items) is.are.plan_is;
  new = is.new;
  done_is = ap (λ p. ending.Dealt (2 ^ asked.params.h) (count_of p)) is.are.plan_is;
}

-- how a dealing on a disk ends, of the whole run
pub rest_of : (store : StoreRun) (words : DealWords) (d : Dealing) (done end : Ending) (written : List Output) (disk : PagesState) → EndsOn store words.prefix d done disk end written
    → ((Reads Leaves : List ℕ → Type 0) → IsDisk disk Reads Leaves → IsMadeAs store (reference_name words.prefix) Reads Leaves)
    → (end ≡ ending.DeviceFailed → DeviceFails store) → LargeRest store words d done end written
rest_of store words d done _ _ disk (large.fails _ (large.out_of_memory is)) made device = large.no_memory (made _ _ is)
rest_of store words d done _ _ disk (large.fails _ (large.device is)) made device = large.stopped (device refl) (made _ _ is)
rest_of store words d done _ _ disk (large.stops end written stop is) made device = large.not_written end written stop (made _ _ is)
rest_of store words d done _ _ disk (large.stays_shut is) made device = large.not_opened (device refl) (made _ _ is)
rest_of store words d done _ _ disk (large.opens is) made device = large.dealt (made _ _ is)

-- a part of a run before which a disk was made, and the whole
module _ (a b c e : StoreState) (goes : StoreOnward a b) (comes : StoreOnward c e) where
  not_written_wide : (written : List Output) (name : List ℕ) (end : Ending) → IsNotWritten (from_to b c) written name end → IsNotWritten (from_to a e) written name end
  not_written_wide written name _ (outputs.write_failed failed) = outputs.write_failed (record {
    rose = let rose = failed.rose in let begins = goes.count in let ends = comes.count in omega (arith, rose, begins, ends);
    unsteady = λ steady. failed.unsteady (rw goes.steady steady);
  })
  not_written_wide written name _ (outputs.was_there untold) = outputs.was_there (λ told. untold (rw goes.told told))
  not_written_wide written name _ outputs.no_memory_to_write = outputs.no_memory_to_write

  pub ends_wide : (prefix : List ℕ) (d : Dealing) (done end : Ending) (disk : PagesState) (written : List Output) → EndsOn (from_to b c) prefix d done disk end written
      → EndsOn (from_to a e) prefix d done disk end written
  ends_wide prefix d done _ disk _ (large.fails end is) = large.fails end is
  ends_wide prefix d done _ disk _ (large.stops end written stop is) =
      large.stops end written (record {
        output = stop.output;
        rest = stop.rest;
        is = stop.is;
        cause = not_written_wide written stop.output.name end stop.cause;
      }) is
  ends_wide prefix d done _ disk _ (large.stays_shut is) = large.stays_shut is
  ends_wide prefix d done _ disk _ (large.opens is) = large.opens is

-- no name of what was written is the reference's
all_before : (P : List ℕ → Type 0) (xs ys : List Output) → All P (map (λ output. output.name) (xs ++ ys)) → All P (map (λ output. output.name) xs)
all_before P [] ys all = All-nil P
all_before P (x ∷ xs) ys all =
    All-cons P x.name (map (λ output. output.name) xs) (All-head P x.name (map (λ output. output.name) (xs ++ ys)) all)
    (all_before P xs ys (All-tail P x.name (map (λ output. output.name) (xs ++ ys)) all))

pub written_others : (store : StoreRun) (prefix : List ℕ) (d : Dealing) (done end : Ending) (disk : PagesState) (written : List Output) → EndsOn store prefix d done disk end written
    → All (λ other. other ≢ reference_name prefix) (map (λ output. output.name) written)
written_others store prefix d done _ disk _ (large.fails end is) = All-nil (λ other. other ≢ reference_name prefix)
written_others store prefix d done _ disk _ (large.stops end written stop is) =
    all_before (λ other. other ≢ reference_name prefix) written (stop.output ∷ stop.rest)
    (subst (λ (xs : List Output). All (λ other. other ≢ reference_name prefix) (map (λ output. output.name) xs)) stop.is (key_others prefix d))
written_others store prefix d done _ disk _ (large.stays_shut is) = key_others prefix d
written_others store prefix d done _ disk _ (large.opens is) = key_others prefix d
