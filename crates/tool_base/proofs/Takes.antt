-- Disks that are taken, loaded and given back.
use Rattle.std.proofs.Common.{◌≡◌, ◌≢◌, ◌⊎◌, ◌+◌, ◌-◌, ◌^◌, ◌≤◌, min, ℕ, Bool, true, false, List, Some, None, if◌then◌else◌, IsTrue, inl, inr, refl, sym, ap, ◌∙◌, subst, arith}
use Rattle.std.specs.Str.{bytes_eq}
use Rattle.disk_trait.specs.Faults.{Rose}
use Rattle.slot_file.specs.declared.faults.CacheLoad.{CacheLoad}
use Rattle.slot_file.specs.declared.faults.CacheLoad.TheVariants as cache
use Rattle.slot_file.specs.Loading as caches
use Rattle.slot_file.specs.Copies.{IsFirstDamaged}
use Rattle.disk_trait.specs.Faults.{RisesAt}
use Rattle.slot_file.specs.Layout.{load_fault}
use Rattle.slot_file.specs.declared.header.Header.{Header}
use Rattle.slot_file.specs.declared.header.LoadFault.{LoadFault}
use Rattle.stream_io.specs.Store.{Handed, PagesState, Returned, StoreOnward, StoreState, Taken, added, handed, without}
use Rattle.tool_base.specs.Ending.{Ending}
use Rattle.tool_base.specs.Touched.{Keeps}
use Rattle.tool_base.specs.World.{IsUnchanged, from_to}
use Rattle.tool_base.specs.Disks.{DeviceFails, Stays}
use Rattle.tool_base.specs.Loads.{FailsToLoad, IsDamagedFile, IsOtherFile, ReadsAs, damaged, device, end_of_slots, no_memory, other_file}
use Rattle.tool_base.proofs.Outs.{IsBackAs, Round, back_as, out_same, round, taken_out}

-- why slots are not loaded, by their fault
slots_other : (header : Header) (count : ℕ) (file : List ℕ) (fault : LoadFault) → caches.LoadRefused header count file (cache.Slots fault) → load_fault header count file ≡ Some fault
slots_other header count file fault (caches.other_file f is) = is

slots_damaged : (header : Header) (count : ℕ) (file : List ℕ) (slot a b : ℕ) → caches.LoadRefused header count file (cache.Damaged slot a b) → IsFirstDamaged header.version count file slot a b
slots_damaged header count file slot a b (caches.damaged s x y opens first) = first

module _ (a b c : StoreState) (name : List ℕ) (disk now : PagesState) (taken : Taken a name disk b) (goes : StoreOnward a b)
    (step : Returned b name now c) (comes : StoreOnward b c) (told_is : now.told ≡ disk.told) (honest_is : now.honest ≡ disk.honest) (steady_is : now.steady ≡ disk.steady) where
  pub back : IsBackAs a name now c
  back = back_as a b c name now (out_same a b name disk now (taken_out a b name disk taken goes) told_is honest_is steady_is) step comes

  honest_disk : IsTrue a.told → IsTrue (a.disks name).honest → IsTrue disk.honest
  honest_disk told = subst (λ (h : Handed). IsTrue h.honest) (taken.kind told)

  pub stays : (IsTrue disk.told → now.reads ≡ disk.reads) → (IsTrue disk.honest → (image : List ℕ) → now.may_leave image → disk.may_leave image)
      → Stays (from_to a c) name
  stays reads images = record {
    file = λ told. back.file told ∙ ap Some (reads (taken.given.told told)) ∙ sym (taken.reads told);
    leaves = λ told honest image left. (taken.images told image).0 (images (honest_disk told honest) image ((back.leaves told image).0 left));
  }

  pub device_fails : Rose disk.count now.count → (IsTrue disk.steady → IsTrue disk.told → ⊥) → DeviceFails (from_to a c)
  device_fails rose never = record {
    rose = let whole = back.disk_count in let fresh = taken.given.fresh in omega (arith, whole, fresh, rose);
    unsteady = λ told steady. never (taken.given.steady steady) (taken.given.told told);
  }

  pub reads_as : (Is : List ℕ → Type 0) → (IsTrue disk.told → Is disk.reads) → ReadsAs (from_to a c) name Is
  reads_as Is is = record { file = disk.reads; is_read = taken.reads; is = λ told. is (taken.given.told told) }

  module _ (header : Header) (count : ℕ) where
    pub slots_not_loaded : (fault : CacheLoad) → (IsTrue disk.told → caches.LoadRefused header count disk.reads fault)
        → (IsTrue disk.steady → IsTrue disk.told → fault ≢ cache.Device) → RisesAt disk.count now.count fault cache.Device
        → FailsToLoad header count (from_to a c) name (end_of_slots fault)
    slots_not_loaded (cache.Slots fault) refused succeeds cause =
        other_file fault (reads_as (IsOtherFile header count fault) (λ told. record { fault_is = slots_other header count disk.reads fault (refused told) }))
    slots_not_loaded cache.NoMemory refused succeeds cause = no_memory
    slots_not_loaded (cache.Damaged slot x y) refused succeeds cause =
        damaged (reads_as (IsDamagedFile header count) (λ told. record { slot = slot; a = x; b = y; first = slots_damaged header count disk.reads slot x y (refused told) }))
    slots_not_loaded cache.Device refused succeeds cause = device (device_fails (cause.failed refl) (λ steady told. succeeds steady told refl))

-- a disk that was taken when nothing but counts had changed
pub taken_unchanged : (first a b : StoreState) (name : List ℕ) (disk : PagesState) → IsUnchanged first a → Taken a name disk b → Taken first name disk b
taken_unchanged first a b name disk unchanged taken =
    let t : IsTrue first.told → IsTrue a.told = λ told. rw unchanged.onward.told told in
    record {
      was_in = λ told. rw (← unchanged.same.names.out) (taken.was_in (t told));
      given = record {
        fresh = taken.given.fresh;
        told = λ told. taken.given.told (t told);
        steady = λ steady. taken.given.steady (rw unchanged.onward.steady steady);
      };
      kind = λ told. sym (unchanged.onward.disks name) ∙ taken.kind (t told);
      reads = λ told. rw (← unchanged.same.names.file) (taken.reads (t told));
      room = λ told. taken.room (t told);
      images = λ told image.
          let x = taken.images (t told) image in
          let y = unchanged.same.names.leaves name image in
          (λ z. y.0 (x.0 z), λ z. x.1 (y.1 z));
      file = λ told other. taken.file (t told) other ∙ ap (λ f. without f name other) unchanged.same.names.file;
      out = λ told other. taken.out (t told) other ∙ ap (λ o. added o name (handed disk) other) unchanged.same.names.out;
      others = λ told other image differs.
          let x = taken.others (t told) other image differs in
          let y = unchanged.same.names.leaves other image in
          (λ z. y.0 (x.0 z), λ z. x.1 (y.1 z));
      loans = record {
        disk_count = taken.loans.disk_count ∙ unchanged.same.loans.disk_count;
        views = taken.loans.views ∙ unchanged.same.loans.views;
      };
    }

-- what is said of other names while a disk of this name is out, of the whole run
module _ (a b c e : StoreState) (name : List ℕ) (touched : List (List ℕ)) (disk now : PagesState) (taken : Taken a name disk b) (goes : StoreOnward a b)
    (keeps : Keeps touched b c) (step : Returned c name now e) (comes : StoreOnward c e)
    (told_is : now.told ≡ disk.told) (honest_is : now.honest ≡ disk.honest) (steady_is : now.steady ≡ disk.steady) where
  pub whole : Round a c e name touched now
  whole = round a b c e name touched now (out_same a b name disk now (taken_out a b name disk taken goes) told_is honest_is steady_is) keeps step comes

  told_after : IsTrue a.told → IsTrue b.told
  told_after told = rw goes.told told

  -- a name that is read while the disk is out is another
  cases : (other : List ℕ) (test : Bool) → bytes_eq other name ≡ test → (file : List ℕ) → (if test then None else a.file other) ≡ Some file
      → (bytes_eq other name ≡ false) × (a.file other ≡ Some file)
  cases other true test file is = absurd (cc)
  cases other false test file is = (test, is)

  pub other_read : IsTrue a.told → (other file : List ℕ) → b.file other ≡ Some file → (bytes_eq other name ≡ false) × (a.file other ≡ Some file)
  other_read told other file is = cases other (bytes_eq other name) refl file (sym (taken.file told other) ∙ is)

  gone : (other : List ℕ) (test : Bool) → bytes_eq other name ≡ test → (if test then None else a.file other) ≡ None
      → (bytes_eq other name ≡ true) ⊎ (a.file other ≡ None)
  gone other true test is = inl test
  gone other false test is = inr is

  pub other_gone : IsTrue a.told → (other : List ℕ) → b.file other ≡ None → (bytes_eq other name ≡ true) ⊎ (a.file other ≡ None)
  other_gone told other is = gone other (bytes_eq other name) refl (sym (taken.file told other) ∙ is)

  pub other_reads_as : (other : List ℕ) (Is : List ℕ → Type 0) → ReadsAs (from_to b c) other Is → ReadsAs (from_to a e) other Is
  other_reads_as other Is reads = record {
    file = reads.file;
    is_read = λ told. (other_read told other reads.file (reads.is_read (told_after told))).1;
    is = λ told. reads.is (told_after told);
  }

  pub other_stays : (other file : List ℕ) → (IsTrue b.told → b.file other ≡ Some file) → Stays (from_to b c) other → Stays (from_to a e) other
  other_stays other file was kept = record {
    file = λ told.
        let differs = (other_read told other file (was (told_after told))).0 in
        whole.others_file told other differs ∙ kept.file (told_after told) ∙ was (told_after told) ∙ sym (other_read told other file (was (told_after told))).1;
    leaves = λ told honest image left.
        let differs = (other_read told other file (was (told_after told))).0 in
        let there = (whole.others_leave told other image differs).0 left in
        (taken.others told other image differs).0 (kept.leaves (told_after told) (subst (λ (h : Handed). IsTrue h.honest) (sym (goes.disks other)) honest) image there);
  }

  pub other_device : DeviceFails (from_to b c) → DeviceFails (from_to a e)
  other_device fails = record {
    rose = let rose = fails.rose in let same = taken.loans.disk_count in let later = comes.disk_count in omega (arith, rose, same, later);
    unsteady = λ told steady. fails.unsteady (told_after told) (rw goes.steady steady);
  }

  pub other_not_loaded : (header : Header) (count : ℕ) (other : List ℕ) (end : Ending) → FailsToLoad header count (from_to b c) other end → FailsToLoad header count (from_to a e) other end
  other_not_loaded header count other _ (other_file fault reads) = other_file fault (other_reads_as other (IsOtherFile header count fault) reads)
  other_not_loaded header count other _ (damaged reads) = damaged (other_reads_as other (IsDamagedFile header count) reads)
  other_not_loaded header count other _ (device fails) = device (other_device fails)
  other_not_loaded header count other _ no_memory = no_memory

  -- the name itself stays as it was if its disk was not written
  pub round_stays : (IsTrue disk.told → now.reads ≡ disk.reads) → (IsTrue disk.honest → (image : List ℕ) → now.may_leave image → disk.may_leave image)
      → Stays (from_to a e) name
  round_stays reads images = record {
    file = λ told. whole.file told ∙ ap Some (reads (taken.given.told told)) ∙ sym (taken.reads told);
    leaves = λ told honest image left.
        (taken.images told image).0 (images (subst (λ (h : Handed). IsTrue h.honest) (taken.kind told) honest) image ((whole.leaves told image).0 left));
  }

  pub round_rise : min (a.disk_count + now.count) (2 ^ 64 - 1) ≤ e.disk_count
  round_rise =
      let after = whole.disk_count in
      let before = taken.loans.disk_count in
      let between = keeps.back.onward.disk_count in
      omega (arith, after, before, between)
