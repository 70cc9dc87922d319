-- Why a file is not loaded.
use Rattle.std.proofs.Common.{◌≡◌, ◌⊎◌, ◌<◌, ◌+◌, ◌-◌, ℕ, List, length, None, Some, false, replicate, inl, inr, refl, sym, ◌∙◌, ap, arith}
use Rattle.std.proofs.lemmas.List.{length-replicate}
use Rattle.disk_trait.specs.declared.disk.Pages as pages
use Rattle.disk_trait.specs.declared.faults.Faults as faults
use Rattle.slot_file.specs.Loading.{LoadRefused, damaged, device, other_file}
use Rattle.slot_file.specs.Reading.{IsReadRefused, IsRunRefused, refused_by}
use Rattle.slot_file.specs.declared.faults.CacheLoad.{CacheLoad}
use Rattle.slot_file.specs.declared.faults.CacheLoad.TheVariants as load
use Rattle.slot_file.specs.Opened.{IsOpened}
use Rattle.slot_file.specs.Slots.{IsTold, file_of, header_of, slot_now}
use Rattle.slot_file.specs.State.{HasSlots, IsWhole, slot_in}
use Rattle.slot_file.specs.Copies.{is_damaged}
use Rattle.slot_file.specs.Layout.{load_fault, slot_at}
use Rattle.slot_file.specs.Runs.{IsRun}
use Rattle.slot_file.specs.declared.slot.Slot.{Slot}
use Rattle.slot_file.specs.declared.slot.Slot.TheVariants.{Free}
use Rattle.slot_file.specs.declared.header.Header.{Header}
use Rattle.slot_file.specs.declared.header.LoadFault.{LoadFault}
use Rattle.slot_file.specs.declared.slots.Slots.{Slots}
use Rattle.slot_file.specs.declared.header.LoadFault.TheVariants.{Device, Foreign, Length, NotReady, Version}

module _ (header : Header) (count : ℕ) (file : List ℕ) where
  pub refused-file : (fault : LoadFault) → (fault ≡ Device) ⊎ (load_fault header count file ≡ Some fault) → LoadRefused header count file (refused_by fault)
  refused-file Device why = device
  refused-file (Length got want) why = elim why [ inl is ↦ absurd (cc) | inr is ↦ other_file _ is ]
  refused-file (NotReady gate) why = elim why [ inl is ↦ absurd (cc) | inr is ↦ other_file _ is ]
  refused-file (Version got) why = elim why [ inl is ↦ absurd (cc) | inr is ↦ other_file _ is ]
  refused-file (Foreign kept) why = elim why [ inl is ↦ absurd (cc) | inr is ↦ other_file _ is ]

  pub refused-read : (fault : CacheLoad) → load_fault header count file ≡ None → IsReadRefused header.version 0 count file fault → LoadRefused header count file fault
  refused-read (load.Damaged slot a b) opens first =
      damaged slot a b opens (record { within = omega (arith, first.within); here = first.here; before = λ earlier below. first.before earlier (omega arith) below })
  refused-read load.Device opens first = device
  refused-read (load.Slots fault) opens first = absurd first
  refused-read load.NoMemory opens first = absurd first

-- the first damaged slot of a run that was read
pub refused-run : (version first : ℕ) (file : List ℕ) (run : List Slot) (count : ℕ) (fault : CacheLoad) → length run ≡ count → IsRun version first file run
    → IsRunRefused first run fault → IsReadRefused version first count file fault
refused-run version first file run count (load.Damaged slot a b) size shows found =
    let place = found.place in
    let at : first + place ≡ slot = sym found.slot_is in
    record {
      behind = omega arith;
      within = omega (arith, found.within);
      here = ap (λ (k : ℕ). slot_at version k file) (sym at) ∙ sym (shows place found.within) ∙ found.here;
      before = λ earlier low below.
          let k = earlier - first in
          let is : first + k ≡ earlier = omega arith in
          let small : k < place = omega arith in
          ap (λ (j : ℕ). is_damaged (slot_at version j file)) (sym is) ∙ ap is_damaged (sym (shows k (omega (arith, found.within)))) ∙ found.before k small;
    }
refused-run version first file run count load.Device size shows found = tt
refused-run version first file run count (load.Slots fault) size shows found = absurd found
refused-run version first file run count load.NoMemory size shows found = absurd found

-- a file whose slots were all read
pub has-read : (header was : Header) (list : List Slot) (file old : List ℕ) (count : ℕ) → was ≡ header → file ≡ old → length list ≡ count
    → load_fault header count file ≡ None → ((k : ℕ) → k < count → slot_at was.version k old ≡ slot_in list k)
    → ((k : ℕ) → k < count → is_damaged (slot_at was.version k old) ≡ false) → HasSlots header list file
has-read header was list file old count names same size opens shows sound =
    let at : (k : ℕ) → slot_at header.version k file ≡ slot_at was.version k old = λ k i. slot_at (sym names i).version k (same i) in
    record {
      opens = ap (λ (n : ℕ). load_fault header n file) size ∙ opens;
      shows = λ k below. at k ∙ shows k (omega (arith, below, size));
      sound = λ k below. ap is_damaged (at k) ∙ sound k (omega (arith, below, size));
    }

-- the list of a cache whose slots were all read
pub record AllRead (header : Header) (count : ℕ) (told : Type 0) (file : List ℕ) (list : List Slot) : Type 0 where
  pub size : length list ≡ count
  pub whole : IsWhole list
  pub has : told → HasSlots header list file

-- the same, if the slots were read into a list of as many free ones
pub all-read : {D : Type 0} {p : pages.Ghosts D} {f : faults.Ghosts D} (header : Header) (count : ℕ) (disk : D) (slots : Slots D p f) (free list : List Slot)
    → IsOpened p f header count disk slots → free ≡ replicate count Free → length list ≡ length free → IsWhole list
    → (IsTold slots → (k : ℕ) → k < length free → slot_now slots k ≡ slot_in list k) → AllRead header count (IsTold slots) (file_of slots) list
all-read {p} header count disk slots free list opened is size whole shows =
    let many : length free ≡ count = ap length is ∙ length-replicate count Free in
    let long : length list ≡ count = size ∙ many in
    record {
      size = long;
      whole = whole;
      has = λ told_now.
          let told = sym opened.unwritten.stays.told ∙ told_now in
          let same : (k : ℕ) → k < count → slot_now slots k ≡ slot_in list k = λ k below. shows told_now k (omega (arith, below, many)) in
          has-read header (header_of slots) list (file_of slots) (file_of slots) count opened.named refl long
          (ap (load_fault header count) (opened.unwritten.same told) ∙ opened.opens told) same
          (λ k below. ap is_damaged (same k below) ∙ whole k (omega (arith, below, long)));
    }
