-- What settling the slots does to a journal with an entry in doubt.
use Rattle.std.proofs.Common.{◌≡◌, ◌<◌, ℕ, Result, Ok, Err, Some, IsSome, length, refl, sym, ap, ◌∙◌, subst}
use Rattle.disk_trait.specs.declared.disk.Pages as pages
use Rattle.disk_trait.specs.declared.faults.Faults as faults
use Rattle.opening_journal.specs.Answers.{Settles}
use Rattle.opening_journal.specs.Entries.{leaf_of}
use Rattle.opening_journal.specs.EntrySlots.{slot_before, slot_with}
use Rattle.opening_journal.specs.Faults.{journal_fault}
use Rattle.opening_journal.specs.Journal.{header_of, state_of}
use Rattle.opening_journal.specs.declared.entry.Entry.{Entry}
use Rattle.opening_journal.specs.declared.faults.JournalFault.{JournalFault}
use Rattle.opening_journal.specs.declared.faults.JournalFault.TheVariants.{Device, Damaged}
use Rattle.opening_journal.specs.declared.journal.Journal.{Journal}
use Rattle.opening_journal.proofs.Holding.{is-before, put-is, put_of}
use Rattle.slot_file.proofs.Held.{holds as cache_holds}
use Rattle.slot_file.specs.Cache.{state_of as cache_state}
use Rattle.slot_file.specs.Calls.{IsNeither, Settles as SlotsSettle}
use Rattle.disk_trait.specs.Faults.{RisesAt}
use Rattle.slot_file.specs.State.{CacheState, slot_in}
use Rattle.slot_file.specs.declared.doubted.Doubted.{Doubted}
use Rattle.slot_file.specs.declared.faults.SettleFault.{SettleFault}
use Rattle.slot_file.specs.declared.faults.SettleFault.TheVariants as settle
use Rattle.slot_file.specs.declared.slot.Slot.{Slot}

-- if the slots are not settled, the journal is as it was
module _ {D : Type 0} {p : pages.Ghosts D} {f : faults.Ghosts D} (journal : Journal D p f) (entry : Entry)
    (doubt : journal.doubt ≡ Some entry) where
  in-doubt : IsSome journal.doubt
  in-doubt = subst IsSome (sym doubt) refl

  pub settles-fault : (fault : SettleFault) (new : CacheState)
      → SlotsSettle (header_of journal).version (cache_state journal.slots) (Err fault) new
      → Settles (state_of journal) (Err (journal_fault fault)) (state_of journal)
  settles-fault settle.Device new event = (in-doubt, refl)
  settles-fault (settle.Damaged torn a b) new event =
      let cache = cache_state journal.slots in
      let n = journal.params.n in
      let items = journal.entries.items in
      let version = (header_of journal).version in
      let same = put-is n cache items journal.doubt entry event.0 journal.held doubt event.1 in
      let within : leaf_of entry < length cache.slots =
      (cache_holds journal.slots).within (put_of entry) (journal.held.some entry doubt) in
      let leaf : torn ≡ leaf_of entry = event.2 ∙ ap (λ (d : Doubted). d.slot) same in
      let before : slot_in cache.slots torn ≡ slot_before entry =
      ap (λ (k : ℕ). slot_in cache.slots k) leaf
      ∙ is-before n cache.slots items entry within journal.held.slots (journal.held.adds entry doubt) in
      let put = subst (λ (d : Doubted). IsNeither version (slot_in cache.slots torn) d.after a b) same event.4 in
      let here = subst (λ (s : Slot). IsNeither version s (slot_with entry) a b) before put in
      let neither = subst (λ (v : ℕ). IsNeither v (slot_before entry) (slot_with entry) a b) journal.version here in
      (entry, doubt, leaf, refl, neither)

fault-device : (fault : SettleFault) → journal_fault fault ≡ Device → fault ≡ settle.Device
fault-device settle.Device is = refl
fault-device (settle.Damaged torn x y) is = absurd (cc)

fault-damaged : (fault : SettleFault) (leaf a b : ℕ) → journal_fault fault ≡ Damaged leaf a b
    → fault ≡ settle.Damaged leaf a b
fault-damaged settle.Device leaf a b is = absurd (cc)
fault-damaged (settle.Damaged torn x y) leaf a b is = cc

-- a journal that is not settled says why as its slots do
module _ {V W : Type 0} {result : Result V SettleFault} (fault : SettleFault) (why : JournalFault)
    (is : result ≡ Err fault) (why_is : why ≡ journal_fault fault) where
  pub damaged-of : {leaf a b : ℕ} → ◌≡◌ {A = Result W JournalFault} (Err why) (Err (Damaged leaf a b))
      → result ≡ Err (settle.Damaged leaf a b)
  damaged-of {leaf} {a} {b} same =
      let here : why ≡ Damaged leaf a b = cc in
      is ∙ ap Err (fault-damaged fault leaf a b (sym why_is ∙ here))

  pub device-of : ◌≡◌ {A = Result W JournalFault} (Err why) (Err Device) → result ≡ Err settle.Device
  device-of same = let here : why ≡ Device = cc in is ∙ ap Err (fault-device fault (sym why_is ∙ here))

  of-device : result ≡ Err settle.Device → ◌≡◌ {A = Result W JournalFault} (Err why) (Err Device)
  of-device same = let here : fault ≡ settle.Device = cc in ap Err (why_is ∙ ap journal_fault here)

  pub rises-fault : {before now : ℕ} → RisesAt before now result (Err settle.Device)
      → RisesAt {R = Result W JournalFault} before now (Err why) (Err Device)
  rises-fault {before} {now} cause = record {
    later = cause.later;
    failed = λ same. cause.failed (device-of same);
    others = λ differs. cause.others (λ same. differs (of-device same));
  }

-- settled slots
module _ {V W : Type 0} {result : Result V SettleFault} {value : V} (done : W) (is : result ≡ Ok value) where
  pub rises-settled : {before now : ℕ} → RisesAt before now result (Err settle.Device)
      → RisesAt {R = Result W JournalFault} before now (Ok done) (Err Device)
  rises-settled {before} {now} cause = record {
    later = cause.later;
    failed = λ same. absurd (cc);
    others = λ differs. cause.others (λ same. absurd (cc));
  }
