-- What a call that writes nothing leaves of a file of slots.
use Rattle.std.proofs.Common.{◌≡◌, ◌≤◌, ◌+◌, ◌==◌, ◌&&◌, Bool, true, false, nat_le, nat_lt, ap, ℕ, List, Result, Ok, Err, IsErr, IfOk, OnOk, is_ok, if◌then◌else◌, IsTrue, refl, sym, ◌∙◌, subst, arith}
use Rattle.std.proofs.lemmas.Bool.{false≢true}
use Rattle.std.proofs.lemmas.Bool.Decides.{nat_tests}
use Rattle.disk_trait.specs.Images.{Only}
use Rattle.disk_trait.specs.declared.disk.Pages as pages
use Rattle.disk_trait.specs.declared.faults.Faults as faults
use Rattle.slot_file.specs.Disks.{Unwritten}
use Rattle.slot_file.specs.Doubts.{IsSure, looked, looked_run, settled}
use Rattle.slot_file.specs.Files.{IsFile}
use Rattle.slot_file.specs.Layout.{file_size}
use Rattle.slot_file.specs.Reading.{LooksOnly}
use Rattle.slot_file.specs.Slots.{OnlyLooked}
use Rattle.slot_file.specs.declared.slots.Doubt.{Doubt}
use Rattle.slot_file.specs.declared.slots.Doubt.TheVariants.{Nowhere, Refused, Settled}
use Rattle.slot_file.specs.declared.slots.Slots.{Slots}
use Rattle.disk_trait.proofs.SameDisk.{same-none, same-then}
use Rattle.slot_file.proofs.Unwritten.{unwritten-then}

module _ {D : Type 0} {p : pages.Ghosts D} {f : faults.Ghosts D} (slots : Slots D p f) (disk : D) (unwritten : Unwritten p f slots.disk disk) where
  pub kept-whole : IsTrue (p.told disk) → IsFile slots.header slots.count (p.reads disk)
  kept-whole told = (let was = sym unwritten.stays.told ∙ told in subst (IsFile slots.header slots.count) (sym (unwritten.same was)) (slots.whole was))

  pub kept-room : IsTrue (p.told disk) → file_size slots.header.version slots.count ≤ p.room disk
  kept-room told = omega (arith, slots.has_room (sym unwritten.stays.told ∙ told), unwritten.stays.room)

  pub kept-images : IsTrue (p.told disk) → IsTrue (p.honest disk) → (image : List ℕ) → p.may_leave disk image → IsFile slots.header slots.count image
  kept-images told honest image leaves =
      let was = sym unwritten.stays.honest ∙ honest in
      slots.images_whole (sym unwritten.stays.told ∙ told) was image (unwritten.images was image leaves)

  pub kept-stable : IsSure slots.doubt → IsTrue (p.told disk) → IsTrue (p.honest disk) → Only (p.reads disk) (p.may_leave disk)
  kept-stable sure told honest image leaves =
      let was_told = sym unwritten.stays.told ∙ told in
      let was = sym unwritten.stays.honest ∙ honest in
      slots.stable sure was_told was image (unwritten.images was image leaves) ∙ sym (unwritten.same was_told)

  pub synced-stable : {T X : Type 0} (done : Result T X) → (IsTrue (p.honest slots.disk) → IsTrue (p.told slots.disk) → OnOk done (Only (p.reads slots.disk) (p.may_leave disk)))
      → OnOk done (IsTrue (p.told disk) → IsTrue (p.honest disk) → Only (p.reads disk) (p.may_leave disk))
  synced-stable (Ok value) only = λ told honest image leaves.
      let was_told = sym unwritten.stays.told ∙ told in
      only (sym unwritten.stays.honest ∙ honest) was_told image leaves ∙ sym (unwritten.same was_told)
  synced-stable (Err fault) only = tt

-- slots that are only looked at
pub looks-only : {E : Type 0} {q : pages.Ghosts E} {h : faults.Ghosts E} (old new : Slots E q h) → OnlyLooked old new → LooksOnly old new
looks-only old new looked = record {
  unwritten = record { same = looked.same; images = λ honest image leaves. (looked.images honest image).0 leaves; stays = looked.stays.disk };
  doubt = looked.doubt;
  stays = looked.stays;
}

-- no look at all
pub looks-none : {E : Type 0} {q : pages.Ghosts E} {h : faults.Ghosts E} (slots : Slots E q h) → LooksOnly slots slots
looks-none {q} {h} slots = record {
  unwritten = record { same = λ told. refl; images = λ honest image leaves. leaves; stays = same-none q h slots.disk };
  doubt = λ nowhere. nowhere;
  stays = record { header = refl; count = refl; disk = same-none q h slots.disk };
}

-- one look after another
pub looks-then : {E : Type 0} {q : pages.Ghosts E} {h : faults.Ghosts E} (old mid new : Slots E q h) → LooksOnly old mid → LooksOnly mid new → LooksOnly old new
looks-then {q} {h} old mid new first next = record {
  unwritten = unwritten-then q h old.disk mid.disk new.disk first.unwritten next.unwritten;
  doubt = λ none. next.doubt (first.doubt none);
  stays = record {
    header = next.stays.header ∙ first.stays.header;
    count = next.stays.count ∙ first.stays.count;
    disk = same-then q h old.disk mid.disk new.disk first.stays.disk next.stays.disk;
  };
}

-- what holds after a settle if no put was refused
pub sure-settled : {T X : Type 0} (done : Result T X) (was doubt : Doubt) (S : Type 0) → doubt ≡ (if is_ok done then settled was else was) → (IsSure was → S) → OnOk done S → IsSure doubt → S
sure-settled (Ok value) was doubt S is before after sure = after
sure-settled (Err fault) was doubt S is before after sure = before (subst IsSure is sure)

-- a look settles no put that was refused, and puts none in doubt
still-sure : (done : Bool) (first count : ℕ) (doubt : Doubt) → IsSure (if done then looked_run first count doubt else doubt) → IsSure doubt
still-sure true first count Nowhere sure = tt
still-sure true first count (Refused slot) sure = absurd sure
still-sure true first count (Settled slot) sure = tt
still-sure false first count doubt sure = sure

pub sure-run : (done : Bool) (first count : ℕ) (was doubt : Doubt) → doubt ≡ (if done then looked_run first count was else was) → IsSure doubt → IsSure was
sure-run done first count was doubt is sure = still-sure done first count was (subst IsSure is sure)

still-nowhere : (done : Bool) (first count : ℕ) (doubt : Doubt) → doubt ≡ Nowhere → (if done then looked_run first count doubt else doubt) ≡ Nowhere
still-nowhere true first count doubt none = ap (looked_run first count) none
still-nowhere false first count doubt none = none

pub nowhere-run : (done : Bool) (first count : ℕ) (was doubt : Doubt) → doubt ≡ (if done then looked_run first count was else was) → was ≡ Nowhere → doubt ≡ Nowhere
nowhere-run done first count was doubt is none = is ∙ still-nowhere done first count was none

-- a look at one slot
looked-at : (slot doubted : ℕ) → (nat_le slot doubted && nat_lt doubted (slot + 1)) ≡ (doubted == slot)
looked-at slot doubted = grind (arith, nat_tests)

pub looked-once : (slot : ℕ) (doubt : Doubt) → looked_run slot 1 doubt ≡ looked slot doubt
looked-once slot Nowhere = refl
looked-once slot (Refused doubted) = refl
looked-once slot (Settled doubted) = ap (λ (b : Bool). if b then Nowhere else Settled doubted) (looked-at slot doubted)

-- what is said of an answer that is refused
pub if-err : {T X U : Type 0} (answer : Result T X) (done not_done : U) → IsErr answer → not_done ≡ (if is_ok answer then done else not_done)
if-err (Ok value) done not_done is = absurd (false≢true is)
if-err (Err fault) done not_done is = refl

pub no-value : {T X : Type 0} (P : T → Type 0) (answer : Result T X) → IsErr answer → IfOk answer P
no-value P (Ok value) is = absurd (false≢true is)
no-value P (Err fault) is = tt
