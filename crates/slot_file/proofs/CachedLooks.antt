-- What a look at a slot leaves of a cache in which a put is in doubt.
use Rattle.std.proofs.Common.{◌≡◌, ◌≢◌, ℕ, List, Option, Some, None, Result, Ok, Err, IsSome, inl, inr, refl, sym, ◌∙◌, subst}
use Rattle.disk_trait.specs.declared.disk.Pages as pages
use Rattle.disk_trait.specs.declared.faults.Faults as faults
use Rattle.slot_file.specs.Disks.{Unwritten}
use Rattle.slot_file.specs.Doubts.{looked, settled}
use Rattle.slot_file.specs.Inside.{IsDoubt, Shows}
use Rattle.slot_file.specs.Slots.{IsHonest, IsTold, MayLeave, Stays, file_of, header_of, slot_now}
use Rattle.slot_file.specs.State.{slot_in}
use Rattle.slot_file.specs.declared.cache.CachedSlots.{CachedSlots}
use Rattle.slot_file.specs.declared.doubted.Doubted.{Doubted}
use Rattle.slot_file.specs.declared.faults.SettleFault.{SettleFault}
use Rattle.slot_file.specs.declared.faults.SettleFault.TheVariants.{Device, Damaged}
use Rattle.slot_file.specs.declared.faults.Settled.{Settled}
use Rattle.slot_file.specs.declared.slot.Slot.{Slot}
use Rattle.slot_file.specs.declared.slots.Doubt.{Doubt}
use Rattle.slot_file.specs.declared.slots.Doubt.TheVariants.{Nowhere}
use Rattle.slot_file.specs.declared.slots.Slots.{Slots}
use Rattle.slot_file.proofs.Files.{either, renamed}

pub none-some : {T : Type 0} (value : T) (doubt : Option T) → doubt ≡ Some value → doubt ≢ None
none-some value doubt is none = (let no = sym is ∙ none in absurd (cc))

pub some-of : {T : Type 0} (value : T) (doubt : Option T) → doubt ≡ Some value → IsSome doubt
some-of value doubt is = subst IsSome (sym is) refl

-- the put stays in doubt
pub doubt-kept : (count : ℕ) (old new : Doubt) (doubted : Option Doubted) (put : Doubted) → doubted ≡ Some put → IsDoubt count old doubted
    → (looked put.slot (settled old) ≡ Nowhere → looked put.slot (settled new) ≡ Nowhere) → IsDoubt count new doubted
doubt-kept count old new doubted put is before settles = record {
  nowhere = λ none. absurd (none-some put doubted is none);
  within = before.within;
  whole = before.whole;
  settles = λ other is_other.
      let same : put ≡ other = (let both = sym is ∙ is_other in cc) in
      subst (λ (d : Doubted). looked d.slot (settled new) ≡ Nowhere) same (settles (before.settles put is));
}

module _ {D : Type 0} {p : pages.Ghosts D} {f : faults.Ghosts D} (self : CachedSlots D p f) (new : Slots D p f) (unwritten : Unwritten p f self.slots.disk new.disk) (stays : Stays self.slots new) where
  pub kept-reads : IsTold new → Shows (header_of new) self.cached self.doubt (file_of new)
  kept-reads told =
      let was = sym unwritten.stays.told ∙ told in
      renamed (header_of new) (header_of self.slots) self.cached self.doubt (file_of new) stays.header
      (subst (λ (l : List ℕ). Shows (header_of self.slots) self.cached self.doubt l) (sym (unwritten.same was)) (self.reads was))

  pub kept-images : IsTold new → IsHonest new → (image : List ℕ) → MayLeave new image → Shows (header_of new) self.cached self.doubt image
  kept-images told honest image leaves =
      let was_honest = sym unwritten.stays.honest ∙ honest in
      renamed (header_of new) (header_of self.slots) self.cached self.doubt image stays.header
      (self.images (sym unwritten.stays.told ∙ told) was_honest image (unwritten.images was_honest image leaves))

-- a slot in doubt is one of two
pub neither-not : {D : Type 0} {p : pages.Ghosts D} {f : faults.Ghosts D} (self : CachedSlots D p f) (put : Doubted) (found : Slot) → self.doubt ≡ Some put → IsTold self.slots
    → found ≡ slot_now self.slots put.slot → found ≢ slot_in self.cached put.slot → found ≢ put.after → ⊥
neither-not self put found is told now before after =
    elim (either (header_of self.slots) self.cached self.doubt (file_of self.slots) (self.reads told) put is) [
      | inl same ↦ before (now ∙ same)
      | inr made ↦ after (now ∙ made)
    ]

-- answers that differ
pub settled-not : (value : Settled) (fault : SettleFault) → ◌≢◌ {A = Result Settled SettleFault} (Ok value) (Err fault)
settled-not value fault is = cc

pub damaged-not : (slot a b : ℕ) → ◌≢◌ {A = Result Settled SettleFault} (Err (Damaged slot a b)) (Err Device)
damaged-not slot a b is = cc

pub device-not : (answer : Result Settled SettleFault) → answer ≡ Err Device → (slot a b : ℕ) → answer ≢ Err (Damaged slot a b)
device-not answer is slot a b other = damaged-not slot a b (sym other ∙ is)
