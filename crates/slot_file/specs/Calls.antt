-- What the calls of a cache do.
use Rattle.std.specs.Prelude.{◌≡◌, ◌≢◌, ℕ, slice_set, None, Some, Result, Ok, Err, IsSome}
use Rattle.slot_file.specs.State.{CacheState, settled_with, slot_in, with_made}
use Rattle.slot_file.specs.declared.doubted.Doubted.{Doubted}
use Rattle.slot_file.specs.declared.faults.SettleFault.{SettleFault}
use Rattle.slot_file.specs.declared.faults.SettleFault.TheVariants.{Device, Damaged}
use Rattle.slot_file.specs.declared.faults.Settled.{Settled}
use Rattle.slot_file.specs.declared.faults.Settled.TheVariants.{Nothing, Made, NotMade}
use Rattle.slot_file.specs.Files.{gates_of}
use Rattle.slot_file.specs.Layout.{IsShown}
use Rattle.slot_file.specs.declared.slot.Slot.{Slot}

-- a slot with these gates, which is neither of the two
pub record IsNeither (version : ℕ) (before after : Slot) (a b : ℕ) : Type 0 where
  pub found : Slot
  pub shown : IsShown version found
  pub not_before : found ≢ before
  pub not_after : found ≢ after
  pub gates : gates_of found ≡ (a, b)

-- what settling does: the put in doubt was made or was not, and is no longer in doubt
abbrev pub Settles : ℕ → CacheState → Result Settled SettleFault → CacheState → Type 0
Settles version before (Ok Nothing) after = (before.doubt ≡ None) × (after ≡ before)
Settles version before (Ok Made) after =
    (doubted : Doubted) × (before.doubt ≡ Some doubted) × (after ≡ settled_with (with_made before.slots doubted))
Settles version before (Ok NotMade) after = IsSome before.doubt × (after ≡ settled_with before.slots)
Settles version before (Err Device) after = IsSome before.doubt × (after ≡ before)
Settles version before (Err (Damaged slot a b)) after =
    (doubted : Doubted) × (before.doubt ≡ Some doubted) × (slot ≡ doubted.slot) × (after ≡ before)
    × IsNeither version (slot_in before.slots slot) doubted.after a b

-- what a put does: the slot is this, or the put is in doubt
abbrev pub Puts : {T E : Type 0} → CacheState → ℕ → Slot → Result T E → CacheState → Type 0
Puts before slot after (Ok done) state = state ≡ settled_with (slice_set before.slots slot after)
Puts before slot after (Err fault) state =
    state ≡ record { slots = before.slots; doubt = Some (record { slot = slot; after = after }) }
