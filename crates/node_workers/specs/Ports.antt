-- A port that was served.
use Rattle.std.specs.Prelude.{◌≡◌, ℕ, IsTrue}
use Rattle.disk_trait.specs.Faults.{Rose}
use Rattle.stream_io.specs.Net.{PortState}

-- why a port was left: it had as many connections as it was meant to have, no further link waits, or accepting failed
pub data PortEnds (asked served : ℕ) (before after : PortState) : Type 0 where
  full : served ≡ asked → after.accept_count ≡ before.accept_count → PortEnds asked served before after
  none_waits : (IsTrue before.told → after.waiting ≡ 0) → after.accept_count ≡ before.accept_count
      → PortEnds asked served before after
  failed : Rose before.accept_count after.accept_count → (IsTrue after.steady → ⊥) → PortEnds asked served before after
