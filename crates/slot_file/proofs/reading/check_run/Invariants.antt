use Rattle.std.proofs.Common.{◌≡◌, ◌<◌, ℕ, false}
use Rattle.slot_file.specs.State.{slot_in}
use Rattle.slot_file.specs.Copies.{is_damaged}
use Rattle.slot_file.proofs.reading.check_run.Given as goal

abbrev pub invariant-loop-place : goal.invariant-loop-place
invariant-loop-place l = (place : ℕ) → place < l.place → is_damaged (slot_in l.run place) ≡ false
