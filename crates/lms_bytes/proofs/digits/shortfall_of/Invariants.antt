use Rattle.std.proofs.Common.{◌≡◌, ◌*◌, ◌≤◌}
use Rattle.lms_bytes.specs.Digits.{shortfall}
use Rattle.lms_bytes.proofs.digits.shortfall_of.Given as goal

abbrev pub invariant-digits : goal.invariant-digits
invariant-digits l = (l.sum ≡ shortfall l.s l.w l.i) × (l.sum ≤ 255 * l.i)
