-- Pairs of typecodes.
use Rattle.std.specs.Prelude.{ℕ, Option, Some, None, ◌==◌, if◌then◌else◌}
use Rattle.lms_bytes.specs.ParameterSets.{lmots_row, lms_row}
use Rattle.lms_bytes.specs.declared.faults.KeyFault.{KeyFault}
use Rattle.lms_bytes.specs.declared.faults.KeyFault.TheVariants.{UnknownLms, UnknownOts, MixedWidths}

-- why a pair of typecodes stands for no parameter set, or none: the pair is accepted if both rows have one hash length
unfoldable pub codes_fault : ℕ → ℕ → Option KeyFault
codes_fault lms ots = elim (lms_row lms) [
  | None ↦ Some (UnknownLms lms)
  | Some tree ↦ elim (lmots_row ots) [
    | None ↦ Some (UnknownOts ots)
    | Some chains ↦ if chains.n == tree.m then None else Some MixedWidths
  ]
]
