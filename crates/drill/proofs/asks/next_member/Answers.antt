use Rattle.std.proofs.Common.{inl, inr, arith}
use Rattle.std.proofs.lemmas.Bool.{cases_eq}
use Rattle.drill.proofs.asks.next_member.Goals as goal

pub trustees-preserved : goal.trustees-preserved
trustees-preserved c = λ u low below member none. elim (cases_eq u c.trustees.t) [
  | inl same ↦ absurd (let awaited = c.awaits.ensures.kept (rw same at member) (rw same at none) in let no = c.if-awaits.false in cc)
  | inr differs ↦ c.trustees.invariant u low (omega arith) member none
]
