use Rattle.std.proofs.Common.{refl, sym, inl, inr, ◌∙◌}
use Rattle.tool_base.proofs.Unaccepted.{none_deaf, some_deaf}
use Rattle.tool_base.proofs.services.end_of_service.Goals as goal

pub returns-in-Ok : goal.returns-in-Ok
returns-in-Ok g c = record {
  ends = rw c.in-Ok.is (inr (some_deaf g.P.Port.state c.args.ports.now (sym c.some_unaccepted.ensures ∙ c.if-some_unaccepted.true), refl));
}

pub returns-in-Ok-2 : goal.returns-in-Ok-2
returns-in-Ok-2 g c = record {
  ends = rw c.in-Ok-2.is (inl (none_deaf g.P.Port.state c.args.ports.now (sym c.some_unaccepted.ensures ∙ c.if-some_unaccepted.false), refl));
}
