use Rattle.std.proofs.Common.{refl}
use Rattle.tool_base.proofs.Nets.{net_none}
use Rattle.tool_run.proofs.Running.{on_store}
use Rattle.tool_run.proofs.Telling.{tells-nothing}
use Rattle.tool_run.proofs.tool.run_command.Goals as goal

pub returns-in-Deal : goal.returns-in-Deal
returns-in-Deal g c = record { ended = rw c.in-Deal.is (record { run = c.deal_files.ensures.ended; net = refl }); back = c.deal_files.ensures.back; net = net_none _; time = refl; told = rw c.in-Deal.is c.deal_files.ensures.told }

pub returns-in-Trustee : goal.returns-in-Trustee
returns-in-Trustee g c = record { ended = rw c.in-Trustee.is c.serve_trustee.ensures; back = c.serve_trustee.ensures.keeps.back; net = c.serve_trustee.ensures.net; time = c.serve_trustee.ensures.time; told = rw c.in-Trustee.is refl }

pub returns-in-Sign : goal.returns-in-Sign
returns-in-Sign g c = record { ended = rw c.in-Sign.is c.sign.ensures; back = c.sign.ensures.keeps.back; net = c.sign.ensures.ports; time = refl; told = rw c.in-Sign.is refl }

pub returns-in-Blame : goal.returns-in-Blame
returns-in-Blame g c = record { ended = rw c.in-Blame.is c.blame.ensures; back = c.blame.ensures.keeps.back; net = c.blame.ensures.ports; time = refl; told = rw c.in-Blame.is refl }

pub returns-in-HssSign : goal.returns-in-HssSign
returns-in-HssSign g c = record { ended = rw c.in-HssSign.is c.hss_sign.ensures; back = c.hss_sign.ensures.keeps.back; net = c.hss_sign.ensures.ports; time = refl; told = rw c.in-HssSign.is refl }

pub returns-in-Aggregate : goal.returns-in-Aggregate
returns-in-Aggregate g c = record { ended = rw c.in-Aggregate.is c.aggregate.ensures; back = c.aggregate.ensures.keeps.back; net = c.aggregate.ensures.ports; time = refl; told = rw c.in-Aggregate.is refl }

pub returns-in_default : goal.returns-in_default
returns-in_default g c = record { ended = c.run_on_store.ensures.ended _ _; back = c.run_on_store.ensures.back; net = net_none _; time = refl; told = tells-nothing _ _ _ _ c.in_default.not-Deal }

pub run_on_store-requires-clause-alone : goal.run_on_store-requires-clause-alone
run_on_store-requires-clause-alone g c = λ lives order. on_store _ c.in_default.not-Deal c.in_default.not-Trustee c.in_default.not-Sign c.in_default.not-Blame c.in_default.not-HssSign c.in_default.not-Aggregate
