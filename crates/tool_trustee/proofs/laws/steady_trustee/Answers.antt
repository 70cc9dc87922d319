use Rattle.std.proofs.Common.{◌∙◌, IsTrue, Some, inl, inr, ap}
use Rattle.tool_trustee.proofs.Steady.{ports-granted}
use Rattle.trustee_node.specs.Ports.{ports_run}
use Rattle.trustee_node.proofs.RoomyLinks.{no-link-fails, roomy-ports}
use Rattle.trustee_core.specs.declared.kept.TrusteeName.{TrusteeName}
use Rattle.tool_trustee.proofs.laws.steady_trustee.Goals as goal

pub returns-clause-grants : goal.returns-clause-grants
returns-clause-grants g c = λ words net_old net_new time later end run told steady.
    let served = run.net.served in
    let name = run.name_is in
    let tells : IsTrue run.new.name.told = ap (λ (n : TrusteeName). n.told) name ∙ run.told told in
    let steadies : IsTrue run.new.name.steady = ap (λ (n : TrusteeName). n.steady) name ∙ run.steady steady in
    ports-granted run.share run.ids words.connections run.old.entries run.new.entries served.runs served.are
    (served.codes.steady steadies tells) (served.codes.told tells) served.codes.worn

pub returns-clause-ends : goal.returns-clause-ends
returns-clause-ends g c = λ words net_old net_new time later end run steady. elim run.net.ends [
  | inl all ↦ all.1
  | inr some ↦ absurd (some.0 (run.net.hears steady))
]

pub returns-clause-links : goal.returns-clause-links
returns-clause-links g c = λ words net_old net_new time later end run steady room.
    let net = run.net in
    no-link-fails run.share run.ids words.connections run.old run.new (ports_run net.ports_old net.ports_new net.clocks) net.totals net.served
    (roomy-ports run.share net_old (Some words.place) net.ports_old steady room net.made)
