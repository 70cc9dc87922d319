use Rattle.std.proofs.Common.{Err, rules, ◌&&◌, option_copied, refl, sym, ap, ◌∙◌, arith}
use Rattle.std.proofs.lemmas.List.{length-map}
use Rattle.std.specs.List.{list_all}
use Rattle.stream_memory.specs.Calls.{is_empty}
use Rattle.stream_memory.specs.Nets.{is_admitted, is_listed, net_state}
use Rattle.stream_memory.specs.Ports.{is_steady_script, kept_of, port_state}
use Rattle.stream_memory.specs.declared.mem_net.MemNet.{MemNet}
use Rattle.stream_memory.specs.declared.mem_port.MemPort.{MemPort}
use Rattle.stream_memory.proofs.Outcomes.{call_memory, has_not, if_refused, ok_no, other_no, refusal, rises_by}
use Rattle.stream_memory.proofs.Ports.{admitted, new-for}
use Rattle.stream_memory.proofs.mem_net.MemNetNet.ports.Goals as goal

pub returns-clause-made : goal.returns-clause-made
returns-clause-made c =
    let net = c.args.self.now in
    let made = c.in_ok-ports.ensures in
    let place = option_copied c.args.place in
    record {
      many = length-map c.in_ok-ports.ports.items (λ (port : MemPort). port_state (kept_of port)) ∙ made.many;
      new_ports = new-for _ (net_state net) place _ refl
          (ap (λ f. (is_empty f.items && net.gave_steady) && list_all is_steady_script net.scripts.items) c.admit.ensures.failing) (omega arith) made.made;
      offered = λ _. admitted net place (ap (λ l. is_admitted (is_listed l) place) (sym c.deref.ensures.value) ∙ c.in_default.ensures.offered);
      out = search rules;
      kept = search rules;
    }

pub returns-clause-refused : goal.returns-clause-refused
returns-clause-refused c = tt

pub returns-clause-unoffered : goal.returns-clause-unoffered
returns-clause-unoffered c = λ told steady is. absurd (ok_no _ _ _ refl is)

pub returns-clause-cause : goal.returns-clause-cause
returns-clause-cause c =
    has_not _ _ _ (ok_no _ _ _ refl) (ap (λ (net : MemNet). net.calls.faults) c.make_ports.ensures.same ∙ c.in_default.ensures.cause.succeeded)

pub returns-clause-port_cause : goal.returns-clause-port_cause
returns-clause-port_cause c =
    has_not _ _ _ (ok_no _ _ _ refl) (ap (λ (net : MemNet). net.port_faults) c.make_ports.ensures.same)

-- if the ports may not be made
pub returns-in-Err-clause-made : goal.returns-in-Err-clause-made
returns-in-Err-clause-made c = tt

pub returns-in-Err-clause-refused : goal.returns-in-Err-clause-refused
returns-in-Err-clause-refused c = record { offers = refl; out = refl; kept = refl }

pub returns-in-Err-clause-cause : goal.returns-in-Err-clause-cause
returns-in-Err-clause-cause c =
    let cause = c.in-Err.ensures.cause in
    rises_by _ _ _ (ap Err c.from.ensures) cause.later cause.failed

-- if there is no memory for them
pub returns-in_err-ports-clause-made : goal.returns-in_err-ports-clause-made
returns-in_err-ports-clause-made c = if_refused _ _ _ (refusal c.from_residual.result _ c.from_residual.ensures.1)

pub returns-in_err-ports-clause-unoffered : goal.returns-in_err-ports-clause-unoffered
returns-in_err-ports-clause-unoffered c = λ told steady is.
    absurd (other_no _ _ _ call_memory (refusal c.from_residual.result _ c.from_residual.ensures.1) is)

pub returns-in_err-ports-clause-cause : goal.returns-in_err-ports-clause-cause
returns-in_err-ports-clause-cause c =
    has_not _ _ _ (other_no _ _ _ call_memory (refusal c.from_residual.result _ c.from_residual.ensures.1))
    (ap (λ (net : MemNet). net.calls.faults) c.make_ports.ensures.same ∙ c.in_default.ensures.cause.succeeded)

pub returns-in_err-ports-clause-port_cause : goal.returns-in_err-ports-clause-port_cause
returns-in_err-ports-clause-port_cause c =
    has_not _ _ _ (other_no _ _ _ call_memory (refusal c.from_residual.result _ c.from_residual.ensures.1))
    (ap (λ (net : MemNet). net.port_faults) c.make_ports.ensures.same)
