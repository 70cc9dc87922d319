use Rattle.std.proofs.Common.{◌∷◌, [], All, length, map, option_copied, ap, refl, subst, sym, ◌∙◌, arith}
use Rattle.std.proofs.lemmas.List.{length_push, map-append}
use Rattle.std.proofs.lemmas.List.Elements.{All-push}
use Rattle.stream_io.specs.Net.{IsNewPort}
use Rattle.stream_memory.specs.Nets.{net_state}
use Rattle.stream_memory.specs.Ports.{kept_of, port_state}
use Rattle.stream_memory.specs.declared.mem_net.MemNet.{MemNet}
use Rattle.stream_memory.specs.declared.mem_port.MemPort.{MemPort}
use Rattle.stream_memory.proofs.Outcomes.{if_failed}
use Rattle.stream_memory.proofs.Ports.{new-one}
use Rattle.stream_memory.proofs.Removed.{no_less, no_less_still}
use Rattle.stream_memory.proofs.mem_net.MemNet.make_ports.Goals as goal

pub making-preserved : goal.making-preserved
making-preserved c =
    let v = c.making.invariant in
    let r = c.in_ok-make_port.ensures in
    let port = c.in_ok-make_port.field-0 in
    let pushed = c.in_ok-push.ensures.items in
    let state = λ (p : MemPort). port_state (kept_of p) in
    let is_new = IsNewPort (net_state c.args.self.now) (option_copied c.args.place) in
    let new = c.make_port.new.self in
    record {
      few = (let e = ap length pushed in let l = length_push c.making.ports.items port in omega arith);
      made = subst (λ ports. All is_new (map state ports)) (sym pushed)
          (subst (All is_new) (sym (map-append state c.making.ports.items (port ∷ [])))
          (All-push is_new (map state c.making.ports.items) (state port) v.made (new-one _ _ _ _ refl v.steady v.room r.made)));
      room = no_less_still _ _ _ v.room r.room;
      steady = r.steady ∙ v.steady;
      same = r.same ∙ ap (λ (net : MemNet). record net { scripts = new.scripts; gave_steady = new.gave_steady }) v.same;
    }

pub returns-clause-made : goal.returns-clause-made
returns-clause-made c = c.making.invariant.made

pub returns-clause-many : goal.returns-clause-many
returns-clause-many c =
    let few = c.making.invariant.few in
    let all = c.making-test.false in
    let size = c.len.ensures in
    omega (arith, few, all, size)

pub returns-clause-same : goal.returns-clause-same
returns-clause-same c = c.making.invariant.same

pub returns-clause-steady : goal.returns-clause-steady
returns-clause-steady c = c.making.invariant.steady

pub returns-clause-room : goal.returns-clause-room
returns-clause-room c = c.making.invariant.room

pub returns-in_err-ports-clause-steady : goal.returns-in_err-ports-clause-steady
returns-in_err-ports-clause-steady c = refl

pub returns-in_err-ports-clause-room : goal.returns-in_err-ports-clause-room
returns-in_err-ports-clause-room c = no_less _

pub returns-in_err-ports-clause-many : goal.returns-in_err-ports-clause-many
returns-in_err-ports-clause-many c = if_failed _ _ c.from_residual.ensures.0

pub returns-in_err-ports-clause-made : goal.returns-in_err-ports-clause-made
returns-in_err-ports-clause-made c = if_failed _ _ c.from_residual.ensures.0

pub returns-in_err-make_port-clause-many : goal.returns-in_err-make_port-clause-many
returns-in_err-make_port-clause-many c = if_failed _ _ c.from_residual-in_err-make_port.ensures.0

pub returns-in_err-make_port-clause-made : goal.returns-in_err-make_port-clause-made
returns-in_err-make_port-clause-made c = if_failed _ _ c.from_residual-in_err-make_port.ensures.0

pub returns-in_err-push-clause-many : goal.returns-in_err-push-clause-many
returns-in_err-push-clause-many c = if_failed _ _ c.from_residual-in_err-push.ensures.0

pub returns-in_err-push-clause-made : goal.returns-in_err-push-clause-made
returns-in_err-push-clause-made c = if_failed _ _ c.from_residual-in_err-push.ensures.0

pub returns-in_err-make_port-clause-steady : goal.returns-in_err-make_port-clause-steady
returns-in_err-make_port-clause-steady c = c.make_port.ensures.steady ∙ c.making.invariant.steady

pub returns-in_err-make_port-clause-room : goal.returns-in_err-make_port-clause-room
returns-in_err-make_port-clause-room c = no_less_still _ _ _ c.making.invariant.room c.make_port.ensures.room

pub returns-in_err-make_port-clause-same : goal.returns-in_err-make_port-clause-same
returns-in_err-make_port-clause-same c =
    let new = c.make_port.new.self in
    c.make_port.ensures.same ∙ ap (λ (net : MemNet). record net { scripts = new.scripts; gave_steady = new.gave_steady }) c.making.invariant.same

pub returns-in_err-push-clause-steady : goal.returns-in_err-push-clause-steady
returns-in_err-push-clause-steady c = c.make_port.ensures.steady ∙ c.making.invariant.steady

pub returns-in_err-push-clause-room : goal.returns-in_err-push-clause-room
returns-in_err-push-clause-room c = no_less_still _ _ _ c.making.invariant.room c.make_port.ensures.room

pub returns-in_err-push-clause-same : goal.returns-in_err-push-clause-same
returns-in_err-push-clause-same c =
    let new = c.make_port.new.self in
    c.make_port.ensures.same ∙ ap (λ (net : MemNet). record net { scripts = new.scripts; gave_steady = new.gave_steady }) c.making.invariant.same
