use Rattle.std.proofs.Common.{◌∙◌, map, refl, sym, arith}
use Rattle.std.proofs.lemmas.List.{length-map}
use Rattle.std.specs.Option.{option_map}
use Rattle.trustee_core.specs.Approved.{ids_of}
use Rattle.trustee_core.proofs.NotesHeld.{doubt-held, entries-held}
use Rattle.trustee_node.specs.Connections.{clock_state}
use Rattle.trustee_node.specs.Ports.{ports_run}
use Rattle.trustee_node.specs.Trustees.{name_of, trustee_state}
use Rattle.trustee_node.proofs.Finishing.{ends-served}
use Rattle.trustee_node.proofs.Gathering.{gathered-run}
use Rattle.trustee_node.proofs.Running.{idle-begun, joined-all}
use Rattle.node_workers.specs.Workers.{IsFree}
use Rattle.node_workers.proofs.Lists.{written-all}
use Rattle.trustee_node.proofs.service.serve_ports.Goals as goal

pub run_workers-requires-after_bounds : goal.run_workers-requires-after_bounds
run_workers-requires-after_bounds g c κs within =
    let made = c.make_workers-workers in
    idle-begun c.args.share.now c.in-Ok-new.made.0 (name_of c.args.trustee) c.args.ports.now.items c.args.clocks.items made.result.items c.as_mut_slice.result.now
    c.in-Ok-new.ensures.opening.2 c.requires.share made.ensures.workers c.as_mut_slice.ensures.value

pub gather-pass-requires-clause-free : goal.gather-pass-requires-clause-free
gather-pass-requires-clause-free g c κs within =
    let workers = c.make_workers-workers.result in
    written-all (λ worker. IsFree c.in-Ok-new.made.0 worker.pass) workers.items c.as_mut_slice.result.now c.run_workers.new.workers workers.len c.as_mut_slice.ensures.value
    c.run_workers.auto.workers workers.ok.0 (λ k d lt. let is = c.run_workers.ensures.pass k d lt in (is.0, is.1))

pub close-requires-clause-all : goal.close-requires-clause-all
close-requires-clause-all g c =
    let port = g.P.Port.state in
    let made = c.make_workers-workers in
    let e = c.run_workers.ensures in
    let joined = joined-all c.args.share.now _ c.args.connections c.in-Ok-new.made.0 c.gather-pass.result.0 (map port c.args.ports.now.items) (map port c.gather-pass.new.ports.items) _ c.gather-pass.result.1
    (gathered-run port g.C.Clock.told g.C.Clock.answers c.args.share.now (option_map (λ b. ids_of b.now) c.args.book) c.args.connections c.in-Ok-new.made.0
    c.args.ports.now.items c.gather-pass.new.ports.items c.args.clocks.items c.gather-pass.new.own.items made.result.items c.as_mut_slice.result.now c.run_workers.new.workers made.result.len
    c.gather-pass.result.0 c.gather-pass.result.1 made.ensures.workers (sym made.result.ok.0 ∙ made.ensures.count ∙ c.args.ports.now.ok.0)
    (sym c.args.ports.now.ok.0 ∙ sym c.requires.clocks ∙ c.args.clocks.ok.0) c.as_mut_slice.ensures.value c.run_workers.auto.workers made.result.ok.0 c.ranges.connections.fits
    e.worked e.most e.ends c.gather-pass.ensures.joined) in
    joined ∙ length-map c.args.ports.now.items port ∙ sym c.args.ports.now.ok.0 ∙ sym c.len-count.ensures ∙ sym c.in-Ok-new.ensures.numbers.1

pub returns-clause-served : goal.returns-clause-served
returns-clause-served g c =
    let port = g.P.Port.state in
    let made = c.make_workers-workers in
    let e = c.run_workers.ensures in
    let opening = c.in-Ok-new.ensures.opening in
    let end = c.close.ensures in
    ends-served c.args.share.now (option_map (λ b. ids_of b.now) c.args.book) c.args.connections c.in-Ok-new.made.0 (trustee_state c.args.trustee) (trustee_state c.close.result) c.gather-pass.result.0
    (ports_run (map port c.args.ports.now.items) (map port c.gather-pass.new.ports.items) (map (clock_state g.C.Clock.told g.C.Clock.answers) c.args.clocks.items)) c.gather-pass.result.1
    record { log = opening.0; entries = entries-held c.args.trustee; number = opening.1; name = opening.2; first = c.in-Ok-new.ensures.numbers.0 }
    record { log = end.log; entries = entries-held c.close.result; doubt = doubt-held c.close.result; number = end.number; name = end.named; whole = end.whole }
    (gathered-run port g.C.Clock.told g.C.Clock.answers c.args.share.now (option_map (λ b. ids_of b.now) c.args.book) c.args.connections c.in-Ok-new.made.0
    c.args.ports.now.items c.gather-pass.new.ports.items c.args.clocks.items c.gather-pass.new.own.items made.result.items c.as_mut_slice.result.now c.run_workers.new.workers made.result.len
    c.gather-pass.result.0 c.gather-pass.result.1 made.ensures.workers (sym made.result.ok.0 ∙ made.ensures.count ∙ c.args.ports.now.ok.0)
    (sym c.args.ports.now.ok.0 ∙ sym c.requires.clocks ∙ c.args.clocks.ok.0) c.as_mut_slice.ensures.value c.run_workers.auto.workers made.result.ok.0 c.ranges.connections.fits
    e.worked e.most e.ends c.gather-pass.ensures.joined)
    (let many = length-map c.args.ports.now.items port in let n = c.args.ports.now.ok.0 in let few = c.requires.ports.1 in omega (arith, many, n, few))

pub returns-clause-refused : goal.returns-clause-refused
returns-clause-refused g c = tt

pub returns-in_default-clause-served : goal.returns-in_default-clause-served
returns-in_default-clause-served g c = tt

pub returns-in_default-clause-refused : goal.returns-in_default-clause-refused
returns-in_default-clause-refused g c = (refl, refl)

pub returns-in_default-clause-count : goal.returns-in_default-clause-count
returns-in_default-clause-count g c = refl

pub returns-in_default-clause-name : goal.returns-in_default-clause-name
returns-in_default-clause-name g c = refl

pub returns-in-Err-clause-served : goal.returns-in-Err-clause-served
returns-in-Err-clause-served g c = tt

pub returns-in-Err-clause-count : goal.returns-in-Err-clause-count
returns-in-Err-clause-count g c = refl
