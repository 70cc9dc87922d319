use Rattle.std.proofs.Common.{◌≡◌, ◌≤◌, ◌++◌, ◌∙◌, ℕ, map, refl, sym, ap, subst, arith}
use Rattle.std.proofs.lemmas.List.{length-map}
use Rattle.std.specs.Option.{option_map}
use Rattle.trustee_core.specs.Approved.{ids_of}
use Rattle.trustee_node.specs.Connections.{clock_state}
use Rattle.trustee_node.specs.Trustees.{trustee_state}
use Rattle.tool_words.specs.Rows.{trustee_words}
use Rattle.tool_base.specs.Endings.{ending}
use Rattle.tool_trustee.specs.Nets.{no_memory, no_ports, service_of}
use Rattle.tool_base.proofs.Nets.{net_back}
use Rattle.tool_base.proofs.Heard.{heard_new, heard_none}
use Rattle.tool_base.proofs.Unaccepted.{not_true}
use Rattle.tool_trustee.proofs.Serving.{dated_by, net_ends, ports_many}
use Rattle.tool_trustee.proofs.nets.serve_net.Goals as goal

pub returns-in-Err-Failed-clause-ends : goal.returns-in-Err-Failed-clause-ends
returns-in-Err-Failed-clause-ends g c =
    let found = c.in-Err-Failed.is in
    let fault = c.in-Err-Failed.field-0-is in
    let ports = c.in-Err-Failed.ensures in
    no_ports refl (heard_none _ _ _ ports.refused.kept) (ports.port_cause.rose (cc)) (λ told steady. not_true _ (ports.unoffered told steady (cc)))

pub returns-in-Err-NoMemory-clause-ends : goal.returns-in-Err-NoMemory-clause-ends
returns-in-Err-NoMemory-clause-ends g c = no_memory refl (heard_none _ _ _ c.in-Err-NoMemory.ensures.refused.kept)

pub returns-in-Err-clause-ends : goal.returns-in-Err-clause-ends
returns-in-Err-clause-ends g c =
    let made = c.in-Ok.ensures.made in
    let onward = c.in-Ok.ensures.onward in
    no_memory refl (heard_new _ _ _ _ made.new_ports (λ told. c.gather.ensures.kept.kept (rw onward.told told) ∙ ap (λ kept. kept ++ map g.N.Port.Port.state c.in-Ok.ports.items) made.kept))

pub returns-clause-ends : goal.returns-clause-ends
returns-clause-ends g c =
    let state = g.N.Port.Port.state in
    let made = c.in-Ok.ensures.made in
    let serves = c.serve_ports-trustee.ensures in
    let gathers = c.gather-2.ensures.kept in
    let onward = c.in-Ok.ensures.onward in
    let clock = g.T.Clock.Clock in
    net_ends (trustee_words c.args.words.now) (service_of c.args.share.now (trustee_state c.args.trustee) (trustee_state c.serve_ports-trustee.result.0))
    (option_map (λ b. ids_of b.now) c.args.book) (c.serve_ports-trustee.result.0 ≡ c.args.trustee)
    (g.N.Net.state c.args.net.now) (g.N.Net.state c.gather-2.new.self) (g.T.Clocks.state c.args.time.now)
    (map state c.in-Ok.ports.items) (map state c.serve_ports-trustee.new.ports.items) (map (clock_state clock.told clock.answers) c.in-Ok-clocks.clocks.items)
    c.serve_ports-trustee.result.1 (ending c.end_of_service-end.result)
    made.many made.offered made.new_ports (dated_by clock.told clock.answers _ _ c.in-Ok-clocks.ensures.tell (λ told j. c.in-Ok-clocks.ensures.answers told j))
    serves.served
    (λ told. gathers.kept (rw onward.told told) ∙ ap (λ kept. kept ++ map state c.serve_ports-trustee.new.ports.items) made.kept)
    (λ deaf. let rose = gathers.port_count.rose deaf in let later = onward.port_count in omega (arith, rose, later))
    _ serves.refused (λ same. ap (map state) same) (rw (← c.deref.ensures.value) c.end_of_service-end.ensures.ends)

pub returns-clause-net : goal.returns-clause-net
returns-clause-net g c =
    let state = g.N.Port.Port.state in
    let made = c.in-Ok.ensures.made in
    let serves = c.serve_ports-trustee.ensures in
    let many = ports_many (trustee_words c.args.words.now) (service_of c.args.share.now (trustee_state c.args.trustee) (trustee_state c.serve_ports-trustee.result.0))
    (option_map (λ b. ids_of b.now) c.args.book) (c.serve_ports-trustee.result.0 ≡ c.args.trustee)
    (g.N.Net.state c.args.net.now) (g.N.Net.state c.gather-2.new.self) (g.T.Clocks.state c.args.time.now)
    state c.in-Ok.ports.items c.serve_ports-trustee.new.ports.items _ c.serve_ports-trustee.result.1 serves.served serves.refused in
    net_back _ _ _ _ _ _ _ made c.in-Ok.ensures.onward many c.gather-2.ensures.kept c.gather-2.ensures.onward

pub returns-in-Err-Failed-clause-name : goal.returns-in-Err-Failed-clause-name
returns-in-Err-Failed-clause-name g c = refl

pub returns-in-Err-Failed-clause-faults : goal.returns-in-Err-Failed-clause-faults
returns-in-Err-Failed-clause-faults g c = omega arith

pub returns-in-Err-Failed-clause-time : goal.returns-in-Err-Failed-clause-time
returns-in-Err-Failed-clause-time g c = refl

pub returns-in-Err-NoMemory-clause-name : goal.returns-in-Err-NoMemory-clause-name
returns-in-Err-NoMemory-clause-name g c = refl

pub returns-in-Err-NoMemory-clause-faults : goal.returns-in-Err-NoMemory-clause-faults
returns-in-Err-NoMemory-clause-faults g c = omega arith

pub returns-in-Err-NoMemory-clause-time : goal.returns-in-Err-NoMemory-clause-time
returns-in-Err-NoMemory-clause-time g c = refl

pub returns-in-Err-clause-name : goal.returns-in-Err-clause-name
returns-in-Err-clause-name g c = refl

pub returns-in-Err-clause-faults : goal.returns-in-Err-clause-faults
returns-in-Err-clause-faults g c = omega arith

pub returns-in-Err-clause-time : goal.returns-in-Err-clause-time
returns-in-Err-clause-time g c = c.clocks.ensures.same

pub returns-clause-name : goal.returns-clause-name
returns-clause-name g c = c.serve_ports-trustee.ensures.name

pub returns-clause-faults : goal.returns-clause-faults
returns-clause-faults g c = c.serve_ports-trustee.ensures.onward

pub returns-clause-time : goal.returns-clause-time
returns-clause-time g c = c.in-Ok-clocks.ensures.same

pub returns-in-Err-Failed-clause-net : goal.returns-in-Err-Failed-clause-net
returns-in-Err-Failed-clause-net g c = record { onward = c.in-Err-Failed.ensures.onward; out = λ told. c.in-Err-Failed.ensures.refused.out }

pub returns-in-Err-NoMemory-clause-net : goal.returns-in-Err-NoMemory-clause-net
returns-in-Err-NoMemory-clause-net g c = record { onward = c.in-Err-NoMemory.ensures.onward; out = λ told. c.in-Err-NoMemory.ensures.refused.out }

pub returns-in-Err-clause-net : goal.returns-in-Err-clause-net
returns-in-Err-clause-net g c = net_back _ _ _ _ _ _ _ c.in-Ok.ensures.made c.in-Ok.ensures.onward refl c.gather.ensures.kept c.gather.ensures.onward

pub serve_ports-trustee-requires-clause-share : goal.serve_ports-trustee-requires-clause-share
serve_ports-trustee-requires-clause-share g c κs within = c.requires

pub serve_ports-trustee-requires-clause-ports : goal.serve_ports-trustee-requires-clause-ports
serve_ports-trustee-requires-clause-ports g c κs within =
    let ports = c.in-Ok.ports in
    let words = c.args.words.now in
    subst (λ (n : ℕ). (1 ≤ n) × (n ≤ 64)) (sym c.in-Ok.ensures.made.many ∙ length-map ports.items g.N.Port.Port.state ∙ sym ports.ok.0) (words.some_workers, words.few_workers)

pub serve_ports-trustee-requires-clause-clocks : goal.serve_ports-trustee-requires-clause-clocks
serve_ports-trustee-requires-clause-clocks g c κs within =
    let ports = c.in-Ok.ports in
    c.in-Ok-clocks.clocks.ok.0 ∙ c.in-Ok-clocks.ensures.count ∙ sym c.in-Ok.ensures.made.many ∙ length-map ports.items g.N.Port.Port.state ∙ sym ports.ok.0
