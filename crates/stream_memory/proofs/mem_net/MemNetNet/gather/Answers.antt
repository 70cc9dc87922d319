use Rattle.std.proofs.Common.{rules, ◌≡◌, ◌-◌, ◌++◌, length, map, sym, ap, subst, ◌∙◌}
use Rattle.std.proofs.lemmas.List.{length-map, map-append}
use Rattle.std.proofs.lemmas.Simd.{map-map}
use Rattle.stream_memory.specs.Ports.{kept_of, port_state}
use Rattle.stream_memory.specs.declared.mem_port.MemPort.{MemPort}
use Rattle.stream_memory.proofs.mem_net.MemNetNet.gather.Goals as goal
use Rattle.stream_io.specs.Net.{SomeFailed, SomeUnaccepted}
use Rattle.stream_io.specs.Store.{RisesWhere}

pub returns-clause-kept : goal.returns-clause-kept
returns-clause-kept c =
    let state = λ (port : MemPort). port_state (kept_of port) in
    let many : c.len.result ≡ length c.args.ports.items = search rules in
    record {
      count = subst (λ ports. RisesWhere (SomeFailed (map state ports)) c.args.self.now.calls.faults c.count_failed.new.calls.faults) c.deref.ensures.value c.count_failed.ensures.rises;
      port_count = subst (λ ports. RisesWhere (SomeUnaccepted (map state ports)) c.args.self.now.port_faults c.count_unaccepted.new.port_faults) c.deref-2.ensures.value c.count_unaccepted.ensures;
      out = λ _. c.saturating_sub-self.ensures ∙ ap (λ n. c.args.self.now.out - n) (many ∙ sym (length-map c.args.ports.items state));
      kept = λ _. ap (map port_state) c.keep.ensures ∙ map-append port_state c.args.self.now.kept _ ∙ ap (λ l. map port_state c.args.self.now.kept ++ l) (map-map port_state kept_of c.args.ports.items);
    }
