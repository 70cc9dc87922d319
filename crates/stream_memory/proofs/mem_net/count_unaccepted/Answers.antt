use Rattle.std.proofs.Common.{rules, sym, ◌∙◌}
use Rattle.stream_memory.specs.Ports.{kept_of, port_state}
use Rattle.stream_memory.proofs.Ports.{rises, stays}
use Rattle.stream_memory.proofs.mem_net.count_unaccepted.Goals as goal

pub returns-then-some_unaccepted : goal.returns-then-some_unaccepted
returns-then-some_unaccepted c =
    rises (λ port. port_state (kept_of port)) (λ port. port.accept_count) c.args.ports.now _ _ (sym c.some_unaccepted.ensures ∙ c.if-some_unaccepted.true) (search rules) (search rules)

pub returns-else-some_unaccepted : goal.returns-else-some_unaccepted
returns-else-some_unaccepted c =
    stays (λ port. port_state (kept_of port)) (λ port. port.accept_count) c.args.ports.now _ (sym c.some_unaccepted.ensures ∙ c.if-some_unaccepted.false)
