use Rattle.std.proofs.Common.{rules, sym, ◌∙◌}
use Rattle.stream_memory.specs.Ports.{kept_of, port_state}
use Rattle.stream_memory.proofs.Ports.{rises, stays}
use Rattle.stream_memory.proofs.mem_net.count_failed.Goals as goal

pub returns-then-some_failed-clause-rises : goal.returns-then-some_failed-clause-rises
returns-then-some_failed-clause-rises c =
    rises (λ port. port_state (kept_of port)) (λ port. port.count) c.args.ports.now _ _ (sym c.some_failed.ensures ∙ c.if-some_failed.true) c.fail.ensures.later (search rules)

pub returns-else-some_failed-clause-rises : goal.returns-else-some_failed-clause-rises
returns-else-some_failed-clause-rises c =
    stays (λ port. port_state (kept_of port)) (λ port. port.count) c.args.ports.now _ (sym c.some_failed.ensures ∙ c.if-some_failed.false)
