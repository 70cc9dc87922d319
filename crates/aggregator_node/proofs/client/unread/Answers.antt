use Rattle.std.proofs.Common.{true≢false, refl, sym, ◌∙◌}
use Rattle.aggregator_node.specs.Clients.{memory_wanted, nothing_written}
use Rattle.aggregator_node.proofs.client.unread.Goals as goal

pub returns-then-eq-clause-step : goal.returns-then-eq-clause-step
returns-then-eq-clause-step g c =
    let w = c.write_outcome.ensures in
    memory_wanted c.write_outcome.result _ _ (λ is. true≢false (sym c.if-eq.true ∙ (rw is at c.eq.ensures))) w.wrote w.only w.cause c.answered.ensures
    (λ sure. w.succeeds sure.0 sure.1)

pub returns-clause-step : goal.returns-clause-step
returns-clause-step g c =
    rw c.end_by.ensures (nothing_written (λ is. true≢false (sym (rw is at c.eq.ensures) ∙ c.if-eq.false)) refl)

pub returns-then-eq-clause-room : goal.returns-then-eq-clause-room
returns-then-eq-clause-room g c = c.write_outcome.ensures.room

pub returns-then-eq-clause-steady : goal.returns-then-eq-clause-steady
returns-then-eq-clause-steady g c = c.write_outcome.ensures.steady

pub returns-clause-steady : goal.returns-clause-steady
returns-clause-steady g c = refl
