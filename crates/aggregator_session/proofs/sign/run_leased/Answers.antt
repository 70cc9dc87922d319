use Rattle.std.proofs.Common.{◌≡◌, ◌<◌, ◌^◌, ℕ, Result, Err, refl, sym, ap, subst, ◌∙◌}
use Rattle.aggregator_session.specs.Causes.{PortCauses, ReferenceCauses}
use Rattle.aggregator_session.specs.declared.fault.SignFault.{SignFault}
use Rattle.aggregator_session.specs.declared.fault.SignFault.TheVariants.{Session, Table as TableFailed, TooLong}
use Rattle.aggregator_session.specs.declared.sign.Signed.{Signed}
use Rattle.leaf_table.specs.declared.faults.TableFault.{TableFault}
use Rattle.session_core.specs.declared.faults.SessionFault.TheVariants.{Reference}
use Rattle.aggregator_session.specs.Signing.{not_leased, signature_in, too_long}
use Rattle.aggregator_session.specs.Tables.{table_seen}
use Rattle.aggregator_session.proofs.Signing.{asks-as, cells-none, cells-signed, leased-to, none-accepted, not-begun, port-none, port-signed, signed-accepted, table-then}
use Rattle.coalition_map.specs.Coalitions.{PlanNumbers}
use Rattle.aggregator_session.proofs.sign.run_leased.Goals as goal

-- neither is a reference that was not read
never-long : (got : ℕ) → ◌≡◌ {A = Result Signed SignFault} (Err (TooLong got)) (Err (Session Reference)) → ⊥
never-long got is = absurd (cc)

never-table : (fault : TableFault) → ◌≡◌ {A = Result Signed SignFault} (Err (TableFailed fault)) (Err (Session Reference)) → ⊥
never-table fault is = absurd (cc)

pub returns-then-message-clause-signs : goal.returns-then-message-clause-signs
returns-then-message-clause-signs g c = not-begun (ap signature_in c.not_begun.ensures.0) c.not_begun.ensures.1 (too_long c.if-message.true refl) refl

pub returns-in-Err-clause-signs : goal.returns-in-Err-clause-signs
returns-in-Err-clause-signs g c =
    not-begun (ap signature_in c.not_begun-in-Err.ensures.0) c.not_begun-in-Err.ensures.1 (not_leased (table_seen c.lease.new.self) c.in-Err.fault c.if-message.false refl
    (asks-as c.args.message.now c.of-id.ensures c.in-Err.ensures.event tt tt c.in-Err.ensures.enters)) refl

pub returns-clause-signs : goal.returns-clause-signs
returns-clause-signs g c =
    leased-to c.signed_with.ensures.answer c.if-message.false c.of-id.ensures
    (asks-as c.args.message.now c.of-id.ensures c.in-Ok.ensures.event c.in-Ok.ensures.within c.in-Ok.ensures.leased c.in-Ok.ensures.enters)
    c.run_on-outcome.ensures.runs c.spent_by.ensures c.burn_spent.ensures.spends

pub returns-then-message-clause-port : goal.returns-then-message-clause-port
returns-then-message-clause-port g c =
    let port = g.P.Port.state c.args.port.now in
    subst (λ (r : Result Signed SignFault). PortCauses c.args.message.now port port r) (sym c.not_begun.ensures.0) (port-none _ port _ (λ why lost. lost))

pub returns-then-message-clause-cells : goal.returns-then-message-clause-cells
returns-then-message-clause-cells g c =
    let cells = c.args.cells.now in
    subst (λ (r : Result Signed SignFault). ReferenceCauses g.R.Cells g.R.Faults cells cells r) (sym c.not_begun.ensures.0) (cells-none g.R.Cells g.R.Faults cells _ (never-long _))

pub returns-in-Err-clause-port : goal.returns-in-Err-clause-port
returns-in-Err-clause-port g c =
    let port = g.P.Port.state c.args.port.now in
    subst (λ (r : Result Signed SignFault). PortCauses c.args.message.now port port r) (sym c.not_begun-in-Err.ensures.0) (port-none _ port _ (λ why lost. lost))

pub returns-in-Err-clause-cells : goal.returns-in-Err-clause-cells
returns-in-Err-clause-cells g c =
    let cells = c.args.cells.now in
    subst (λ (r : Result Signed SignFault). ReferenceCauses g.R.Cells g.R.Faults cells cells r) (sym c.not_begun-in-Err.ensures.0) (cells-none g.R.Cells g.R.Faults cells _ (never-table _))

pub returns-in-Err-clause-table : goal.returns-in-Err-clause-table
returns-in-Err-clause-table g c = c.in-Err.ensures.enters.stays

pub returns-clause-port : goal.returns-clause-port
returns-clause-port g c =
    port-signed c.run_on-outcome.result.outcome c.args.message.now _ _ c.signed_with.result c.signed_with.ensures.err c.run_on-outcome.ensures.port

pub returns-clause-cells : goal.returns-clause-cells
returns-clause-cells g c =
    cells-signed c.run_on-outcome.result.outcome g.R.Cells g.R.Faults _ _ c.signed_with.result c.signed_with.ensures.err c.run_on-outcome.ensures.cells

pub returns-clause-table : goal.returns-clause-table
returns-clause-table g c = table-then c.args.table.now c.lease.new.self c.burn_spent.new.table c.in-Ok.ensures.enters.stays c.burn_spent.ensures.stays

pub returns-then-message-clause-accepted : goal.returns-then-message-clause-accepted
returns-then-message-clause-accepted g c = none-accepted _ _ _ _ c.not_begun.ensures.0

pub returns-in-Err-clause-accepted : goal.returns-in-Err-clause-accepted
returns-in-Err-clause-accepted g c = none-accepted _ _ _ _ c.not_begun-in-Err.ensures.0

pub returns-clause-accepted : goal.returns-clause-accepted
returns-clause-accepted g c =
    signed-accepted c.run_on-outcome.result.outcome c.signed_with.result _ _ _ c.signed_with.ensures.ok
    c.run_on-outcome.ensures.accepted

pub run_on-outcome-requires-clause-leaf : goal.run_on-outcome-requires-clause-leaf
run_on-outcome-requires-clause-leaf g c κs within =
    subst (λ (plan : PlanNumbers). c.in-Ok.leaf < 2 ^ plan.h) (c.in-Ok.ensures.enters.stays.plan ∙ c.requires.plan)
    c.in-Ok.ensures.within
