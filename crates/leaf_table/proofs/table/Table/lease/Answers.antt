use Rattle.std.proofs.Common.{◌≡◌, ◌<◌, ◌∙◌, true, false, Err, ap, subst, sym}
use Rattle.coalition_map.specs.Coalitions.{count_of}
use Rattle.leaf_table.specs.Leasing as leasing
use Rattle.leaf_table.specs.Table.{plan_of, state_of}
use Rattle.leaf_table.proofs.Entering.{enters-after, enters-err, enters-none}
use Rattle.leaf_table.proofs.Events.{leases-in, leases-unsettled}
use Rattle.leaf_table.specs.declared.faults.TableFault.TheVariants.{NotACoalition}
use Rattle.leaf_table.proofs.table.Table.lease.Goals as goal

pub returns-in-Err-clause-enters : goal.returns-in-Err-clause-enters
returns-in-Err-clause-enters g c = enters-err _ _ c.in-Err.fault c.in-Err.ensures.enters

pub returns-clause-enters : goal.returns-clause-enters
returns-clause-enters g c = enters-after _ c.settle.new.self _ _ c.lease_of.result c.in_default-settle.ensures.enters c.lease_of.ensures.enters

pub returns-in_default-clause-event : goal.returns-in_default-clause-event
returns-in_default-clause-event g c = leasing.no_coalition (λ has. let no : false ≡ true = c.in_default.ensures.listed.1 has in absurd (cc))

pub returns-in-Err-clause-event : goal.returns-in-Err-clause-event
returns-in-Err-clause-event g c =
    let number = c.in-Some.ensures.number in
    leases-unsettled (plan_of c.args.self.now) (state_of c.args.self.now) (state_of c.settle.new.self) c.args.members c.args.message.now c.in-Some.c c.in-Err.fault
    (record { within = number.0; members_are = number.1 }) c.in-Err.ensures.event

pub returns-clause-event : goal.returns-clause-event
returns-clause-event g c =
    let number = c.in-Some.ensures.number in
    let plan = plan_of c.args.self.now in
    let event = rw c.settle.ensures.enters.stays.plan at c.lease_of.ensures.event in
    leases-in plan (state_of c.args.self.now) (state_of c.settle.new.self) (state_of c.lease_of.new.self) c.args.members c.args.message.now c.in-Some.c c.lease_of.result
    (record { within = number.0; members_are = number.1 }) c.in_default-settle.ensures.event.1 event

pub returns-in_default-clause-enters : goal.returns-in_default-clause-enters
returns-in_default-clause-enters g c = enters-none c.args.self.now (Err NotACoalition) (λ leaf a b is. absurd (cc)) (λ is. absurd (cc))

pub returns-in-Err-clause-idle : goal.returns-in-Err-clause-idle
returns-in-Err-clause-idle g c = λ none same fine. c.settle.ensures.idle none

pub lease_of-requires-clause-coalition : goal.lease_of-requires-clause-coalition
lease_of-requires-clause-coalition g c = subst (λ plan. c.in-Some.c < count_of plan) (sym c.settle.ensures.enters.stays.plan) c.in-Some.ensures.number.0

pub lease_of-requires-clause-settled : goal.lease_of-requires-clause-settled
lease_of-requires-clause-settled g c = c.in_default-settle.ensures.event.0

pub returns-clause-within : goal.returns-clause-within
returns-clause-within g c = c.lease_of.ensures.within

pub returns-clause-leased : goal.returns-clause-leased
returns-clause-leased g c = c.lease_of.ensures.leased

pub returns-clause-idle : goal.returns-clause-idle
returns-clause-idle g c = λ none same fine.
    let stays = c.settle.ensures.idle none in
    c.lease_of.ensures.idle c.in_default-settle.ensures.event.0 (same ∙ sym (ap (λ table. (state_of table).entries) stays)) fine ∙ stays
