use Rattle.std.proofs.Common.{Err, Ok, refl}
use Rattle.leaf_table.specs.Leasing.{free, kept, none}
use Rattle.leaf_table.specs.Steps as steps
use Rattle.leaf_table.specs.Table.{plan_of, state_of}
use Rattle.leaf_table.specs.declared.faults.TableFault.TheVariants.{NoLeaf}
use Rattle.leaf_table.specs.declared.lease.Lease.TheVariants.{Leased}
use Rattle.lms_bytes.specs.MessageId.{message_id_bytes}
use Rattle.slot_file.specs.declared.slot.Slot.TheVariants.{Half}
use Rattle.leaf_table.proofs.Entering.{enters-none, put-none}
use Rattle.leaf_table.proofs.Events.{leased-in}
use Rattle.leaf_table.proofs.table.Table.lease_of.Goals as goal

pub returns-in-Some-clause-event : goal.returns-in-Some-clause-event
returns-in-Some-clause-event g c =
    let found = c.in-Some.ensures.least in
    (kept c.in-Some.leaf found, steps.kept found.used)

pub returns-in_default-free_leaf-clause-event : goal.returns-in_default-free_leaf-clause-event
returns-in_default-free_leaf-clause-event g c =
    (refl, refl, none (c.in_default.ensures.none) c.in_default-free_leaf.ensures.none)

pub returns-clause-event : goal.returns-clause-event
returns-clause-event g c =
    let self = c.args.self.now in
    let leaf = c.in-Some-free_leaf.leaf in
    let leased = c.in_default.ensures.none in
    let found = c.in-Some-free_leaf.ensures.least in
    leased-in (plan_of self) (state_of self) (state_of c.put_lease.new.self) c.args.message.now c.args.c leaf c.put_lease.result
    (free leaf leased found) found.used c.put_lease.ensures.event c.put_lease.ensures.leaf

pub returns-in-Some-clause-within : goal.returns-in-Some-clause-within
returns-in-Some-clause-within g c = c.in-Some.ensures.least.own.leaf

pub returns-in-Some-clause-leased : goal.returns-in-Some-clause-leased
returns-in-Some-clause-leased g c = let found = c.in-Some.ensures.least in found.used

pub returns-in-Some-clause-enters : goal.returns-in-Some-clause-enters
returns-in-Some-clause-enters g c = enters-none c.args.self.now (Ok c.in-Some.leaf) (λ leaf a b is. absurd (cc)) (λ is. absurd (cc))

pub returns-in_default-free_leaf-clause-enters : goal.returns-in_default-free_leaf-clause-enters
returns-in_default-free_leaf-clause-enters g c = enters-none c.args.self.now (Err (NoLeaf c.args.c)) (λ leaf a b is. absurd (cc)) (λ is. absurd (cc))

pub returns-clause-enters : goal.returns-clause-enters
returns-clause-enters g c = c.put_lease.ensures.enters

pub returns-clause-idle : goal.returns-clause-idle
returns-clause-idle g c = λ none same fine.
    let leaf = c.in-Some-free_leaf.leaf in
    let message = c.args.message.now in
    put-none (state_of c.args.self.now) (state_of c.put_lease.new.self) (Leased leaf message) leaf (Half (message_id_bytes message)) c.put_lease.result
    c.put_lease.ensures.event c.put_lease.ensures.new same fine
