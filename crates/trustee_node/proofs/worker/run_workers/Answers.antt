use Rattle.std.proofs.Common.{◌≡◌, ◌<◌, ◌≤◌, length, subst, arith}
use Rattle.std.specs.Option.{option_map}
use Rattle.trustee_core.specs.Approved.{ids_of}
use Rattle.trustee_node.specs.Turns.{IsIdle}
use Rattle.trustee_node.specs.Workers.{WorkEnds, Worked, worker_state}
use Rattle.trustee_node.proofs.worker.run_workers.Goals as goal

-- what a call says of its argument before it and after it, said of what stands in the lists
changed : {T : Type 0} (Q : T → T → Type 0) (before after old new : T) → before ≡ old → after ≡ new → Q before after → Q old new
changed {T} Q before after old new is left holds = subst (λ (x : T). Q x new) is (subst (λ (x : T). Q before x) left holds)

pub returns-then-threads-eq0-clause-worked : goal.returns-then-threads-eq0-clause-worked
returns-then-threads-eq0-clause-worked g c = λ i d below. absurd (omega (arith, c.if-threads-eq0.true, below))

pub returns-then-threads-eq0-clause-pass : goal.returns-then-threads-eq0-clause-pass
returns-then-threads-eq0-clause-pass g c = c.requires

pub returns-then-threads-eq0-clause-most : goal.returns-then-threads-eq0-clause-most
returns-then-threads-eq0-clause-most g c = λ i d below. absurd (omega (arith, c.if-threads-eq0.true, below))

pub returns-then-threads-eq0-clause-ends : goal.returns-then-threads-eq0-clause-ends
returns-then-threads-eq0-clause-ends g c = λ i d below. absurd (omega (arith, c.if-threads-eq0.true, below))

pub returns-clause-worked : goal.returns-clause-worked
returns-clause-worked g c = λ i d below.
    let state = worker_state g.P.Port.state g.C.Clock.told g.C.Clock.answers in
    let change = (c.for_each_mut.ensures i d below).1 in
    changed (λ old new. Worked c.args.share.now (option_map (λ b. ids_of b.now) c.args.book) (state old) (state new)) _ _ _ _ change.argument_is change.left change.call.0

pub returns-clause-pass : goal.returns-clause-pass
returns-clause-pass g c = λ i d below.
    let inside : i < length c.args.workers.now = omega (arith, c.for_each_mut.auto.s, below) in
    let change = (c.for_each_mut.ensures i d inside).1 in
    subst (λ worker. IsIdle c.args.lock.now c.args.share.now worker.pass) change.left change.call.1

pub returns-clause-most : goal.returns-clause-most
returns-clause-most g c = λ i d below.
    let inside : i < length c.args.workers.now = omega (arith, c.for_each_mut.auto.s, below) in
    let change = (c.for_each_mut.ensures i d inside).1 in
    subst (λ worker. worker.connections ≤ c.args.connections) change.left change.call.2

pub returns-clause-ends : goal.returns-clause-ends
returns-clause-ends g c = λ i d below.
    let inside : i < length c.args.workers.now = omega (arith, c.for_each_mut.auto.s, below) in
    let state = worker_state g.P.Port.state g.C.Clock.told g.C.Clock.answers in
    let change = (c.for_each_mut.ensures i d inside).1 in
    subst (λ worker. WorkEnds c.args.connections (state worker)) change.left change.call.3
