use Rattle.std.proofs.Common.{◌≡◌, ◌∙◌, arith}
use Rattle.drill.proofs.Seating.{waiting-more, waiting-none}
use Rattle.drill.proofs.start.waiting.Goals as goal

pub sessions-init : goal.sessions-init
sessions-init c =
    let wait = waiting-none c.in_ok-seats.seats.items c.in_ok-seats.ensures.items in
    record { count = wait.count; waiting = wait.waiting }

pub sessions-preserved : goal.sessions-preserved
sessions-preserved c =
    let before = c.sessions.invariant in
    let wait = waiting-more c.sessions.seats.items c.push.new.self.items c.sessions.i c.in_ok-push.ensures.items before.count before.waiting in
    record { count = wait.count; waiting = wait.waiting }

pub returns-clause-count : goal.returns-clause-count
returns-clause-count c =
    let all : c.sessions.i ≡ c.args.sessions = omega arith in
    c.sessions.invariant.count ∙ all

pub returns-clause-waiting : goal.returns-clause-waiting
returns-clause-waiting c = c.sessions.invariant.waiting
