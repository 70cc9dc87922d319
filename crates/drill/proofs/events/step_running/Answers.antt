use Rattle.std.proofs.Common.{◌∙◌, refl}
use Rattle.std.proofs.lemmas.Result.{err_from_is_err_and}
use Rattle.drill.specs.Courses.{world}
use Rattle.drill.proofs.Asked.{granted-digest}
use Rattle.drill.proofs.Noting.{keeps-all, noted, second-there}
use Rattle.drill.proofs.Starting.{ask-moves, not-all, put-granted}
use Rattle.drill.proofs.Playing.{none-asked}
use Rattle.drill.proofs.events.step_running.Goals as goal

pub answered-requires-clause-digest : goal.answered-requires-clause-digest
answered-requires-clause-digest c = granted-digest c.in_ok-trustees.grant c.in-Some.next.ask c.in_ok-trustees.ensures.ask c.in-Some.ensures.sizes.digest

pub returns-in_default-clause-goes : goal.returns-in_default-clause-goes
returns-in_default-clause-goes c = λ own map shares course awaited.
    absurd (not-all c.args.session course.session (course.of.plan_is ∙ c.args.desk.now.plan_is) awaited c.in_default.ensures.none)

pub returns-clause-goes : goal.returns-clause-goes
returns-clause-goes c = λ own map shares course awaited.
    let desk = c.args.desk.now in
    let i = c.args.i in
    let s = c.args.session in
    let next = c.in-Some.next in
    let new = c.in_ok-trustees.trustees in
    let put = c.in_ok-trustees.ensures in
    let granted = put-granted desk own i map c.args.trustees new s _ next c.in_ok-trustees.grant course shares c.message_of-message.ensures c.in-Some.ensures.next put.shares put.ask put.granted put.sets in
    let goes = c.in_ok-seat.ensures.goes own (world map c.args.trustees) granted in
    ask-moves desk own.dealing i map c.args.trustees new s next c.in_ok-seat.seat c.one-asks.result course granted.next_is granted.shares granted.sets goes
    (c.one-asks.ensures.granted (c.is_some.ensures ∙ granted.granted)) c.one-asks.ensures.put

pub returns-in_default-clause-openings : goal.returns-in_default-clause-openings
returns-in_default-clause-openings c = λ own map count inside different shares course awaited before.
    absurd (not-all c.args.session course.session (course.of.plan_is ∙ c.args.desk.now.plan_is) awaited c.in_default.ensures.none)

pub returns-clause-openings : goal.returns-clause-openings
returns-clause-openings c = λ own map count inside different shares course awaited before.
    let desk = c.args.desk.now in
    let i = c.args.i in
    let s = c.args.session in
    let next = c.in-Some.next in
    let new = c.in_ok-trustees.trustees in
    let put = c.in_ok-trustees.ensures in
    let granted = put-granted desk own i map c.args.trustees new s _ next c.in_ok-trustees.grant course shares c.message_of-message.ensures c.in-Some.ensures.next put.shares put.ask put.granted put.sets in
    let goes = c.in_ok-seat.ensures.goes own (world map c.args.trustees) granted in
    record {
      own = noted desk own.dealing i count inside map _ s next _ _ different course granted.next_is put.notes before;
      keeps = keeps-all _ _ next.member next.ask put.notes;
      some = λ has. put.some granted.granted (second-there desk own.dealing i map _ _ s next c.in_ok-seat.seat course granted.next_is goes has);
    }

pub next_ask-requires-clause-key : goal.next_ask-requires-clause-key
next_ask-requires-clause-key c = c.requires.of.key_is

pub next_ask-requires-clause-plan : goal.next_ask-requires-clause-plan
next_ask-requires-clause-plan c = c.requires.of.plan_is

pub put_ask-requires-clause-member : goal.put_ask-requires-clause-member
put_ask-requires-clause-member c = c.in-Some.ensures.within

pub put_ask-requires-clause-sizes : goal.put_ask-requires-clause-sizes
put_ask-requires-clause-sizes c = c.in-Some.ensures.sizes

pub answered-requires-clause-of : goal.answered-requires-clause-of
answered-requires-clause-of c = c.requires.of

pub returns-in_default-clause-to : goal.returns-in_default-clause-to
returns-in_default-clause-to c = record { fits = c.requires.of; bound = none-asked 1; cut = refl }

pub returns-in_default-clause-shares : goal.returns-in_default-clause-shares
returns-in_default-clause-shares c = λ t trustee. refl

pub returns-clause-to : goal.returns-clause-to
returns-clause-to c = record { fits = c.in_ok-seat.ensures.fits; bound = c.one-asks.ensures.bound; cut = c.one-asks.ensures.cut }

pub returns-clause-shares : goal.returns-clause-shares
returns-clause-shares c = c.in_ok-trustees.ensures.shares

pub answered-requires-clause-member : goal.answered-requires-clause-member
answered-requires-clause-member c = c.in-Some.ensures.within

pub answered-requires-clause-message : goal.answered-requires-clause-message
answered-requires-clause-message c = c.message_of-message.ensures

pub returns-in_err-trustees-clause-to : goal.returns-in_err-trustees-clause-to
returns-in_err-trustees-clause-to c = rw (err_from_is_err_and c.from_residual.result c.from_residual.ensures.1).1 tt

pub returns-in_err-trustees-clause-shares : goal.returns-in_err-trustees-clause-shares
returns-in_err-trustees-clause-shares c = rw (err_from_is_err_and c.from_residual.result c.from_residual.ensures.1).1 tt

pub returns-in_err-trustees-clause-goes : goal.returns-in_err-trustees-clause-goes
returns-in_err-trustees-clause-goes c = λ own map shares course awaited. rw (err_from_is_err_and c.from_residual.result c.from_residual.ensures.1).1 tt

pub returns-in_err-trustees-clause-openings : goal.returns-in_err-trustees-clause-openings
returns-in_err-trustees-clause-openings c = λ own map count inside different shares course awaited before. rw (err_from_is_err_and c.from_residual.result c.from_residual.ensures.1).1 tt

pub returns-in_err-seat-clause-to : goal.returns-in_err-seat-clause-to
returns-in_err-seat-clause-to c = rw (err_from_is_err_and c.from_residual-in_err-seat.result c.from_residual-in_err-seat.ensures.1).1 tt

pub returns-in_err-seat-clause-shares : goal.returns-in_err-seat-clause-shares
returns-in_err-seat-clause-shares c = rw (err_from_is_err_and c.from_residual-in_err-seat.result c.from_residual-in_err-seat.ensures.1).1 tt

pub returns-in_err-seat-clause-goes : goal.returns-in_err-seat-clause-goes
returns-in_err-seat-clause-goes c = λ own map shares course awaited. rw (err_from_is_err_and c.from_residual-in_err-seat.result c.from_residual-in_err-seat.ensures.1).1 tt

pub returns-in_err-seat-clause-openings : goal.returns-in_err-seat-clause-openings
returns-in_err-seat-clause-openings c = λ own map count inside different shares course awaited before. rw (err_from_is_err_and c.from_residual-in_err-seat.result c.from_residual-in_err-seat.ensures.1).1 tt
