use Rattle.std.proofs.Common.{◌+◌, ◌*◌, ◌∙◌, subst, arith}
use Rattle.drill_schedule.specs.declared.draws.Schedule.{Schedule}
use Rattle.drill.specs.Tallies.{CountsOne}
use Rattle.drill.proofs.Playing.{plays-on}
use Rattle.drill.proofs.Counting.{drawn-below, within-more}
use Rattle.drill.proofs.run.play_next.Goals as goal

pub returns-clause-counted : goal.returns-clause-counted
returns-clause-counted c = λ number i is.
    let put = c.in_ok-played.ensures.stays.bound in
    let cut = c.in_ok-played.ensures.cut in
    let room = c.requires.room in
    let low = put.put in
    let parts = put.parts in
    let was = room.parts in
    let a = c.add.ensures.asks in
    let b = c.add.ensures.granted in
    let d = c.add.ensures.cuts in
    let e = c.add_restart.ensures.asks in
    let f = c.add_restart.ensures.granted in
    let g = c.add_restart.ensures.cuts in
    subst (λ (x : Schedule). CountsOne x.event c.args.tally.now c.add.new.self) (c.draw-schedule.ensures.schedule number i is) (record {
      within = record { asks = omega arith; parts = omega arith };
      cuts = omega arith;
      restarts = c.add.ensures.restarts ∙ c.add_restart.ensures.restarts;
    })

pub returns-clause-well : goal.returns-clause-well
returns-clause-well c = λ own number k is was.
    let played = c.in_ok-played.ensures.goes own was.well.good in
    let a = c.add.ensures.asks in
    let b = c.add.ensures.granted in
    let d = c.add.ensures.cuts in
    let e = c.add_restart.ensures.asks in
    let f = c.add_restart.ensures.granted in
    let g = c.add_restart.ensures.cuts in
    plays-on c.args.desk.now own.dealing number c.args.sessions k c.args.drill c.in_ok-played.played c.args.tally.now c.add.new.self c.in_ok-played.asks c.draw-schedule.result
    (c.draw-schedule.ensures.schedule number (176 + 3 * k) is) was played (omega arith) (omega arith) (omega arith)

pub play-requires-clause-is_for : goal.play-requires-clause-is_for
play-requires-clause-is_for c = c.requires.seated.is_for

pub play-requires-clause-within : goal.play-requires-clause-within
play-requires-clause-within c = drawn-below c.draw-schedule.result.session c.args.sessions _ c.requires.seated.count c.requires.some

pub add-requires-clause-asks : goal.add-requires-clause-asks
add-requires-clause-asks c = c.in_ok-played.ensures.stays.bound

pub add-requires-clause-room : goal.add-requires-clause-room
add-requires-clause-room c =
    let counted = c.add_restart.ensures in
    within-more 900000 1000000 c.args.tally.now c.add_restart.new.self c.requires.room (omega arith) counted.asks counted.granted counted.cuts

pub returns-clause-seated : goal.returns-clause-seated
returns-clause-seated c =
    let stays = c.in_ok-played.ensures.stays in
    record { is_for = stays.is_for; count = stays.count ∙ c.requires.seated.count }

pub returns-clause-state : goal.returns-clause-state
returns-clause-state c = c.draw-schedule.ensures.after

pub returns-in_err-played-clause-state : goal.returns-in_err-played-clause-state
returns-in_err-played-clause-state c = c.draw-schedule.ensures.after
