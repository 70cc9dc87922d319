use Rattle.drill.proofs.Stepping.{all-of, awaited-of, runs-on}
use Rattle.drill.proofs.steps.advance.Goals as goal

pub returns-then-is_some-clause-goes : goal.returns-then-is_some-clause-goes
returns-then-is_some-clause-goes c = λ own map leaves course.
    let next = c.next_member.ensures in
    runs-on c.args.desk.now own c.args.i map leaves c.args.session course
    (awaited-of c.args.session c.next_member.result c.is_some.result c.is_some.ensures c.if-is_some.true next.member next.none_kept)

pub returns-in-None-clause-goes : goal.returns-in-None-clause-goes
returns-in-None-clause-goes c = λ own map leaves course.
    c.turn.ensures.goes own map leaves course (all-of c.args.session c.next_member.result c.is_some.result c.is_some.ensures c.if-is_some.false c.next_member.ensures.none)

pub returns-in-Some-clause-goes : goal.returns-in-Some-clause-goes
returns-in-Some-clause-goes c = λ own map leaves course.
    c.finish.ensures.goes own map leaves course (all-of c.args.session c.next_member.result c.is_some.result c.is_some.ensures c.if-is_some.false c.next_member.ensures.none)
