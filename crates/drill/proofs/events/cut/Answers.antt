use Rattle.std.proofs.lemmas.Result.{err_from_is_err_and}
use Rattle.drill.specs.Courses.{uses_of}
use Rattle.drill.proofs.Dropping.{goes, puts-none, puts-one}
use Rattle.drill.proofs.Seated.{cut-some, may-of}
use Rattle.drill.proofs.Seating.{fits-here}
use Rattle.drill.proofs.events.cut.Goals as goal

pub next_of-requires : goal.next_of-requires
next_of-requires c = record { fits = fits-here c.args.desk.now c.args.drill c.args.i _ c.requires.is_for c.requires.within c.index.ensures }

pub returns-clause-goes : goal.returns-clause-goes
returns-clause-goes c = λ own good.
    let desk = c.args.desk.now in
    let drill = c.args.drill in
    let seat = c.index.result.now in
    let next = c.in-Some.next in
    let is = c.in-Some.ensures.next in
    let new = c.in_ok-trustees.trustees in
    let asked = c.in_ok-trustees.ensures in
    let going = goes desk own c.args.i drill seat good c.requires.within c.index.ensures in
    let may = may-of desk own c.args.i (uses_of drill.table) drill.trustees seat next going good.shares is in
    let some = cut-some drill.trustees new next c.in_ok-trustees.answer (asked.sets may) in
    puts-one desk own c.args.i drill seat good c.requires.within c.index.ensures new _ next some.state c.one_of.result is asked.shares some.sets some.known
    (c.one_of.ensures.parts some.answered) c.one_of.ensures.put asked.notes

pub returns-in_default-clause-goes : goal.returns-in_default-clause-goes
returns-in_default-clause-goes c = λ own good.
    puts-none c.args.desk.now own c.args.i c.args.drill c.index.result.now good c.requires.within c.index.ensures c.in_default.ensures.none

pub put_cut-requires-clause-member : goal.put_cut-requires-clause-member
put_cut-requires-clause-member c = c.in-Some.ensures.within

pub put_cut-requires-clause-sizes : goal.put_cut-requires-clause-sizes
put_cut-requires-clause-sizes c = c.in-Some.ensures.sizes

pub returns-in_err-trustees-clause-stays : goal.returns-in_err-trustees-clause-stays
returns-in_err-trustees-clause-stays c = rw (err_from_is_err_and c.from_residual.result c.from_residual.ensures.1).1 tt

pub returns-in_err-trustees-clause-goes : goal.returns-in_err-trustees-clause-goes
returns-in_err-trustees-clause-goes c = λ own good. rw (err_from_is_err_and c.from_residual.result c.from_residual.ensures.1).1 tt
