use Rattle.std.proofs.Common.{◌≡◌, ◌<◌, ◌∙◌, ℕ, Bool, Option, is_some, not, IfNone, IfSome, if◌then◌else◌, length, get_or, refl, sym, ap, subst, arith}
use Rattle.std.proofs.lemmas.Result.{err_from_is_err_and}
use Rattle.drill_trustees.specs.Trustees.{leaf_at}
use Rattle.reference_value.specs.Dealing.{Dealing}
use Rattle.drill.specs.Courses.{HasNoNext, IsGoing, IsGood, IsNextOf, asks_in, uses_of}
use Rattle.drill.specs.declared.asks.NextAsk.{NextAsk}
use Rattle.drill.specs.declared.desk.Desk.{Desk}
use Rattle.drill.specs.declared.seat.Seat.{Seat}
use Rattle.drill.specs.declared.seat.Seat.TheVariants.{Refused}
use Rattle.drill.specs.declared.state.Drill.{Drill}
use Rattle.drill.proofs.Following.{next-known}
use Rattle.drill.proofs.Playing.{none-asked, none-twice, some-twice}
use Rattle.drill.proofs.Seated.{get_or-any}
use Rattle.drill.proofs.Seating.{fits-here}
use Rattle.drill.proofs.events.ask_twice.Goals as goal

pub next_of-requires : goal.next_of-requires
next_of-requires c = record { fits = fits-here c.args.desk.now c.args.drill c.args.i _ c.requires.is_for c.requires.within c.index.ensures }

-- how many asks a step of the session puts, by whether it has a next ask
asks-are : (desk : Desk) (d : Dealing) (i : ℕ) (drill : Drill) (seat : Seat) (o : Option NextAsk) (b : Bool) → IsGood desk d drill → i < length drill.seats.items → seat ≡ get_or drill.seats.items i seat → is_some o ≡ not b
    → IfSome o (λ next. IsNextOf desk i next seat) → IfNone o (HasNoNext seat) → asks_in (get_or drill.seats.items i Refused) ≡ (if b then 0 else 1)
asks-are desk d i drill seat o b good within was is some none =
    let going = subst (λ (x : Seat). IsGoing desk d i (uses_of drill.table) (leaf_at drill.trustees) x) (sym was) (good.seats i seat within) in
    let here = was ∙ get_or-any drill.seats.items i seat Refused within in
    ap asks_in (sym here) ∙ next-known desk d i (uses_of drill.table) (leaf_at drill.trustees) seat o b is some none going

pub returns-then-is_none-clause-goes : goal.returns-then-is_none-clause-goes
returns-then-is_none-clause-goes c = λ own good.
    let n = asks-are c.args.desk.now own.dealing c.args.i c.args.drill c.index.result.now c.next_of.result c.is_none.result good c.requires.within c.index.ensures c.is_none.ensures
    c.next_of.ensures.next c.next_of.ensures.none in
    none-twice c.args.desk.now own.dealing c.args.i c.args.drill good c.requires.within _ (record { good = good; parts = refl }) refl
    (n ∙ ap (λ (b : Bool). if b then 0 else 1) c.if-is_none.true) refl

pub returns-clause-goes : goal.returns-clause-goes
returns-clause-goes c = λ own good.
    let n = asks-are c.args.desk.now own.dealing c.args.i c.args.drill c.index.result.now c.next_of.result c.is_none.result good c.requires.within c.index.ensures c.is_none.ensures
    c.next_of.ensures.next c.next_of.ensures.none in
    let first = c.in_ok-drill.ensures.goes own good in
    let second = c.in_ok-drill-2.ensures.goes own first.stays.good in
    some-twice c.args.desk.now own.dealing c.args.i c.args.drill good c.requires.within c.in_ok-drill.drill c.in_ok-drill-2.drill c.in_ok-drill.first c.in_ok-drill-2.second c.sum.result
    (n ∙ ap (λ (b : Bool). if b then 0 else 1) c.if-is_none.false) first second (record { good = second.stays.good; parts = c.sum.ensures.parts first.stays.parts second.stays.parts }) c.sum.ensures.put
    (let one = c.in_ok-drill.ensures.cut in let two = c.in_ok-drill-2.ensures.cut in let both = c.sum.ensures.cut in omega (arith, one, two, both))

pub returns-then-is_none-clause-stays : goal.returns-then-is_none-clause-stays
returns-then-is_none-clause-stays c = record { is_for = c.requires.is_for; count = refl; bound = none-asked 2 }

pub step-requires-clause-is_for : goal.step-requires-clause-is_for
step-requires-clause-is_for c = c.in_ok-drill.ensures.stays.is_for

pub step-requires-clause-within : goal.step-requires-clause-within
step-requires-clause-within c =
    let count = c.in_ok-drill.ensures.stays.count in
    let within = c.requires.within in
    omega (arith, count, within)

pub sum-requires-clause-first : goal.sum-requires-clause-first
sum-requires-clause-first c = c.in_ok-drill.ensures.stays.bound

pub sum-requires-clause-second : goal.sum-requires-clause-second
sum-requires-clause-second c = c.in_ok-drill-2.ensures.stays.bound

pub returns-clause-stays : goal.returns-clause-stays
returns-clause-stays c =
    let first = c.in_ok-drill.ensures.stays in
    let second = c.in_ok-drill-2.ensures.stays in
    record { is_for = second.is_for; count = second.count ∙ first.count; bound = c.sum.ensures.bound }

pub returns-in_err-drill-clause-stays : goal.returns-in_err-drill-clause-stays
returns-in_err-drill-clause-stays c = rw (err_from_is_err_and c.from_residual.result c.from_residual.ensures.1).1 tt

pub returns-in_err-drill-clause-cut : goal.returns-in_err-drill-clause-cut
returns-in_err-drill-clause-cut c = rw (err_from_is_err_and c.from_residual.result c.from_residual.ensures.1).1 tt

pub returns-in_err-drill-clause-goes : goal.returns-in_err-drill-clause-goes
returns-in_err-drill-clause-goes c = λ own good. rw (err_from_is_err_and c.from_residual.result c.from_residual.ensures.1).1 tt

pub returns-in_err-drill-2-clause-stays : goal.returns-in_err-drill-2-clause-stays
returns-in_err-drill-2-clause-stays c = rw (err_from_is_err_and c.from_residual-in_err-drill-2.result c.from_residual-in_err-drill-2.ensures.1).1 tt

pub returns-in_err-drill-2-clause-cut : goal.returns-in_err-drill-2-clause-cut
returns-in_err-drill-2-clause-cut c = rw (err_from_is_err_and c.from_residual-in_err-drill-2.result c.from_residual-in_err-drill-2.ensures.1).1 tt

pub returns-in_err-drill-2-clause-goes : goal.returns-in_err-drill-2-clause-goes
returns-in_err-drill-2-clause-goes c = λ own good. rw (err_from_is_err_and c.from_residual-in_err-drill-2.result c.from_residual-in_err-drill-2.ensures.1).1 tt
