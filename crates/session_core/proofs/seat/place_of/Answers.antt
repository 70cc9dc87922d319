use Rattle.std.proofs.Common.{◌≡◌, ◌∙◌, ap, sym, ◌+◌, drop, List, arith}
use Rattle.std.proofs.lemmas.List.{drop_all}
use Rattle.session_core.specs.Seats.{Seat, place_of}
use Rattle.session_core.proofs.Places.{place-nil, searching-here, searching-later}
use Rattle.session_core.proofs.seat.place_of.Goals as goal

pub returns-then-member-t : goal.returns-then-member-t
returns-then-member-t c =
    searching-here c.args.seats.now c.args.t c.seats.i c.index-seats-i.result (omega arith) c.seats.invariant
    (ap (λ (seat : Seat). seat.member) (sym c.index-seats-i.is) ∙ (sym c.member.ensures ∙ c.if-member-t.true))

pub seats-preserved : goal.seats-preserved
seats-preserved c =
    searching-later c.args.seats.now c.args.t c.seats.i c.index-seats-i.result (omega arith) c.seats.invariant
    (λ same. c.if-member-t.false (c.member.ensures ∙ (ap (λ (seat : Seat). seat.member) c.index-seats-i.is ∙ same)))

pub returns : goal.returns
returns c =
    let before : c.seats.i + place_of (drop c.seats.i c.args.seats.now) c.args.t ≡ place_of c.args.seats.now c.args.t = c.seats.invariant in
    let rest : place_of (drop c.seats.i c.args.seats.now) c.args.t ≡ 0 =
    ap (λ (l : List Seat). place_of l c.args.t) (drop_all c.seats.i c.args.seats.now (omega arith)) ∙ place-nil c.args.t in
    omega arith
