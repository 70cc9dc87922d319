use Rattle.std.proofs.Common.{arith}
use Rattle.std.proofs.lemmas.List.{map-append}
use Rattle.coalition_map.proofs.MemberLaws.{below-none, below-all, below-more_in, below-more_out}
use Rattle.session_core.proofs.seat.empty_seats.Goals as goal
use Rattle.session_core.proofs.seat.empty_seats.Goals.{then-has+in_ok-new+in_ok-push, else-has}

pub trustees-init : goal.trustees-init
trustees-init c = rw (below-none 1 _ 1 c.args.members c.requires.ascending (omega arith)) c.new-seats.ensures.items

pub trustees-preserved : goal.trustees-preserved
trustees-preserved c =
    elim c.if-has.branch [
      | then-has+in_ok-new+in_ok-push w ↦
          let next = below-more_in 1 _ c.trustees.t c.args.members c.requires.ascending (c.has.ensures.0 w.if-has.true) in
          rw (next, w.seats-is, map-append, ← c.trustees.invariant, ← w.in_ok-new.ensures) w.in_ok-push.ensures.items
      | else-has w ↦
          let same = below-more_out c.trustees.t c.args.members (λ m. let has = c.has.ensures.1 m in let not = w.if-has.false in cc) in
          rw (same, w.seats-is) c.trustees.invariant
    ]

pub returns : goal.returns
returns c =
    let all = below-all 1 _ c.trustees.t c.args.members c.requires.ascending (omega arith) in
    rw all at c.trustees.invariant
