use Rattle.std.proofs.Common.{arith, refl}
use Rattle.coalition_map.proofs.MemberLaws.{below-all, below-more_in, below-more_out, below-none}
use Rattle.coalition_map.specs.Members.{IsAscendingIn}
use Rattle.tool_base.proofs.Numbers.{members_ascend, spaced_more}
use Rattle.tool_base.proofs.unsigned.numbers_of.Goals as goal
use Rattle.tool_base.proofs.unsigned.numbers_of.Goals.{then-has+in_ok-number+in_ok-push_str, else-has}

pub members-init : goal.members-init
members-init c =
    let asc : IsAscendingIn 1 17 c.args.members = rw c.bits-bits.ensures.same (members_ascend c.bits-bits.result) in
    rw (below-none 1 17 1 c.args.members asc (omega arith)) c.new-numbers.ensures.bytes

pub members-preserved : goal.members-preserved
members-preserved c =
    let asc : IsAscendingIn 1 17 c.args.members = rw c.bits-bits.ensures.same (members_ascend c.bits-bits.result) in
    elim c.if-has.branch [
      | then-has+in_ok-number+in_ok-push_str w ↦
          let next = below-more_in 1 17 c.members.member-counter c.args.members asc (c.has.ensures.0 w.if-has.true) in
          rw (next, w.numbers-is, spaced_more, ← c.members.invariant, ← w.in_ok-number.ensures.ok, w.in_ok-push_str.ensures.bytes, w.as_str.ensures.value) refl
      | else-has w ↦
          let same = below-more_out c.members.member-counter c.args.members (λ m. let has = c.has.ensures.1 m in let not = w.if-has.false in cc) in
          rw (same, w.numbers-is) c.members.invariant
    ]

pub returns : goal.returns
returns c =
    let asc : IsAscendingIn 1 17 c.args.members = rw c.bits-bits.ensures.same (members_ascend c.bits-bits.result) in
    let all = below-all 1 17 c.members.member-counter c.args.members asc (omega arith) in
    rw all at c.members.invariant
