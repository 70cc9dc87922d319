use Rattle.std.proofs.Common.{◌-◌, length, ap, arith, ◌∙◌}
use Rattle.coalition_map.proofs.MemberLaws.{below-none, below-all, below-more_in, below-more_out}
use Rattle.mask_prf.proofs.Lengths.{length-check_tag_of}
use Rattle.reference_value.proofs.Committing.{key-known, writing-none, writing-more, writing-all}
use Rattle.reference_value.proofs.Members.{member-room}
use Rattle.reference_value.proofs.committed.write_tags.Goals as goal
use Rattle.reference_value.proofs.committed.write_tags.Goals.{then-has, else-has}

pub trustees-init : goal.trustees-init
trustees-init c =
    let none = below-none 1 _ 1 c.args.leaf.now.members c.requires.members.ascending (omega arith) in
    rw none (writing-none _ c.args.out.now)

pub put-requires : goal.put-requires
put-requires c =
    let room = member-room _ c.trustees.t c.args.leaf.now.members c.requires.members.ascending (c.has.ensures.0 c.if-has.true) in
    omega (arith, c.trustees.invariant.ends)

pub overflow_add-place : goal.overflow_add-place
overflow_add-place c =
    let room = member-room _ c.trustees.t c.args.leaf.now.members c.requires.members.ascending (c.has.ensures.0 c.if-has.true) in
    omega (arith, c.trustees.invariant.ends)

pub trustees-preserved : goal.trustees-preserved
trustees-preserved c =
    elim c.if-has.branch [
      | then-has w ↦
          let next = below-more_in 1 _ c.trustees.t c.args.leaf.now.members c.requires.members.ascending (c.has.ensures.0 w.if-has.true) in
          let key = key-known c.args.leaf.now.keys.now (c.trustees.t - 1) w.index-leaf-t.result (omega arith) in
          let is = rw key at w.check_tag.ensures in
          rw (next, w.place-is, w.out-is) (writing-more _ _ c.trustees.t c.trustees.place _ _ w.check_tag.result c.trustees.invariant
          is (ap length w.check_tag.ensures ∙ length-check_tag_of _ _ _ _) w.put.ensures.front)
      | else-has w ↦
          let same = below-more_out c.trustees.t c.args.leaf.now.members (λ m. let has = c.has.ensures.1 m in let not = w.if-has.false in cc) in
          rw (same, w.place-is, w.out-is) c.trustees.invariant
    ]

pub returns : goal.returns
returns c =
    let all = below-all 1 _ c.trustees.t c.args.leaf.now.members c.requires.members.ascending (omega arith) in
    writing-all _ c.args.leaf.now.members c.trustees.place c.trustees.out (rw all at c.trustees.invariant) (omega arith)
