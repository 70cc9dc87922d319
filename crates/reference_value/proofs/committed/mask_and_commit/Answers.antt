use Rattle.std.proofs.Common.{◌-◌, length, ap, arith, ◌∙◌}
use Rattle.sha2.specs.Sha256.{sha256}
use Rattle.sha2.proofs.Facts256.{length-sha256}
use Rattle.coalition_map.proofs.MemberLaws.{below-none, below-all, below-more_in, below-more_out}
use Rattle.reference_value.proofs.Committing.{key-known, committing-none, committing-more, writing-all}
use Rattle.reference_value.proofs.Members.{member-room}
use Rattle.reference_value.proofs.committed.mask_and_commit.Goals as goal
use Rattle.reference_value.proofs.committed.mask_and_commit.Goals.{then-has, else-has}

pub trustees-init : goal.trustees-init
trustees-init c =
    let none = below-none 1 _ 1 c.args.leaf.now.members c.requires.members.ascending (omega arith) in
    rw none (committing-none _ c.args.out.now c.args.commits.now)

pub put-requires : goal.put-requires
put-requires c =
    let room = member-room _ c.trustees.t c.args.leaf.now.members c.requires.members.ascending (c.has.ensures.0 c.if-has.true) in
    omega (arith, c.trustees.invariant.writes.ends)

pub overflow_add-place : goal.overflow_add-place
overflow_add-place c =
    let room = member-room _ c.trustees.t c.args.leaf.now.members c.requires.members.ascending (c.has.ensures.0 c.if-has.true) in
    omega (arith, c.trustees.invariant.writes.ends)

pub trustees-preserved : goal.trustees-preserved
trustees-preserved c =
    elim c.if-has.branch [
      | then-has w ↦
          let next = below-more_in 1 _ c.trustees.t c.args.leaf.now.members c.requires.members.ascending (c.has.ensures.0 w.if-has.true) in
          let key = key-known c.args.leaf.now.keys.now (c.trustees.t - 1) w.index-leaf-t.result (omega arith) in
          rw (next, w.place-is, w.out-is, w.commits-is) (committing-more _ _ _ c.trustees.t c.trustees.place _ _ _ _ w.mask_with-mask.result w.digest-hash.result c.trustees.invariant
          (rw key at w.mask_with-mask.ensures.mask) (omega arith) (omega arith) w.mask_value.ensures.front (w.digest-hash.ensures ∙ ap sha256 w.bytes.ensures.bytes) (ap length w.digest-hash.ensures ∙ length-sha256 _) w.put.ensures.front)
      | else-has w ↦
          let same = below-more_out c.trustees.t c.args.leaf.now.members (λ m. let has = c.has.ensures.1 m in let not = w.if-has.false in cc) in
          rw (same, w.place-is, w.out-is, w.commits-is) c.trustees.invariant
    ]

pub returns-clause-masked : goal.returns-clause-masked
returns-clause-masked c =
    let all = below-all 1 _ c.trustees.t c.args.leaf.now.members c.requires.members.ascending (omega arith) in
    rw all at c.trustees.invariant.value

pub returns-clause-commits : goal.returns-clause-commits
returns-clause-commits c =
    let all = below-all 1 _ c.trustees.t c.args.leaf.now.members c.requires.members.ascending (omega arith) in
    writing-all _ c.args.leaf.now.members c.trustees.place c.trustees.commits (rw all at c.trustees.invariant.writes) (omega arith)
