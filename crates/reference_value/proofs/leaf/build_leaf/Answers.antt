use Rattle.std.proofs.Common.{[], ◌∙◌, length, ap, refl, arith}
use Rattle.coalition_map.proofs.MemberLaws.{below-none, below-all, below-more_in, below-more_out}
use Rattle.reference_value.specs.Dealing.{dealing_from}
use Rattle.reference_value.proofs.Members.{building-none, building-more, built, members-are, tag-room}
use Rattle.reference_value.proofs.leaf.build_leaf.Goals as goal
use Rattle.reference_value.proofs.leaf.build_leaf.Goals.{then-has, else-has}

pub members_of-members-requires : goal.members_of-members-requires
members_of-members-requires c = rw c.requires.height c.requires.leaf

pub split_at_mut-front-requires : goal.split_at_mut-front-requires
split_at_mut-front-requires c = omega (arith, c.k.ensures.value, c.requires.room)

pub write_chains-leaf_key-requires-clause-seed : goal.write_chains-leaf_key-requires-clause-seed
write_chains-leaf_key-requires-clause-seed c = c.requires.seed

pub write_chains-leaf_key-requires-clause-room : goal.write_chains-leaf_key-requires-clause-room
write_chains-leaf_key-requires-clause-room c = omega (arith, c.split_at_mut-front.ensures.back_len, c.k.ensures.value, c.requires.room)

pub put-requires : goal.put-requires
put-requires c = omega (arith, ap length c.bytes.ensures.bytes, c.randomizer-c.ensures.length, c.split_at_mut-front.ensures.front_len)

pub add_member-requires-clause-behind : goal.add_member-requires-clause-behind
add_member-requires-clause-behind c = omega (arith, c.trustees.invariant.ends)

pub add_member-requires-clause-chains : goal.add_member-requires-clause-chains
add_member-requires-clause-chains c =
    omega (arith, c.trustees.auto.chains, c.write_chains-leaf_key.auto.out, c.split_at_mut-front.ensures.back_len, c.k.ensures.value, c.requires.room)

pub trustees-init : goal.trustees-init
trustees-init c =
    let none = below-none 1 _ 1 c.members_of-members.result c.members_of-members.ensures.subset.ascending (omega arith) in
    rw none (building-none _ c.args.q c.args.params.now.n c.bytes.result.now [] c.put.new.out c.write_chains-leaf_key.new.out refl (c.bytes.ensures.bytes ∙ c.randomizer-c.ensures.randomizer)
    (ap length c.bytes.ensures.bytes ∙ c.randomizer-c.ensures.length) c.put.ensures.front c.write_chains-leaf_key.ensures.values)

pub add_member-requires-clause-room : goal.add_member-requires-clause-room
add_member-requires-clause-room c =
    let room = tag-room _ c.args.plan.now.k c.trustees.t c.members_of-members.result c.members_of-members.ensures.subset (c.has.ensures.0 c.if-has.true) in
    let k = c.k.ensures.value in
    let size = c.split_at_mut-front.ensures.front_len in
    omega (arith, c.trustees.invariant.ends, c.trustees.auto.front)

pub overflow_add-place : goal.overflow_add-place
overflow_add-place c =
    let room = tag-room _ c.args.plan.now.k c.trustees.t c.members_of-members.result c.members_of-members.ensures.subset (c.has.ensures.0 c.if-has.true) in
    let plan = c.k.ensures.plan.threshold in
    omega (arith, c.trustees.invariant.ends)

pub trustees-preserved : goal.trustees-preserved
trustees-preserved c =
    elim c.if-has.branch [
      | then-has w ↦
          let next = below-more_in 1 _ c.trustees.t c.members_of-members.result c.members_of-members.ensures.subset.ascending (c.has.ensures.0 w.if-has.true) in
          rw (next, w.place-is, w.front-is, w.chains-is) (building-more _ c.args.q _ c.trustees.t c.trustees.place w.new-key.result _ _ _ _ _ c.trustees.invariant w.new-key.ensures
          c.randomizer-c.ensures.randomizer w.add_member.ensures.front w.add_member.ensures.chains)
      | else-has w ↦
          let same = below-more_out c.trustees.t c.members_of-members.result (λ m. let has = c.has.ensures.1 m in let not = w.if-has.false in cc) in
          rw (same, w.place-is, w.front-is, w.chains-is) c.trustees.invariant
    ]

pub returns-clause-leaf : goal.returns-clause-leaf
returns-clause-leaf c =
    let d = dealing_from c.args.params.now c.args.plan.now c.args.id.now c.args.seed.now c.args.random_key.now c.args.keys.now in
    let all = below-all 1 _ c.trustees.t c.members_of-members.result c.members_of-members.ensures.subset.ascending (omega arith) in
    let members = c.members_of-members.ensures.members in
    let k = c.k.ensures.value in
    let subset = c.members_of-members.ensures.subset.size in
    let done = rw all at c.trustees.invariant in
    built d c.args.q c.trustees.place c.trustees.front c.trustees.chains (rw members at done)
    (omega (arith, c.trustees.auto.front, c.split_at_mut-front.ensures.front_len, done.ends))
