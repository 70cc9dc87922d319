use Rattle.std.proofs.Common.{◌≡◌, ◌+◌, ◌*◌, ◌≤◌, ◌∙◌, ℕ, List, length, ap, sym, arith}
use Rattle.coalition_map.specs.Members.{IsAscendingIn}
use Rattle.reference_value.specs.Committing.{AreMembers}
use Rattle.reference_value.specs.Dealing.{dealing_from}
use Rattle.reference_value.proofs.Committing.{commitments-are, leaf-is, whole-put}
use Rattle.reference_value.proofs.Members.{members-are}
use Rattle.reference_value.proofs.committed.build_committed_leaf.Goals as goal

-- the members of a leaf are some of the trustees
are-members : (keys : List (List ℕ)) (members : List ℕ) (n : ℕ) → length keys ≡ n → n ≤ 12 → IsAscendingIn 1 (n + 1) members → AreMembers keys members
are-members keys members n size few ascending = record { few = rw size few; ascending = rw size ascending }

pub members_of-members-requires : goal.members_of-members-requires
members_of-members-requires c = rw c.requires.height c.requires.leaf

pub split_at_mut-front-requires : goal.split_at_mut-front-requires
split_at_mut-front-requires c = omega (arith, c.k.ensures.value, c.requires.room)

pub split_at_mut-first-requires : goal.split_at_mut-first-requires
split_at_mut-first-requires c = omega (arith, c.k-2.ensures.value, c.requires.commits)

pub split_at_mut-value-requires : goal.split_at_mut-value-requires
split_at_mut-value-requires c = omega (arith, c.split_at_mut-front.ensures.front_len)

pub put-requires : goal.put-requires
put-requires c = omega (arith, ap length c.bytes.ensures.bytes, c.randomizer-c.ensures.length, c.split_at_mut-value.ensures.front_len)

pub mask_and_commit-requires-clause-members : goal.mask_and_commit-requires-clause-members
mask_and_commit-requires-clause-members c =
    are-members _ _ _ c.requires.keys c.k.ensures.plan.threshold.n_within c.members_of-members.ensures.subset.ascending

pub mask_and_commit-requires-clause-value : goal.mask_and_commit-requires-clause-value
mask_and_commit-requires-clause-value c = c.put.auto.out ∙ c.split_at_mut-value.ensures.front_len

pub mask_and_commit-requires-clause-room : goal.mask_and_commit-requires-clause-room
mask_and_commit-requires-clause-room c =
    c.split_at_mut-first.ensures.front_len ∙ ap (λ (k : ℕ). 32 * k) (c.k-2.ensures.value ∙ sym c.members_of-members.ensures.subset.size)

pub write_tags-requires-clause-members : goal.write_tags-requires-clause-members
write_tags-requires-clause-members c =
    are-members _ _ _ c.requires.keys c.k.ensures.plan.threshold.n_within c.members_of-members.ensures.subset.ascending

pub write_tags-requires-clause-room : goal.write_tags-requires-clause-room
write_tags-requires-clause-room c =
    omega (arith, c.split_at_mut-value.ensures.back_len, c.split_at_mut-front.ensures.front_len, c.k.ensures.value, c.members_of-members.ensures.subset.size)

pub commit_chains-requires-clause-members : goal.commit_chains-requires-clause-members
commit_chains-requires-clause-members c =
    are-members _ _ _ c.requires.keys c.k.ensures.plan.threshold.n_within c.members_of-members.ensures.subset.ascending

pub commit_chains-requires-clause-seed : goal.commit_chains-requires-clause-seed
commit_chains-requires-clause-seed c = c.requires.seed

pub commit_chains-requires-clause-values : goal.commit_chains-requires-clause-values
commit_chains-requires-clause-values c = omega (arith, c.split_at_mut-front.ensures.back_len, c.k.ensures.value, c.requires.room)

pub commit_chains-requires-clause-room : goal.commit_chains-requires-clause-room
commit_chains-requires-clause-room c =
    rw c.members_of-members.ensures.subset.size (omega (arith, c.split_at_mut-first.ensures.back_len, c.k-2.ensures.value, c.requires.commits))

pub returns-clause-leaf : goal.returns-clause-leaf
returns-clause-leaf c =
    let d = dealing_from c.args.params.now c.args.plan.now c.args.id.now c.args.seed.now c.args.random_key.now c.args.keys.now in
    let members = c.members_of-members.ensures.members in
    let size : length c.put.new.out ≡ length c.randomizer-c.result =
    omega (arith, c.put.auto.out, c.split_at_mut-value.ensures.front_len, c.randomizer-c.ensures.length) in
    let written = whole-put c.put.new.out c.randomizer-c.result c.bytes.result.now c.bytes.ensures.bytes size c.put.ensures.front in
    leaf-is d c.args.q c.members_of-members.result c.randomizer-c.result c.mask_and_commit.new.out c.write_tags.new.out c.commit_chains.new.out members
    c.randomizer-c.ensures.randomizer (rw written at c.mask_and_commit.ensures.masked) c.write_tags.ensures c.commit_chains.ensures.cells

pub returns-clause-commitments : goal.returns-clause-commitments
returns-clause-commitments c =
    let d = dealing_from c.args.params.now c.args.plan.now c.args.id.now c.args.seed.now c.args.random_key.now c.args.keys.now in
    let members = c.members_of-members.ensures.members in
    commitments-are d c.args.q c.members_of-members.result c.mask_and_commit.new.commits c.commit_chains.new.commits members c.mask_and_commit.ensures.commits c.commit_chains.ensures.commits
