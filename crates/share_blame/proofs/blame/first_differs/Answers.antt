use Rattle.share_blame.proofs.Kept.{kept-first}
use Rattle.share_blame.proofs.blame.first_differs.Goals as goal

pub randomizer-place-requires-clause-leaf : goal.randomizer-place-requires-clause-leaf
randomizer-place-requires-clause-leaf g c = rw (c.requires.commits.leaf, c.requires.commits.are.set) c.requires.commits.session.leaf

pub randomizer-place-requires-clause-member : goal.randomizer-place-requires-clause-member
randomizer-place-requires-clause-member g c =
    let kept = kept-first c.args.session.now c.args.t c.in-Some.mask.now c.requires.commits.session c.in-Some.ensures.some in
    rw (c.requires.commits.leaf, c.requires.commits.are.plan) kept.member
