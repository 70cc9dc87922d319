use Rattle.share_blame.proofs.Kept.{kept-second}
use Rattle.share_blame.proofs.blame.second_differs.Goals as goal

pub chains_differ-requires-clause-leaf : goal.chains_differ-requires-clause-leaf
chains_differ-requires-clause-leaf g c = rw (c.requires.commits.leaf, c.requires.commits.are.set) c.requires.commits.session.leaf

pub chains_differ-requires-clause-masks : goal.chains_differ-requires-clause-masks
chains_differ-requires-clause-masks g c =
    let kept = kept-second c.args.session.now c.args.t c.in-Some.masks.now c.requires.commits.session c.in-Some.ensures.some in
    rw c.requires.commits.are.set kept.size_is

pub chains_differ-requires-clause-member : goal.chains_differ-requires-clause-member
chains_differ-requires-clause-member g c =
    let kept = kept-second c.args.session.now c.args.t c.in-Some.masks.now c.requires.commits.session c.in-Some.ensures.some in
    rw (c.requires.commits.leaf, c.requires.commits.are.plan) kept.member
