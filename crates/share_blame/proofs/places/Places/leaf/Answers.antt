use Rattle.std.proofs.Common.{◌^◌, arith}
use Rattle.mask_prf.specs.Lengths.{leaf_commits_length}
use Rattle.lms_bytes.proofs.Joined.{row-fits}
use Rattle.share_blame.proofs.Bounds.{leaves_small}
use Rattle.share_blame.proofs.places.Places.leaf.Goals as goal

pub returns-clause-within : goal.returns-clause-within
returns-clause-within c =
    let places = c.args.self.now in
    rw (c.leaf_commits_bytes.ensures, c.k.ensures.value) (row-fits (leaf_commits_length places.params places.plan.k) c.args.q (2 ^ places.params.h) c.requires)

pub returns-clause-small : goal.returns-clause-small
returns-clause-small c =
    let places = c.args.self.now in
    leaves_small places.params places.plan.k (omega (arith, places.plan_is.threshold.k_within, places.plan_is.threshold.n_within))
