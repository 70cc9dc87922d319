use Rattle.std.proofs.Common.{◌≡◌, ◌+◌, ◌*◌, ◌≤◌, ◌^◌, ◌<◌, ℕ, arith}
use Rattle.lms_bytes.proofs.Joined.{row-fits}
use Rattle.share_blame.proofs.places.Places.cell.Goals as goal

-- a commitment lies within its cell, the cell within its chain, and the chain within its leaf
within : (leaf all cell chain rank digits i j p : ℕ) → chain ≡ cell * digits → leaf + (cell + cell * digits * p) ≤ all → i < p → j < digits → 32 * rank + 32 ≤ cell
    → leaf + cell + chain * i + cell * j + 32 * rank + 32 ≤ all
within leaf all cell chain rank digits i j p size fits inside step room =
    rw size (omega (arith, row-fits cell j digits step, row-fits (cell * digits) i p inside))

pub returns-clause-within : goal.returns-clause-within
returns-clause-within c =
    let places = c.args.self.now in
    rw c.k-k.ensures.value (within c.leaf.result _ (32 * places.plan.k) c.chain_commits_bytes-chain.result c.rank.result (2 ^ places.params.w) c.args.i c.args.j places.params.p
    (rw c.k-k.ensures.value at c.chain_commits_bytes-chain.ensures.length) c.leaf.ensures.within c.requires.chain c.requires.step (omega (arith, c.rank.ensures.within)))

pub returns-clause-small : goal.returns-clause-small
returns-clause-small c = omega (arith, returns-clause-within c, c.leaf.ensures.small)
