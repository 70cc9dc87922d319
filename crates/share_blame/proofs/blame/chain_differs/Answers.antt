use Rattle.reference_value.specs.Commitments.{cell_commitment_in}
use Rattle.share_blame.proofs.blame.chain_differs.Goals as goal

pub returns-clause-differs : goal.returns-clause-differs
unfolding cell_commitment_in
returns-clause-differs g c = λ told.
    let place = rw c.digit-j.ensures at c.cell-place.ensures.place in
    rw place at (c.is_other.ensures.other told)
