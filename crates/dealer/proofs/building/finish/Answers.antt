use Rattle.std.proofs.lemmas.Result.{err_from_is_err_and}
use Rattle.dealer.proofs.building.finish.Goals as goal

pub returns-clause-dealt : goal.returns-clause-dealt
returns-clause-dealt c =
    let both = c.in_ok-public.ensures in
    record {
      params = both.params;
      id = both.id;
      root_is = both.root_is;
      tree = both.tree_is;
      reference_is = c.requires.leaves;
      shares = c.in_ok-build_shares.ensures.shares;
    }

pub returns-in_err-public-clause-dealt : goal.returns-in_err-public-clause-dealt
returns-in_err-public-clause-dealt c = rw (err_from_is_err_and c.from_residual.result c.from_residual.ensures.1).1 tt

pub returns-in_err-public-clause-shares : goal.returns-in_err-public-clause-shares
returns-in_err-public-clause-shares c = rw (err_from_is_err_and c.from_residual.result c.from_residual.ensures.1).1 tt

pub returns-in_err-build_shares-clause-dealt : goal.returns-in_err-build_shares-clause-dealt
returns-in_err-build_shares-clause-dealt c = rw (err_from_is_err_and c.from_residual-in_err-build_shares.result c.from_residual-in_err-build_shares.ensures.1).1 tt

pub returns-in_err-build_shares-clause-shares : goal.returns-in_err-build_shares-clause-shares
returns-in_err-build_shares-clause-shares c = rw (err_from_is_err_and c.from_residual-in_err-build_shares.result c.from_residual-in_err-build_shares.ensures.1).1 tt
