use Rattle.std.proofs.Common.{◌-◌}
use Rattle.dealer.specs.Material.{dealing_with}
use Rattle.dealer.proofs.FirstShares.{HasShares}
use Rattle.dealer.proofs.shares.build_shares.Given as goal

abbrev pub invariant-trustees : goal.invariant-trustees
invariant-trustees l = HasShares (dealing_with l.material) (l.t - 1) l.shares.items
