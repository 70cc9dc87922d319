use Rattle.std.proofs.Common.{◌≡◌, ◌-◌, length, map}
use Rattle.std.specs.Prelude.{All}
use Rattle.std.specs.List.{range_with_len}
use Rattle.dealer.specs.Entropy.{trustee_key}
use Rattle.dealer.proofs.entropy.read_keys.Given as goal

abbrev pub invariant-trustees : goal.invariant-trustees
invariant-trustees l = record {
  keys : l.keys.items ≡ map (trustee_key l.entropy) (range_with_len 1 (l.t - 1));
  lengths : All (λ key. length key ≡ 32) l.keys.items;
}
