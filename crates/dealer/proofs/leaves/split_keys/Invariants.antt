use Rattle.std.proofs.Common.{◌≡◌, ◌*◌, length, map}
use Rattle.std.specs.Prelude.{All}
use Rattle.std.specs.List.{range_with_len}
use Rattle.lms_bytes.specs.Bytes.{bytes_at}
use Rattle.dealer.proofs.leaves.split_keys.Given as goal

abbrev pub invariant-leaves : goal.invariant-leaves
invariant-leaves l = record {
  keys : l.values.items ≡ map (λ q. bytes_at l.keys (l.params.n * q) l.params.n) (range_with_len 0 l.q);
  length : All (λ key. length key ≡ l.params.n) l.values.items;
}
