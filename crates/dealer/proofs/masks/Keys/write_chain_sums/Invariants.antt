use Rattle.std.proofs.Common.{◌≡◌, ◌*◌, take}
use Rattle.lms_bytes.specs.Bytes.{joined}
use Rattle.dealer.specs.Signing.{digit_sum}
use Rattle.dealer.proofs.masks.Keys.write_chain_sums.Given as goal

-- the sums of the chains before this one are written
abbrev pub invariant-chains : goal.invariant-chains
invariant-chains l = take (l.params.n * l.i) l.out ≡ joined (digit_sum l.params l.id l.self l.q l.digest) l.i
