use Rattle.std.proofs.Common.{◌≡◌, ◌-◌, ◌++◌, take}
use Rattle.lms_bytes.specs.Bytes.{bytes_at, u16str, u32str}
use Rattle.ots_chain.specs.Chains.{steps}
use Rattle.ots_chain.proofs.chains.chain.Given as goal

abbrev pub invariant-steps : goal.invariant-steps
invariant-steps l = record {
  place : take 22 l.block ≡ l.id ++ u32str l.q ++ u16str l.i;
  value : bytes_at l.block 23 l.n ≡ steps l.params l.id l.q l.i l.from (l.j - l.from) l.start;
}
