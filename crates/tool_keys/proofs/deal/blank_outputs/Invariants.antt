use Rattle.std.proofs.Common.{◌≡◌, length}
use Rattle.tool_keys.proofs.deal.blank_outputs.Given as goal

-- there is a share for each turn
abbrev pub invariant-shares : goal.invariant-shares
invariant-shares l = length l.shares.items ≡ l.counter
