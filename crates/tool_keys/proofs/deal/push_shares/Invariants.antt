use Rattle.std.proofs.Common.{◌≡◌, ◌+◌, ◌++◌, length, map}
use Rattle.tool_keys.specs.Naming.{named_shares}
use Rattle.tool_base.specs.OutputOf.{output_of}
use Rattle.tool_keys.proofs.deal.push_shares.Given as goal

-- the shares so far are added
abbrev pub invariant-shares : goal.invariant-shares
invariant-shares l =
    (l.t ≡ length l.yielded + 1)
    × (map output_of l.outputs.items ≡ map output_of l.initial.outputs.items ++ named_shares l.prefix 1 (map (λ share. share.items) l.yielded))
