use Rattle.std.proofs.Common.{◌≡◌, map, option_map, take}
use Rattle.tool_sign.specs.Members.{address, placed}
use Rattle.tool_sign.proofs.members.addresses_of.Given as goal

-- the addresses so far
abbrev pub invariant-places : goal.invariant-places
invariant-places l = map address l.addresses.items ≡ placed (map (option_map (λ place. place.now)) (take l.i l.places))
