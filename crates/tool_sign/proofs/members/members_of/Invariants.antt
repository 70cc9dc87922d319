use Rattle.tool_sign.proofs.Placing.{HasBits}
use Rattle.tool_sign.proofs.members.members_of.Given as goal

-- the bits of the trustees so far
abbrev pub invariant-places : goal.invariant-places
invariant-places l = HasBits (λ place. place.now) l.places l.i l.bits
