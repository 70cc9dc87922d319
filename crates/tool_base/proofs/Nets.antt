-- Ports of a net, out and back.
use Rattle.std.proofs.Common.{◌≡◌, ◌+◌, ◌-◌, ℕ, List, length, Option, refl, ◌∙◌, arith}
use Rattle.stream_io.specs.Net.{Gathers, MakesPorts, NetOnward, NetState, PortState}
use Rattle.tool_base.specs.World.{IsNetBack}

pub net_none : (net : NetState) → IsNetBack net net
net_none net = record {
  onward = record { told = refl; steady = refl; count = omega arith; port_count = omega arith; room = omega arith };
  out = λ told. refl;
}

net_onward : (a b c : NetState) → NetOnward a b → NetOnward b c → NetOnward a c
net_onward a b c one two = record {
  told = two.told ∙ one.told;
  steady = two.steady ∙ one.steady;
  count = let x = one.count in let y = two.count in omega arith;
  port_count = let x = one.port_count in let y = two.port_count in omega arith;
  room = let x = one.room in let y = two.room in omega arith;
}

-- all ports that were made come back
pub net_back : (old mid new : NetState) (place : Option (List ℕ)) (count : ℕ) (made returned : List PortState)
    → MakesPorts old place count made mid → NetOnward old mid → length returned ≡ length made → Gathers mid returned new
    → NetOnward mid new → IsNetBack old new
net_back old mid new place count made returned makes one many gathers two = record {
  onward = net_onward old mid new one two;
  out = λ told.
      let first : mid.out ≡ old.out + count = makes.out told in
      let then : new.out ≡ mid.out - length returned = gathers.out (rw one.told told) in
      let all : length made ≡ count = makes.many in
      omega (arith, first, then, all, many);
}
