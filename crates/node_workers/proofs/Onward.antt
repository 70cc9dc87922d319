-- What stays from one state to a later one.
use Rattle.std.proofs.Common.{refl, ◌∙◌, arith}
use Rattle.stream_io.specs.Net.{PortOnward, PortState}
use Rattle.turn_lock.specs.Pass.{SamePass, Seen}

-- a port after a port
pub onward-same : (port : PortState) → PortOnward port port
onward-same port = record { told = refl; steady = refl; place = refl; count = omega arith; accept_count = omega arith; room = omega arith }

pub onward-then : (old mid new : PortState) → PortOnward old mid → PortOnward mid new → PortOnward old new
onward-then old mid new a b = record {
  told = b.told ∙ a.told;
  steady = b.steady ∙ a.steady;
  place = b.place ∙ a.place;
  count = (let p = a.count in let q = b.count in omega (arith, p, q));
  accept_count = (let p = a.accept_count in let q = b.accept_count in omega (arith, p, q));
  room = (let p = a.room in let q = b.room in omega (arith, p, q));
}

-- a pass after a pass
pub same-then : {E N : Type 0} (old mid new : Seen E N) → SamePass old mid → SamePass mid new → SamePass old new
same-then old mid new a b = record { lock = b.lock ∙ a.lock; name = b.name ∙ a.name }
