-- Ports that failed to accept, and those that did not.
use Rattle.std.proofs.Common.{◌≡◌, ◌||◌, ℕ, Bool, true, false, zero, suc, nat_lt, List, [], ◌∷◌, map, All, IsTrue, refl, sym, arith}
use Rattle.std.proofs.lemmas.Bool.{false≢true, ltb-false}
use Rattle.std.proofs.lemmas.List.Elements.{All-cons, All-head, All-nil, All-tail}
use Rattle.std.specs.List.{list_any}
use Rattle.stream_io.specs.Net.{PortState, SomeUnaccepted}
use Rattle.tool_base.specs.Services.{HasAccepted}

or_false : (a b : Bool) → (a || b) ≡ false → (a ≡ false) × (b ≡ false)
or_false true b is = absurd (false≢true (sym is))
or_false false b is = (refl, is)

pub not_true : (b : Bool) → (IsTrue b → ⊥) → b ≡ false
not_true true never = absurd (never refl)
not_true false never = refl

none_accepted : (n : ℕ) → nat_lt 0 n ≡ false → n ≡ 0
none_accepted n is = let few = ltb-false 0 n is in omega (arith, few)

some_accepted : (n : ℕ) → nat_lt 0 n ≡ true → n ≡ 0 → ⊥
some_accepted zero is none = false≢true is
some_accepted (suc n) is none = omega (arith, none)

module _ {P : Type 0} (state : P → PortState) where
  -- whether a port failed to accept
  abbrev is_deaf : P → Bool
  is_deaf port = nat_lt 0 (state port).accept_count

  pub none_deaf : (ports : List P) → list_any is_deaf ports ≡ false → All HasAccepted (map state ports)
  none_deaf [] is = All-nil HasAccepted
  none_deaf (port ∷ ports) is =
      let both = or_false (is_deaf port) (list_any is_deaf ports) is in
      All-cons HasAccepted (state port) (map state ports) (none_accepted _ both.0) (none_deaf ports both.1)

  deaf_or : (test : Bool) (port : P) (ports : List P) → test ≡ is_deaf port → (list_any is_deaf ports ≡ true → SomeUnaccepted (map state ports))
      → (test || list_any is_deaf ports) ≡ true → SomeUnaccepted (map state (port ∷ ports))
  deaf_or true port ports test rest is all = some_accepted _ (sym test) (All-head HasAccepted (state port) (map state ports) all)
  deaf_or false port ports test rest is all = rest is (All-tail HasAccepted (state port) (map state ports) all)

  pub some_deaf : (ports : List P) → list_any is_deaf ports ≡ true → SomeUnaccepted (map state ports)
  some_deaf [] is all = false≢true is
  some_deaf (port ∷ ports) is all = deaf_or (is_deaf port) port ports refl (some_deaf ports) is all
