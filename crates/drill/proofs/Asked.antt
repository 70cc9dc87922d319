-- What was granted.
use Rattle.std.proofs.Common.{◌≡◌, ℕ, List, length, Option, None, Some, IfSome, IsSome, refl, ap}
use Rattle.lms_bytes.specs.declared.ask.Ask.{Ask}
use Rattle.lms_bytes.specs.declared.ask.Second.{Second}
use Rattle.session_core.specs.Asks.{ask_with}
use Rattle.session_core.specs.State.{State}
use Rattle.trustee_core.specs.Grants.{ask_of}
use Rattle.trustee_core.specs.declared.grant.Grant.{Grant}
use Rattle.drill.specs.Drills.{IsSized}

pub granted-digest : (grant : Option Grant) (ask : Ask) → IfSome grant (λ g. ask_of g ≡ ask) → IfSome ask.second (λ (second : Second). length second.digest ≡ 32)
    → IfSome grant (λ g. IfSome (ask_of g).second (λ (second : Second). length second.digest ≡ 32))
granted-digest None ask is sized = tt
granted-digest (Some grant) ask is sized = rw is sized

-- in round one an ask has no digest
pub any-digest : (s : State) (c : Option (List ℕ)) → s.c ≡ c → (tag digest other : List ℕ) → (IsSome c → digest ≡ other) → ask_with s tag digest ≡ ask_with s tag other
any-digest s None is tag digest other same = rw is refl
any-digest s (Some c) is tag digest other same = ap (ask_with s tag) (same refl)

-- an ask under a randomizer of 32 bytes with a digest of 32 bytes
pub asked-sizes : (s : State) (c : Option (List ℕ)) → s.c ≡ c → IfSome c (λ x. length x ≡ 32) → (tag digest : List ℕ) → length digest ≡ 32 → IsSized (ask_with s tag digest)
asked-sizes s None is sized tag digest size = record { c = rw is tt; digest = rw is tt }
asked-sizes s (Some c) is sized tag digest size = record { c = rw is sized; digest = rw is size }
