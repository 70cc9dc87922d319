-- A message id in the making.
use Rattle.std.specs.Prelude.{◌≡◌, ℕ, List, length}
use Rattle.sha2.specs.Hashers.{Holds256}
use Rattle.lms_bytes.specs.declared.message.IdHash.{IdHash}

-- how many bytes the state has taken
abbrev pub taken_length : IdHash → ℕ
taken_length state = state.length

-- the state has taken this much of a message
pub record HasTaken (state : IdHash) (message : List ℕ) : Type 0 where
  pub text : Holds256 state.hasher message
  pub counted : state.length ≡ length message
