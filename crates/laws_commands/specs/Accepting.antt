-- What `verify` accepts over a store that does not fail.
use Rattle.std.specs.Prelude.{◌≡◌, ◌≤◌, ℕ, List, length, Some, IsTrue}
use Rattle.lms_bytes.specs.PublicKey.{public_bytes}
use Rattle.lms_bytes.specs.declared.public_key.PublicKey.{PublicKey}
use Rattle.lms_verify.specs.Accepts.{AcceptsAt}
use Rattle.stream_io.specs.Store.{StoreState}
use Rattle.tool_base.specs.World.{file_limit}

-- A store that tells its content, and none of whose calls fails except for its arguments, has under these names a
-- public key, a message and a signature of this leaf that is accepted for it. None of them is longer than the tool
-- reads.
pub record IsAcceptable (store : StoreState) (key message signature : List ℕ) (leaf : ℕ) : Type 0 where
  pub told : IsTrue store.told
  pub steady : IsTrue store.steady
  pub public : PublicKey
  pub text : List ℕ
  pub bytes : List ℕ
  pub key_is : store.file key ≡ Some (public_bytes public)
  pub message_is : store.file message ≡ Some text
  pub signature_is : store.file signature ≡ Some bytes
  pub key_fits : length (public_bytes public) ≤ file_limit
  pub message_fits : length text ≤ file_limit
  pub signature_fits : length bytes ≤ file_limit
  pub accepted : AcceptsAt public text bytes leaf
