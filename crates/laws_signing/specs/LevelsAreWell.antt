-- When all is well for the command `hss sign`.
use Rattle.std.specs.Prelude.{◌≡◌, ◌≤◌, ℕ, false, length, Some}
use Rattle.hss_levels.specs.Levels.{Accepts}
use Rattle.lms_bytes.specs.PublicKey.{public_bytes}
use Rattle.lms_verify.specs.UndividedKey.{UndividedKey}
use Rattle.reference_value.specs.Dealing.{Dealing}
use Rattle.stream_io.specs.Store.{has_name}
use Rattle.tool_base.specs.World.{StoreRun, file_limit}
use Rattle.tool_sign.specs.Lower.{Lower}
use Rattle.tool_sign.specs.Ports.{NetRun}
use Rattle.tool_words.specs.Words.{HssSignWords, SignWords}
use Rattle.laws_signing.specs.AllIsWell.{AllIsWell}

-- the words of `sign` with the same trustees, with the lower key's file as the message and KEY-OUT as the output
abbrev pub signing_lower : HssSignWords → SignWords
signing_lower words = record {
  prefix = words.prefix;
  table = words.table;
  message = words.low_key;
  out = words.key_out;
  places = words.places;
}

-- SIG-OUT is new, and LOW-SIG is a signature that is accepted for what MESSAGE holds. Neither LOW-SIG nor MESSAGE is
-- longer than the tool reads.
pub record HasLower (words : HssSignWords) (store : StoreRun) (lower : Lower) : Type 0 where
  pub out_is_new : has_name store.before words.signature_out ≡ false
  pub signature_is : store.before.file words.low_signature ≡ Some lower.signature
  pub message_is : store.before.file words.message ≡ Some lower.message
  pub signature_fits : length lower.signature ≤ file_limit
  pub message_fits : length lower.message ≤ file_limit
  pub accepted : Accepts lower.key lower.message lower.signature

-- All is well: it is for `sign` of the lower key's file, and the lower key's signature is accepted.
pub record LevelsAreWell (words : HssSignWords) (store : StoreRun) (net : NetRun) (d : Dealing) (key : UndividedKey)
    (lower : Lower) (leaf : ℕ) : Type 0 where
  pub upper : AllIsWell (signing_lower words) store net d key (public_bytes lower.key) leaf
  pub has : HasLower words store lower
