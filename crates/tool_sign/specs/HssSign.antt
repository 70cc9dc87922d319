-- How `hss sign` ends: it tests that both outputs are new; reads the lower key, its signature and the message; verifies
-- that signature; runs a session for the bytes of the lower key; and writes the key and the signature of two levels.
use Rattle.std.specs.Prelude.{◌≡◌, ℕ, List, [], ◌∷◌, ◌++◌, All, Err, map}
use Rattle.hss_levels.specs.HssAccepts.{HssAccepts}
use Rattle.hss_levels.specs.TwoLevels.{two_level_key, two_level_signature}
use Rattle.aggregator_session.specs.Signing.{Signature}
use Rattle.lms_bytes.specs.PublicKey.{public_bytes}
use Rattle.lms_bytes.specs.declared.public_key.PublicKey.{PublicKey}
use Rattle.lms_verify.specs.Verdict.{IsVerdict}
use Rattle.lms_verify.specs.declared.verification.Verdict.{Verdict}
use Rattle.stream_io.specs.declared.store.Readers.TheVariants.{Anyone}
use Rattle.tool_base.specs.Ending as ending
use Rattle.tool_base.specs.Ending.{Ending, status_of}
use Rattle.tool_base.specs.Outputs.{FirstNotNew, IsLeft, IsNew, Output, StopsAfter}
use Rattle.tool_base.specs.Touched.{Keeps}
use Rattle.tool_base.specs.World.{IsNetBack, StoreRun}
use Rattle.tool_sign.specs.Lower.{FailsLower, IsLower, IsReady, Lower, output_names}
use Rattle.tool_sign.specs.Ports.{NetRun}
use Rattle.tool_sign.specs.Sessions.{IsSignedBy, SessionEnds}
use Rattle.tool_sign.specs.Tasks.{SessionWords, message_of}
use Rattle.tool_sign.specs.Writes.{IsWritten}
use Rattle.tool_words.specs.Words.{HssSignWords}

-- what the session of the command is run with
abbrev pub session_words : HssSignWords → SessionWords
session_words words = record { prefix = words.prefix; table = words.table; places = words.places }

-- the key and the signature of two levels, under the names of the words, for anyone to read
abbrev pub two_levels : HssSignWords → PublicKey → List ℕ → Lower → List Output
two_levels words top top_signature lower =
    record { name = words.key_out; bytes = two_level_key top; readers = Anyone }
    ∷ record {
      name = words.signature_out;
      bytes = two_level_signature top_signature lower.key lower.signature;
      readers = Anyone;
    } ∷ []

abbrev pub names_of : List Output → List (List ℕ)
names_of outputs = map (λ output. output.name) outputs

-- these files are in the store, all stable, for anyone to read
abbrev pub AreWritten : StoreRun → List Output → Type 0
AreWritten store outputs = All (λ output. IsWritten store output.name output.bytes) outputs

-- the upper key, which is that of the session's desk, signed the lower one
abbrev pub SignsLower : HssSignWords → StoreRun → NetRun → Lower → PublicKey → Signature → List (List ℕ) → Type 0
SignsLower words store net lower top signature touched =
    IsSignedBy (session_words words) store (message_of (public_bytes lower.key)) net top signature touched

-- how the command ends, with the names that it touched
pub data HssSignEnds (words : HssSignWords) (store : StoreRun) (net : NetRun) : Ending → List (List ℕ) → Type 0 where
  not_new : (end : Ending) → FirstNotNew store (output_names words) end → net.after ≡ net.before
      → HssSignEnds words store net end []
  no_lower : (end : Ending) → All (IsNew store) (output_names words) → FailsLower words store end
      → net.after ≡ net.before → HssSignEnds words store net end []
  not_accepted : (lower : Lower) (says : Verdict) → All (IsNew store) (output_names words)
      → IsLower words store lower → IsVerdict lower.key lower.message lower.signature says
      → status_of (ending.Verified says) ≡ 1 → net.after ≡ net.before
      → HssSignEnds words store net (ending.Verified says) []
  not_signed : (lower : Lower) (end : Ending) (touched : List (List ℕ)) → IsReady words store lower
      → SessionEnds (session_words words) store (message_of (public_bytes lower.key)) net (Err end) touched
      → HssSignEnds words store net end touched
  no_memory_to_join : (lower : Lower) (top : PublicKey) (signature : Signature) (touched : List (List ℕ))
      → IsReady words store lower → SignsLower words store net lower top signature touched
      → HssSignEnds words store net ending.NoMemory touched
  stopped : (lower : Lower) (top : PublicKey) (signature : Signature) (touched : List (List ℕ))
      → (written : List Output) (end : Ending) → IsReady words store lower
      → SignsLower words store net lower top signature touched
      → StopsAfter store (two_levels words top signature.bytes lower) written end → AreWritten store written
      → HssSignEnds words store net end (names_of written ++ touched)
  signed : (lower : Lower) (top : PublicKey) (signature : Signature) (touched : List (List ℕ))
      → IsReady words store lower → SignsLower words store net lower top signature touched
      → AreWritten store (two_levels words top signature.bytes lower)
      → HssAccepts (two_level_key top) lower.message
      (two_level_signature signature.bytes lower.key lower.signature)
      → HssSignEnds words store net (ending.SignedLevels signature.leaf) (output_names words ++ touched)

-- The command `hss sign`: an end by its rules. The store keeps all but the names that it touched, and all disks, views
-- and ports are back.
pub record HssSigningRun (words : HssSignWords) (store : StoreRun) (net : NetRun) (end : Ending) : Type 0 where
  pub touched : List (List ℕ)
  pub ends : HssSignEnds words store net end touched
  pub keeps : Keeps touched store.before store.after
  pub ports : IsNetBack net.before net.after

-- internal: how the writing of both levels ends, if the top signature is of this leaf
pub data LevelsEnd (store : StoreRun) (outputs : List Output) (leaf : ℕ) : Ending → Type 0 where
  written : IsLeft store outputs → LevelsEnd store outputs leaf (ending.SignedLevels leaf)
  no_memory : IsLeft store [] → LevelsEnd store outputs leaf ending.NoMemory
  part_written : (some : List Output) (end : Ending) → IsLeft store some → StopsAfter store outputs some end
      → LevelsEnd store outputs leaf end
