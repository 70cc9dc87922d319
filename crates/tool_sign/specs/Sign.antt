-- How `sign` ends: it tests that OUT is new, runs a session for the message in the file, and writes the signature.
use Rattle.std.specs.Prelude.{◌≡◌, ℕ, List, [], ◌∷◌, Ok, Err}
use Rattle.aggregator_session.specs.Signing.{Signature}
use Rattle.tool_base.specs.Ending as ending
use Rattle.tool_base.specs.Ending.{Ending}
use Rattle.tool_base.specs.Outputs.{IsNew, IsNotNew, IsNotWritten}
use Rattle.tool_base.specs.Touched.{Keeps}
use Rattle.tool_base.specs.World.{IsNetBack, StoreRun}
use Rattle.tool_sign.specs.Ports.{NetRun}
use Rattle.tool_sign.specs.Sessions.{SessionEnds}
use Rattle.tool_sign.specs.Tasks.{SessionWords, message_in}
use Rattle.tool_sign.specs.Writes.{IsWritten}
use Rattle.tool_words.specs.Words.{SignWords}

-- what the session of the command is run with
abbrev pub session_words : SignWords → SessionWords
session_words words = record { prefix = words.prefix; table = words.table; places = words.places }

-- how the command ends, with the names that it touched
pub data SignEnds (words : SignWords) (store : StoreRun) (net : NetRun) : Ending → List (List ℕ) → Type 0 where
  not_new : (end : Ending) → IsNotNew store words.out end → net.after ≡ net.before
      → SignEnds words store net end []
  not_signed : (end : Ending) (touched : List (List ℕ)) → IsNew store words.out
      → SessionEnds (session_words words) store (message_in store words.message) net (Err end) touched
      → SignEnds words store net end touched
  not_written : (signature : Signature) (end : Ending) (touched : List (List ℕ)) → IsNew store words.out
      → SessionEnds (session_words words) store (message_in store words.message) net (Ok signature) touched
      → IsNotWritten store [] words.out end → SignEnds words store net end touched
  signed : (signature : Signature) (touched : List (List ℕ)) → IsNew store words.out
      → SessionEnds (session_words words) store (message_in store words.message) net (Ok signature) touched
      → IsWritten store words.out signature.bytes
      → SignEnds words store net (ending.Signed signature.leaf) (words.out ∷ touched)

-- The command `sign`: an end by its rules. The store keeps all but the names that it touched, and all disks, views and
-- ports are back.
pub record SigningRun (words : SignWords) (store : StoreRun) (net : NetRun) (end : Ending) : Type 0 where
  pub touched : List (List ℕ)
  pub ends : SignEnds words store net end touched
  pub keeps : Keeps touched store.before store.after
  pub ports : IsNetBack net.before net.after
