-- How `blame` ends: it tests that OUT is new; runs a session for the message in the file, for which it also takes a
-- view of the commitments; names the members that these blame if the masks of the session were not accepted; and
-- otherwise writes the signature.
use Rattle.std.specs.Prelude.{◌≡◌, ℕ, Bool, List, [], ◌∷◌, Result, Ok, Err}
use Rattle.aggregator_session.specs.Runs.{CellsRead}
use Rattle.aggregator_session.specs.Signing.{Signature}
use Rattle.share_files.specs.declared.reference.RefHeader.{RefHeader}
use Rattle.stream_io.specs.Store.{StoreState}
use Rattle.tool_base.specs.Ending as ending
use Rattle.tool_base.specs.Ending.{Ending}
use Rattle.tool_base.specs.Outputs.{IsNew, IsNotNew, IsNotWritten}
use Rattle.tool_base.specs.Touched.{Keeps}
use Rattle.tool_base.specs.World.{IsNetBack, StoreRun, from_to}
use Rattle.tool_base.specs.declared.ending.Ending as declared
use Rattle.tool_desk.specs.Files.{AreKeyFiles, FailsKeyFiles, reference_name}
use Rattle.tool_desk.specs.Reference.{FailsReference}
use Rattle.tool_desk.specs.declared.files.KeyFiles.{KeyFiles}
use Rattle.tool_sign.specs.Ended.{last_in}
use Rattle.tool_sign.specs.Ports.{NetRun, Signing}
use Rattle.tool_sign.specs.Sessions.{answer_by}
use Rattle.tool_sign.specs.Sign.{session_words}
use Rattle.tool_sign.specs.Signs.{TableEnds}
use Rattle.tool_sign.specs.Tasks.{HasFiles, IsTask, LacksTask, MessageSource, SessionWords, message_in}
use Rattle.tool_sign.specs.Writes.{IsWritten}
use Rattle.tool_sign.specs.declared.task.SignedBy.{SignedBy}
use Rattle.tool_words.specs.Words.{SignWords}
use Rattle.tool_blame.specs.Commits.{AreCommitsViewed, FailsCommits, ReadsCommits, commits_name}
use Rattle.tool_blame.specs.Names.{TellsEnd}

-- the end if no session was begun, by the first test that failed; the commitments come after the reference
pub data FailsToBegin (words : SessionWords) (store : StoreRun) (source : MessageSource) : Ending → Type 0 where
  no_key_files : (end : Ending) → FailsKeyFiles store words.prefix end → FailsToBegin words store source end
  no_reference : (files : KeyFiles) (end : Ending) → AreKeyFiles store words.prefix files
      → FailsReference store (reference_name words.prefix) end → FailsToBegin words store source end
  no_commits : (files : KeyFiles) (header : RefHeader) (end : Ending) → HasFiles words store files header
      → FailsCommits store (commits_name words.prefix) header end → FailsToBegin words store source end
  no_task : (files : KeyFiles) (header : RefHeader) (end : Ending) → HasFiles words store files header
      → AreCommitsViewed store (commits_name words.prefix) header
      → LacksTask words source files header end → FailsToBegin words store source end

-- How a session whose end names members ends, with the names that it touched: nothing was begun, or the leaf table was
-- asked for, as for any command that signs, and its answer is told by the commitments.
pub data NamingEnds (words : SessionWords) (store : StoreRun) (source : MessageSource) (net : NetRun)
    : Result Signature Ending → List (List ℕ) → Type 0 where
  not_begun : (end : Ending) → FailsToBegin words store source end → net.after ≡ net.before
      → NamingEnds words store source net (Err end) []
  ended : (signing : Signing) (reads : CellsRead) (steady : Bool) (answer told : Result Signature Ending)
      (touched : List (List ℕ)) (task : IsTask words store source signing)
      (ends : TableEnds signing words.table store net answer touched)
      → ReadsCommits words store task.header reads steady
      → TellsEnd reads steady signing.message (last_in ends) answer told
      → NamingEnds words store source net told touched

-- the same for the words of the command
abbrev pub EndsNaming : SignWords → StoreRun → NetRun → Result Signature Ending → List (List ℕ) → Type 0
EndsNaming words store = NamingEnds (session_words words) store (message_in store words.message)

-- how the command ends, with the names that it touched
pub data BlameEnds (words : SignWords) (store : StoreRun) (net : NetRun) : Ending → List (List ℕ) → Type 0 where
  not_new : (end : Ending) → IsNotNew store words.out end → net.after ≡ net.before
      → BlameEnds words store net end []
  not_signed : (end : Ending) (touched : List (List ℕ)) → IsNew store words.out
      → EndsNaming words store net (Err end) touched → BlameEnds words store net end touched
  not_written : (signature : Signature) (end : Ending) (touched : List (List ℕ)) → IsNew store words.out
      → EndsNaming words store net (Ok signature) touched → IsNotWritten store [] words.out end
      → BlameEnds words store net end touched
  signed : (signature : Signature) (touched : List (List ℕ)) → IsNew store words.out
      → EndsNaming words store net (Ok signature) touched → IsWritten store words.out signature.bytes
      → BlameEnds words store net (ending.Signed signature.leaf) (words.out ∷ touched)

-- The command `blame`: an end by its rules. The store keeps all names but those that it touched, and all disks, views
-- and ports are back.
pub record BlameRun (words : SignWords) (store : StoreRun) (net : NetRun) (end : Ending) : Type 0 where
  pub touched : List (List ℕ)
  pub ends : BlameEnds words store net end touched
  pub keeps : Keeps touched store.before store.after
  pub ports : IsNetBack net.before net.after

-- internal: the session as a part of a run in which nothing was changed before it
pub record NamingRun (words : SignWords) (first last : StoreState) (net : NetRun)
    (result : Result SignedBy declared.Ending) : Type 0 where
  pub touched : List (List ℕ)
  pub ends : EndsNaming words (from_to first last) net (answer_by result) touched
  pub keeps : Keeps touched first last
  pub ports : IsNetBack net.before net.after
