-- How a session that is run with the files of a dealing ends: it reads them and the message, tests that they go
-- together, and signs with the leaf table over one port.
use Rattle.std.specs.Prelude.{◌≡◌, ℕ, List, [], Result, Ok, Err, IfOk}
use Rattle.aggregator_session.specs.Signing.{Signature}
use Rattle.lms_bytes.specs.declared.public_key.PublicKey.{PublicKey}
use Rattle.stream_io.specs.Store.{StoreState}
use Rattle.tool_base.specs.Ending.{Ending}
use Rattle.tool_base.specs.Endings as endings
use Rattle.tool_base.specs.declared.ending.Ending as declared
use Rattle.tool_base.specs.Touched.{Keeps}
use Rattle.tool_base.specs.World.{IsNetBack, StoreRun, from_to}
use Rattle.tool_sign.specs.Ports.{NetRun, Signing}
use Rattle.tool_sign.specs.Signs.{TableEnds}
use Rattle.tool_sign.specs.Tasks.{FailsTask, IsTask, MessageSource, SessionWords}
use Rattle.tool_sign.specs.declared.task.SignedBy.{SignedBy}

-- how a session ends, with the names that it touched: nothing was begun, or the leaf table was asked for
pub data SessionEnds (words : SessionWords) (store : StoreRun) (source : MessageSource) (net : NetRun)
    : Result Signature Ending → List (List ℕ) → Type 0 where
  no_task : (end : Ending) → FailsTask words store source end → net.after ≡ net.before
      → SessionEnds words store source net (Err end) []
  ended : (signing : Signing) (answer : Result Signature Ending) (touched : List (List ℕ))
      → IsTask words store source signing → TableEnds signing words.table store net answer touched
      → SessionEnds words store source net answer touched

-- a session gave this signature, and this is the key of the desk that it was made with
pub record IsSignedBy (words : SessionWords) (store : StoreRun) (source : MessageSource) (net : NetRun)
    (key : PublicKey) (signature : Signature) (touched : List (List ℕ)) : Type 0 where
  pub signing : Signing
  pub task : IsTask words store source signing
  pub ends : TableEnds signing words.table store net (Ok signature) touched
  pub key_is : signing.desk.key ≡ key

-- the leaf and the signature of a session
abbrev pub signature_by : SignedBy → Signature
signature_by by = record { leaf = by.signed.leaf; bytes = by.signed.bytes.items }

-- the signature of a session, or its end
abbrev pub answer_by : Result SignedBy declared.Ending → Result Signature Ending
answer_by (Ok by) = Ok (signature_by by)
answer_by (Err end) = Err (endings.ending end)

-- internal: A session as a part of a run in which nothing was changed before it. The store keeps all but the names
-- that it touched, and all disks, views and ports are back.
pub record SessionRun (words : SessionWords) (source : StoreRun → MessageSource) (first last : StoreState)
    (net : NetRun) (result : Result SignedBy declared.Ending) : Type 0 where
  pub touched : List (List ℕ)
  pub ends : SessionEnds words (from_to first last) (source (from_to first last)) net (answer_by result) touched
  pub signed : IfOk result (λ by.
      IsSignedBy words (from_to first last) (source (from_to first last)) net by.key (signature_by by) touched)
  pub keeps : Keeps touched first last
  pub ports : IsNetBack net.before net.after
