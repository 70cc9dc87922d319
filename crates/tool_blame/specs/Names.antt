-- The members that commitments blame, as the end of a command.
use Rattle.std.specs.Prelude.{◌≡◌, ◌≢◌, ℕ, Bool, List, Option, Some, Result, Ok, Err, IsTrue}
use Rattle.std.specs.List.Sorted.{IsStrictlyIncreasing}
use Rattle.aggregator_session.specs.Runs.{CellsRead}
use Rattle.disk_trait.specs.Faults.{Rose}
use Rattle.share_blame.specs.Blamed.{AreBlamed}
use Rattle.aggregator_session.specs.Signing.{Signature}
use Rattle.session_core.specs.State.{State}
use Rattle.session_core.specs.Verdicts.{digest_of}
use Rattle.tool_base.specs.Ending as ending
use Rattle.tool_base.specs.Ending.{Ending, status_of}
use Rattle.tool_base.specs.declared.unsigned.Unsigned.TheVariants.{Blamed}

-- The end of a session that is compared with commitments: just the members that they blame are named, in ascending
-- order and each once, or a commitment was not read. Then the count of the view rose, and the view is not steady or
-- does not tell its content.
pub data NamesEnd (reads : CellsRead) (steady : Bool) (session : State) (digest : List ℕ) : Ending → Type 0 where
  named : (members : List ℕ) → IsStrictlyIncreasing members
      → (IsTrue reads.told → AreBlamed reads.leaves session digest members)
      → NamesEnd reads steady session digest (ending.NotSigned (Blamed members))
  unread : Rose reads.before reads.now → (IsTrue reads.told → IsTrue steady → ⊥)
      → NamesEnd reads steady session digest ending.DeviceFailed

-- What is told about a session's answer. If the masks were not accepted (status 8), the session in its state at the end
-- is compared with the commitments, in round two at the digits of the message's digest; all else is told as it is.
pub data TellsEnd (reads : CellsRead) (steady : Bool) (message : List ℕ) (session : Option State)
    : Result Signature Ending → Result Signature Ending → Type 0 where
  as_signed : (signature : Signature) → TellsEnd reads steady message session (Ok signature) (Ok signature)
  as_ended : (end : Ending) → status_of end ≢ 8 → TellsEnd reads steady message session (Err end) (Err end)
  by_names : (end told : Ending) (last : State) → status_of end ≡ 8 → session ≡ Some last
      → NamesEnd reads steady last (digest_of last message) told
      → TellsEnd reads steady message session (Err end) (Err told)
