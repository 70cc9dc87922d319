-- A member that a session lost though no call of the port or of its link failed.
use Rattle.std.specs.Prelude.{◌⊎◌, ◌≤◌, ℕ, Result, Err, IsTrue}
use Rattle.aggregator_session.specs.Faults.{LostBy}
use Rattle.aggregator_session.specs.Signing.{Signature}
use Rattle.aggregator_session.specs.declared.fault.SignFault.{SignFault}
use Rattle.aggregator_session.specs.declared.fault.SignFault.TheVariants.{Lost}
use Rattle.aggregator_session.specs.declared.fault.Why.{Why}
use Rattle.aggregator_session.specs.declared.fault.Why.TheVariants.{DialFailed, Ended, Garbled, NoAddress, ReadFailed}
use Rattle.aggregator_session.specs.declared.fault.Why.TheVariants.{WriteFailed}
use Rattle.aggregator_session.specs.Tables.{TableSeen}
use Rattle.disk_trait.specs.Faults.{Rose}
use Rattle.tool_base.specs.World.{StoreRun}
use Rattle.tool_sign.specs.Ports.{NetRun, SignedOver, Signing}
use Rattle.tool_sign.specs.Sign.{session_words}
use Rattle.tool_sign.specs.Tasks.{IsTask, MessageSource, SessionWords, message_in}
use Rattle.tool_words.specs.Words.{SignWords}

-- no address names the member, its link ended before a reply, or what it sent is no frame of a reply
abbrev pub IsUnfailed : Why → Type 0
IsUnfailed NoAddress = Unit {0}
IsUnfailed DialFailed = ⊥
IsUnfailed WriteFailed = ⊥
IsUnfailed ReadFailed = ⊥
IsUnfailed Ended = Unit {0}
IsUnfailed (Garbled fault) = Unit {0}

-- the same, or nobody could be dialled at the member's place
abbrev pub IsOfPeer : Why → Type 0
IsOfPeer NoAddress = Unit {0}
IsOfPeer DialFailed = Unit {0}
IsOfPeer WriteFailed = ⊥
IsOfPeer ReadFailed = ⊥
IsOfPeer Ended = Unit {0}
IsOfPeer (Garbled fault) = Unit {0}

-- this project's profile: how many bytes at most a session writes to a member, if its message has the 16,777,216 bytes
-- that are the most
abbrev pub longest_asks : ℕ
longest_asks = 16777372

-- A session for what the words name was run over a port of the net, and lost this member in this round, for a reason of
-- this kind.
pub record Loses (kind : Why → Type 0) (words : SessionWords) (store : StoreRun) (source : MessageSource) (net : NetRun)
    (member round : ℕ) : Type 0 where
  pub signing : Signing
  pub task : IsTask words store source signing
  pub old : TableSeen
  pub new : TableSeen
  pub why : Why
  pub of_kind : kind why
  pub over : SignedOver signing old new net (Err (Lost member round why))

-- it lost the member by no call that failed
abbrev pub LosesMember : SessionWords → StoreRun → MessageSource → NetRun → ℕ → ℕ → Type 0
LosesMember words store source net member round = Loses IsUnfailed words store source net member round

-- The same over a net whose calls fail only because of their arguments, and whose links have room for the asks: it lost
-- the member because nobody could be dialled, or by what the peer sent or left out, or because no address names it.
abbrev pub LosesPeer : SessionWords → StoreRun → MessageSource → NetRun → ℕ → ℕ → Type 0
LosesPeer words store source net member round = Loses IsOfPeer words store source net member round

-- what is known of a member whose reply is missing at the end of `sign`: the net's count of faults rose, or no call
-- failed; and over a steady net whose links have room for the asks of the longest message it is a loss by the peer
pub record MissesReply (words : SignWords) (store : StoreRun) (net : NetRun) (member round : ℕ) : Type 0 where
  pub lost : Rose net.before.count net.after.count
      ⊎ LosesMember (session_words words) store (message_in store words.message) net member round
  pub peer : IsTrue net.before.steady → longest_asks ≤ net.before.room
      → LosesPeer (session_words words) store (message_in store words.message) net member round

-- a member was lost because it could not be dialled, written to or read
abbrev pub LostByCall : Result Signature SignFault → Type 0
LostByCall outcome = LostBy DialFailed outcome ⊎ LostBy WriteFailed outcome ⊎ LostBy ReadFailed outcome
