-- A member that the session for a lower key lost.
use Rattle.std.specs.Prelude.{◌⊎◌, ◌≤◌, ℕ, IsTrue}
use Rattle.aggregator_session.specs.declared.fault.Why.{Why}
use Rattle.disk_trait.specs.Faults.{Rose}
use Rattle.lms_bytes.specs.PublicKey.{public_bytes}
use Rattle.tool_base.specs.World.{StoreRun}
use Rattle.tool_sign.specs.HssSign.{session_words}
use Rattle.tool_sign.specs.Lower.{IsReady, Lower}
use Rattle.tool_sign.specs.Lost.{IsOfPeer, IsUnfailed, Loses, longest_asks}
use Rattle.tool_sign.specs.Ports.{NetRun}
use Rattle.tool_sign.specs.Tasks.{message_of}
use Rattle.tool_words.specs.Words.{HssSignWords}

-- the session for the lower key of the words lost this member in this round, for a reason of this kind
pub record LosesLower (kind : Why → Type 0) (words : HssSignWords) (store : StoreRun) (net : NetRun)
    (member round : ℕ) : Type 0 where
  pub lower : Lower
  pub ready : IsReady words store lower
  pub loses : Loses kind (session_words words) store (message_of (public_bytes lower.key)) net member round

-- it lost the member by no call that failed
abbrev pub LosesForLower : HssSignWords → StoreRun → NetRun → ℕ → ℕ → Type 0
LosesForLower words store net member round = LosesLower IsUnfailed words store net member round

-- The same over a net whose calls fail only because of their arguments, and whose links have room for the asks: it lost
-- the member because nobody could be dialled, or by what the peer sent or left out, or because no address names it.
abbrev pub LosesLowerPeer : HssSignWords → StoreRun → NetRun → ℕ → ℕ → Type 0
LosesLowerPeer words store net member round = LosesLower IsOfPeer words store net member round

-- what is known of a member whose reply is missing at the end of `hss sign`: the net's count of faults rose, or no call
-- failed; and over a steady net whose links have room for the asks of the longest message it is a loss by the peer
pub record MissesLower (words : HssSignWords) (store : StoreRun) (net : NetRun) (member round : ℕ) : Type 0 where
  pub lost : Rose net.before.count net.after.count ⊎ LosesForLower words store net member round
  pub peer : IsTrue net.before.steady → longest_asks ≤ net.before.room → LosesLowerPeer words store net member round
