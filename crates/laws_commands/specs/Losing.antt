-- A member that a command lost when no call of the net fails except for its arguments.
use Rattle.std.specs.Prelude.{ℕ}
use Rattle.tool_base.specs.World.{Outside, from_to}
use Rattle.tool_sign.specs.LostLower.{LosesLowerPeer}
use Rattle.tool_sign.specs.Lost.{LosesPeer}
use Rattle.tool_sign.specs.Ports.{over_net}
use Rattle.tool_sign.specs.Sign.{session_words}
use Rattle.tool_sign.specs.Tasks.{message_in}
use Rattle.tool_words.specs.Words.{Row, Sign, Blame, HssSign, SignWords}

-- the session for the message of these words lost this member in this round because of its peer, and not because a
-- write or a read failed
abbrev pub LosesInSession : SignWords → Outside → Outside → ℕ → ℕ → Type 0
LosesInSession words before after member round =
    let store = from_to before.store after.store in
    LosesPeer (session_words words) store (message_in store words.message) (over_net before.net after.net) member round

-- the same for a command: for `sign`, `blame` and `hss sign`, which run a session; of any other it says nothing
abbrev pub LosesByPeer : Row → Outside → Outside → ℕ → ℕ → Type 0
LosesByPeer (Sign words) before after member round = LosesInSession words before after member round
LosesByPeer (Blame words) before after member round = LosesInSession words before after member round
LosesByPeer (HssSign words) before after member round =
    LosesLowerPeer words (from_to before.store after.store) (over_net before.net after.net) member round
LosesByPeer row before after member round = Unit {0}
