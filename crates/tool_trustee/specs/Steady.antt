-- What a trustee grants if nothing outside fails.
use Rattle.std.specs.Prelude.{◌≡◌, ℕ, List, All, Option, None, Some}
use Rattle.trustee_core.specs.Approvals.{Decided}
use Rattle.lms_bytes.specs.MessageId.{message_id_bytes}
use Rattle.lms_bytes.specs.declared.ask.Ask.{Ask}
use Rattle.lms_bytes.specs.declared.ask.Second.{Second}
use Rattle.opening_journal.specs.Entries.{IsBound, IsFree, IsOpened, LeafState, map_of}
use Rattle.opening_journal.specs.Opening.{AnswersFor}
use Rattle.opening_journal.specs.declared.entry.Entry.{Entry}
use Rattle.share_files.specs.declared.share.Share.{Share}
use Rattle.stream_io.specs.Net.{NetState}
use Rattle.stream_io.specs.Store.{StoreState}
use Rattle.tool_base.specs.Ending.{Ending}
use Rattle.tool_base.specs.World.{Outside, TimeState}
use Rattle.tool_trustee.specs.Trustee.{ServedTrustee}
use Rattle.tool_words.specs.Words.{TrusteeWords}
use Rattle.trustee_core.specs.Decisions.{Granted}
use Rattle.trustee_node.specs.Turns.{InTurn, ReachesJournal, Turn}

-- A leaf in this state grants the ask: in round one it is free, or answers for the ask's message; in round two it is
-- bound to that message, or was opened for it with this randomizer and digest.
pub data LeafGrants (ask : Ask) (leaf : LeafState) : Type 0 where
  first_free : ask.second ≡ None → leaf ≡ IsFree → LeafGrants ask leaf
  first_kept : ask.second ≡ None → AnswersFor (message_id_bytes ask.message) leaf → LeafGrants ask leaf
  second_bound : (pair : Second) → ask.second ≡ Some pair → leaf ≡ IsBound (message_id_bytes ask.message)
      → LeafGrants ask leaf
  second_kept : (pair : Second) (moment : ℕ) → ask.second ≡ Some pair
      → leaf ≡ IsOpened (message_id_bytes ask.message) pair.c pair.digest moment → LeafGrants ask leaf

-- the trustee of this share grants the ask, with this book or none, if it has just these entries
pub record MayGrant (share : Share) (ids : Option (List (List ℕ))) (entries : List Entry) (ask : Ask) : Type 0 where
  pub reaches : ReachesJournal share ids ask
  pub leaf : LeafGrants ask (map_of entries ask.leaf)

-- each of these turns whose ask is granted on the entries that it met was granted
abbrev pub GrantsAll : Share → Option (List (List ℕ)) → List Turn → Type 0
GrantsAll share ids turns =
    All (λ (turn : Turn). MayGrant share ids turn.seen turn.ask → turn.outcome ≡ InTurn (Decided Granted)) turns

-- the outside with this store, this net and this time
abbrev pub outside : StoreState → NetState → TimeState → Outside
outside store net time = record { store = store; net = net; time = time }

-- In any service of a trustee over a store that goes from one state to the other, whatever its words, its net, its time
-- and its end: this holds for the outside before and after it, for the end, and for what was served.
abbrev pub InAnyService : StoreState → StoreState
    → ((words : TrusteeWords) (before after : Outside) (end : Ending) → ServedTrustee words before after end → Type 0)
    → Type 0
InAnyService old new holds = (words : TrusteeWords) (net_old net_new : NetState) (time later : TimeState) (end : Ending)
    (run : ServedTrustee words (outside old net_old time) (outside new net_new later) end)
    → holds words (outside old net_old time) (outside new net_new later) end run
