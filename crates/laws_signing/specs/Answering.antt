-- What the links of a coalition's members gave, if each member answered both asks of a session with its own masks.
use Rattle.std.specs.Prelude.{◌≡◌, ◌++◌, ℕ, List, [], ◌∷◌, Ok}
use Rattle.aggregator_session.specs.Hearing.{hear}
use Rattle.trustee_core.specs.Approvals.{Decided}
use Rattle.lms_bytes.specs.declared.ask.Ask.{Ask}
use Rattle.lms_bytes.specs.declared.ask.ReplyHead.{ReplyHead}
use Rattle.reference_value.specs.Dealing.{Dealing, key_of, leaf_randomizer, random_mask}
use Rattle.session_core.specs.Asks.{ask_with}
use Rattle.session_core.specs.Dealing.{digit_masks}
use Rattle.session_core.specs.State.{State, turned}
use Rattle.session_core.specs.Verdicts.{digest_of}
use Rattle.share_files.specs.declared.share.Share.{Share}
use Rattle.stream_io.specs.Talk.{Talk}
use Rattle.trustee_core.specs.Decisions.{Granted}
use Rattle.trustee_node.specs.Replies.{reply_bytes}
use Rattle.trustee_node.specs.Turns.{InTurn}

-- The first reply that a member's bytes have for a session's ask, within eight frames, is these masks. These other
-- bytes follow it.
pub record Answers (s : State) (member : ℕ) (bytes masks rest : List ℕ) : Type 0 where
  pub head : ReplyHead
  pub granted : head.code ≡ 0
  pub heard : hear s member 8 bytes ≡ record { answer = Ok (head, masks); rest = rest }

-- a session in round two, with the dealer's randomizer
abbrev pub second_round : Dealing → State → State
second_round d s = turned s (leaf_randomizer d s.leaf)

-- the masks that a member has for a session's message, under the dealer's randomizer
abbrev pub message_masks : Dealing → State → List ℕ → ℕ → List ℕ
message_masks d s message member = digit_masks d s.leaf (digest_of (second_round d s) message) member

-- A member's link gave its mask of the randomizer for the ask of round one, and after it its masks at the message's
-- digits for that of round two. No call of the link failed, and nothing that was written was lost at its end.
pub record Gave (d : Dealing) (s : State) (message : List ℕ) (member : ℕ) (talk : Talk) : Type 0 where
  pub rest : List ℕ
  pub last : List ℕ
  pub first : Answers s member (talk.taken ++ talk.left) (random_mask d s.leaf member) rest
  pub second : Answers (second_round d s) member rest (message_masks d s message member) last
  pub faultless : talk.count ≡ 0

-- the same for each link of a list, the first of which is that of the first of these members
abbrev pub AllGave : Dealing → State → List ℕ → List ℕ → List Talk → Type 0
AllGave d s message members [] = Unit {0}
AllGave d s message [] (talk ∷ talks) = Unit {0}
AllGave d s message (member ∷ members) (talk ∷ talks) =
    Gave d s message member talk × AllGave d s message members talks

-- a trustee's share is that of its number in a dealing
pub record IsShareOf (d : Dealing) (share : Share) : Type 0 where
  pub params : share.params ≡ d.params
  pub id : share.id ≡ d.id
  pub key : share.key ≡ key_of d share.member

-- the reply of a trustee that grants an ask
abbrev pub grant : Share → Ask → List ℕ
grant share ask = reply_bytes share ask (InTurn (Decided Granted))

-- the replies of a trustee that grants both asks of a session, the second of them with this tag
abbrev pub grants : Dealing → State → List ℕ → Share → List ℕ → List ℕ
grants d s message share tag =
    let second = ask_with (second_round d s) tag (digest_of (second_round d s) message) in
    grant share (ask_with s [] []) ++ grant share second
