-- What a lost member comes from.
use Rattle.std.proofs.Common.{◌≡◌, ◌⊎◌, ◌≤◌, inl, inr, ℕ, List, length, IsTrue, Result, Err, refl, ◌∙◌, subst, arith}
use Rattle.aggregator_session.specs.declared.fault.SignFault.{SignFault}
use Rattle.aggregator_session.specs.declared.fault.SignFault.TheVariants as fault
use Rattle.aggregator_session.specs.declared.fault.Why.{Why}
use Rattle.aggregator_session.specs.declared.fault.Why.TheVariants.{DialFailed, Ended, Garbled, NoAddress, ReadFailed, WriteFailed}
use Rattle.disk_trait.specs.Faults.{Rose}
use Rattle.aggregator_session.specs.Signing.{Signature, SignsLeased}
use Rattle.aggregator_session.specs.Signing as signing
use Rattle.aggregator_session.specs.Tables.{TableSeen}
use Rattle.stream_io.specs.Net.{PortState}
use Rattle.tool_base.specs.Ending as ending
use Rattle.tool_base.specs.Ending.{Ending}
use Rattle.tool_base.specs.Outputs.{IsNotNew, IsNotWritten, Output}
use Rattle.tool_base.specs.Reads.{FailsUpTo}
use Rattle.tool_base.specs.World.{StoreRun}
use Rattle.tool_base.specs.declared.unsigned.Unsigned.TheVariants as unsigned
use Rattle.tool_sign.proofs.Causes.{links-rose}
use Rattle.tool_sign.proofs.Origins.{AnswerComes, Comes, Origins, SignsCome, TaskComes, comes-by, new-comes, session-comes, sign-comes, unwritten-comes, upto-comes}
use Rattle.tool_sign.specs.Lost.{IsOfPeer, IsUnfailed, LosesMember, LosesPeer, longest_asks}
use Rattle.tool_sign.specs.Ports.{NetRun, SignedOver, Signing, sign_of}
use Rattle.tool_sign.specs.Sessions.{SessionEnds}
use Rattle.tool_sign.specs.Sign.{SigningRun, session_words}
use Rattle.tool_sign.specs.Tasks.{IsTask, MessageSource, SessionWords, message_in, message_limit}
use Rattle.tool_words.specs.Words.{SignWords}

-- the end if a member's reply is missing
abbrev pub missing : ℕ → ℕ → Ending
missing member round = ending.NotSigned (unsigned.Missing member round)

abbrev pub lost_with : ℕ → ℕ → Why → Result Signature SignFault
lost_with member round why = Err (fault.Lost member round why)

-- what follows from a session that lost this member in this round, whatever it is for
abbrev pub ByWhy : ℕ → ℕ → SessionWords → StoreRun → MessageSource → NetRun → Type 0 → Type 0
ByWhy member round asked store source net X =
    (s : Signing) (old new : TableSeen) (why : Why) → IsTask asked store source s → SignedOver s old new net (lost_with member round why) → X

same-lost : (m r member round : ℕ) (why : Why) → missing m r ≡ missing member round → lost_with m r why ≡ lost_with member round why
same-lost m r member round why is = cc

module _ (member round : ℕ) where
  -- this follows from the missing reply of this member in this round
  abbrev pub heard : Type 0 → Origins
  heard X = record { store = Unit {0}; device = Unit {0}; net = Unit {0}; missing = λ m r. missing m r ≡ missing member round → X }

  -- what is read, tested and written misses none
  module _ (store : StoreRun) where
    pub upto-heard : (limit : ℕ) (name : List ℕ) (end : Ending) → FailsUpTo limit store name end → end ≡ missing member round → ⊥
    upto-heard limit name end fails is = subst (Comes (heard ⊥)) is (upto-comes (heard ⊥) store limit name end (λ read. tt) fails) refl

    pub new-heard : (name : List ℕ) (end : Ending) → IsNotNew store name end → end ≡ missing member round → ⊥
    new-heard name end fails is = subst (Comes (heard ⊥)) is (new-comes (heard ⊥) store name end (λ failed. tt) fails) refl

    pub unwritten-heard : (written : List Output) (name : List ℕ) (end : Ending) → IsNotWritten store written name end → end ≡ missing member round → ⊥
    unwritten-heard written name end fails is = subst (Comes (heard ⊥)) is (unwritten-comes (heard ⊥) store written name end (λ failed. tt) fails) refl

  -- sessions, wherever their message comes from
  module _ (asked : SessionWords) (store : StoreRun) (source : MessageSource) (net : NetRun) (X : Type 0) where
    pub task-heard : ((end : Ending) → source.fails end → Comes (heard X) end) → TaskComes (heard X) asked store source
    task-heard message = record { message = message; key = λ read. tt; tree = λ read. tt; reference = λ read. tt; device = λ fails. tt }

    pub signs-heard : ByWhy member round asked store source net X → SignsCome (heard X) asked store source net
    signs-heard by s task = record {
      unread = λ read. tt;
      unloaded = λ fails. tt;
      unoffered = λ rose never. tt;
      table = λ signed. tt;
      reference = λ signed. tt;
      lost = λ m r why signed is. by s signed.old signed.new why task
          (subst (SignedOver s signed.old signed.new net) (same-lost m r member round why is) signed.over);
    }

  -- how a member was lost
  module _ (asked : SessionWords) (store : StoreRun) (source : MessageSource) (net : NetRun) where
    abbrev pub Loses : Type 0
    Loses = Rose net.before.count net.after.count ⊎ LosesMember asked store source net member round

    loses : (s : Signing) (old new : TableSeen) (why : Why) → IsTask asked store source s → IsUnfailed why → SignedOver s old new net (lost_with member round why) → Loses
    loses s old new why task unfailed over =
        inr (record { signing = s; task = task; old = old; new = new; why = why; of_kind = unfailed; over = over })

    pub by-why : ByWhy member round asked store source net Loses
    by-why s old new NoAddress task over = loses s old new NoAddress task tt over
    by-why s old new DialFailed task over = inl (links-rose s old new net (lost_with member round DialFailed) over (inl refl))
    by-why s old new WriteFailed task over = inl (links-rose s old new net (lost_with member round WriteFailed) over (inr (inl refl)))
    by-why s old new ReadFailed task over = inl (links-rose s old new net (lost_with member round ReadFailed) over (inr (inr refl)))
    by-why s old new Ended task over = loses s old new Ended task tt over
    by-why s old new (Garbled f) task over = loses s old new (Garbled f) task tt over

  module _ (asked : SessionWords) (store : StoreRun) (source : MessageSource) (source-heard : (end : Ending) → source.fails end → end ≡ missing member round → ⊥) (net : NetRun)
      (X : Type 0) (by : ByWhy member round asked store source net X) where
    source-comes : (end : Ending) → source.fails end → Comes (heard X) end
    source-comes end fails = comes-by (heard X) end (λ one. tt) (λ one. tt) (λ one. tt) (λ m r one same. absurd (source-heard end fails (one ∙ same)))

    pub session-by : (answer : Result Signature Ending) (touched : List (List ℕ)) → SessionEnds asked store source net answer touched → answer ≡ Err (missing member round) → X
    session-by answer touched ends is =
        subst (AnswerComes (heard X)) is
        (session-comes (heard X) asked store source (task-heard asked store source net X source-comes) net (signs-heard asked store source net X by) answer touched ends) refl

-- ---- over a steady net whose links have room for the asks
module _ (member round : ℕ) (asked : SessionWords) (store : StoreRun) (source : MessageSource) (net : NetRun) (steady : IsTrue net.before.steady) (room : longest_asks ≤ net.before.room) where
  -- a session that lost a member has a message from which an ask can be made
  short-of : (s : Signing) (old new : TableSeen) (port done : PortState) (why : Why) (outcome : Result Signature SignFault) → outcome ≡ lost_with member round why
      → SignsLeased (sign_of s) old port new done outcome → length s.message ≤ 16777216
  short-of s old new port done why _ is (signing.too_long long unread) = absurd (cc)
  short-of s old new port done why _ is (signing.not_leased after f short unread asks) = short
  short-of s old new port done why _ is (signing.leased leaf mid after now result short asks runs spends) = short

  of-peer : (s : Signing) (old new : TableSeen) (why : Why) → IsTask asked store source s → IsOfPeer why → SignedOver s old new net (lost_with member round why)
      → LosesPeer asked store source net member round
  of-peer s old new why task of over = record { signing = s; task = task; old = old; new = new; why = why; of_kind = of; over = over }

  pub peer-why : ByWhy member round asked store source net (LosesPeer asked store source net member round)
  peer-why s old new NoAddress task over = of-peer s old new NoAddress task tt over
  peer-why s old new DialFailed task over = of-peer s old new DialFailed task tt over
  peer-why s old new WriteFailed task over =
      let short = short-of s old new over.port over.done WriteFailed _ refl over.signs in
      let has = over.made.room in
      absurd (over.dialled.writes (over.made.steady steady) (omega (arith, room, short, has)) refl)
  peer-why s old new ReadFailed task over = absurd (over.dialled.reads (over.made.steady steady) refl)
  peer-why s old new Ended task over = of-peer s old new Ended task tt over
  peer-why s old new (Garbled f) task over = of-peer s old new (Garbled f) task tt over

module _ (words : SignWords) (store : StoreRun) (net : NetRun) (member round : ℕ) where
  abbrev source : MessageSource
  source = message_in store words.message

  ends-lost : (X : Type 0) → ByWhy member round (session_words words) store source net X → SigningRun words store net (missing member round) → X
  ends-lost X by run =
      sign-comes (heard member round X) words store net (λ failed. tt)
      (task-heard member round (session_words words) store source net X (λ end fails. upto-comes (heard member round X) store message_limit words.message end (λ read. tt) fails))
      (signs-heard member round (session_words words) store source net X by) (missing member round) run.touched run.ends refl

  abbrev pub LosesIt : Type 0
  LosesIt = Rose net.before.count net.after.count ⊎ LosesMember (session_words words) store source net member round

  pub loses-member : SigningRun words store net (missing member round) → LosesIt
  loses-member run =
      ends-lost LosesIt (by-why member round (session_words words) store source net) run

  pub loses-peer : IsTrue net.before.steady → longest_asks ≤ net.before.room → SigningRun words store net (missing member round) → LosesPeer (session_words words) store source net member round
  loses-peer steady room run =
      ends-lost (LosesPeer (session_words words) store source net member round) (peer-why member round (session_words words) store source net steady room) run
