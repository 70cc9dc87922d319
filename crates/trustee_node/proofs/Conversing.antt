-- A connection, ask by ask.
use Rattle.std.proofs.Common.{◌≡◌, ◌≢◌, ◌⊎◌, ◌+◌, ◌*◌, ◌≤◌, ◌<◌, ℕ, true, false, true≢false, List, [], ◌∷◌, ◌++◌, Result, Ok, Err, length, take, drop, refl, sym, ap, ◌∙◌, subst, arith, inl, inr, append_assoc, append-nil, length-append, take-append-drop}
use Rattle.std.proofs.lemmas.Grind.{flat_map-append}
use mathlib.Core.Logic.{dite}
use native.Mathlib.Decide.{dec_le}
use Rattle.trustee_core.specs.Approvals.{book_answer_in}
use Rattle.disk_trait.specs.Faults.{Rose}
use Rattle.lms_bytes.specs.declared.ask.Ask.{Ask}
use Rattle.lms_bytes.specs.declared.params.Params.{Params}
use Rattle.round_frames.specs.Asks.{asks}
use Rattle.round_frames.specs.Frames.{frame_of}
use Rattle.round_frames.specs.Reads.{Reads}
use Rattle.round_frames.specs.declared.fault.FrameFault.{FrameFault}
use Rattle.round_frames.specs.declared.fault.FrameFault.TheVariants.{End, Cut, Magic, Kind, TooLong, Shape}
use Rattle.round_frames.specs.declared.fault.FrameFault.TheVariants.{ReadFault, NoMemory}
use Rattle.share_files.specs.declared.share.Share.{Share}
use Rattle.stream_io.specs.Store.{RisesWhere}
use Rattle.stream_io.specs.Talk.{Talk, Took, WrotePart}
use Rattle.trustee_node.specs.Connections.{EndsBy, FaultBehind, HasWritten, HaveMoments, IsDated, LeftBehind, ReadsAsks, WroteButLast, read_none, read_one}
use Rattle.node_workers.specs.Ends.{IsLinkFault, end_by}
use Rattle.trustee_node.specs.Replies.{outcome_in, replies, reply_bytes}
use Rattle.trustee_node.specs.Turns.{Turn, is_code, is_worn, with_code}
use Rattle.node_workers.specs.declared.served.ServedEnd.{ServedEnd}
use Rattle.node_workers.specs.declared.served.ServedEnd.TheVariants.{Frame}
use Rattle.trustee_node.specs.declared.turn.Answer.{Answer}
use Rattle.trustee_node.specs.declared.turn.Answer.TheVariants as answer
use Rattle.trustee_node.proofs.Serving.{with_code-append}
use Rattle.trustee_node.proofs.Turning.{eleven}

-- what was read and what is left stay what they were together
took-all : (old new : Talk) (size : ℕ) → Took old new size → new.taken ++ new.left ≡ old.taken ++ old.left
took-all old new size took =
    ap (λ (l : List ℕ). l ++ new.left) took.taken ∙ ap (λ (l : List ℕ). (old.taken ++ take size old.left) ++ l) took.left
    ∙ append_assoc old.taken (take size old.left) (drop size old.left) ∙ ap (λ (l : List ℕ). old.taken ++ l) (take-append-drop size old.left)

module _ (params : Params) where
  -- one more ask
  pub asks-more : (bytes mid last : List ℕ) (turns : List Turn) (turn : Turn) → ReadsAsks params bytes turns mid → (frame_of (asks params) mid).result ≡ Ok turn.ask
      → last ≡ drop (frame_of (asks params) mid).size mid → ReadsAsks params bytes (turns ++ turn ∷ []) last
  asks-more bytes mid last turns turn (read_none at) is left =
      read_one at last turn [] is (subst (λ (l : List ℕ). ReadsAsks params (drop (frame_of (asks params) at).size at) [] l) (sym left) (read_none (drop (frame_of (asks params) at).size at)))
  asks-more bytes mid last turns turn (read_one at end one rest says first) is left =
      read_one at last one (rest ++ turn ∷ []) says (asks-more (drop (frame_of (asks params) at).size at) mid last rest turn first is left)

  -- an ask that was read
  pub record ReadOne (old new : Talk) (ask : Ask) : Type 0 where
    pub is : (frame_of (asks params) old.left).result ≡ Ok ask
    pub left : new.left ≡ drop (frame_of (asks params) old.left).size old.left
    pub all : new.taken ++ new.left ≡ old.taken ++ old.left

  pub ask-read : (old new : Talk) (ask : Ask) → Reads {V = Ask} old new (Ok ask) (frame_of (asks params) old.left) → ReadOne old new ask
  ask-read old new ask reads = elim reads [
    | inl gave ↦ record { is = sym gave.is; left = gave.took.left; all = took-all old new _ gave.took }
    | inr broke ↦ absurd (let is = broke.is in cc)
  ]

  -- a fault that was read
  pub record ReadNone (old new : Talk) (fault : FrameFault) : Type 0 where
    pub behind : (fault ≡ ReadFault) ⊎ FaultBehind params fault old.left new.left
    pub all : new.taken ++ new.left ≡ old.taken ++ old.left

  pub fault-read : (old new : Talk) (fault : FrameFault) → Reads {V = Ask} old new (Err fault) (frame_of (asks params) old.left) → ReadNone old new fault
  fault-read old new fault reads = elim reads [
    | inl gave ↦ record { behind = inr (sym gave.is, gave.took.left); all = took-all old new _ gave.took }
    | inr broke ↦ record { behind = inl (let is = broke.is in cc); all = took-all old new _ broke.took }
  ]

  -- how a connection ends by a fault
  left-by : (fault : FrameFault) (rest left : List ℕ) → (fault ≡ ReadFault) ⊎ FaultBehind params fault rest left → LeftBehind params (end_by fault) rest left
  left-by End rest left x = elim x [
    | inl is ↦ absurd (cc)
    | inr behind ↦ behind
  ]
  left-by Cut rest left x = x
  left-by Magic rest left x = x
  left-by (Kind got) rest left x = x
  left-by (TooLong got) rest left x = x
  left-by Shape rest left x = x
  left-by ReadFault rest left x = x
  left-by NoMemory rest left x = x

  pub left-ended : (ended : ServedEnd) (fault : FrameFault) (rest left : List ℕ) → ended ≡ end_by fault → (fault ≡ ReadFault) ⊎ FaultBehind params fault rest left → LeftBehind params ended rest left
  left-ended ended fault rest left is x = subst (λ (e : ServedEnd). LeftBehind params e rest left) (sym is) (left-by fault rest left x)

module _ (share : Share) (old new : Talk) (turns : List Turn) where
  written-by : (fault : FrameFault) → new.written ≡ old.written ++ replies share turns → HasWritten share old new (end_by fault) turns
  written-by End is = is
  written-by Cut is = is
  written-by Magic is = is
  written-by (Kind got) is = is
  written-by (TooLong got) is = is
  written-by Shape is = is
  written-by ReadFault is = is
  written-by NoMemory is = is

  pub written-ended : (ended : ServedEnd) (fault : FrameFault) → ended ≡ end_by fault → new.written ≡ old.written ++ replies share turns → HasWritten share old new ended turns
  written-ended ended fault same is = subst (λ (e : ServedEnd). HasWritten share old new e turns) (sym same) (written-by fault is)

module _ (frames : ℕ) (turns : List Turn) (count : frames ≡ length turns) (fresh : with_code 11 turns ≡ 0) where
  ends-by : (fault : FrameFault) → fault ≢ NoMemory → EndsBy (end_by fault) frames turns
  ends-by End other = (count, fresh)
  ends-by Cut other = ((λ is. absurd (cc)), other, count, fresh)
  ends-by Magic other = ((λ is. absurd (cc)), other, count, fresh)
  ends-by (Kind got) other = ((λ is. absurd (cc)), other, count, fresh)
  ends-by (TooLong got) other = ((λ is. absurd (cc)), other, count, fresh)
  ends-by Shape other = ((λ is. absurd (cc)), other, count, fresh)
  ends-by ReadFault other = ((λ is. absurd (cc)), other, count, fresh)
  ends-by NoMemory other = absurd (other refl)

  pub ends-ended : (ended : ServedEnd) (fault : FrameFault) → ended ≡ end_by fault → fault ≢ NoMemory → EndsBy ended frames turns
  ends-ended ended fault is other = subst (λ (e : ServedEnd). EndsBy e frames turns) (sym is) (ends-by fault other)

-- a count that stays if no link fails, and rises if one does
pub quiet-cause : (ended : ServedEnd) (old new : ℕ) → (IsLinkFault ended → ⊥) → new ≡ old → RisesWhere (IsLinkFault ended) old new
quiet-cause ended old new never same = record { later = omega (arith, same); rose = λ is. absurd (never is); same = λ _. same }

pub failed-cause : (ended : ServedEnd) (old mid new : ℕ) → IsLinkFault ended → mid ≡ old → mid ≤ new → Rose mid new → RisesWhere (IsLinkFault ended) old new
failed-cause ended old mid new is same later rose = record {
  later = omega (arith, same, later);
  rose = λ _. subst (λ (n : ℕ). Rose n new) same rose;
  same = λ never. absurd (never is);
}

abbrev pub FailsAs : FrameFault → Type 0
FailsAs fault = ◌≡◌ {A = Result Ask FrameFault} (Err fault) (Err ReadFault)

cause-frame : (fault : FrameFault) (old new : ℕ) → RisesWhere (FailsAs fault) old new → RisesWhere (IsLinkFault (Frame fault)) old new
cause-frame fault old new x = record { later = x.later; rose = λ is. x.rose (ap Err is); same = λ never. x.same (λ is. never (cc)) }

cause-by : (fault : FrameFault) (old new : ℕ) → RisesWhere (FailsAs fault) old new → RisesWhere (IsLinkFault (end_by fault)) old new
cause-by End old new x = record { later = x.later; rose = λ never. absurd never; same = λ _. x.same (λ is. absurd (cc)) }
cause-by Cut old new x = cause-frame Cut old new x
cause-by Magic old new x = cause-frame Magic old new x
cause-by (Kind got) old new x = cause-frame (Kind got) old new x
cause-by (TooLong got) old new x = cause-frame (TooLong got) old new x
cause-by Shape old new x = cause-frame Shape old new x
cause-by ReadFault old new x = cause-frame ReadFault old new x
cause-by NoMemory old new x = cause-frame NoMemory old new x

pub cause-ended : (ended : ServedEnd) (fault : FrameFault) (old mid new : ℕ) → ended ≡ end_by fault → mid ≡ old → RisesWhere (FailsAs fault) mid new → RisesWhere (IsLinkFault ended) old new
cause-ended ended fault old mid new is same x =
    subst (λ (e : ServedEnd). RisesWhere (IsLinkFault e) old new) (sym is) (subst (λ (n : ℕ). RisesWhere (IsLinkFault (end_by fault)) n new) same (cause-by fault mid new x))

pub read-end : (fault : FrameFault) → end_by fault ≡ Frame ReadFault → fault ≡ ReadFault
read-end End is = absurd (cc)
read-end Cut is = cc
read-end Magic is = cc
read-end (Kind got) is = cc
read-end (TooLong got) is = cc
read-end Shape is = cc
read-end ReadFault is = refl
read-end NoMemory is = cc

-- the moments of turns that follow other turns
moments-more : (answers : ℕ → ℕ) (from : ℕ) (turns : List Turn) (turn : Turn) → HaveMoments answers from turns → turn.moment ≡ answers (from + length turns) → HaveMoments answers from (turns ++ turn ∷ [])
moments-more answers from [] turn have is =
    let at : from + 0 ≡ from = omega arith in
    (is ∙ ap answers at, tt)
moments-more answers from (one ∷ turns) turn have is =
    let at : from + length (one ∷ turns) ≡ (from + 1) + length turns = omega arith in
    (have.0, moments-more answers (from + 1) turns turn have.1 (is ∙ ap answers at))

pub dated-none : (answers : ℕ → ℕ) → IsDated answers answers []
dated-none answers = record { moments = tt; later = λ j. ap answers (omega arith) }

pub dated-more : (before mid now : ℕ → ℕ) (turns : List Turn) (turn : Turn) → IsDated before mid turns → turn.moment ≡ mid 0 → ((j : ℕ) → now j ≡ mid (j + 1)) → IsDated before now (turns ++ turn ∷ [])
dated-more before mid now turns turn dated is later = record {
  moments = moments-more before 0 turns turn dated.moments (is ∙ dated.later 0);
  later = λ j.
      let at : (j + 1) + length turns ≡ j + length (turns ++ turn ∷ []) = omega (arith, length-append turns (turn ∷ [])) in
      later j ∙ dated.later (j + 1) ∙ ap before at;
}

-- the replies to turns that follow other turns
pub replies-more : (share : Share) (turns : List Turn) (turn : Turn) → replies share (turns ++ turn ∷ []) ≡ replies share turns ++ reply_bytes share turn.ask turn.outcome
replies-more share turns turn =
    let f = λ (t : Turn). reply_bytes share t.ask t.outcome in
    flat_map-append f turns (turn ∷ []) ∙ ap (λ (l : List ℕ). replies share turns ++ l) (append-nil (f turn))

replies-length : (share : Share) (turns : List Turn) (turn : Turn) → length (replies share (turns ++ turn ∷ [])) ≡ length (replies share turns) + length (reply_bytes share turn.ask turn.outcome)
replies-length share turns turn = ap length (replies-more share turns turn) ∙ length-append (replies share turns) (reply_bytes share turn.ask turn.outcome)

-- replies are together no longer than the same number of longest ones
pub small-more : (share : Share) (turns : List Turn) (turn : Turn) (longest : ℕ) → length (replies share turns) ≤ length turns * longest
    → length (reply_bytes share turn.ask turn.outcome) ≤ longest → length (replies share (turns ++ turn ∷ [])) ≤ length (turns ++ turn ∷ []) * longest
small-more share turns turn longest before last =
    let product : (length turns + 1) * longest ≡ length turns * longest + longest = grind arith in
    let all : length (turns ++ turn ∷ []) * longest ≡ (length turns + 1) * longest = ap (λ (n : ℕ). n * longest) (length-append turns (turn ∷ [])) in
    omega (arith, before, last, product, all, replies-length share turns turn)

-- the room left after one more reply
pub room-more : (share : Share) (turns : List Turn) (turn : Turn) (first mid last new : ℕ) → first ≤ mid + length (replies share turns) → mid ≤ last
    → last ≤ new + length (reply_bytes share turn.ask turn.outcome) → first ≤ new + length (replies share (turns ++ turn ∷ []))
room-more share turns turn first mid last new before read wrote = omega (arith, before, read, wrote, replies-length share turns turn)

-- a reply that does not fit is one too many
pub room-short : (share : Share) (turns : List Turn) (turn : Turn) (first mid last : ℕ) → first ≤ mid + length (replies share turns) → mid ≤ last
    → (length (reply_bytes share turn.ask turn.outcome) ≤ last → ⊥) → first < length (replies share (turns ++ turn ∷ []))
room-short share turns turn first mid last before read full =
    dite (dec_le (length (replies share (turns ++ turn ∷ []))) first)
    (λ fits. absurd (full (omega (arith, before, read, fits, replies-length share turns turn))))
    (λ never. omega (arith, never))

-- a fault of a frame that is a fault of the link
pub link-fault : (fault : FrameFault) → IsLinkFault (end_by fault) → fault ≡ ReadFault
link-fault End is = absurd is
link-fault Cut is = is
link-fault Magic is = is
link-fault (Kind got) is = is
link-fault (TooLong got) is = is
link-fault Shape is = is
link-fault ReadFault is = is
link-fault NoMemory is = is

pub written-more : (share : Share) (turns : List Turn) (turn : Turn) (old mid last new : List ℕ) → mid ≡ old ++ replies share turns → last ≡ mid → new ≡ last ++ reply_bytes share turn.ask turn.outcome → new ≡ old ++ replies share (turns ++ turn ∷ [])
written-more share turns turn old mid last new before same now =
    let bytes = reply_bytes share turn.ask turn.outcome in
    now ∙ ap (λ (l : List ℕ). l ++ bytes) (same ∙ before) ∙ append_assoc old (replies share turns) bytes ∙ ap (λ (l : List ℕ). old ++ l) (sym (replies-more share turns turn))

pub written-part : (share : Share) (turns : List Turn) (turn : Turn) (old mid new : Talk) → mid.written ≡ old.written ++ replies share turns → WrotePart mid new (reply_bytes share turn.ask turn.outcome) → WroteButLast share old new (turns ++ turn ∷ [])
written-part share turns turn old mid new before part =
    let beginning = take part.size (reply_bytes share turn.ask turn.outcome) in
    record {
      before = turns;
      last = turn;
      turns_are = refl;
      size = part.size;
      short = part.short;
      written = part.written ∙ ap (λ (l : List ℕ). l ++ beginning) before ∙ append_assoc old.written (replies share turns) beginning;
    }

-- whether the last turn was worn
pub worn-is : (given : Answer) → is_worn (outcome_in given) ≡ true → is_code 11 (outcome_in given) ≡ 1
worn-is (answer.Decided result) worn = absurd (true≢false (sym worn))
worn-is answer.Worn worn = refl

pub fresh-is : (given : Answer) → is_worn (outcome_in given) ≡ false → is_code 11 (outcome_in given) ≡ 0
fresh-is (answer.Decided result) fresh = eleven (book_answer_in result)
fresh-is answer.Worn fresh = absurd (true≢false fresh)

pub worn-few : (given : Answer) → is_code 11 (outcome_in given) ≤ 1
worn-few (answer.Decided result) = let none = fresh-is (answer.Decided result) refl in omega (arith, none)
worn-few answer.Worn = let one = worn-is answer.Worn refl in omega (arith, one)

pub worn-more : (turns : List Turn) (turn : Turn) (n : ℕ) → with_code 11 turns ≡ 0 → is_code 11 turn.outcome ≡ n → with_code 11 (turns ++ turn ∷ []) ≡ n
worn-more turns turn n none is = omega (arith, none, is, with_code-append 11 turns (turn ∷ []))

pub worn-most : (turns : List Turn) (turn : Turn) → with_code 11 turns ≡ 0 → is_code 11 turn.outcome ≤ 1 → with_code 11 (turns ++ turn ∷ []) ≤ 1
worn-most turns turn none few = omega (arith, none, few, with_code-append 11 turns (turn ∷ []))

pub length-more : (turns : List Turn) (turn : Turn) → length (turns ++ turn ∷ []) ≡ length turns + 1
length-more turns turn = length-append turns (turn ∷ [])
