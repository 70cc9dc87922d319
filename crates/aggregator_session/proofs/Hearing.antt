-- Reading on for an answer.
use Rattle.std.proofs.Common.{◌≡◌, ◌≢◌, ◌⊎◌, ◌++◌, ℕ, suc, Bool, true, false, List, Result, Ok, Err, IsTrue, take, drop, refl, sym, ap, subst, ◌∙◌, arith, append_assoc, take-append-drop, inl, inr, if◌then◌else◌}
use Rattle.aggregator_session.specs.Faults.{why_of}
use Rattle.aggregator_session.specs.Hearing.{Came, by_frame, is_heard, hear, is_answer, or_lost, unread}
use Rattle.aggregator_session.specs.declared.fault.SignFault.{SignFault}
use Rattle.aggregator_session.specs.declared.fault.SignFault.TheVariants.{Lost, Session, Stray}
use Rattle.aggregator_session.specs.declared.fault.Why.{Why}
use Rattle.aggregator_session.specs.declared.fault.Why.TheVariants.{ReadFailed}
use Rattle.lms_bytes.specs.declared.ask.ReplyHead.{ReplyHead}
use Rattle.lms_bytes.specs.declared.params.Params.{Params}
use Rattle.round_frames.specs.Frames.{Says, frame_of}
use Rattle.round_frames.specs.Reads.{Reads}
use Rattle.round_frames.specs.Replies.{Reply, replies}
use Rattle.round_frames.specs.declared.fault.FrameFault.{FrameFault}
use Rattle.round_frames.specs.declared.fault.FrameFault.TheVariants.{End, Cut, Magic, Kind, TooLong, Shape}
use Rattle.round_frames.specs.declared.fault.FrameFault.TheVariants.{ReadFault, NoMemory}
use Rattle.session_core.specs.State.{State, round_of}
use Rattle.session_core.specs.declared.faults.SessionFault.TheVariants.{Reference}
use Rattle.stream_io.specs.Store.{RisesWhere}
use Rattle.stream_io.specs.Talk.{OnlyRead, Talk, Took}

pub only-same : (talk : Talk) → OnlyRead talk talk
only-same talk = record { told = refl; place = refl; written = refl; room = omega arith; count = omega arith }

pub only-then : (a b c : Talk) → OnlyRead a b → OnlyRead b c → OnlyRead a c
only-then a b c x y = record {
  told = y.told ∙ x.told;
  place = y.place ∙ x.place;
  written = y.written ∙ x.written;
  room = (let p = x.room in let q = y.room in omega arith);
  count = (let p = x.count in let q = y.count in omega arith);
}

abbrev pub came : Result Reply SignFault → List ℕ → Came
came answer rest = record { answer = answer; rest = rest }

-- what was read and what is left stay what they were together
took-all : (old new : Talk) (size : ℕ) → Took old new size → new.taken ++ new.left ≡ old.taken ++ old.left
took-all old new size took =
    ap (λ (l : List ℕ). l ++ new.left) took.taken ∙ ap (λ (l : List ℕ). (old.taken ++ take size old.left) ++ l) took.left
    ∙ append_assoc old.taken (take size old.left) (drop size old.left) ∙ ap (λ (l : List ℕ). old.taken ++ l) (take-append-drop size old.left)

pub read-all : (old new : Talk) (result : Result Reply FrameFault) (says : Says Reply) → Reads {V = Reply} old new result says → new.taken ++ new.left ≡ old.taken ++ old.left
read-all old new result says reads = elim reads [
  | inl gave ↦ took-all old new _ gave.took
  | inr broke ↦ took-all old new _ broke.took
]

module _ (s : State) (member : ℕ) where
  pub hear-none : (bytes : List ℕ) → hear s member 0 bytes ≡ came (Err (Stray member (round_of s))) bytes
  unfolding hear
  hear-none bytes = refl

  hear-by : (most : ℕ) (bytes rest : List ℕ) (result : Result Reply FrameFault) → result ≡ (frame_of (replies s.key.params) bytes).result
      → rest ≡ drop (frame_of (replies s.key.params) bytes).size bytes → hear s member (suc most) bytes ≡ by_frame s member (hear s member most) rest (or_lost s member result)
  unfolding hear
  hear-by most bytes rest result is left =
      ap (λ (x : Result Reply FrameFault). by_frame s member (hear s member most) (drop (frame_of (replies s.key.params) bytes).size bytes) (or_lost s member x)) (sym is)
      ∙ ap (λ (x : List ℕ). by_frame s member (hear s member most) x (or_lost s member result)) (sym left)

  hear-ok : (most : ℕ) (old new : Talk) (reply : Reply) (b : Bool) → Reads {V = Reply} old new (Ok reply) (frame_of (replies s.key.params) old.left) → is_answer s member reply ≡ b
      → hear s member (suc most) old.left ≡ (if b then came (Ok reply) new.left else hear s member most new.left)
  hear-ok most old new reply b reads is = elim reads [
    | inl gave ↦ hear-by most old.left new.left (Ok reply) gave.is gave.took.left ∙ ap (λ (x : Bool). if x then came (Ok reply) new.left else hear s member most new.left) is
    | inr broke ↦ absurd (let no = broke.is in cc)
  ]

  pub hear-answered : (most : ℕ) (old new : Talk) (reply : Reply) → Reads {V = Reply} old new (Ok reply) (frame_of (replies s.key.params) old.left) → is_answer s member reply ≡ true
      → hear s member (suc most) old.left ≡ came (Ok reply) new.left
  hear-answered most old new reply reads is = hear-ok most old new reply true reads is

  pub hear-passed : (most : ℕ) (old new : Talk) (reply : Reply) → Reads {V = Reply} old new (Ok reply) (frame_of (replies s.key.params) old.left) → is_answer s member reply ≡ false
      → hear s member (suc most) old.left ≡ hear s member most new.left
  hear-passed most old new reply reads is = hear-ok most old new reply false reads is

  pub hear-lost : (most : ℕ) (old new : Talk) (fault : FrameFault) → Reads {V = Reply} old new (Err fault) (frame_of (replies s.key.params) old.left)
      → (hear s member (suc most) old.left ≡ came (Err (Lost member (round_of s) (why_of fault))) new.left) ⊎ (fault ≡ ReadFault)
  hear-lost most old new fault reads = elim reads [
    | inl gave ↦ inl (hear-by most old.left new.left (Err fault) gave.is gave.took.left)
    | inr broke ↦ inr (let is = broke.is in cc)
  ]

-- a fault that is told as a failed read is one, since the reader takes no memory
pub read-failed : (fault : FrameFault) → fault ≢ NoMemory → why_of fault ≡ ReadFailed → fault ≡ ReadFault
read-failed End not is = absurd (cc)
read-failed Cut not is = absurd (cc)
read-failed Magic not is = absurd (cc)
read-failed (Kind got) not is = absurd (cc)
read-failed (TooLong got) not is = absurd (cc)
read-failed Shape not is = absurd (cc)
read-failed ReadFault not is = refl
read-failed NoMemory not is = absurd (not refl)

pub reads-as : (p q : Params) (old new : Talk) (result : Result Reply FrameFault) → p ≡ q → Reads {V = Reply} old new result (frame_of (replies q) old.left) → Reads {V = Reply} old new result (frame_of (replies p) old.left)
reads-as p q old new result is reads = subst (λ (x : Params). Reads {V = Reply} old new result (frame_of (replies x) old.left)) (sym is) reads

-- an answer that is not a failed read, after calls that raised no count
pub quiet-cause : (Failed : Type 0) (before now : ℕ) → (Failed → ⊥) → now ≡ before → RisesWhere Failed before now
quiet-cause Failed before now never same = record { later = omega arith; rose = λ is. absurd (never is); same = λ _. same }

-- a reader's answer, and a member's, that are not a reply
abbrev no_frame : FrameFault → Result (ReplyHead × ℕ) FrameFault
no_frame fault = Err fault

abbrev pub no_answer : SignFault → Result Reply SignFault
no_answer fault = Err fault

-- the loss of a member by a fault of a frame raises the count if the fault is a failed read
pub lost-cause : (s : State) (member : ℕ) (fault : FrameFault) (before mid now : ℕ) → fault ≢ NoMemory → mid ≡ before
    → RisesWhere (no_frame fault ≡ no_frame ReadFault) mid now → RisesWhere (no_answer (Lost member (round_of s) (why_of fault)) ≡ unread s member) before now
lost-cause s member fault before mid now small same cause = record {
  later = (let a = cause.later in omega arith);
  rose = λ is. (let r = cause.rose (ap no_frame (read-failed fault small (let x = is in cc))) in omega arith);
  same = λ never. cause.same (λ is. never (let f : fault ≡ ReadFault = cc in ap (λ (x : FrameFault). no_answer (Lost member (round_of s) (why_of x))) f)) ∙ same;
}

-- what is heard at the last of a loop
pub none-lost : (s : State) (member : ℕ) → no_answer (Stray member (round_of s)) ≡ unread s member → ⊥
none-lost s member is = absurd (cc)

pub heard-why : (fault : FrameFault) → IsTrue (is_heard (why_of fault))
heard-why End = refl
heard-why Cut = refl
heard-why Magic = refl
heard-why (Kind got) = refl
heard-why (TooLong got) = refl
heard-why Shape = refl
heard-why ReadFault = refl
heard-why NoMemory = refl

-- a member that is lost or strays is not a reference that was not read
pub lost-reference : {V : Type 0} (member round : ℕ) (why : Why) → ◌≡◌ {A = Result V SignFault} (Err (Lost member round why)) (Err (Session Reference)) → ⊥
lost-reference member round why is = absurd (cc)

pub stray-reference : {V : Type 0} (member round : ℕ) → ◌≡◌ {A = Result V SignFault} (Err (Stray member round)) (Err (Session Reference)) → ⊥
stray-reference member round is = absurd (cc)
