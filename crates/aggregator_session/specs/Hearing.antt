-- One ask to a member, and what is heard of it.
use Rattle.std.specs.Prelude.{◌≡◌, ◌⊎◌, ◌++◌, ℕ, zero, suc, ◌==◌, Bool, true, false, List, drop, IsTrue}
use Rattle.std.specs.Prelude.{Result, Ok, Err, IfErr, IfOk, if◌then◌else◌}
use Rattle.aggregator_session.specs.Faults.{why_of}
use Rattle.aggregator_session.specs.declared.fault.SignFault.{SignFault}
use Rattle.aggregator_session.specs.declared.fault.SignFault.TheVariants.{Lost, NoMemory, Session, Stray, Table}
use Rattle.aggregator_session.specs.declared.fault.SignFault.TheVariants.{TooLong}
use Rattle.aggregator_session.specs.declared.fault.SignFault.TheVariants.{Worn}
use Rattle.aggregator_session.specs.declared.fault.Why.{Why}
use Rattle.aggregator_session.specs.declared.fault.Why.TheVariants.{DialFailed, Ended, Garbled, NoAddress, ReadFailed}
use Rattle.aggregator_session.specs.declared.fault.Why.TheVariants.{WriteFailed}
use Rattle.disk_trait.specs.Faults.{Rose}
use Rattle.round_frames.specs.Frames.{frame_of}
use Rattle.round_frames.specs.Replies.{Reply, replies}
use Rattle.round_frames.specs.declared.fault.FrameFault.{FrameFault}
use Rattle.session_core.specs.Replies.{step_of, with_delivery}
use Rattle.session_core.specs.State.{State, round_of}
use Rattle.session_core.specs.declared.step.Step.{Step}
use Rattle.session_core.specs.declared.step.Step.TheVariants.{NotMine, Repeat, Kept}
use Rattle.stream_io.specs.Store.{RisesWhere}
use Rattle.stream_io.specs.Talk.{OnlyRead, OnlyWrote, Talk, WrotePart}

abbrev pub is_kept : Step → Bool
is_kept NotMine = false
is_kept Repeat = false
is_kept Kept = true

-- the reply names the link's member in its head, and the session keeps it: no other is given to the session
abbrev pub is_answer : State → ℕ → Reply → Bool
is_answer s member reply = if reply.0.member == member then is_kept (step_of s reply.0 reply.1) else false

-- it is masks, and not a refusal
abbrev pub is_masks : Reply → Bool
is_masks reply = reply.0.code == 0

-- what was heard of a member, and what is left of its bytes
pub record Came : Type 0 where
  pub answer : Result Reply SignFault
  pub rest : List ℕ

-- by the next frame, which is passed over if it is not an answer
abbrev pub by_frame : State → ℕ → (List ℕ → Came) → List ℕ → Result Reply SignFault → Came
by_frame s member next rest (Err fault) = record { answer = Err fault; rest = rest }
by_frame s member next rest (Ok reply) =
    if is_answer s member reply then record { answer = Ok reply; rest = rest } else next rest

-- a fault of a frame is the loss of the member
abbrev pub or_lost : State → ℕ → Result Reply FrameFault → Result Reply SignFault
or_lost s member (Ok reply) = Ok reply
or_lost s member (Err fault) = Err (Lost member (round_of s) (why_of fault))

-- what is heard of a member if at most that many frames are read
unfoldable pub hear : State → ℕ → ℕ → List ℕ → Came
hear s member zero bytes = record { answer = Err (Stray member (round_of s)); rest = bytes }
hear s member (suc most) bytes =
    let says = frame_of (replies s.key.params) bytes in
    by_frame s member (hear s member most) (drop says.size bytes) (or_lost s member says.result)

-- the member's link could not be read
abbrev pub unread : State → ℕ → Result Reply SignFault
unread s member = Err (Lost member (round_of s) ReadFailed)

-- what may come of reading in place of a reply
abbrev pub is_heard : Why → Bool
is_heard NoAddress = false
is_heard DialFailed = false
is_heard WriteFailed = false
is_heard ReadFailed = true
is_heard Ended = true
is_heard (Garbled fault) = true

-- the member is lost or strays in the session's round
abbrev pub IsLoss : State → ℕ → SignFault → Type 0
IsLoss s member (TooLong got) = ⊥
IsLoss s member Worn = ⊥
IsLoss s member (Table fault) = ⊥
IsLoss s member (Lost who round why) = (who ≡ member) × (round ≡ round_of s) × IsTrue (is_heard why)
IsLoss s member (Stray who round) = (who ≡ member) × (round ≡ round_of s)
IsLoss s member (Session fault) = ⊥
IsLoss s member NoMemory = ⊥

-- What is heard on a link, of eight frames at most: if it tells its bytes, what they say, unless a read failed
pub record Heard (s : State) (member : ℕ) (old new : Talk) (answer : Result Reply SignFault) : Type 0 where
  pub only : OnlyRead old new
  pub all : IsTrue old.told → new.taken ++ new.left ≡ old.taken ++ old.left
  pub heard : IsTrue old.told
      → (hear s member 8 old.left ≡ record { answer = answer; rest = new.left }) ⊎ (answer ≡ unread s member)
  pub taken : IfOk answer (λ reply. IsTrue (is_answer s member reply))
  pub lost : IfErr answer (IsLoss s member)
  pub cause : RisesWhere (answer ≡ unread s member) old.count new.count

-- An ask of a member: its frame was written and an answer awaited, or it was not written whole
pub data Asked (s : State) (member : ℕ) (frame : List ℕ) (old new : Talk) : Result Reply SignFault → Type 0 where
  unwritten : OnlyWrote old new → (IsTrue old.told → WrotePart old new frame) → Rose old.count new.count
      → Asked s member frame old new (Err (Lost member (round_of s) WriteFailed))
  awaited : (mid : Talk) (answer : Result Reply SignFault) → OnlyWrote old mid → mid.count ≡ old.count
      → (IsTrue old.told → mid.written ≡ old.written ++ frame) → Heard s member mid new answer
      → Asked s member frame old new answer

-- the session once it has heard an answer
abbrev pub kept_in : State → Result Reply SignFault → State
kept_in s (Ok reply) = with_delivery s reply.0 reply.1
kept_in s (Err fault) = s

-- an answer, told as whether it is masks
abbrev pub granted : Result Reply SignFault → Result Bool SignFault
granted (Ok reply) = Ok (is_masks reply)
granted (Err fault) = Err fault

-- internal: a member was heard, its answer is in the session, and the call tells whether it is masks
pub record HasHeard (old new : State) (member : ℕ) (before now : Talk) (result : Result Bool SignFault) : Type 0 where
  pub answer : Result Reply SignFault
  pub heard : Heard old member before now answer
  pub state : new ≡ kept_in old answer
  pub told : result ≡ granted answer

-- internal: the same of a member that was asked
pub record HasAsked
    (old new : State) (member : ℕ) (frame : List ℕ) (before now : Talk) (result : Result Bool SignFault) : Type 0 where
  pub answer : Result Reply SignFault
  pub asked : Asked old member frame before now answer
  pub state : new ≡ kept_in old answer
  pub told : result ≡ granted answer
