-- A session over links: the members are dialled and asked one after the other, and then asked again over these links.
use Rattle.std.specs.Prelude.{◌≡◌, ◌≢◌, ◌⊎◌, ◌+◌, ◌≤◌, ◌++◌, ℕ, Bool, true, false, List, [], ◌∷◌, length, IsTrue}
use Rattle.std.specs.Prelude.{Some, None, Result, Ok, Err}
use Rattle.std.specs.declared.alloc.Global.{Global}
use Rattle.std.specs.declared.vec.Vec.{Vec}
use Rattle.aggregator_session.specs.Addresses.{place_of}
use Rattle.aggregator_session.specs.Desks.{DeskState}
use Rattle.aggregator_session.specs.Faults.{LostBy, sign_fault}
use Rattle.aggregator_session.specs.Hearing.{Asked, HasAsked, granted, is_masks, kept_in}
use Rattle.aggregator_session.specs.Tasks.{AllEnded, RisesOnce, faulty_links}
use Rattle.aggregator_session.specs.declared.desk.Address.{Address}
use Rattle.aggregator_session.specs.declared.fault.SignFault.{SignFault}
use Rattle.aggregator_session.specs.declared.fault.SignFault.TheVariants.{Lost, NoMemory, Session}
use Rattle.aggregator_session.specs.declared.fault.Why.TheVariants.{DialFailed, NoAddress}
use Rattle.coalition_map.specs.Coalitions.{leaf_members}
use Rattle.disk_trait.specs.Faults.{Rose}
use Rattle.disk_trait.specs.declared.faults.Faults as faults
use Rattle.lms_verify.specs.Accepts.{AcceptsAt}
use Rattle.lms_verify.specs.UndividedKey.{UndividedKey, rfc_signature}
use Rattle.merkle_path.specs.Tree.{TreeNodes}
use Rattle.reference_value.specs.Dealing.{Dealing, leaf_randomizer, reference}
use Rattle.reference_value.specs.Places.{tag_in}
use Rattle.reference_value.specs.declared.cells.Cells as cells
use Rattle.round_frames.specs.Asks.{ask_frame, first_payload}
use Rattle.round_frames.specs.Frames.{frame}
use Rattle.round_frames.specs.Replies.{Reply}
use Rattle.session_core.specs.Asks.{ask_with}
use Rattle.session_core.specs.Dealing.{FirstMasks, IsAnswered, IsOfDealing}
use Rattle.session_core.specs.Judging.{round_fault}
use Rattle.session_core.specs.State.{SameAsk, State}
use Rattle.session_core.specs.Verdicts.{FinishFails, Turned, Unread, digest_of, joined_bytes, joined_c}
use Rattle.session_core.specs.declared.faults.SessionFault.{SessionFault}
use Rattle.session_core.specs.declared.faults.SessionFault.TheVariants.{Reference}
use Rattle.stream_io.specs.Net.{Dials, PortOnward, PortState, SameLinks}
use Rattle.stream_io.specs.Talk.{Talk}

-- the reference that a session reads: whether it is told, its leaves, and its count of faults before and after
pub record CellsRead : Type 0 where
  pub told : Bool
  pub leaves : List ℕ
  pub before : ℕ
  pub now : ℕ

-- the same of cells before and after a call
abbrev pub reads_of : {C : Type 0} → cells.Ghosts C → faults.Ghosts C → C → C → CellsRead
reads_of c f old new = record { told = c.told old; leaves = c.leaves old; before = f.count old; now = f.count new }

-- the frame of the ask of round one, which is the same for all members
unfoldable pub first_frame : State → List ℕ
first_frame s = frame 1 (first_payload (ask_with s [] []))

-- the frame of the ask of round two to a member, with this tag
unfoldable pub second_frame : State → List ℕ → List ℕ → List ℕ
second_frame s message tag = ask_frame (ask_with s tag (digest_of s message)) message

-- what the frames of round two are made of: the reference, with whether it is told, the session, of which no reply
-- changes what is asked, and the message
pub record SecondFrames : Type 0 where
  pub told : Bool
  pub leaves : List ℕ
  pub session : State
  pub message : List ℕ

abbrev pub second_frames : CellsRead → State → List ℕ → SecondFrames
second_frames reads s message =
    record { told = reads.told; leaves = reads.leaves; session = s; message = message }

-- this is the frame of the ask of round two to a member: its tag is that of the reference, if this is told
pub record IsSecondFrame (frames : SecondFrames) (member : ℕ) (bytes : List ℕ) : Type 0 where
  pub tag : List ℕ
  pub is : bytes ≡ second_frame frames.session frames.message tag
  pub tag_is : IsTrue frames.told
      → tag ≡ tag_in frames.session.key.params frames.session.plan frames.leaves frames.session.leaf member

-- A member is dialled and asked in round one: the port and the session as they stand before, the port after, the talk
-- on its link if there is one, and what came. The port's count rises if dialling failed, and not otherwise.
pub data Calls (addresses : List Address) (ask : List ℕ) (s : State) (member : ℕ) (port : PortState)
    : PortState → List Talk → Result Reply SignFault → Type 0 where
  nowhere : place_of addresses member ≡ None
      → Calls addresses ask s member port port [] (Err (Lost member 1 NoAddress))
  undialled : (place : List ℕ) (after : PortState) → place_of addresses member ≡ Some place
      → PortOnward port after → Rose port.count after.count → SameLinks port after
      → (IsTrue port.told → IsTrue port.steady → port.reaches place ≡ false)
      → Calls addresses ask s member port after [] (Err (Lost member 1 DialFailed))
  dialled : (place : List ℕ) (start talk : Talk) (steady : Bool) (after : PortState) (answer : Result Reply SignFault)
      → place_of addresses member ≡ Some place → PortOnward port after → after.count ≡ port.count
      → Dials port place start steady start.room after
      → Asked s member ask start talk answer
      → Calls addresses ask s member port after (talk ∷ []) answer

-- the session is of the same key, plan, leaf and message
pub record SameSession (old new : State) : Type 0 where
  pub key : new.key ≡ old.key
  pub plan : new.plan ≡ old.plan
  pub leaf : new.leaf ≡ old.leaf
  pub message : new.message ≡ old.message

-- Round one over these members, from a port and a session as they stand: the talks, and what is kept and came at the
-- end. Nobody after the first that is lost, strays or refuses is dialled.
pub data First (addresses : List Address) (ask : List ℕ)
    : PortState → State → List ℕ → List Talk → State → Result (Unit {0}) SignFault → Type 0 where
  first_all : (port : PortState) (s : State) → First addresses ask port s [] [] s (Ok tt)
  first_lost : (port after : PortState) (s : State) (member : ℕ) (members : List ℕ) (talks : List Talk)
      (fault : SignFault) → Calls addresses ask s member port after talks (Err fault)
      → First addresses ask port s (member ∷ members) talks s (Err fault)
  first_refused : (port after : PortState) (s : State) (member : ℕ) (members : List ℕ) (talks : List Talk)
      (reply : Reply) → Calls addresses ask s member port after talks (Ok reply) → is_masks reply ≡ false
      → First addresses ask port s (member ∷ members) talks (kept_in s (Ok reply)) (Ok tt)
  first_answered : (port after : PortState) (s last : State) (member : ℕ) (members : List ℕ) (talks later : List Talk)
      (reply : Reply) (end : Result (Unit {0}) SignFault)
      → Calls addresses ask s member port after talks (Ok reply) → is_masks reply ≡ true
      → First addresses ask after (kept_in s (Ok reply)) members later last end
      → First addresses ask port s (member ∷ members) (talks ++ later) last end

-- Round two over these members, from a session as it stands, over links as they stand: the talks after it, and what is
-- kept and came at the end. Nobody after the first that is lost, strays or refuses is asked.
pub data Second (frames : SecondFrames)
    : State → List ℕ → List Talk → List Talk → State → Result (Unit {0}) SignFault → Type 0 where
  second_all : (s : State) → Second frames s [] [] [] s (Ok tt)
  second_unread : (s : State) (member : ℕ) (members : List ℕ) (olds : List Talk)
      → Second frames s (member ∷ members) olds olds s (Err (Session Reference))
  second_lost : (s : State) (member : ℕ) (members ask : List ℕ) (old new : Talk) (olds : List Talk)
      (fault : SignFault) → IsSecondFrame frames member ask → Asked s member ask old new (Err fault)
      → Second frames s (member ∷ members) (old ∷ olds) (new ∷ olds) s (Err fault)
  second_refused : (s : State) (member : ℕ) (members ask : List ℕ) (old new : Talk) (olds : List Talk)
      (reply : Reply) → IsSecondFrame frames member ask → Asked s member ask old new (Ok reply)
      → is_masks reply ≡ false
      → Second frames s (member ∷ members) (old ∷ olds) (new ∷ olds) (kept_in s (Ok reply)) (Ok tt)
  second_answered : (s last : State) (member : ℕ) (members ask : List ℕ) (old new : Talk) (olds news : List Talk)
      (reply : Reply) (end : Result (Unit {0}) SignFault)
      → IsSecondFrame frames member ask → Asked s member ask old new (Ok reply)
      → is_masks reply ≡ true
      → Second frames (kept_in s (Ok reply)) members olds news last end
      → Second frames s (member ∷ members) (old ∷ olds) (new ∷ news) last end

-- internal: round one as it stands: the session, the port, and the talks on the links that were dialled
pub record Dialling : Type 0 where
  pub session : State
  pub port : PortState
  pub talks : List Talk

-- internal: a member was dialled and asked in round one, or was not reached
pub record HasCalled (addresses : List Address) (ask : List ℕ) (member : ℕ) (old new : Dialling)
    (result : Result Bool SignFault) : Type 0 where
  pub answer : Result Reply SignFault
  pub talks : List Talk
  pub calls : Calls addresses ask old.session member old.port new.port talks answer
  pub links : new.talks ≡ old.talks ++ talks
  pub state : new.session ≡ kept_in old.session answer
  pub same : SameAsk old.session new.session
  pub told : result ≡ granted answer

-- internal: a member was asked in round two by a frame of the session as it stood, or the reference was not read
pub data AskedAgain (frames : SecondFrames) (new : State) (member : ℕ) (before now : Talk)
    : Result Bool SignFault → Type 0 where
  not_read : new ≡ frames.session → now ≡ before
      → AskedAgain frames new member before now (Err (Session Reference))
  asked : (ask : List ℕ) (result : Result Bool SignFault) → IsSecondFrame frames member ask
      → HasAsked frames.session new member ask before now result
      → AskedAgain frames new member before now result

-- what was kept of round one does not lead to round two: its first fault by member, or a reference that was not read
abbrev pub Stops : CellsRead → State → SessionFault → Type 0
Stops reads s fault = (round_fault s [] ≡ Some fault) ⊎ Unread s [] reads.before reads.now fault

-- if reference and masks are the dealer's, the randomizer is the dealer's
abbrev pub DealtC : State → State → List ℕ → Type 0
DealtC kept turned leaves = (d : Dealing) (key : UndividedKey) → leaves ≡ reference d → IsOfDealing d key kept
    → FirstMasks d kept → turned ≡ record kept { c = Some (leaf_randomizer d kept.leaf) }

-- if reference, tree and masks are the dealer's, the bytes are the undivided key's signature
abbrev pub DealtBytes : State → List ℕ → TreeNodes → List ℕ → List ℕ → Type 0
DealtBytes s leaves tree message bytes = (d : Dealing) (key : UndividedKey)
    → IsAnswered d key s (digest_of s message) leaves tree
    → bytes ≡ rfc_signature key s.leaf (leaf_randomizer d s.leaf) message

-- all members were dialled and answered round one with masks, and the session went to round two
pub record Opens
    (addresses : List Address) (reads : CellsRead) (port : PortState) (s turned : State) (talks : List Talk)
    : Type 0 where
  pub kept : State
  pub first : First addresses (first_frame s) port s (leaf_members s.plan s.leaf) talks kept (Ok tt)
  pub all : length talks ≡ length (leaf_members s.plan s.leaf)
  pub turns : Turned kept turned
  pub c : IsTrue reads.told → turned ≡ record kept { c = Some (joined_c kept reads.leaves) }
  pub dealt : IsTrue reads.told → DealtC kept turned reads.leaves

-- the signature that is made of what was kept of round two
pub record Signs (reads : CellsRead) (tree : TreeNodes) (s : State) (message bytes : List ℕ) : Type 0 where
  pub faultless : round_fault s (digest_of s message) ≡ None
  pub accepted : AcceptsAt s.key message bytes s.leaf
  pub joined : IsTrue reads.told → bytes ≡ joined_bytes s reads.leaves tree message
  pub dealt : IsTrue reads.told → DealtBytes s reads.leaves tree message bytes

-- A session from its start: the talks of the links that were dialled, in their order, the session at the end, and what
-- came of it.
pub data SignRun (desk : DeskState) (reads : CellsRead) (message : List ℕ) (port : PortState) (s : State)
    : List Talk → State → Result (List ℕ) SignFault → Type 0 where
  no_memory : SignRun desk reads message port s [] s (Err NoMemory)
  lost_in_one : (talks : List Talk) (kept : State) (fault : SignFault)
      → First desk.addresses (first_frame s) port s (leaf_members s.plan s.leaf) talks kept (Err fault)
      → SignRun desk reads message port s talks kept (Err fault)
  judged_in_one : (talks : List Talk) (kept : State) (fault : SessionFault)
      → First desk.addresses (first_frame s) port s (leaf_members s.plan s.leaf) talks kept (Ok tt)
      → Stops reads kept fault
      → SignRun desk reads message port s talks kept (Err (sign_fault fault))
  lost_in_two : (mids talks : List Talk) (turned kept : State) (fault : SignFault)
      → Opens desk.addresses reads port s turned mids
      → Second (second_frames reads turned message) turned (leaf_members s.plan s.leaf) mids talks kept (Err fault)
      → SignRun desk reads message port s talks kept (Err fault)
  judged_in_two : (mids talks : List Talk) (turned kept : State) (fault : SessionFault)
      → Opens desk.addresses reads port s turned mids
      → Second (second_frames reads turned message) turned (leaf_members s.plan s.leaf) mids talks kept (Ok tt)
      → FinishFails kept message reads.told
      (joined_bytes kept reads.leaves desk.tree message) reads.before reads.now fault
      → SignRun desk reads message port s talks kept (Err (sign_fault fault))
  signed : (mids talks : List Talk) (turned kept : State) (bytes : List ℕ)
      → Opens desk.addresses reads port s turned mids
      → Second (second_frames reads turned message) turned (leaf_members s.plan s.leaf) mids talks kept (Ok tt)
      → Signs reads desk.tree kept message bytes
      → SignRun desk reads message port s talks kept (Ok bytes)

-- A session's whole call: the talks that were hung up, in their order, what came of them, and how each then ended. In
-- the session, it is the replies that are kept, and the randomizer in round two, that may differ from before. The port
-- counts each link that ended with a fault, and besides these a dial that failed, which is the last: so no member is
-- dialled twice.
pub record HasRun (desk : DeskState) (reads : CellsRead) (message : List ℕ) (before now : PortState) (old new : State)
    (result : Result (List ℕ) SignFault) : Type 0 where
  pub talks : List Talk
  pub lasts : List Talk
  pub ended : AllEnded talks lasts
  pub hung_up : IsTrue before.told → now.talks ≡ before.talks ++ lasts
  pub run : SignRun desk reads message before old talks new result
  pub same : SameSession old new
  pub later : reads.before ≤ reads.now
  pub rises : faulty_links lasts ≢ 0 → Rose before.count now.count
  pub counts : RisesOnce (LostBy DialFailed result) (before.count + faulty_links lasts) now.count

-- the bytes of an answer
abbrev pub bytes_in : Result (Vec ℕ Global) SignFault → Result (List ℕ) SignFault
bytes_in (Ok bytes) = Ok bytes.items
bytes_in (Err fault) = Err fault
