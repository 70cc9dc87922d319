-- A connection: the asks that were read and when, what was written, and how it ended.
use Rattle.std.specs.Prelude.{◌≡◌, ◌≢◌, ◌⊎◌, ◌<◌, ◌≤◌, ◌+◌, ◌*◌, ◌++◌, ⊤, ℕ, Bool, List, [], ◌∷◌}
use Rattle.std.specs.Prelude.{length, take, drop, IsTrue}
use Rattle.std.specs.Prelude.{Option, Ok, Err}
use Rattle.lms_bytes.specs.declared.params.Params.{Params}
use Rattle.round_frames.specs.Asks.{asks}
use Rattle.round_frames.specs.Frames.{frame_of}
use Rattle.round_frames.specs.declared.fault.FrameFault.{FrameFault}
use Rattle.round_frames.specs.declared.fault.FrameFault.TheVariants.{End}
use Rattle.round_frames.specs.declared.fault.FrameFault.TheVariants.{ReadFault, NoMemory}
use Rattle.share_files.specs.declared.share.Share.{Share}
use Rattle.stream_io.specs.Store.{RisesWhere}
use Rattle.stream_io.specs.Talk.{Talk}
use Rattle.trustee_core.specs.declared.kept.TrusteeName.{TrusteeName}
use Rattle.trustee_core.specs.declared.note.Note.{Note}
use Rattle.turn_lock.specs.Pass.{Seen}
use Rattle.trustee_node.specs.Replies.{longest_reply, replies, reply_bytes}
use Rattle.trustee_node.specs.Turns.{Serves, Turn, with_code}
use Rattle.node_workers.specs.Ends.{IsLinkFault}
use Rattle.node_workers.specs.declared.served.Served.{Served}
use Rattle.node_workers.specs.declared.served.ServedEnd.{ServedEnd}
use Rattle.node_workers.specs.declared.served.ServedEnd.TheVariants.{Closed, Frame, WriteFailed, Worn, Full}

-- the bytes begin with the asks of these turns, one frame after another, and this is what follows them
pub data ReadsAsks (params : Params) : List ℕ → List Turn → List ℕ → Type 0 where
  read_none : (bytes : List ℕ) → ReadsAsks params bytes [] bytes
  read_one : (bytes rest : List ℕ) (turn : Turn) (turns : List Turn)
      → (frame_of (asks params) bytes).result ≡ Ok turn.ask
      → ReadsAsks params (drop (frame_of (asks params) bytes).size bytes) turns rest
      → ReadsAsks params bytes (turn ∷ turns) rest

-- what follows the asks has this fault, and just the bytes that show it were read
abbrev pub FaultBehind : Params → FrameFault → List ℕ → List ℕ → Type 0
FaultBehind params fault rest left =
    ((frame_of (asks params) rest).result ≡ Err fault) × (left ≡ drop (frame_of (asks params) rest).size rest)

-- what was left to read at the end, depending on what followed the asks
abbrev pub LeftBehind : Params → ServedEnd → List ℕ → List ℕ → Type 0
LeftBehind params Closed rest left = FaultBehind params End rest left
LeftBehind params (Frame fault) rest left = (fault ≡ ReadFault) ⊎ FaultBehind params fault rest left
LeftBehind params WriteFailed rest left = left ≡ rest
LeftBehind params Worn rest left = left ≡ rest
LeftBehind params Full rest left = left ≡ rest

-- what was read: the asks of these turns, and as much of what followed them as the end says
pub record HasRead (params : Params) (old new : Talk) (ended : ServedEnd) (turns : List Turn) : Type 0 where
  pub rest : List ℕ
  pub asks_read : ReadsAsks params old.left turns rest
  pub behind : LeftBehind params ended rest new.left
  pub all : new.taken ++ new.left ≡ old.taken ++ old.left

-- all replies but the last were written whole, and only a beginning of the last, not all of it
pub record WroteButLast (share : Share) (old new : Talk) (turns : List Turn) : Type 0 where
  pub before : List Turn
  pub last : Turn
  pub turns_are : turns ≡ before ++ (last ∷ [])
  pub size : ℕ
  pub short : size < length (reply_bytes share last.ask last.outcome)
  pub written : new.written
      ≡ old.written ++ (replies share before ++ take size (reply_bytes share last.ask last.outcome))

-- what was written: all replies, or all but the last if a write failed
abbrev pub HasWritten : Share → Talk → Talk → ServedEnd → List Turn → Type 0
HasWritten share old new Closed turns = new.written ≡ old.written ++ replies share turns
HasWritten share old new (Frame fault) turns = new.written ≡ old.written ++ replies share turns
HasWritten share old new WriteFailed turns = WroteButLast share old new turns
HasWritten share old new Worn turns = new.written ≡ old.written ++ replies share turns
HasWritten share old new Full turns = new.written ≡ old.written ++ replies share turns

-- how many replies were written whole: all but the last if a write failed; only the last ask may meet a worn pass
abbrev pub EndsBy : ServedEnd → ℕ → List Turn → Type 0
EndsBy Closed frames turns = (frames ≡ length turns) × (with_code 11 turns ≡ 0)
EndsBy (Frame fault) frames turns =
    (fault ≢ End) × (fault ≢ NoMemory) × (frames ≡ length turns) × (with_code 11 turns ≡ 0)
EndsBy WriteFailed frames turns = (frames + 1 ≡ length turns) × (with_code 11 turns ≤ 1)
EndsBy Worn frames turns = (frames ≡ length turns) × (with_code 11 turns ≡ 1)
EndsBy Full frames turns = (frames ≡ length turns) × (length turns ≡ 65536) × (with_code 11 turns ≡ 0)

-- over a steady link with this room no read fails, and a write fails only if the replies take more
abbrev pub FailsForRoom : Share → Bool → ℕ → ServedEnd → List Turn → Type 0
FailsForRoom share steady room ended turns =
    IsTrue steady → IsLinkFault ended → (ended ≡ WriteFailed) × (room < length (replies share turns))

-- each turn has the next answer of the clock, from this one on
abbrev pub HaveMoments : (ℕ → ℕ) → ℕ → List Turn → Type 0
HaveMoments answers from [] = ⊤
HaveMoments answers from (turn ∷ turns) = (turn.moment ≡ answers from) × HaveMoments answers (from + 1) turns

-- the clock was read once for each turn, and goes on after that
pub record IsDated (before now : ℕ → ℕ) (turns : List Turn) : Type 0 where
  pub moments : HaveMoments before 0 turns
  pub later : (j : ℕ) → now j ≡ before (j + length turns)

-- a clock in one state: whether it tells its answers, and what it answers from now on, the next answer at 0
pub record ClockState : Type 0 where
  pub told : Bool
  pub answers : ℕ → ℕ

-- the state of a clock that has these members
abbrev pub clock_state : {C : Type 0} → (C → Bool) → (C → ℕ → ℕ) → C → ClockState
clock_state told answers clock = record { told = told clock; answers = answers clock }

-- the server of a connection in one state: what its pass has seen, and its clock
pub record ServerState : Type 0 where
  pub pass : Seen Note TrusteeName
  pub clock : ClockState

-- a link in one state: whether it is steady, and its talk
pub record LinkState : Type 0 where
  pub steady : Bool
  pub talk : Talk

-- All of a connection, given the turns that its asks had: its server before and after, its link as it was, the
-- resulting talk, and its end.
pub record Conversation (share : Share) (ids : Option (List (List ℕ))) (old new : ServerState) (link : LinkState)
    (talk : Talk) (served : Served) : Type 0 where
  pub turns : List Turn
  pub serves : Serves share ids old.pass new.pass turns
  pub dated : IsTrue old.clock.told → IsDated old.clock.answers new.clock.answers turns
  pub read : IsTrue link.talk.told → HasRead share.params link.talk talk served.ended turns
  pub written : IsTrue link.talk.told → HasWritten share link.talk talk served.ended turns
  pub ends : EndsBy served.ended served.frames turns
  pub most : length turns ≤ 65536
  pub small : length (replies share turns) ≤ length turns * longest_reply share.params
  pub cause : RisesWhere (IsLinkFault served.ended) link.talk.count talk.count
  pub fails : FailsForRoom share link.steady link.talk.room served.ended turns
  pub told : talk.told ≡ link.talk.told
  pub place : talk.place ≡ link.talk.place
