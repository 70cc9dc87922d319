-- What a session is run with.
use Rattle.std.specs.Prelude.{◌≡◌, ◌≢◌, ◌+◌, ◌*◌, ◌≤◌, ◌++◌, ⊤, ℕ, Bool, List, [], ◌∷◌, All, length, min, None, IfSome}
use Rattle.std.specs.Prelude.{IsSome, IsTrue, MatchOption}
use Rattle.std.specs.List.{sum_by}
use Rattle.coalition_map.specs.Coalitions.{PlanNumbers, leaf_members}
use Rattle.disk_trait.specs.Faults.{Rose}
use Rattle.disk_trait.specs.declared.faults.Faults as faults
use Rattle.aggregator_session.specs.declared.session.Task.{Task}
use Rattle.lms_bytes.specs.MessageId.{message_id}
use Rattle.lms_bytes.specs.declared.ask.Ask.{Ask}
use Rattle.lms_bytes.specs.declared.params.Params.{Params}
use Rattle.lms_bytes.specs.declared.public_key.PublicKey.{PublicKey}
use Rattle.reference_value.specs.declared.cells.Cells as cells
use Rattle.session_core.specs.State.{State}
use Rattle.session_core.specs.Verdicts.{digest_of}
use Rattle.mask_prf.specs.Lengths.{leaves_length}
use Rattle.stream_io.specs.Net.{PortOnward, PortState}
use Rattle.stream_io.specs.Talk.{Ended, Talk}

-- a session that may run: of this key, plan and message, and in round one. The message has at most 2^24 bytes.
pub record MayRun (key : PublicKey) (plan : PlanNumbers) (message : List ℕ) (s : State) : Type 0 where
  pub of_key : s.key ≡ key
  pub of_plan : s.plan ≡ plan
  pub id : s.message ≡ message_id message
  pub limit : length message ≤ 16777216
  pub round : s.c ≡ None

-- internal: How a task stands with a session, the set and the plan of its cells, and `size` bytes of room: the session
-- is of its key, plan and message, the members are those of its leaf, the cells are of its set and plan, and the room
-- holds the masks of all chains.
pub record Stands (task : Task) (s : State) (params : Params) (numbers : PlanNumbers) (size : ℕ) : Type 0 where
  pub of_key : s.key ≡ task.desk.now.key.now
  pub of_plan : s.plan ≡ task.desk.now.plan.now
  pub all : task.members.now ≡ leaf_members s.plan s.leaf
  pub id : s.message ≡ message_id task.message.now
  pub limit : length task.message.now ≤ 16777216
  pub c : IfSome s.c (λ c. length c ≡ task.desk.now.key.now.params.n)
  pub set : params ≡ s.key.params
  pub plan : numbers ≡ s.plan
  pub room : s.key.params.p * s.key.params.n ≤ size

-- internal: the same of a session in round one
pub record StandsFirst (task : Task) (s : State) (params : Params) (numbers : PlanNumbers) (size : ℕ) : Type 0 where
  pub stands : Stands task s params numbers size
  pub round : s.c ≡ None

-- internal: the same of a session in round two, with the digest of the message under its randomizer
pub record StandsAgain
    (task : Task) (s : State) (params : Params) (numbers : PlanNumbers) (size : ℕ) (digest : List ℕ) : Type 0 where
  pub stands : Stands task s params numbers size
  pub round : IsSome s.c
  pub digest_is : digest ≡ digest_of s task.message.now

-- internal: A session of this set may send this ask, with this message after it, and have the answer's body read into
-- `size` bytes of room: the ask is for the message and has a randomizer of the set's length, or none, and the room
-- holds the masks of all chains.
pub record MayAsk (params : Params) (s : State) (ask : Ask) (message : List ℕ) (size : ℕ) : Type 0 where
  pub set : s.key.params ≡ params
  pub room : params.p * params.n ≤ size
  pub id : ask.message ≡ message_id message
  pub c : MatchOption ask.second ⊤ (λ second. length second.c ≡ params.n)
  pub limit : length message ≤ 16777216

-- cells that give what they have whenever they are asked: steady ones that tell all leaves
pub record IsExact {C : Type 0} (c : cells.Ghosts C) (f : faults.Ghosts C) (r : C) : Type 0 where
  pub steady : IsTrue (f.steady r)
  pub told : IsTrue (c.told r)
  pub whole : length (c.leaves r) ≡ leaves_length (c.set r) (c.plan r)

-- links were dialled from a port, and none was hung up
pub record OnlyDials (old new : PortState) : Type 0 where
  pub onward : PortOnward old new
  pub talks : new.talks ≡ old.talks
  pub accepting : new.accept_count ≡ old.accept_count

-- internal: links of this port on which an ask of round one was written: they are steady if the port is, and have its
-- room except for the 64 bytes of the ask
pub record AreAsked {L : Type 0} (is_steady : L → Bool) (room_of : L → ℕ) (port : PortState) (links : List L)
    : Type 0 where
  pub steady : IsTrue port.steady → All (λ link. IsTrue (is_steady link)) links
  pub rooms : All (λ link. port.room ≤ room_of link + 64) links

-- internal: such links were put after others
pub record AddsAsked {L : Type 0} (is_steady : L → Bool) (room_of : L → ℕ) (port : PortState) (olds news : List L)
    : Type 0 where
  pub added : List L
  pub are : AreAsked is_steady room_of port added
  pub news_are : news ≡ olds ++ added

-- how many of these links have counted a fault
abbrev pub faulty_links : List Talk → ℕ
faulty_links talks = sum_by (λ (talk : Talk). min talk.count 1) talks

-- each of these links ended so, in their order
abbrev pub AllEnded : List Talk → List Talk → Type 0
AllEnded [] [] = Unit {0}
AllEnded [] (last ∷ lasts) = ⊥
AllEnded (talk ∷ talks) [] = ⊥
AllEnded (talk ∷ talks) (last ∷ lasts) = Ended talk last × AllEnded talks lasts

-- internal: these links were hung up, the first one first, and each conversation is kept as it then ended
pub record HangsUpAll (old : PortState) (talks : List Talk) (new : PortState) : Type 0 where
  pub lasts : List Talk
  pub ended : AllEnded talks lasts
  pub kept : IsTrue old.told → new.talks ≡ old.talks ++ lasts
  pub rises : faulty_links lasts ≢ 0 → Rose old.count new.count
  pub most : new.count ≤ old.count + faulty_links lasts
  pub onward : PortOnward old new
  pub accepting : new.accept_count ≡ old.accept_count

-- a count is at most this, or at most one more if a dial failed
pub record RisesOnce (failed : Type 0) (before now : ℕ) : Type 0 where
  pub once : now ≤ before + 1
  pub same : (failed → ⊥) → now ≤ before
