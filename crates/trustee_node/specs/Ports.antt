-- Ports that one trustee served, all side by side.
use Rattle.std.specs.Prelude.{◌≡◌, ◌≤◌, ◌<◌, ◌+◌, ◌-◌, ◌*◌, ◌^◌, ◌++◌, ℕ, Bool, List, All, length, map, min}
use Rattle.std.specs.Prelude.{count_by, Contains, Option, Some, IsTrue}
use Rattle.std.specs.List.{flat_map, sum_by}
use Rattle.lms_bytes.specs.declared.params.Params.{Params}
use Rattle.opening_journal.specs.declared.entry.Entry.{Entry}
use Rattle.share_files.specs.declared.share.Share.{Share}
use Rattle.stream_io.specs.Net.{PortOnward, PortState}
use Rattle.trustee_core.specs.declared.note.Note.TheVariants.{Doubted}
use Rattle.trustee_node.specs.Connections.{ClockState, HaveMoments}
use Rattle.node_workers.specs.Ends.{IsLinkFault}
use Rattle.trustee_node.specs.Replies.{longest_reply}
use Rattle.trustee_node.specs.Turns.{IsAsked, ServedTurns, Turn, added_by, with_code}
use Rattle.trustee_node.specs.Workers.{Connection, IsConnection, frames_of, turns_of}
use Rattle.trustee_node.specs.Trustees.{TrusteeState}
use Rattle.node_workers.specs.Ports.{PortEnds}
use Rattle.stream_io.specs.declared.totals.Totals.{Totals}

-- a port before and after, the clock by which its asks were dated, and the connections that were served at it
pub record PortRun : Type 0 where
  pub before : PortState
  pub after : PortState
  pub clock : ClockState
  pub served : List Connection

-- A port was served: its connections had their turns one after another, between these two logs, each was over a link
-- that waited, and the port's talks grew by exactly theirs, as they ended
pub record IsPortRun (share : Share) (ids : Option (List (List ℕ))) (asked : ℕ) (log last : List Entry) (run : PortRun)
    : Type 0 where
  pub are : All (IsConnection share run.before) run.served
  pub turns : ServedTurns share ids log (turns_of run.served) last
  pub dated : IsTrue run.clock.told → HaveMoments run.clock.answers 0 (turns_of run.served)
  pub talks : IsTrue run.before.told
      → run.after.talks ≡ run.before.talks ++ map (λ (one : Connection). one.last) run.served
  pub waiting : IsTrue run.before.told → run.before.waiting ≡ run.after.waiting + length run.served
  pub onward : PortOnward run.before run.after
  pub most : length run.served ≤ asked
  pub ends : PortEnds asked (length run.served) run.before run.after

-- a link of this room takes all replies of a connection, 65,536 of the longest
abbrev pub TakesAll : Params → ℕ → Type 0
TakesAll params room = 65536 * longest_reply params ≤ room

-- the links that a port makes are steady, and take all replies of a connection
abbrev pub HasRoomyLinks : Params → PortState → Type 0
HasRoomyLinks params port = IsTrue port.steady × TakesAll params port.room

-- no connection of these runs ended by a link that failed
abbrev pub NoLinkFails : List PortRun → Type 0
NoLinkFails runs =
    All (λ (run : PortRun). All (λ (one : Connection). IsLinkFault one.served.ended → ⊥) run.served) runs

-- all turns of these runs
abbrev pub turns_in : List PortRun → List Turn
turns_in runs = flat_map (λ (run : PortRun). turns_of run.served) runs

-- What the codes of the replies say of the disk: code 6 stands in no more replies than its count of faults rose by, and
-- in none if it is steady and tells its content; code 7 in none before the first fault, and in none if it tells its
-- content. No pass is worn.
pub record HasCodes (old new : TrusteeState) (turns : List Turn) : Type 0 where
  pub rises : new.faults < 2 ^ 64 - 1 → old.faults + with_code 6 turns ≤ new.faults
  pub steady : IsTrue new.name.steady → IsTrue new.name.told → with_code 6 turns ≡ 0
  pub first : new.faults ≡ 0 → with_code 7 turns ≡ 0
  pub told : IsTrue new.name.told → with_code 7 turns ≡ 0
  pub worn : with_code 11 turns ≡ 0

-- how many connections these runs had, and how many replies were written whole in them, each at most 2^32 - 1
pub record HasTotals (runs : List PortRun) (totals : Totals) : Type 0 where
  pub connections :
      totals.connections ≡ min (sum_by (λ (run : PortRun). length run.served) runs) (2 ^ 32 - 1)
  pub frames : totals.frames ≡ min (sum_by (λ (run : PortRun). frames_of run.served) runs) (2 ^ 32 - 1)

-- an entry that was there, that was in doubt at some time before, or that one of these turns asked for
pub data ComesFrom (share : Share) (ids : Option (List (List ℕ))) (old : TrusteeState) (turns : List Turn)
    (entry : Entry) : Type 0 where
  was_there : Contains old.entries entry → ComesFrom share ids old turns entry
  was_in_doubt : Contains old.notes (Doubted entry) → ComesFrom share ids old turns entry
  is_asked : IsAsked share ids turns entry → ComesFrom share ids old turns entry

-- Nothing is bound that was not asked for, nor what the book denied or a test refused, whatever the number of faults:
-- each entry, and the one in doubt, comes from there.
pub record AllComeFrom (share : Share) (ids : Option (List (List ℕ))) (old new : TrusteeState) (turns : List Turn)
    : Type 0 where
  pub entries : (entry : Entry) → Contains new.entries entry → ComesFrom share ids old turns entry
  pub doubt : (entry : Entry) → new.doubt ≡ Some entry → ComesFrom share ids old turns entry
  pub notes : (entry : Entry) → Contains new.notes (Doubted entry) → ComesFrom share ids old turns entry

-- ports before and after, in one order, and the clock of each, by which its asks were dated
pub record PortsRun : Type 0 where
  pub before : List PortState
  pub after : List PortState
  pub clocks : List ClockState

-- the same of these lists
abbrev pub ports_run : List PortState → List PortState → List ClockState → PortsRun
ports_run before after clocks = record { before = before; after = after; clocks = clocks }

-- What became of a trustee and of these ports when they were served, in their order. If there was no fault, each entry
-- stands in the last log as often as in the first one and in what the turns added together.
pub record ServedPorts (share : Share) (ids : Option (List (List ℕ))) (asked : ℕ) (old new : TrusteeState)
    (ports : PortsRun) (totals : Totals) : Type 0 where
  pub runs : List PortRun
  pub before : map (λ (run : PortRun). run.before) runs ≡ ports.before
  pub after : map (λ (run : PortRun). run.after) runs ≡ ports.after
  pub by_clocks : map (λ (run : PortRun). run.clock) runs ≡ ports.clocks
  pub are : All (IsPortRun share ids asked old.entries new.entries) runs
  pub codes : HasCodes old new (turns_in runs)
  pub adds : new.faults ≡ 0 → (test : Entry → Bool)
      → count_by test new.entries ≡ count_by test old.entries + count_by test (added_by (turns_in runs))
  pub asked_for : AllComeFrom share ids old new (turns_in runs)
  pub totals_are : HasTotals runs totals
