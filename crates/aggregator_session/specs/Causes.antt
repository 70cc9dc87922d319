-- What the outside has to do with a session that gives no signature.
use Rattle.std.specs.Prelude.{◌≡◌, ◌≢◌, ◌+◌, ◌≤◌, ℕ, List, length, Result, Err, IsTrue}
use Rattle.aggregator_session.specs.Faults.{LostBy}
use Rattle.aggregator_session.specs.Tasks.{IsExact, OnlyDials, RisesOnce}
use Rattle.aggregator_session.specs.declared.fault.SignFault.{SignFault}
use Rattle.aggregator_session.specs.declared.fault.SignFault.TheVariants.{Session}
use Rattle.aggregator_session.specs.declared.fault.Why.TheVariants.{DialFailed, ReadFailed, WriteFailed}
use Rattle.disk_trait.specs.Faults.{Rose}
use Rattle.disk_trait.specs.declared.faults.Faults as faults
use Rattle.reference_value.specs.Stay.{CellsStay}
use Rattle.reference_value.specs.declared.cells.Cells as cells
use Rattle.session_core.specs.declared.faults.SessionFault.TheVariants.{Reference}
use Rattle.stream_io.specs.Net.{PortOnward, PortState}

-- this project's profile: the most bytes that a session of this message writes to a member: the ask of round one has
-- 64, and that of round two at most 92 and those of the message
abbrev pub asks_length : List ℕ → ℕ
asks_length message = 156 + length message

-- Nobody fails to be dialled, written to or read unless the port's count rose. At a steady port no read fails, and no
-- write if its links have room for the asks of this message. No link is accepted.
pub record PortCauses {V : Type 0} (message : List ℕ) (before now : PortState) (result : Result V SignFault)
    : Type 0 where
  pub dialled : LostBy DialFailed result → Rose before.count now.count
  pub unwritten : LostBy WriteFailed result → Rose before.count now.count
  pub unread : LostBy ReadFailed result → Rose before.count now.count
  pub reads : IsTrue before.steady → ¬ LostBy ReadFailed result
  pub writes : IsTrue before.steady → asks_length message ≤ before.room → ¬ LostBy WriteFailed result
  pub onward : PortOnward before now
  pub accepting : now.accept_count ≡ before.accept_count

-- the reference is found unread only if the count of the cells rose, and never if they give what they have
pub record ReferenceCauses {C V : Type 0} (c : cells.Ghosts C) (f : faults.Ghosts C) (old new : C)
    (result : Result V SignFault) : Type 0 where
  pub rises : result ≡ Err (Session Reference) → Rose (f.count old) (f.count new)
  pub succeeds : IsExact c f old → result ≢ Err (Session Reference)
  pub stays : CellsStay c f old new

-- internal: Why calls over links lose a member, by whether these are steady and have room for what is written: nobody
-- is dialled, and on steady links no read fails, and no write that they have room for.
pub record LinkCauses {V : Type 0} (steady fits : Type 0) (result : Result V SignFault) : Type 0 where
  pub dialled : ¬ LostBy DialFailed result
  pub reads : steady → ¬ LostBy ReadFailed result
  pub writes : steady → fits → ¬ LostBy WriteFailed result

-- internal: Why calls over a port that write at most `most` bytes to a member lose one: for a dial that failed only if
-- the port's count rose, which it does at most once, and not otherwise. At a steady port no read fails, and no write if
-- its links have that room. No link is hung up.
pub record DialCauses {V : Type 0} (most : ℕ) (before now : PortState) (result : Result V SignFault) : Type 0 where
  pub dialled : LostBy DialFailed result → Rose before.count now.count
  pub once : RisesOnce (LostBy DialFailed result) before.count now.count
  pub reads : IsTrue before.steady → ¬ LostBy ReadFailed result
  pub writes : IsTrue before.steady → most ≤ before.room → ¬ LostBy WriteFailed result
  pub only : OnlyDials before now
