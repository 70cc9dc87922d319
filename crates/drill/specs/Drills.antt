-- internal: The state of a drill.
use Rattle.std.specs.Prelude.{◌≡◌, ◌+◌, ◌<◌, ◌≤◌, ℕ, IfSome, length}
use Rattle.dealer.specs.declared.dealing.Dealt.{Dealt}
use Rattle.disk_trait.specs.MemDisk.{MemState}
use Rattle.disk_trait.specs.declared.disk.Pages as pages
use Rattle.disk_trait.specs.declared.faults.Faults as faults
use Rattle.leaf_table.specs.Loading.{IsTableFile}
use Rattle.leaf_table.specs.Slots.{use_of_slot}
use Rattle.leaf_table.specs.Table.{header_of, plan_of}
use Rattle.leaf_table.specs.declared.table.Table.{Table}
use Rattle.lms_bytes.specs.declared.ask.Ask.{Ask}
use Rattle.lms_bytes.specs.declared.ask.Second.{Second}
use Rattle.slot_file.specs.Layout.{slot_at}
use Rattle.slot_file.specs.declared.header.Header.{Header}
use Rattle.drill.specs.Courses.{uses_of}
use Rattle.drill.specs.Seats.{AllFit, Fits}
use Rattle.drill.specs.declared.desk.Desk.{Desk}
use Rattle.drill.specs.declared.seat.Seat.{Seat as Place}
use Rattle.drill.specs.declared.state.Asks.{Asks}
use Rattle.drill.specs.declared.state.Drill.{Drill}

-- the header of the leaf table for a key that was dealt
abbrev pub table_header : Dealt → Header
table_header dealt = record {
  version = 1;
  number = 0;
  lms = dealt.public.params.lms;
  ots = dealt.public.params.ots;
  id = dealt.public.id;
}

-- the table is for the desk's plan and key
pub record IsTableFor {D : Type 0} {p : pages.Ghosts D} {f : faults.Ghosts D} (desk : Desk) (table : Table D p f)
    : Type 0 where
  pub plan : plan_of table ≡ desk.plan
  pub header : header_of table ≡ table_header desk.dealt

-- the table is the desk's, and each seat belongs to the session of its number
pub record IsFor (desk : Desk) (drill : Drill) : Type 0 where
  pub table : IsTableFor desk drill.table
  pub seats : AllFit desk.dealt.public desk.plan drill.seats.items

-- the drill is for the desk, and has `sessions` sessions
pub record Seats (desk : Desk) (sessions : ℕ) (drill : Drill) : Type 0 where
  pub is_for : IsFor desk drill
  pub count : length drill.seats.items ≡ sessions

-- at most `bound` asks were put; each was granted, stopped a disk, or was refused
pub record AtMost (bound : ℕ) (asks : Asks) : Type 0 where
  pub put : asks.put ≤ bound
  pub parts : asks.granted + asks.cut ≤ asks.put

-- the randomizer and the digest of a round-two ask have 32 bytes
pub record IsSized (ask : Ask) : Type 0 where
  pub c : IfSome ask.second (λ (second : Second). length second.c ≡ 32)
  pub digest : IfSome ask.second (λ (second : Second). length second.digest ≡ 32)

-- the drill is still for the desk, with as many sessions, and at most `most` asks were put
pub record StaysFor (desk : Desk) (old new : Drill) (most : ℕ) (asks : Asks) : Type 0 where
  pub is_for : IsFor desk new
  pub count : length new.seats.items ≡ length old.seats.items
  pub bound : AtMost most asks

-- session i may stand at this place after a step in which at most one ask was put, and no disk stopped
pub record StepsTo (desk : Desk) (i : ℕ) (place : Place) (asks : Asks) : Type 0 where
  pub fits : Fits desk.dealt.public desk.plan i place
  pub bound : AtMost 1 asks
  pub cut : asks.cut ≡ 0

-- the disk holds the table's file, which says about each leaf what the table says
pub record HasTable {D : Type 0} {p : pages.Ghosts D} {f : faults.Ghosts D} (table : Table D p f) (disk : MemState)
    : Type 0 where
  pub file : IsTableFile (header_of table) 32 disk.bytes
  pub leaves : (q : ℕ) → q < 32 → use_of_slot (slot_at 1 q disk.bytes) ≡ uses_of table q
