-- All that happens to a leaf table, through crashes and restarts.
use Rattle.std.specs.Prelude.{◌≡◌, ℕ, List, Result, None}
use Rattle.coalition_map.specs.Coalitions.{PlanNumbers}
use Rattle.lms_bytes.specs.declared.message.MessageId.{MessageId}
use Rattle.leaf_table.specs.Entries.{IsBurnt, LeafUse, IsFree, IsLeased, OneLease, map_of}
use Rattle.leaf_table.specs.Leasing.{Burns, Leases}
use Rattle.leaf_table.specs.State.{SettlesTo, TableState}
use Rattle.leaf_table.specs.declared.faults.TableFault.{TableFault}

-- Events from one state of a table to another. A crash may fall on any call: the entry that it was about to make was
-- made or was not. Loading gives a sound table that makes of each leaf what was kept of it.
pub data TableRun (plan : PlanNumbers) : TableState → TableState → Type 0 where
  ended : (state : TableState) → TableRun plan state state
  leased : (before after last : TableState) (members : List ℕ) (message : MessageId) (answer : Result ℕ TableFault)
      → Leases plan before members message answer after → TableRun plan after last → TableRun plan before last
  burnt : (before after last : TableState) (leaf by : ℕ) (message : List ℕ) (answer : Result (Unit {0}) TableFault)
      → Burns before leaf message by answer after → TableRun plan after last → TableRun plan before last
  restarted : (before settled loaded last : TableState) → SettlesTo before settled → OneLease loaded.entries
      → loaded.doubt ≡ None
      → ((leaf : ℕ) → map_of loaded.entries leaf ≡ map_of settled.entries leaf)
      → TableRun plan loaded last → TableRun plan before last

-- a leaf has stayed as it was, or has gone on: a free one is leased or burnt, a leased one burnt
pub data Grows : LeafUse → LeafUse → Type 0 where
  same : (kept : LeafUse) → Grows kept kept
  leased : (message : List ℕ) → Grows IsFree (IsLeased message)
  burnt_free : Grows IsFree IsBurnt
  burnt : (message : List ℕ) → Grows (IsLeased message) IsBurnt

-- each leaf is for one message, whether the entry in doubt was made or was not
abbrev pub KeepsOneLease : TableState → Type 0
KeepsOneLease state = (settled : TableState) → SettlesTo state settled → OneLease settled.entries
