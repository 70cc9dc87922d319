-- What calls leave of cells and of their count of faults.
use Rattle.std.specs.Prelude.{◌≤◌}
use Rattle.disk_trait.specs.declared.faults.Faults as faults
use Rattle.reference_value.specs.Kinds.{StayAs}
use Rattle.reference_value.specs.declared.cells.Cells as cells

-- no call changes what cells are
abbrev pub CellsStay : {C : Type 0} → cells.Ghosts C → faults.Ghosts C → C → C → Type 0
CellsStay c f old new = StayAs c.set c.plan c.told f.steady c.leaves old new

-- no call changes what cells are, and none lowers their count of faults
pub record CellsOnward {C : Type 0} (c : cells.Ghosts C) (f : faults.Ghosts C) (old new : C) : Type 0 where
  pub stays : CellsStay c f old new
  pub count : f.count old ≤ f.count new
