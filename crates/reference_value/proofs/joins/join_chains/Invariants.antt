use Rattle.std.proofs.Common.{◌≡◌, ◌*◌, take, IsTrue}
use Rattle.lms_bytes.specs.Bytes.{joined}
use Rattle.reference_value.specs.Joins.{joined_chain}
use Rattle.reference_value.specs.Stay.{CellsStay}
use Rattle.reference_value.proofs.joins.join_chains.Given as goal

-- the values of the chains before this one are written
abbrev pub invariant-chains : goal.invariant-chains
invariant-chains g l = record {
  stays : CellsStay g.R.Cells g.R.Faults l.initial.cells l.cells;
  count : g.R.Faults.count l.cells ≡ g.R.Faults.count l.initial.cells;
  front : IsTrue (g.R.Cells.told l.initial.cells) → take (l.params.n * l.i) l.out
      ≡ joined (joined_chain l.params (g.R.Cells.plan l.initial.cells) (g.R.Cells.leaves l.initial.cells) l.q l.digest l.sums) l.i;
}
