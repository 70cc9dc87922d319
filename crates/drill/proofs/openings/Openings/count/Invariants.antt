use Rattle.std.proofs.Common.{◌≤◌, count_by, take}
use Rattle.drill.specs.Openings.{is_at}
use Rattle.drill.proofs.openings.Openings.count.Given as goal

-- among the openings before this one, at most as many are counted as are of this leaf by this trustee, and at least one
-- if there is one
abbrev pub invariant-openings : goal.invariant-openings
invariant-openings l = record {
  most : l.count ≤ count_by (is_at l.member l.leaf) (take l.i l.self.list.items);
  least : 1 ≤ count_by (is_at l.member l.leaf) (take l.i l.self.list.items) → 1 ≤ l.count;
}
