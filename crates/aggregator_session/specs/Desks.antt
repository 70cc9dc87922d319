-- What an aggregator signs with, and the cells that it reads.
use Rattle.std.specs.Prelude.{◌≡◌, List}
use Rattle.aggregator_session.specs.declared.desk.Address.{Address}
use Rattle.aggregator_session.specs.declared.desk.Desk.{Desk}
use Rattle.coalition_map.specs.Coalitions.{PlanNumbers}
use Rattle.lms_bytes.specs.declared.public_key.PublicKey.{PublicKey}
use Rattle.merkle_path.specs.Tree.{TreeNodes}
use Rattle.reference_value.specs.declared.cells.Cells as cells

-- what an aggregator signs with
pub record DeskState : Type 0 where
  pub key : PublicKey
  pub plan : PlanNumbers
  pub tree : TreeNodes
  pub addresses : List Address

abbrev pub desk_state : Desk → DeskState
desk_state desk = record {
  key = desk.key.now;
  plan = desk.plan.now;
  tree = desk.tree.now;
  addresses = desk.addresses.now;
}

-- these cells are of the desk's set and plan
abbrev pub ReadsFor : {C : Type 0} → cells.Ghosts C → Desk → C → Type 0
ReadsFor c desk own = (c.set own ≡ desk.key.now.params) × (c.plan own ≡ desk.plan.now)
