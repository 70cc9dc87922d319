-- The values that a chain holds.
use Rattle.std.specs.Prelude.{List, [], ◌∷◌, ◌++◌, Option, Some, None}
use Rattle.std.specs.Global.{Box}
use Rattle.stream_memory.specs.declared.chain.Node.{Node, Node', Held-Node-earlier, None', Some'}

-- a node's own value
abbrev pub own : {T : Type 0} → Node T → T
own (Node' value earlier) = value

-- the values up to a node, in the order in which they were taken
abbrev mutual
  pub node_values : {T : Type 0} → Node T → List T
  node_values (Node' value earlier) = earlier_values earlier ++ value ∷ []

  pub earlier_values : {T : Type 0} → Held-Node-earlier T → List T
  earlier_values None' = []
  earlier_values (Some' p node) = node_values node

-- the values up to the last node
abbrev pub values_of : {T : Type 0} → Option (Box (Node T)) → List T
values_of None = []
values_of (Some last) = node_values last.value
