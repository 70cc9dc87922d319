-- A lock.
use Rattle.std.specs.Prelude.{ℕ, List, Option}
use Rattle.atomic_table.specs.Seated.{TableId}

-- Which lock it is, and what it was made with: the entries, the number and the name of its first value, its first
-- ticket, and how many passes it has
pub record Lock (E N : Type 0) : Type 0 where
  pub id : TableId
  pub opening_log : List E
  pub opening_number : ℕ
  pub name : Option N
  pub first_ticket : ℕ
  pub passes : ℕ
