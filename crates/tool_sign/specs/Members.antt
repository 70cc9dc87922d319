-- The trustees that an aggregator asks, each with the place where it is dialled.
use Rattle.std.specs.Prelude.{◌+◌, ℕ, List, [], ◌∷◌, Option, None, Some, map, string_bytes, Contains}
use Rattle.aggregator_session.specs.declared.desk.Address.{Address}
use Rattle.coalition_map.specs.Coalitions.{PlanNumbers, coalitions}

-- a trustee with its place
pub record Placed : Type 0 where
  pub member : ℕ
  pub place : List ℕ

-- the trustees from number t on that have a place, in ascending order
unfoldable pub placed_from : ℕ → List (Option (List ℕ)) → List Placed
placed_from t [] = []
placed_from t (None ∷ places) = placed_from (t + 1) places
placed_from t (Some place ∷ places) = record { member = t; place = place } ∷ placed_from (t + 1) places

-- the place of trustee t is at t - 1
abbrev pub placed : List (Option (List ℕ)) → List Placed
placed = placed_from 1

-- their numbers
abbrev pub members_placed : List (Option (List ℕ)) → List ℕ
members_placed places = map (λ one. one.member) (placed places)

-- an address that the program dials, with the bytes of its place
abbrev pub address : Address → Placed
address one = record { member = one.member; place = string_bytes one.place }

-- the members are one of the coalitions of a plan
abbrev pub IsCoalition : PlanNumbers → List ℕ → Type 0
IsCoalition plan members = Contains (coalitions plan.n plan.k) members
