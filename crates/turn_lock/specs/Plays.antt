-- What the steps at a lock's table tell a seat.
use Rattle.std.specs.Prelude.{◌≡◌, ◌≢◌, ℕ, ◌+◌, ◌<◌, ◌≤◌, Bool, List, [], ◌∷◌, count_by, Option, Some}
use mathlib.Core.List.{IsPrefix}
use Rattle.atomic_table.specs.Table.{Me, Step}
use Rattle.turn_lock.specs.Known.{drawn_by, holding, given, compared}
use Rattle.turn_lock.specs.declared.view.Known.{Known}
use Rattle.turn_lock.specs.declared.view.Stage.TheVariants.{Waiting}

-- what is true of a seat in which all passes are joined
pub record KnowsAll {E N : Type 0} (d : Known E N) : Type 0 where
  pub tickets : 0 < d.draws → d.greatest < d.opening.first + d.draws
  pub no_ticket : d.draws ≡ 0 → d.greatest ≡ 0
  pub rises : d.floor ≡ d.opening.number + d.rises
  pub entries : (test : E → Bool) → count_by test d.log ≡ count_by test d.opening.entries + count_by test d.own

-- the ticket is not below those that the seat drew before, and if all passes are joined in it, it is the first one plus
-- the number of those that were drawn
pub record Drew {T E N : Type 0} (st : Step (Option T)) (m : Me (Option T) (Known E N))
    (found : ℕ) (m' : Me (Option T) (Known E N)) : Type 0 where
  pub slots : m'.1 ≡ m.1
  pub view : m'.0 ≡ drawn_by m.0 found
  pub above : m.0.greatest ≤ found
  pub next : m.0.parts ≡ m.0.opening.passes → found ≡ m.0.opening.first + m.0.draws

-- nothing changes for the seat
abbrev pub Called : {T E N : Type 0} → Step (Option T) → Me (Option T) (Known E N) → ℕ → Me (Option T) (Known E N)
    → Type 0
Called st m found m' = m' ≡ m

-- after a meeting, one of the two logs begins the other
pub record Compared {T E N : Type 0} (st : Step (Option T)) (m : Me (Option T) (Known E N))
    (found : ℕ) (m' : Me (Option T) (Known E N)) : Type 0 where
  pub slots : m'.1 ≡ m.1
  pub view : m'.0 ≡ compared m.0
  pub begins : IsPrefix m.0.beside m.0.log
  pub few : m.0.parts ≤ 4096
  pub all : m.0.parts ≡ m.0.opening.passes → KnowsAll m.0

-- for a seat that waits for a ticket: if that one is found served, the seat has the value, which goes on from what it
-- knew
abbrev pub Finds : {T E N : Type 0} → (T → List E) → (T → ℕ) → (T → N) → ℕ → Me (Option T) (Known E N) → ℕ
    → Me (Option T) (Known E N) → Type 0
Finds {T} entries number name t m found m' =
    (found ≡ t → (v : T) × (m'.1 ≡ (0, Some v) ∷ m.1) × (m'.0 ≡ holding m.0 t (entries v) (number v))
    × IsPrefix m.0.log (entries v) × (m.0.floor ≤ number v) × (Some (name v) ≡ m.0.opening.name))
    × (found ≢ t → m' ≡ m)

-- what a waiting seat finds when it looks
abbrev pub Looked : {T E N : Type 0} → (T → List E) → (T → ℕ) → (T → N) → Step (Option T) → Me (Option T) (Known E N)
    → ℕ → Me (Option T) (Known E N) → Type 0
Looked entries number name st m found m' =
    (t : ℕ) → m.0.stage ≡ Waiting t → Finds entries number name t m found m'

-- the value that the seat gave back is the log's
abbrev pub PassedOn : {T E N : Type 0} → (T → List E) → (T → ℕ) → Step (Option T) → Me (Option T) (Known E N) → ℕ
    → Me (Option T) (Known E N) → Type 0
PassedOn {T} entries number st m found m' =
    (v : T) → m.1 ≡ (0, Some v) ∷ [] → (m'.1 ≡ []) × (m'.0 ≡ given m.0 (entries v) (number v))
