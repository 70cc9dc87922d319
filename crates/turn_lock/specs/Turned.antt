-- The rule of a lock's table. Word 0 is the next ticket, word 1 the ticket that is served, the 64 words after them are
-- there to be parked on and may have any value, and slot 0 has the value if no seat holds the turn.
use Rattle.std.specs.Prelude.{◌≡◌, ℕ, ◌+◌, ◌^◌, ◌<◌, ◌≤◌, ◌⊎◌, Bool, List, [], ◌∷◌, length, count_by, Option, Some}
use mathlib.Core.Option.{none, some}
use mathlib.Core.List.{IsPrefix}
use lib.ListN.{get_elem?}
use Rattle.atomic_table.specs.Table.{State}
use Rattle.turn_lock.specs.Known.{worn_parts}
use Rattle.turn_lock.specs.declared.view.Known.{Known}
use Rattle.turn_lock.specs.declared.view.Opening.{Opening}
use Rattle.turn_lock.specs.declared.view.Stage.{Stage}
use Rattle.turn_lock.specs.declared.view.Stage.TheVariants.{Idle, Waiting, Holding}

-- the ticket of a seat that waits or holds the turn is this
abbrev pub HasTicket : Stage → ℕ → Type 0
HasTicket Idle t = ⊥
HasTicket (Waiting u) t = u ≡ t
HasTicket (Holding u) t = u ≡ t

-- a number for each seat, added up
unfoldable pub total : {A : Type 0} → (A → ℕ) → List A → ℕ
total f [] = 0
total f (d ∷ ds) = f d + total f ds

module _ {E N : Type 0} where
  -- what is true of a seat's stage: the holder of the turn knows all
  abbrev pub Stands : ℕ → ℕ → List E → ℕ → Known E N → Stage → Type 0
  Stands next serving all most d Idle = Unit {0}
  Stands next serving all most d (Waiting t) = (serving ≤ t) × (t < next)
  Stands next serving all most d (Holding t) = (t ≡ serving) × (t < next) × (d.log ≡ all) × (d.floor ≡ most)

  -- a seat that was joined to another
  pub record IsBlank (d : Known E N) : Type 0 where
    pub draws : d.draws ≡ 0
    pub rises : d.rises ≡ 0
    pub own : d.own ≡ []
    pub stage : d.stage ≡ Idle

  -- what is true of a seat
  pub record Knows (o : Opening E N) (next serving : ℕ) (all : List E) (most : ℕ) (d : Known E N) : Type 0 where
    pub begins : IsPrefix d.log all
    pub beside_begins : IsPrefix d.beside all
    pub shorter : length d.beside ≤ length d.log
    pub reached : d.floor ≤ most
    pub below : 0 < d.draws → d.greatest < next
    pub undrawn : d.draws ≡ 0 → d.greatest ≡ 0
    pub made : 0 < d.parts → d.opening ≡ o
    pub stands : Stands next serving all most d d.stage
    pub blank : d.parts ≡ 0 → IsBlank d

-- the rule, for the next ticket, the one that is served, the words to park on, the log of all turns, and the number of
-- the last one
pub record Turned {T E N : Type 0} (entries : T → List E) (number : T → ℕ) (name : T → N)
    (o : Opening E N) (s : State (Option T) (Known E N)) : Type 0 where
  pub next : ℕ
  pub serving : ℕ
  pub parked : List ℕ
  pub all : List E
  pub most : ℕ
  pub words : s.words ≡ next ∷ serving ∷ parked
  pub parks : length parked ≡ 64
  pub order : serving ≤ next
  -- the value is at home, and stands for the log; or a seat holds the turn
  pub home : ((v : T) × (s.homes ≡ some (Some v) ∷ []) × (entries v ≡ all) × (number v ≡ most)
      × (Some (name v) ≡ o.name))
      ⊎ ((s.homes ≡ none ∷ [])
      × ((j : ℕ) × (d : Known E N) × (get_elem? s.views j ≡ some d) × (d.stage ≡ Holding serving)))
  -- what each seat knows is true, and no two have the same ticket
  pub each_seat : (j : ℕ) (d : Known E N) → get_elem? s.views j ≡ some d → Knows o next serving all most d
  pub apart : (i j : ℕ) (d e : Known E N) (t : ℕ) → get_elem? s.views i ≡ some d → get_elem? s.views j ≡ some e
      → HasTicket d.stage t → HasTicket e.stage t → i ≡ j
  -- the passes, tickets, rises and entries add up
  pub whole : total (λ d. d.parts) s.views ≡ o.passes
  pub small : o.passes ≤ 4096
  pub drawn : next ≡ o.first + total (λ d. d.draws) s.views
  pub low : next ≤ 2 ^ 62 + total worn_parts s.views
  pub risen : most ≡ o.number + total (λ d. d.rises) s.views
  pub added : (test : E → Bool) → count_by test all ≡ count_by test o.entries + total (λ d. count_by test d.own) s.views
  -- some pass knows all
  pub knower : (j : ℕ) × (d : Known E N) × (get_elem? s.views j ≡ some d) × (d.log ≡ all) × (d.floor ≡ most)
      × (0 < d.parts)
