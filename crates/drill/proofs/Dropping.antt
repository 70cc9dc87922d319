-- The next ask of a session is put, and the answer is dropped.
use Rattle.std.proofs.Common.{◌≡◌, ◌⊎◌, ◌<◌, ◌+◌, ◌∙◌, ℕ, length, get_or, refl, sym, subst, ap}
use Rattle.drill_trustees.specs.Members.{state_after, state_before}
use Rattle.drill_trustees.specs.Trustees.{SameShares, SetsAt, leaf_at}
use Rattle.drill_trustees.specs.declared.trustees.Trustees.{Trustees}
use Rattle.opening_journal.specs.Entries.{LeafState}
use Rattle.drill.specs.Courses.{Drops, HasNoNext, IsGoing, IsGood, IsNextOf, asks_in, uses_of}
use Rattle.drill.specs.Keys.{HasDealing}
use Rattle.drill.specs.Openings.{Notes}
use Rattle.drill.specs.declared.asks.NextAsk.{NextAsk}
use Rattle.drill.specs.declared.desk.Desk.{Desk}
use Rattle.drill.specs.declared.openings.Openings.{Openings}
use Rattle.drill.specs.declared.seat.Seat.{Seat as Place}
use Rattle.drill.specs.declared.seat.Seat.TheVariants.{Refused}
use Rattle.drill.specs.declared.state.Asks.{Asks}
use Rattle.drill.specs.declared.state.Drill.{Drill}
use Rattle.drill.proofs.Following.{no-next, some-next}
use Rattle.drill.proofs.Noting.{keeps-all, noted-of}
use Rattle.drill.proofs.Seated.{drops, dropped, get_or-any}

module _ (desk : Desk) (own : HasDealing desk.plan desk.dealt) (i : ℕ) (drill : Drill) (seat : Place) (good : IsGood desk own.dealing drill)
    (within : i < length drill.seats.items) (was : seat ≡ get_or drill.seats.items i seat) where
  -- the session of this seat goes on
  pub goes : IsGoing desk own.dealing i (uses_of drill.table) (leaf_at drill.trustees) seat
  goes = subst (λ (x : Place). IsGoing desk own.dealing i (uses_of drill.table) (leaf_at drill.trustees) x) (sym was) (good.seats i seat within)

  here : seat ≡ get_or drill.seats.items i Refused
  here = was ∙ get_or-any drill.seats.items i seat Refused within

  -- it has no next ask, so nothing is put
  pub puts-none : HasNoNext seat → Drops desk own.dealing i drill drill (record { put = 0; granted = 0; cut = 0 })
  puts-none none = record {
    stays = record { good = good; parts = refl };
    seats = refl;
    put = sym (no-next desk own.dealing i (uses_of drill.table) (leaf_at drill.trustees) seat goes none) ∙ ap asks_in here;
  }

  -- its next ask was put, and leaves the leaf as it was before the ask or as it is after it
  pub puts-one : (new : Trustees) (openings : Openings) (next : NextAsk) (state : LeafState) (asks : Asks) → IsNextOf desk i next seat → SameShares drill.trustees new
      → SetsAt drill.trustees new next.member next.ask.leaf state → ((state ≡ state_before next.ask) ⊎ (state ≡ state_after next.ask)) → asks.granted + asks.cut ≡ asks.put → asks.put ≡ 1
      → Notes drill.openings.list.items next.member next.ask openings.list.items
      → Drops desk own.dealing i drill (record { trustees = new; table = drill.table; seats = drill.seats; openings = openings }) asks
  puts-one new openings next state asks is same sets known parts one notes =
      let moves = drops desk own i (uses_of drill.table) drill.trustees new seat next state asks goes good.shares same is sets known parts in
      let noted = noted-of desk own.dealing i (length drill.seats.items) within (uses_of drill.table) (leaf_at drill.trustees) seat next _ _ good.different goes is notes good.openings in
      record {
        stays = dropped desk own i drill new openings seat asks good within was moves noted (keeps-all _ _ next.member next.ask notes);
        seats = refl;
        put = one ∙ sym (some-next desk i seat next is) ∙ ap asks_in here;
      }
