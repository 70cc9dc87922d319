-- One more event.
use Rattle.std.proofs.Common.{◌≡◌, ◌≤◌, ℕ, ◌+◌, ◌*◌, ◌%◌, ◌<◌, ◌==◌, Bool, true, false, Result, Ok, Err, IfOk, refl, sym, ◌∙◌, ap, arith, add-one, if◌then◌else◌}
use Rattle.std.proofs.lemmas.Bool.Decides.{nat_tests}
use Rattle.drill.specs.Summaries.{events_in}
use Rattle.drill_schedule.specs.Draws.{event_at, events_of, state_at}
use Rattle.drill_schedule.specs.declared.event.Event.{Event}
use Rattle.drill_schedule.specs.Events.{is_cut, is_restart}
use Rattle.drill.specs.Tallies.{CountsOne, HasCounted, IsWithin}
use Rattle.drill.specs.declared.tally.Tally.{Tally}

pub events-none : (kind : Event → Bool) (number : ℕ) → events_of kind number 0 ≡ 0
unfolding events_of
events-none kind number = refl

pub events-more : (kind : Event → Bool) (number i : ℕ)
    → events_of kind number (i + 1) ≡ events_of kind number i + (if kind (event_at number (176 + 3 * i)).event then 1 else 0)
unfolding events_of
events-more kind number i = rw (add-one i) refl

-- the state of the generator after one more event
pub state-more : (number i state : ℕ) → state ≡ state_at number (176 + 3 * i + 3) → state ≡ state_at number (176 + 3 * (i + 1))
state-more number i state is = is ∙ ap (state_at number) (omega arith)

pub one-or-none : (b : Bool) → (if b then 1 else 0) ≤ 1
one-or-none true = omega arith
one-or-none false = omega arith

pub events-some : (sessions events : ℕ) → (sessions ≡ 0 → ⊥) → events_in sessions events ≡ events
events-some sessions events some =
    let test : sessions == 0 ≡ false = grind (arith, nat_tests) in
    rw test refl

pub events-few : (sessions events : ℕ) → sessions ≡ 0 → events_in sessions events ≡ 0
events-few sessions events none = rw none refl

-- no event was counted yet
pub counts-none : (number : ℕ) (tally : Tally) → tally.cuts ≡ 0 → tally.restarts ≡ 0 → HasCounted number 0 tally
counts-none number tally cuts restarts = record { cuts = omega arith; restarts = restarts ∙ sym (events-none is_restart number) }

-- one more event is counted
pub counts-more : (number i : ℕ) (old new : Tally) → HasCounted number i old → CountsOne (event_at number (176 + 3 * i)).event old new → HasCounted number (i + 1) new
counts-more number i old new was one =
    let cuts = events-more is_cut number i in
    let restarts = events-more is_restart number i in
    let few = was.cuts in
    let more = one.cuts in
    let before = was.restarts in
    let now = one.restarts in
    record { cuts = omega arith; restarts = omega arith }

-- what holds anyway holds of an answer too
pub ok-too : {A E : Type 0} (P : A → Type 0) (Q : Type 0) (r : Result A E) → Q → IfOk r P → IfOk r (λ a. Q × P a)
ok-too P Q (Ok a) q p = (q, p)
ok-too P Q (Err e) q p = tt

-- what was asked stays within a higher bound if only a restart is counted
pub within-more : (bound most : ℕ) (old new : Tally) → IsWithin bound old → bound ≤ most → new.asks ≡ old.asks → new.granted ≡ old.granted → new.cuts ≡ old.cuts → IsWithin most new
within-more bound most old new within more asks granted cuts =
    let low = within.asks in
    let parts = within.parts in
    record { asks = omega (arith, low, more, asks); parts = omega (arith, parts, asks, granted, cuts) }

-- a drawn number stands for one of the sessions
pub drawn-below : (drawn sessions count : ℕ) → count ≡ sessions → 0 < sessions → drawn % sessions < count
drawn-below drawn sessions count is some = omega (arith, is, some)

-- what follows for a value from one fact, or from two, follows for an answer
pub ok-so : {A E : Type 0} (P R : A → Type 0) (r : Result A E) → ((a : A) → P a → R a) → IfOk r P → IfOk r R
ok-so P R (Ok a) so p = so a p
ok-so P R (Err e) so p = tt

pub ok-both : {A E : Type 0} (P Q R : A → Type 0) (r : Result A E) → ((a : A) → P a → Q a → R a) → IfOk r P → IfOk r Q → IfOk r R
ok-both P Q R (Ok a) so p q = so a p q
ok-both P Q R (Err e) so p q = tt
