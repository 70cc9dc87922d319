-- Events that are played, and what the schedule says about them.
use Rattle.std.proofs.Common.{◌≡◌, ◌<◌, ◌≤◌, ◌+◌, ◌*◌, ◌%◌, ℕ, List, length, get_or, if◌then◌else◌, refl, sym, ap, subst, arith, add-one}
use Rattle.drill_schedule.specs.Draws.{event_at}
use Rattle.drill_schedule.specs.Events.{is_cut}
use Rattle.drill_schedule.specs.declared.draws.Schedule.{Schedule}
use Rattle.drill_schedule.specs.declared.event.Event.{Event}
use Rattle.drill_schedule.specs.declared.event.Event.TheVariants.{Cut, Dropped, Restart, Step, Twice}
use Rattle.drill_trustees.specs.Trustees.{leaf_at}
use Rattle.reference_value.specs.Dealing.{Dealing}
use Rattle.drill.specs.Courses.{Drops, Follows, HasPlayed, IsGood, Plays, StaysGood, Stepped, asks_in, replies_in, uses_of}
use Rattle.drill.specs.Drills.{AtMost, StaysFor}
use Rattle.drill.specs.Schedules.{Progress, after_event, cut_asks, cut_in, extra_asks, extra_in, no_progress, progress_of}
use Rattle.drill.specs.Seats.{AreWaiting}
use Rattle.drill.specs.declared.desk.Desk.{Desk}
use Rattle.drill.specs.declared.seat.Seat.{Seat as Place}
use Rattle.drill.specs.declared.seat.Seat.TheVariants.{Refused}
use Rattle.drill.specs.declared.state.Asks.{Asks}
use Rattle.drill.specs.declared.state.Drill.{Drill}
use Rattle.drill.specs.declared.tally.Tally.{Tally}
use Rattle.drill.proofs.Following.{Known, known, twice-none, twice-some, waiting-follow, waiting-replies}

module _ (desk : Desk) (d : Dealing) (i : ℕ) (old : Drill) (good : IsGood desk d old) (inside : i < length old.seats.items) where
  next-of : (p : Progress) → Follows p old.seats.items → Known p i (asks_in (get_or old.seats.items i Refused))
  next-of p f = known desk d i (uses_of old.table) (leaf_at old.trustees) old.seats.items p inside good.seats f

  pub step-plays : (new : Drill) (asks : Asks) → asks.cut ≡ 0 → Stepped desk d i old new asks → Plays desk d Step i old new asks
  step-plays new asks uncut s = record {
    stays = s.stays;
    follows = s.follows;
    put = λ p f. let taken = s.taken in let none : extra_in Step p i ≡ 0 = refl in omega arith;
    cut = λ p f. omega (arith, uncut);
  }

  still : (event : Event) (new : Drill) (asks : Asks) → ((p : Progress) → Follows p old.seats.items → extra_in event p i ≡ asks_in (get_or old.seats.items i Refused))
      → ((p : Progress) → Follows p old.seats.items → asks.cut ≤ cut_in event p i) → ((p : Progress) → after_event event p i ≡ p) → Drops desk d i old new asks → Plays desk d event i old new asks
  still event new asks extra cut same s = record {
    stays = s.stays;
    follows = λ p f. subst (λ (q : Progress). Follows q new.seats.items) (sym (same p)) (subst (λ (l : List Place). Follows p l) (sym s.seats) f);
    put = λ p f. let a = s.put in let b = extra p f in let e = ap replies_in s.seats in omega arith;
    cut = cut;
  }

  pub dropped-plays : (new : Drill) (asks : Asks) → asks.cut ≡ 0 → Drops desk d i old new asks → Plays desk d Dropped i old new asks
  dropped-plays new asks uncut = still Dropped new asks (λ p f. (next-of p f).count) (λ p f. omega (arith, uncut)) (λ p. refl)

  pub cut-plays : (new : Drill) (asks : Asks) → Drops desk d i old new asks → Plays desk d Cut i old new asks
  cut-plays new asks s = still Cut new asks (λ p f. (next-of p f).count) (λ p f. at-most p f s) (λ p. refl) s
    where
      -- an ask that stops a disk is one that was put
      at-most : (p : Progress) → Follows p old.seats.items → Drops desk d i old new asks → asks.cut ≤ extra_in Cut p i
      at-most p f s = let put = s.put in let parts = s.stays.parts in let count = (next-of p f).count in omega (arith, put, parts, count)

  pub restart-plays : (new : Drill) (asks : Asks) → StaysGood desk d new asks → new.seats.items ≡ old.seats.items → asks.put ≡ 0 → asks.cut ≡ 0 → Plays desk d Restart i old new asks
  restart-plays new asks stays same none uncut = record {
    stays = stays;
    follows = λ p f. subst (λ (l : List Place). Follows p l) (sym same) f;
    put = λ p f. let e = ap replies_in same in let no : extra_in Restart p i ≡ 0 = refl in omega arith;
    cut = λ p f. omega (arith, uncut);
  }

  pub none-twice : (asks : Asks) → StaysGood desk d old asks → asks.put ≡ 0 → asks_in (get_or old.seats.items i Refused) ≡ 0 → asks.cut ≡ 0 → Plays desk d Twice i old old asks
  none-twice asks stays none over uncut = record {
    stays = stays;
    follows = λ p f. twice-none p i old.seats.items ((next-of p f).none over) f;
    put = λ p f. let e : extra_in Twice p i ≡ asks_in (get_or old.seats.items i Refused) = (next-of p f).count in omega arith;
    cut = λ p f. omega (arith, uncut);
  }

  pub some-twice : (now new : Drill) (first second both : Asks) → asks_in (get_or old.seats.items i Refused) ≡ 1 → Drops desk d i old now first → Stepped desk d i now new second
      → StaysGood desk d new both → both.put ≡ first.put + second.put → both.cut ≡ 0 → Plays desk d Twice i old new both
  some-twice now new first second both one a b stays sum uncut = record {
    stays = stays;
    follows = λ p f. twice-some p i new.seats.items ((next-of p f).some one) (b.follows p (subst (λ (l : List Place). Follows p l) (sym a.seats) f));
    put = λ p f.
        let e : extra_in Twice p i ≡ asks_in (get_or old.seats.items i Refused) = (next-of p f).count in
        let same = ap replies_in a.seats in
        let x = a.put in
        let y = b.taken in
        omega arith;
    cut = λ p f. omega (arith, uncut);
  }

-- an event that puts one ask puts at most two
pub stays-more : (desk : Desk) (old new : Drill) (asks : Asks) → StaysFor desk old new 1 asks → StaysFor desk old new 2 asks
stays-more desk old new asks stays = record {
  is_for = stays.is_for;
  count = stays.count;
  bound = record { put = (let put = stays.bound.put in omega (arith, put)); parts = stays.bound.parts };
}

pub none-asked : (bound : ℕ) → AtMost bound (record { put = 0; granted = 0; cut = 0 })
none-asked bound = record { put = omega arith; parts = omega arith }

-- no disk stops, or one in an event of that kind
pub uncut : (event : Event) (cut : ℕ) → cut ≡ 0 → cut ≤ (if is_cut event then 1 else 0)
uncut event cut none = omega (arith, none)

pub cut-once : (event : Event) (asks : Asks) → event ≡ Cut → AtMost 1 asks → asks.cut ≤ (if is_cut event then 1 else 0)
cut-once event asks is most =
    let put = most.put in
    let parts = most.parts in
    let once : asks.cut ≤ 1 = omega (arith, put, parts) in
    subst (λ (e : Event). asks.cut ≤ (if is_cut e then 1 else 0)) (sym is) once

-- ---- one more event

progress-none : (number sessions : ℕ) → progress_of number sessions 0 ≡ no_progress
unfolding progress_of
progress-none number sessions = refl

extra-none : (number sessions : ℕ) → extra_asks number sessions 0 ≡ 0
unfolding extra_asks
extra-none number sessions = refl

progress-more : (number sessions k : ℕ) (schedule : Schedule) → schedule ≡ event_at number (176 + 3 * k)
    → progress_of number sessions (k + 1) ≡ after_event schedule.event (progress_of number sessions k) (schedule.session % sessions)
unfolding progress_of
progress-more number sessions k schedule is = rw (add-one k) (ap (λ (s : Schedule). after_event s.event (progress_of number sessions k) (s.session % sessions)) (sym is))

extra-more : (number sessions k : ℕ) (schedule : Schedule) → schedule ≡ event_at number (176 + 3 * k)
    → extra_asks number sessions (k + 1) ≡ extra_asks number sessions k + extra_in schedule.event (progress_of number sessions k) (schedule.session % sessions)
unfolding extra_asks
extra-more number sessions k schedule is =
    rw (add-one k) (ap (λ (s : Schedule). extra_asks number sessions k + extra_in s.event (progress_of number sessions k) (s.session % sessions)) (sym is))

cuts-more : (number sessions k : ℕ) (schedule : Schedule) → schedule ≡ event_at number (176 + 3 * k)
    → cut_asks number sessions (k + 1) ≡ cut_asks number sessions k + cut_in schedule.event (progress_of number sessions k) (schedule.session % sessions)
unfolding cut_asks
cuts-more number sessions k schedule is =
    rw (add-one k) (ap (λ (s : Schedule). cut_asks number sessions k + cut_in s.event (progress_of number sessions k) (s.session % sessions)) (sym is))

pub plays-on : (desk : Desk) (d : Dealing) (number sessions k : ℕ) (old new : Drill) (tally after : Tally) (asks : Asks) (schedule : Schedule) → schedule ≡ event_at number (176 + 3 * k)
    → HasPlayed desk d number sessions k old tally → Plays desk d schedule.event (schedule.session % sessions) old new asks
    → after.asks ≡ tally.asks + asks.put → after.granted ≡ tally.granted + asks.granted → after.cuts ≡ tally.cuts + asks.cut → HasPlayed desk d number sessions (k + 1) new after
plays-on desk d number sessions k old new tally after asks schedule is was plays put granted cuts =
    let p = progress_of number sessions k in
    let i = schedule.session % sessions in
    let extra : extra_asks number sessions (k + 1) ≡ extra_asks number sessions k + extra_in schedule.event p i = extra-more number sessions k schedule is in
    let more = plays.put p was.follows in
    let before = was.well.taken in
    let parts = plays.stays.parts in
    let old_parts = was.well.parts in
    record {
      well = record { good = plays.stays.good; parts = omega arith; taken = omega arith };
      follows = subst (λ (q : Progress). Follows q new.seats.items) (sym (progress-more number sessions k schedule is)) (plays.follows p was.follows);
      cuts =
          let stopped = cuts-more number sessions k schedule is in
          let one = plays.cut p was.follows in
          let so_far = was.cuts in
          omega (arith, stopped, one, so_far, cuts);
    }

pub none-played : (desk : Desk) (d : Dealing) (number sessions : ℕ) (drill : Drill) (tally : Tally) → IsGood desk d drill → AreWaiting drill.seats.items
    → tally.asks ≡ 0 → tally.granted ≡ 0 → tally.cuts ≡ 0 → HasPlayed desk d number sessions 0 drill tally
none-played desk d number sessions drill tally good waiting none granted cuts =
    let extra = extra-none number sessions in
    let replies = waiting-replies drill.seats.items waiting in
    record {
      well = record { good = good; parts = omega arith; taken = omega arith };
      follows = subst (λ (p : Progress). Follows p drill.seats.items) (sym (progress-none number sessions)) (waiting-follow drill.seats.items waiting);
      cuts = omega (arith, cuts);
    }
