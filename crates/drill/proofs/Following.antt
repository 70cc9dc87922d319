-- That the sessions come as far as the schedule says.
use Rattle.std.proofs.Common.{◌≡◌, ◌≢◌, ◌<◌, ◌≤◌, ◌+◌, ◌-◌, ◌*◌, ◌%◌, ◌==◌, ℕ, suc, min, Bool, true, false, if◌then◌else◌, List, [], ◌∷◌, All, None, Some, Option, is_some, not, IfNone, IfSome, length, get_or, inl, inr, refl, sym, ◌∙◌, ap, subst, arith}
use Rattle.std.proofs.lemmas.Bool.{cases_eq, eq-eqb, le-ltb, lt-ltb, ne_eqb}
use Rattle.drill_schedule.specs.declared.event.Event.TheVariants.{Twice}
use Rattle.leaf_table.specs.Entries.{LeafUse}
use Rattle.opening_journal.specs.Entries.{LeafState}
use Rattle.reference_value.specs.Dealing.{Dealing}
use Rattle.session_core.specs.Asks.{kept_masks}
use Rattle.session_core.specs.Seats.{Seat, is_filled}
use Rattle.session_core.specs.State.{State, round_of, seats_of}
use Rattle.drill.specs.Counts.{free_of, held_by, holds, is_open, signed_in, signs, sum_below}
use Rattle.drill.specs.Courses.{Advances, Follows, Grows, HasEnded, HasNoNext, IsGoing, IsNextOf, Takes, asks_in, count_filled, replies_in, replies_of, steps_in, steps_of}
use Rattle.drill.specs.Schedules.{Progress, after_event, after_step, has_ask, leaves_of, no_progress, with_value}
use Rattle.drill.specs.Seats.{AreWaiting}
use Rattle.drill.specs.declared.asks.NextAsk.{NextAsk}
use Rattle.drill.specs.declared.desk.Desk.{Desk}
use Rattle.drill.specs.declared.seat.Seat.{Seat as Place}
use Rattle.drill.specs.declared.seat.Seat.TheVariants.{Refused, Running, Signed, Waiting}
use Rattle.drill.specs.declared.state.Asks.{Asks}
use Rattle.drill.proofs.Counted.{bare-holds, full-none, held-change, leased-holds, same-free, same-holds}
use Rattle.drill.proofs.Going.{empty-x, empty-y}
use Rattle.drill.proofs.Rounds.{pair-of, which}
use Rattle.drill.proofs.Starting.{not-all}
use Rattle.drill.proofs.Sums.{no-value, none-value, own-value, sum-change, sum-four, sum-one, sum-zero}

-- ---- the steps of a session that runs

one-at-most : (b : Bool) → (if b then 1 else 0) ≤ 1
one-at-most true = omega arith
one-at-most false = omega arith

filled-one : (x y : Seat) → is_filled x ≡ false → count_filled (x ∷ y ∷ []) ≤ 1
unfolding count_filled
filled-one x y empty = rw empty (let b = one-at-most (is_filled y) in omega arith)

filled-other : (x y : Seat) → is_filled y ≡ false → count_filled (x ∷ y ∷ []) ≤ 1
unfolding count_filled
filled-other x y empty = rw empty (let b = one-at-most (is_filled x) in omega arith)

at-most-three : (s : State) (o : Option (List ℕ)) → s.c ≡ o → steps_in s ≤ 3 + count_filled (seats_of s)
at-most-three s None is = let e : steps_in s ≡ 1 + count_filled (seats_of s) = rw is refl in omega arith
at-most-three s (Some c) is = let e : steps_in s ≡ 3 + count_filled (seats_of s) = rw is refl in omega arith

-- a session that goes on has a step left
pub few-steps : (desk : Desk) (d : Dealing) (i : ℕ) (uses : ℕ → LeafUse) (leaves : ℕ → ℕ → LeafState) (s : State) → IsGoing desk d i uses leaves (Running s) → steps_in s ≤ 4
few-steps desk d i uses leaves s going =
    let c = going.0 in
    let t = going.1.0 in
    let p = pair-of s c.session (c.of.plan_is ∙ desk.plan_is) in
    let most = at-most-three s s.c refl in
    let filled : count_filled (seats_of s) ≤ 1 = elim (which s p t going.1.1.0) [
      | inl e ↦
          subst (λ (l : List Seat). count_filled l ≤ 1) (sym p.seats)
          (filled-one p.x p.y (empty-x desk d i uses leaves s p c (subst (λ (u : ℕ). kept_masks s (round_of s) u ≡ None) e going.1.1.1)))
      | inr e ↦
          subst (λ (l : List Seat). count_filled l ≤ 1) (sym p.seats)
          (filled-other p.x p.y (empty-y desk d i uses leaves s p c (subst (λ (u : ℕ). kept_masks s (round_of s) u ≡ None) e going.1.1.1)))
    ] in
    omega arith

-- ---- the schedule

with-same : (values : ℕ → ℕ) (i value : ℕ) → with_value values i value i ≡ value
with-same values i value = rw (eq-eqb i i refl) refl

with-other : (values : ℕ → ℕ) (i value k : ℕ) → k ≢ i → with_value values i value k ≡ values k
with-other values i value k other = rw (ne_eqb k i other) refl

step-refused : (p : Progress) (i : ℕ) → p.steps i ≡ 0 → leaves_of (i % 3) ≤ p.leased (i % 3) → after_step p i ≡ record { steps = with_value p.steps i 5; leased = p.leased }
step-refused p i none full = rw (eq-eqb (p.steps i) 0 none, le-ltb (p.leased (i % 3)) (leaves_of (i % 3)) full) refl

step-lease : (p : Progress) (i : ℕ) → p.steps i ≡ 0 → p.leased (i % 3) < leaves_of (i % 3)
    → after_step p i ≡ record { steps = with_value p.steps i 1; leased = with_value p.leased (i % 3) (p.leased (i % 3) + 1) }
step-lease p i none left = rw (eq-eqb (p.steps i) 0 none, lt-ltb (p.leased (i % 3)) (leaves_of (i % 3)) left) refl

step-on : (p : Progress) (i : ℕ) → (p.steps i ≡ 0 → ⊥) → after_step p i ≡ record { steps = with_value p.steps i (min (p.steps i + 1) 5); leased = p.leased }
step-on p i some = rw (ne_eqb (p.steps i) 0 some) refl

pub ask-left : (p : Progress) (i : ℕ) → 1 ≤ p.steps i → p.steps i ≤ 4 → has_ask p i ≡ true
ask-left p i low high = rw (lt-ltb 0 (p.steps i) (omega arith), lt-ltb (p.steps i) 5 (omega arith)) refl

pub no-lease : (p : Progress) (i : ℕ) → p.steps i ≡ 0 → has_ask p i ≡ false
no-lease p i none = rw none refl

pub no-ask-left : (p : Progress) (i : ℕ) → p.steps i ≡ 5 → has_ask p i ≡ false
no-ask-left p i all = rw all refl

-- once one seat has changed
module _ (p : Progress) (i : ℕ) (seats now : List Place) (inside : i < length seats) (size : length now ≡ length seats)
    (others : (j : ℕ) (none : Place) → j ≢ i → get_or now j none ≡ get_or seats j none) (f : Follows p seats) where
  follow-one : (q : Progress) (n : ℕ) (held : ℕ → ℕ) → q ≡ record { steps = with_value p.steps i n; leased = held } → steps_of (get_or now i Refused) ≡ n
      → ((c : ℕ) → c < 3 → held c ≡ held_by c now) → Follows q now
  follow-one q n held is here all = subst (λ (x : Progress). Follows x now) (sym is) (record {
    steps = λ k within. elim (cases_eq k i) [
      | inl e ↦ subst (λ (j : ℕ). with_value p.steps i n j ≡ steps_of (get_or now j Refused)) (sym e) (with-same p.steps i n ∙ sym here)
      | inr e ↦ with-other p.steps i n k e ∙ (f.steps k (omega arith) ∙ ap steps_of (sym (others k Refused e)))
    ];
    leased = all;
  })

  same-held : holds (get_or now i Refused) ≡ holds (get_or seats i Refused) → (c : ℕ) → c < 3 → p.leased c ≡ held_by c now
  same-held same c few =
      let held = held-change i seats now c inside size others in
      let e = ap (λ (x : ℕ). if i % 3 == c then x else 0) same in
      let was = f.leased c few in
      omega arith

  one-held : holds (get_or seats i Refused) ≡ 0 → holds (get_or now i Refused) ≡ 1 → (c : ℕ) → c < 3 → with_value p.leased (i % 3) (p.leased (i % 3) + 1) c ≡ held_by c now
  one-held had has c few =
      let held = held-change i seats now c inside size others in
      let was = f.leased c few in
      elim (cases_eq c (i % 3)) [
        | inl e ↦
            let a = own-value c i (holds (get_or seats i Refused)) (sym e) in
            let b = own-value c i (holds (get_or now i Refused)) (sym e) in
            let here : with_value p.leased (i % 3) (p.leased (i % 3) + 1) c ≡ p.leased (i % 3) + 1 =
            ap (with_value p.leased (i % 3) (p.leased (i % 3) + 1)) e ∙ with-same p.leased (i % 3) (p.leased (i % 3) + 1) in
            let same : p.leased c ≡ p.leased (i % 3) = ap p.leased e in
            omega arith
        | inr e ↦
            let a = no-value c i (holds (get_or seats i Refused)) (λ same. e (sym same)) in
            let b = no-value c i (holds (get_or now i Refused)) (λ same. e (sym same)) in
            let there = with-other p.leased (i % 3) (p.leased (i % 3) + 1) c e in
            omega arith
      ]

  pub follow-refused : p.steps i ≡ 0 → leaves_of (i % 3) ≤ held_by (i % 3) seats → holds (get_or now i Refused) ≡ holds (get_or seats i Refused) → steps_of (get_or now i Refused) ≡ 5
      → Follows (after_step p i) now
  follow-refused none full same here =
      let was = f.leased (i % 3) (omega arith) in
      follow-one (after_step p i) 5 p.leased (step-refused p i none (omega arith)) here (same-held same)

  pub follow-lease : p.steps i ≡ 0 → held_by (i % 3) seats < leaves_of (i % 3) → holds (get_or seats i Refused) ≡ 0 → holds (get_or now i Refused) ≡ 1 → steps_of (get_or now i Refused) ≡ 1
      → Follows (after_step p i) now
  follow-lease none left had has here =
      let was = f.leased (i % 3) (omega arith) in
      follow-one (after_step p i) 1 (with_value p.leased (i % 3) (p.leased (i % 3) + 1)) (step-lease p i none (omega arith)) here (one-held had has)

  pub follow-on : (p.steps i ≡ 0 → ⊥) → holds (get_or now i Refused) ≡ holds (get_or seats i Refused) → steps_of (get_or now i Refused) ≡ min (p.steps i + 1) 5
      → Follows (after_step p i) now
  follow-on some same here = follow-one (after_step p i) (min (p.steps i + 1) 5) p.leased (step-on p i some) here (same-held same)

-- ---- what a step does to a session

some-step : (s : State) (o : Option (List ℕ)) → s.c ≡ o → 1 ≤ steps_in s
some-step s None is = let e : steps_in s ≡ 1 + count_filled (seats_of s) = rw is refl in omega arith
some-step s (Some c) is = let e : steps_in s ≡ 3 + count_filled (seats_of s) = rw is refl in omega arith

refused-of : (place : Place) → holds place ≡ 0 → 1 ≤ steps_of place → steps_of place ≡ 5
refused-of Waiting none low = absurd (omega arith)
refused-of (Running s) none low = absurd (omega arith)
refused-of (Signed leaf) none low = refl
refused-of Refused none low = refl

-- a session that ended without a leaf left none of its coalition free
none-free : (desk : Desk) (d : Dealing) (i : ℕ) (map : ℕ → LeafUse) (leaves : ℕ → ℕ → LeafState) → (place : Place) → holds place ≡ 0 → 1 ≤ steps_of place → IsGoing desk d i map leaves place
    → free_of (i % 3) map ≡ 0
none-free desk d i map leaves Waiting none low going = absurd (omega arith)
none-free desk d i map leaves (Running s) none low going = absurd (omega arith)
none-free desk d i map leaves (Signed leaf) none low going = absurd (omega arith)
none-free desk d i map leaves Refused none low going = full-none i (i % 3) map refl going.0

-- the replies of a session whose steps are known, or that has no leaf
replies-are : (place : Place) (n : ℕ) → (holds place ≡ 1 → steps_of place ≡ suc n) → (holds place ≡ 0 → n ≡ 0) → replies_of place ≡ n
replies-are Waiting n has none = sym (none refl)
replies-are (Running s) n has none = let e : steps_in s ≡ suc n = has refl in let goal : steps_in s - 1 ≡ n = omega arith in goal
replies-are (Signed leaf) n has none = let e = has refl in omega arith
replies-are Refused n has none = sym (none refl)

module _ (desk : Desk) (d : Dealing) (i : ℕ) (map after : ℕ → LeafUse) (old new : ℕ → ℕ → LeafState) where
  -- one that has a leaf keeps it
  still-holds : Grows i map after → (seat place : Place) → holds seat ≡ 1 → IsGoing desk d i map old seat → IsGoing desk d i after new place → holds place ≡ 1
  still-holds (inl same) seat place has was going = same-holds desk d i map after old new same seat place was going ∙ has
  still-holds (inr takes) seat place has was going = let none = bare-holds desk d i map old takes.bare seat was in absurd (omega arith)

  -- one that was refused stays so
  still-none : Grows i map after → (place : Place) → IsGoing desk d i map old Refused → IsGoing desk d i after new place → holds place ≡ 0
  still-none (inl same) place was going = same-holds desk d i map after old new same Refused place was going
  still-none (inr takes) place was going = absurd (was.0 takes.leaf takes.within takes.coalition takes.free)

  -- each ask that a step puts is one more reply
  pub replies-more : Grows i map after → (seat place : Place) (asks : Asks) → IsGoing desk d i map old seat → IsGoing desk d i after new place → Advances seat place asks
      → asks.put + replies_of seat ≡ replies_of place
  replies-more grows Waiting place asks was going a =
      let put = a.put in
      let is = replies-are place 0 a.exact (λ none. refl) in
      omega arith
  replies-more grows (Running s) place asks was going a =
      let put : asks.put ≡ 1 = a.put in
      let has = still-holds grows (Running s) place refl was going in
      let is = replies-are place (steps_in s) a.exact (λ none. absurd (omega arith)) in
      let low = some-step s s.c refl in
      let one : asks.put + (steps_in s - 1) ≡ steps_in s = omega arith in
      one ∙ sym is
  replies-more grows (Signed leaf) place asks was going a =
      let put = a.put in
      let has = still-holds grows (Signed leaf) place refl was going in
      let is = replies-are place 4 a.exact (λ none. absurd (omega arith)) in
      omega arith
  replies-more grows Refused place asks was going a =
      let put = a.put in
      let none = still-none grows place was going in
      let is = replies-are place 0 (λ has. absurd (omega arith)) (λ no. refl) in
      omega arith

  module _ (seats now : List Place) (inside : i < length seats) (size : length now ≡ length seats)
      (others : (j : ℕ) (none : Place) → j ≢ i → get_or now j none ≡ get_or seats j none) where
    -- the same for all sessions
    pub all-replies : (asks : Asks) → asks.put + replies_of (get_or seats i Refused) ≡ replies_of (get_or now i Refused) → asks.put + replies_in seats ≡ replies_in now
    all-replies asks more =
        let f : ℕ → ℕ = λ k. replies_of (get_or seats k Refused) in
        let g : ℕ → ℕ = λ k. replies_of (get_or now k Refused) in
        let change = sum-change f g (length seats) i inside (λ k below other. ap replies_of (others k Refused other)) in
        let same : replies_in now ≡ sum_below g (length seats) = ap (sum_below g) size in
        omega arith

    module _ (grows : Grows i map after) (free : held_by (i % 3) seats + free_of (i % 3) map ≡ leaves_of (i % 3)) (p : Progress) (f : Follows p seats) where
      full : (place : Place) → holds place ≡ 0 → 1 ≤ steps_of place → IsGoing desk d i after new place → ((q : ℕ) → q < 32 → after q ≡ map q) → leaves_of (i % 3) ≤ held_by (i % 3) seats
      full place none low going same =
          let empty = none-free desk d i after new place none low going in
          let e = same-free (i % 3) map after same in
          omega arith

      room : Takes i map after → held_by (i % 3) seats < leaves_of (i % 3)
      room takes =
          let g : ℕ → ℕ = λ q. if q % 3 == (i % 3) then is_open (map q) else 0 in
          let one : g takes.leaf ≡ 1 = own-value (i % 3) takes.leaf (is_open (map takes.leaf)) takes.coalition ∙ ap is_open takes.free in
          let low = sum-one g 32 takes.leaf takes.within in
          omega arith

      waits : (place : Place) (asks : Asks) → place ≡ get_or now i Refused → Waiting ≡ get_or seats i Refused → p.steps i ≡ 0 → IsGoing desk d i map old Waiting → IsGoing desk d i after new place
          → Advances Waiting place asks → Grows i map after → Follows (after_step p i) now
      waits place asks is was none before going a (inl same) =
          let no = same-holds desk d i map after old new same Waiting place before going in
          follow-refused p i seats now inside size others f none (full place no a.least going same)
          (ap holds (sym is) ∙ (no ∙ ap holds was)) (ap steps_of (sym is) ∙ refused-of place no a.least)
      waits place asks is was none before going a (inr takes) =
          let has = leased-holds desk d i after new takes.leaf takes.within takes.leased place going in
          follow-lease p i seats now inside size others f none (room takes) (ap holds (sym was)) (ap holds (sym is) ∙ has) (ap steps_of (sym is) ∙ a.exact has)

      pub follow-step : (seat place : Place) (asks : Asks) → place ≡ get_or now i Refused → seat ≡ get_or seats i Refused → IsGoing desk d i map old seat → IsGoing desk d i after new place
          → Advances seat place asks → Follows (after_step p i) now
      follow-step Waiting place asks is was before going a = waits place asks is was (f.steps i inside ∙ ap steps_of (sym was)) before going a grows
      follow-step (Running s) place asks is was before going a =
          let here : p.steps i ≡ steps_in s = f.steps i inside ∙ ap steps_of (sym was) in
          let low = some-step s s.c refl in
          let high = few-steps desk d i map old s before in
          let has = still-holds grows (Running s) place refl before going in
          let next : steps_of place ≡ suc (steps_in s) = a.exact has in
          follow-on p i seats now inside size others f (λ none. absurd (omega arith))
          (ap holds (sym is) ∙ (has ∙ ap holds was)) (ap steps_of (sym is) ∙ omega arith)
      follow-step (Signed leaf) place asks is was before going a =
          let here : p.steps i ≡ 5 = f.steps i inside ∙ ap steps_of (sym was) in
          let has = still-holds grows (Signed leaf) place refl before going in
          let next : steps_of place ≡ 5 = a.exact has in
          follow-on p i seats now inside size others f (λ none. absurd (omega arith))
          (ap holds (sym is) ∙ (has ∙ ap holds was)) (ap steps_of (sym is) ∙ omega arith)
      follow-step Refused place asks is was before going a =
          let here : p.steps i ≡ 5 = f.steps i inside ∙ ap steps_of (sym was) in
          let no = still-none grows place before going in
          let low = a.least in
          let next : steps_of place ≡ 5 = refused-of place no (omega arith) in
          follow-on p i seats now inside size others f (λ none. absurd (omega arith))
          (ap holds (sym is) ∙ (no ∙ ap holds was)) (ap steps_of (sym is) ∙ omega arith)

-- ---- what events put

-- a session whose steps are these has a next ask, or has none
has-asks : (desk : Desk) (d : Dealing) (i : ℕ) (map : ℕ → LeafUse) (leaves : ℕ → ℕ → LeafState) (p : Progress) (seat : Place) → IsGoing desk d i map leaves seat → p.steps i ≡ steps_of seat
    → (if has_ask p i then 1 else 0) ≡ asks_in seat
has-asks desk d i map leaves p Waiting going is = ap (λ (b : Bool). if b then 1 else 0) (no-lease p i is)
has-asks desk d i map leaves p (Running s) going is =
    let here : p.steps i ≡ steps_in s = is in
    let low = some-step s s.c refl in
    let high = few-steps desk d i map leaves s going in
    ap (λ (b : Bool). if b then 1 else 0) (ask-left p i (omega arith) (omega arith))
has-asks desk d i map leaves p (Signed leaf) going is = ap (λ (b : Bool). if b then 1 else 0) (no-ask-left p i is)
has-asks desk d i map leaves p Refused going is = ap (λ (b : Bool). if b then 1 else 0) (no-ask-left p i is)

pub no-next : (desk : Desk) (d : Dealing) (i : ℕ) (map : ℕ → LeafUse) (leaves : ℕ → ℕ → LeafState) (seat : Place) → IsGoing desk d i map leaves seat → HasNoNext seat → asks_in seat ≡ 0
no-next desk d i map leaves Waiting going none = refl
no-next desk d i map leaves (Running s) going none = absurd (not-all s going.0.session (going.0.of.plan_is ∙ desk.plan_is) going.1 none)
no-next desk d i map leaves (Signed leaf) going none = refl
no-next desk d i map leaves Refused going none = refl

pub some-next : (desk : Desk) (i : ℕ) (seat : Place) (next : NextAsk) → IsNextOf desk i next seat → asks_in seat ≡ 1
some-next desk i Waiting next is = absurd is
some-next desk i (Running s) next is = refl
some-next desk i (Signed leaf) next is = absurd is
some-next desk i Refused next is = absurd is

-- what is_none tells of a next ask
pub next-known : (desk : Desk) (d : Dealing) (i : ℕ) (map : ℕ → LeafUse) (leaves : ℕ → ℕ → LeafState) (seat : Place) (o : Option NextAsk) (b : Bool) → is_some o ≡ not b
    → IfSome o (λ next. IsNextOf desk i next seat) → IfNone o (HasNoNext seat) → IsGoing desk d i map leaves seat → asks_in seat ≡ (if b then 0 else 1)
next-known desk d i map leaves seat None true is some none going = no-next desk d i map leaves seat going none
next-known desk d i map leaves seat None false is some none going = absurd (cc)
next-known desk d i map leaves seat (Some next) true is some none going = absurd (cc)
next-known desk d i map leaves seat (Some next) false is some none going = some-next desk i seat next some

abbrev pub one-if : Bool → ℕ
one-if b = if b then 1 else 0

extra-by : (b : Bool) (p : Progress) (i : ℕ) → one-if (has_ask p i) ≡ one-if b → has_ask p i ≡ b
extra-by b p i is = same (has_ask p i) b is
  where
    same : (a b : Bool) → one-if a ≡ one-if b → a ≡ b
    same true true is = refl
    same true false is = absurd (omega arith)
    same false true is = absurd (omega arith)
    same false false is = refl

-- the next ask of session i, in terms of the schedule
pub record Known (p : Progress) (i n : ℕ) : Type 0 where
  pub count : one-if (has_ask p i) ≡ n
  pub none : n ≡ 0 → has_ask p i ≡ false
  pub some : n ≡ 1 → has_ask p i ≡ true

pub known : (desk : Desk) (d : Dealing) (i : ℕ) (map : ℕ → LeafUse) (leaves : ℕ → ℕ → LeafState) (seats : List Place) (p : Progress) → i < length seats
    → ((j : ℕ) (none : Place) → j < length seats → IsGoing desk d j map leaves (get_or seats j none)) → Follows p seats → Known p i (asks_in (get_or seats i Refused))
known desk d i map leaves seats p inside going f =
    let count = has-asks desk d i map leaves p (get_or seats i Refused) (going i Refused inside) (f.steps i inside) in
    record { count = count; none = λ is. extra-by false p i (count ∙ is); some = λ is. extra-by true p i (count ∙ is) }

-- ---- the beginning, and the end

pub waiting-follow : (seats : List Place) → AreWaiting seats → Follows no_progress seats
waiting-follow seats waiting = record {
  steps = λ i inside. sym (ap steps_of (waiting i Refused inside));
  leased = λ c few. sym (sum-zero (λ (k : ℕ). if k % 3 == c then holds (get_or seats k Refused) else 0) (length seats)
      (λ k inside. none-value c k (holds (get_or seats k Refused)) (ap holds (waiting k Refused inside))));
}

pub waiting-replies : (seats : List Place) → AreWaiting seats → replies_in seats ≡ 0
waiting-replies seats waiting = sum-zero (λ (k : ℕ). replies_of (get_or seats k Refused)) (length seats) (λ k inside. ap replies_of (waiting k Refused inside))

ended-four : (place : Place) → HasEnded place → replies_of place ≡ 4 * signs place
ended-four Waiting ended = absurd ended
ended-four (Running s) ended = absurd ended
ended-four (Signed leaf) ended = refl
ended-four Refused ended = refl

pub ended-replies : (seats : List Place) → All HasEnded seats → replies_in seats ≡ 4 * signed_in seats
ended-replies seats ended =
    sum-four (λ (k : ℕ). replies_of (get_or seats k Refused)) (λ (k : ℕ). signs (get_or seats k Refused)) (length seats) (λ k inside. ended-four (get_or seats k Refused) (ended k Refused inside))

-- ---- an event that is played

pub twice-none : (p : Progress) (i : ℕ) (seats : List Place) → has_ask p i ≡ false → Follows p seats → Follows (after_event Twice p i) seats
twice-none p i seats none f = rw none f

pub twice-some : (p : Progress) (i : ℕ) (seats : List Place) → has_ask p i ≡ true → Follows (after_step p i) seats → Follows (after_event Twice p i) seats
twice-some p i seats some f = rw some f
