-- What keeps the rule of a lock's table.
use Rattle.std.proofs.Common.{◌≡◌, ◌≢◌, ℕ, zero, suc, ◌+◌, ◌^◌, ◌<◌, ◌≤◌, ◌⊎◌, Bool, List, [], ◌∷◌, ◌++◌, length, set, get_or, count_by, Option, Some, refl, sym, ap, ◌∙◌, subst, inl, inr, ⊎_elim, arith}
use mathlib.Core.Logic.{dite}
use mathlib.Core.Option.{none, some, some-injective, some-ne-none}
use mathlib.Core.Option as mo
use native.Mathlib.Decide.{ℕ_discrete}
use lib.ListN.{get_elem?}
use Rattle.atomic_table.specs.Table.{State, Me, Act, homes_after, Valid, carried_after}
use Rattle.atomic_table.proofs.Lists.{at_set, at_snoc, set_here, set_else, set_again}
use Rattle.turn_lock.specs.declared.view.Known.{Known}
use Rattle.turn_lock.specs.declared.view.Opening.{Opening}
use Rattle.turn_lock.specs.declared.view.Stage.{Stage}
use Rattle.turn_lock.specs.declared.view.Stage.TheVariants.{Idle, Waiting, Holding}
use Rattle.turn_lock.specs.Known.{worn_parts}
use Rattle.turn_lock.specs.Turned.{HasTicket, total, Stands, Knows, Turned}
use Rattle.turn_lock.proofs.Totals.{total_set, total_le, worn_parts-le}

pub idle_not_held : (t : ℕ) → Idle ≡ Holding t → ⊥
idle_not_held t e = cc

pub waits_not_held : (t u : ℕ) → Waiting t ≡ Holding u → ⊥
waits_not_held t u e = cc

pub waits_not_idle : (t : ℕ) → Waiting t ≡ Idle → ⊥
waits_not_idle t e = cc

pub get_elem-below : {A : Type 0} (xs : List A) (i : ℕ) (a : A) → get_elem? xs i ≡ some a → i < length xs
get_elem-below [] i a e = absurd (some-ne-none a (sym e))
get_elem-below (x ∷ xs) zero a e = omega arith
get_elem-below (x ∷ xs) (suc i) a e = omega (arith, get_elem-below xs i a e)

-- two elements at one place are the same
pub same_at : {A : Type 0} (xs : List A) (i j : ℕ) (a b : A) → get_elem? xs i ≡ some a → get_elem? xs j ≡ some b → i ≡ j → a ≡ b
same_at xs i j a b p q e = some-injective a b (sym p ∙ (ap (get_elem? xs) e ∙ q))

module _ {E N : Type 0} where
  pub idle_has_none : (t : ℕ) (d : Known E N) → d.stage ≡ Idle → HasTicket d.stage t → ⊥
  idle_has_none t d idle h = subst (λ (x : Stage). HasTicket x t) idle h

  -- more tickets were drawn
  pub stands_more : (n m t : ℕ) (all : List E) (most : ℕ) (d : Known E N) (st : Stage) → n ≤ m → Stands n t all most d st → Stands m t all most d st
  stands_more n m t all most d Idle le k = tt
  stands_more n m t all most d (Waiting u) le k = (k.0, omega (arith, k.1))
  stands_more n m t all most d (Holding u) le k = (k.0, omega (arith, k.1), k.2, k.3)

  pub below_next : (n t : ℕ) (all : List E) (most : ℕ) (d : Known E N) (st : Stage) (u : ℕ) → Stands n t all most d st → HasTicket st u → u < n
  below_next n t all most d Idle u k h = absurd h
  below_next n t all most d (Waiting x) u k h = subst (λ (z : ℕ). z < n) h k.1
  below_next n t all most d (Holding x) u k h = subst (λ (z : ℕ). z < n) h k.1

  -- the turn went on from the ticket t, which this seat does not have
  pub waiting_on : (n t : ℕ) (all more : List E) (a b : ℕ) (d : Known E N) (st : Stage) → (HasTicket st t → ⊥) → Stands n t all a d st → Stands n (t + 1) more b d st
  waiting_on n t all more a b d Idle other k = tt
  waiting_on n t all more a b d (Waiting u) other k = let ne : u ≢ t = other in let le = k.0 in (omega arith, k.1)
  waiting_on n t all more a b d (Holding u) other k = absurd (other k.0)

  -- a seat with a ticket was there before a split
  pub old_seat : (vs : List (Known E N)) (id : ℕ) (w u : Known E N) (j : ℕ) (d : Known E N) (t : ℕ) → w.stage ≡ Idle → u.stage ≡ Idle → get_elem? (set vs id w ++ u ∷ []) j ≡ some d → HasTicket d.stage t → get_elem? vs j ≡ some d
  old_seat vs id w u j d t idle idle_u e h = ⊎_elim
      (λ (e : get_elem? (set vs id w) j ≡ some d). ⊎_elim
      (λ (p : (j ≡ id) × (w ≡ d)). absurd (idle_has_none t d (ap (λ (x : Known E N). x.stage) (sym p.1) ∙ idle) h))
      (λ (p : (j ≢ id) × (get_elem? vs j ≡ some d)). p.1)
      (at_set vs id j w d e))
      (λ (e : u ≡ d). absurd (idle_has_none t d (ap (λ (x : Known E N). x.stage) (sym e) ∙ idle_u) h))
      (at_snoc (set vs id w) u d j e)

module _ {T E N : Type 0} (entries : T → List E) (number : T → ℕ) (name : T → N) (o : Opening E N) where
  abbrev pub K : Type 0
  K = Known E N

  abbrev pub S : Type 0
  S = State (Option T) K

  abbrev pub Rule : S → Type 0
  Rule = Turned entries number name o

  -- the value is at home
  abbrev pub AtHome : List E → ℕ → List (mo.Option (Option T)) → Type 0
  AtHome all most homes = (v : T) × (homes ≡ some (Some v) ∷ []) × (entries v ≡ all) × (number v ≡ most) × (Some (name v) ≡ o.name)

  -- a seat holds the turn
  abbrev pub IsOut : ℕ → List (mo.Option (Option T)) → List K → Type 0
  IsOut serving homes views = (homes ≡ none ∷ []) × ((j : ℕ) × (d : K) × (get_elem? views j ≡ some d) × (d.stage ≡ Holding serving))

  abbrev pub Home : ℕ → List E → ℕ → List (mo.Option (Option T)) → List K → Type 0
  Home serving all most homes views = AtHome all most homes ⊎ IsOut serving homes views

  -- some pass knows all
  abbrev pub HasKnower : List E → ℕ → List K → Type 0
  HasKnower all most views = (j : ℕ) × (d : K) × (get_elem? views j ≡ some d) × (d.log ≡ all) × (d.floor ≡ most) × (0 < d.parts)

  -- what the seat's new view adds to the sums
  pub record Adds (s : S) (r : Rule s) (id : ℕ) (v w : K) (n : ℕ) (all : List E) (most : ℕ) : Type 0 where
    pub parts : w.parts ≡ v.parts
    pub draws : n + v.draws ≡ r.next + w.draws
    pub low : n ≤ 2 ^ 62 + total worn_parts (set s.views id w)
    pub rises : most + v.rises ≡ r.most + w.rises
    pub own : (test : E → Bool) → count_by test all + count_by test v.own ≡ count_by test r.all + count_by test w.own
    pub knower : HasKnower all most (set s.views id w)

  -- a step after which the seat knows w
  pub rebuilt : (s : S) (r : Rule s) (id : ℕ) (v w : K) → get_elem? s.views id ≡ some v → (n t : ℕ) (all : List E) (most : ℕ) (homes : List (mo.Option (Option T)))
      → t ≤ n → Home t all most homes (set s.views id w) → Knows o n t all most w → ((j : ℕ) (d : K) → j ≢ id → get_elem? s.views j ≡ some d → Knows o n t all most d)
      → ((j : ℕ) (d : K) (u : ℕ) → j ≢ id → get_elem? s.views j ≡ some d → HasTicket w.stage u → HasTicket d.stage u → ⊥)
      → Adds s r id v w n all most → Rule record { words = n ∷ t ∷ r.parked; homes = homes; views = set s.views id w }
  rebuilt s r id v w at n t all most homes order home mine others apart adds = record {
    next = n;
    serving = t;
    parked = r.parked;
    all = all;
    most = most;
    words = refl;
    parks = r.parks;
    order = order;
    home = home;
    each_seat = λ j d e. ⊎_elim (λ (p : (j ≡ id) × (w ≡ d)). subst (λ (x : K). Knows o n t all most x) p.1 mine) (λ (p : (j ≢ id) × (get_elem? s.views j ≡ some d)). others j d p.0 p.1) (at_set s.views id j w d e);
    apart = λ i j d e u ati atj hi hj. ⊎_elim
        (λ (p : (i ≡ id) × (w ≡ d)). ⊎_elim
        (λ (q : (j ≡ id) × (w ≡ e)). p.0 ∙ sym q.0)
        (λ (q : (j ≢ id) × (get_elem? s.views j ≡ some e)). absurd (apart j e u q.0 q.1 (subst (λ (x : K). HasTicket x.stage u) (sym p.1) hi) hj))
        (at_set s.views id j w e atj))
        (λ (p : (i ≢ id) × (get_elem? s.views i ≡ some d)). ⊎_elim
        (λ (q : (j ≡ id) × (w ≡ e)). absurd (apart i d u p.0 p.1 (subst (λ (x : K). HasTicket x.stage u) (sym q.1) hj) hi))
        (λ (q : (j ≢ id) × (get_elem? s.views j ≡ some e)). r.apart i j d e u p.1 q.1 hi hj)
        (at_set s.views id j w e atj))
        (at_set s.views id i w d ati);
    whole = let c = total_set (λ (d : K). d.parts) s.views id v w at in let a = adds.parts in let b = r.whole in omega arith;
    small = r.small;
    drawn = let c = total_set (λ (d : K). d.draws) s.views id v w at in let a = adds.draws in let b = r.drawn in omega arith;
    low = adds.low;
    risen = let c = total_set (λ (d : K). d.rises) s.views id v w at in let a = adds.rises in let b = r.risen in omega arith;
    added = λ p. let c = total_set (λ (d : K). count_by p d.own) s.views id v w at in let a = adds.own p in let b = r.added p in omega arith;
    knower = adds.knower;
  }

  -- a seat that knew all still does, if the seat that steps keeps what it knew
  pub still_known : (s : S) (r : Rule s) (id : ℕ) (v w : K) → get_elem? s.views id ≡ some v → w.log ≡ v.log → w.floor ≡ v.floor → 0 < w.parts → HasKnower r.all r.most (set s.views id w)
  still_known s r id v w at l f p = let k = r.knower in dite (ℕ_discrete k.0 id)
      (λ here. let same : v ≡ k.1 = same_at s.views id k.0 v k.1 at k.2 (sym here) in
      (id, w, set_here s.views id w (get_elem-below s.views id v at), l ∙ (ap (λ (x : K). x.log) same ∙ k.3), f ∙ (ap (λ (x : K). x.floor) same ∙ k.4), p))
      (λ other. (k.0, k.1, set_else s.views id k.0 w other ∙ k.2, k.3, k.4, k.5))

  -- the next ticket is far below the word's end
  pub next_small : (s : S) (r : Rule s) → r.next + 1 < 2 ^ 64
  next_small s r = omega (arith, total_le worn_parts (λ (d : K). d.parts) s.views worn_parts-le, r.whole, r.small, r.low)

  -- what a step of a seat asks of one state, at its words
  abbrev pub Goes : (s : S) → ℕ → ℕ → Me (Option T) K → (ℕ → ℕ) → (ℕ → Me (Option T) K → Type 0) → List ℕ → Type 0
  Goes s i id me f then ws = (w : K) × (a : Act (Option T)) × Valid s.homes me.1 a
      × Rule record { words = set ws i (f (get_or ws i 0)); homes = homes_after s.homes me.1 a; views = set s.views id w } × then (get_or ws i 0) (w, carried_after me.1 a)

  -- a seat that holds no turn does not change where the value is
  pub home_stays : (s : S) (r : Rule s) (id : ℕ) (v w : K) → get_elem? s.views id ≡ some v → ((t : ℕ) → v.stage ≡ Holding t → ⊥) → Home r.serving r.all r.most s.homes (set s.views id w)
  home_stays s r id v w at idle = ⊎_elim inl
      (λ (p : IsOut r.serving s.homes s.views).
      inr (p.0, (p.1.0, p.1.1, set_else s.views id p.1.0 w (λ (e : p.1.0 ≡ id). idle r.serving (ap (λ (x : K). x.stage) (same_at s.views id p.1.0 v p.1.1 at p.1.2 (sym e)) ∙ p.1.3)) ∙ p.1.2, p.1.3)))
      r.home

  -- a step that changes the words on which seats wait, or nothing
  pub stirred : (s : S) (r : Rule s) (id : ℕ) (me : K) → get_elem? s.views id ≡ some me → (parked : List ℕ) → length parked ≡ 64
      → Rule record { words = r.next ∷ r.serving ∷ parked; homes = s.homes; views = set s.views id me }
  stirred s r id me at parked parks = subst (λ (vs : List K). Rule record { words = r.next ∷ r.serving ∷ parked; homes = s.homes; views = vs }) (sym (set_again s.views id me at)) record {
    next = r.next;
    serving = r.serving;
    parked = parked;
    all = r.all;
    most = r.most;
    words = refl;
    parks = parks;
    order = r.order;
    home = r.home;
    each_seat = r.each_seat;
    apart = r.apart;
    whole = r.whole;
    small = r.small;
    drawn = r.drawn;
    low = r.low;
    risen = r.risen;
    added = r.added;
    knower = r.knower;
  }

  pub unmoved : (s : S) (r : Rule s) (id : ℕ) (me : K) → get_elem? s.views id ≡ some me → Rule record { words = r.next ∷ r.serving ∷ r.parked; homes = s.homes; views = set s.views id me }
  unmoved s r id me at = stirred s r id me at r.parked r.parks

  -- the sum of worn parts, if this seat's stay as they were
  pub same_low : (ds : List K) (id n : ℕ) (v w : K) → get_elem? ds id ≡ some v → worn_parts w ≡ worn_parts v → n ≤ 2 ^ 62 + total worn_parts ds → n ≤ 2 ^ 62 + total worn_parts (set ds id w)
  same_low ds id n v w at same low = let c = total_set worn_parts ds id v w at in omega arith
