-- Each step keeps the rule of a lock's table, and tells what it is said to tell.
use Rattle.std.proofs.Common.{◌≡◌, ◌≢◌, ℕ, zero, suc, ◌+◌, ◌%◌, ◌^◌, ◌<◌, ◌≤◌, ◌⊎◌, max, Bool, true, false, nat_lt, cond, List, [], ◌∷◌, ◌++◌, length, drop, set, get_or, replicate, count_by, Option, Some, None, refl, sym, ap, ◌∙◌, subst, inl, inr, ⊎_elim, arith, le_refl}
use Rattle.std.proofs.Math.Nat.{mod-eq_of_lt}
use Rattle.std.proofs.lemmas.List.{length-set, length-replicate}
use Rattle.std.proofs.Math.Seq.{drop-append_seam}
use mathlib.Core.Logic.{dite}
use mathlib.Core.Option.{none, some, some-injective, some-ne-none}
use mathlib.Core.Option as mo
use mathlib.Core.List.{IsPrefix}
use native.Mathlib.Decide.{dec_le, ℕ_discrete}
use lib.ListN.{get_elem?}
use Rattle.atomic_table.specs.Table.{rest, State, Me, Step, keeps, takes, gives, Allows, Splits, Joins, Final, Seen, opening, homes_after, carried_after}
use Rattle.atomic_table.proofs.Lists.{at_set, at_snoc, at_longer, set_here, set_else}
use Rattle.turn_lock.specs.declared.view.Known.{Known}
use Rattle.turn_lock.specs.declared.view.Opening.{Opening}
use Rattle.turn_lock.specs.declared.view.Stage.{Stage}
use Rattle.turn_lock.specs.declared.view.Stage.TheVariants.{Idle, Waiting, Holding}
use Rattle.turn_lock.specs.Known.{starting, rest_of, one_of, both_of, spent, drawn_by, holding, given, compared, worn_parts}
use Rattle.turn_lock.specs.Turned.{HasTicket, total, Stands, IsBlank, Knows, Turned}
use Rattle.turn_lock.specs.Plays.{KnowsAll, Called, Drew, Compared, Looked, PassedOn}
use Rattle.turn_lock.proofs.Prefixes.{prefix_all, prefix_none, prefix_trans, prefix_length, prefix_both, longer_prefix, shorter_prefix, shorter_is, longer_left, longer_right}
use Rattle.turn_lock.proofs.Totals.{total_set, total_snoc, total_zero, total_none, total_one, total_at, count_append, worn_parts-fresh, worn_parts-worn, worn_parts-both}
use Rattle.turn_lock.proofs.Rule.{idle_not_held, waits_not_held, waits_not_idle, get_elem-below, same_at, idle_has_none, stands_more, below_next, waiting_on, old_seat, IsOut, rebuilt, still_known, next_small, Goes, home_stays, stirred, unmoved, same_low}

abbrev ticket_of : Stage → ℕ
ticket_of Idle = 0
ticket_of (Waiting t) = t
ticket_of (Holding t) = t

positive : (n : ℕ) → (n ≡ 0 → ⊥) → 0 < n
positive zero h = absurd (h refl)
positive (suc n) h = omega arith

set_only : {A : Type 0} (xs : List A) (a : A) → length xs ≡ 1 → set xs 0 a ≡ a ∷ []
set_only [] a e = absurd (omega arith)
set_only (x ∷ []) a e = refl
set_only (x ∷ y ∷ ys) a e = absurd (omega arith)

only_one : {A : Type 0} (v : A) (j : ℕ) (d : A) → get_elem? (v ∷ []) j ≡ some d → v ≡ d
only_one v zero d e = some-injective v d e
only_one v (suc j) d e = absurd (some-ne-none d (sym e))

abbrev value_or : {T : Type 0} → T → List (ℕ × Option T) → T
value_or v [] = v
value_or v ((_, Some u) ∷ _) = u
value_or v ((_, None) ∷ _) = v

slot_value : {T : Type 0} (v u : T) → ◌≡◌ {A = List (ℕ × Option T)} ((0, Some v) ∷ []) ((0, Some u) ∷ []) → v ≡ u
slot_value v u e = ap (value_or v) e

-- the one slot that is out, as `exchange` asks for it
pub slot_out : {T : Type 0} (out : List (ℕ × Option T)) (v : T) → out ≡ (0, Some v) ∷ [] → (x : Option T) × (out ≡ (0, x) ∷ rest out)
slot_out {T} out v e = (Some v, e ∙ ap (λ (o : List (ℕ × Option T)). (0, Some v) ∷ rest o) (sym e))

-- the greatest ticket is no more than the next one
above_all : (draws greatest next : ℕ) → (0 < draws → greatest < next) → (draws ≡ 0 → greatest ≡ 0) → greatest ≤ next
above_all zero greatest next below undrawn = let e = undrawn refl in omega arith
above_all (suc d) greatest next below undrawn = let e = below (omega arith) in omega arith

below_both : (d e g h n : ℕ) → (0 < d → g < n) → (0 < e → h < n) → (d ≡ 0 → g ≡ 0) → (e ≡ 0 → h ≡ 0) → 0 < d + e → max g h < n
below_both zero zero g h n p q a b any = absurd (omega arith)
below_both zero (suc e) g h n p q a b any = let z = a refl in let lt = q (omega arith) in omega arith
below_both (suc d) zero g h n p q a b any = let z = b refl in let lt = p (omega arith) in omega arith
below_both (suc d) (suc e) g h n p q a b any = let l = p (omega arith) in let m = q (omega arith) in omega arith

max_le : (a b c : ℕ) → a ≤ c → b ≤ c → max a b ≤ c
max_le a b c p q = grind arith

max_left : (a b c : ℕ) → a ≡ c → b ≤ c → max a b ≡ c
max_left a b c p q = grind arith

max_right : (a b c : ℕ) → b ≡ c → a ≤ c → max a b ≡ c
max_right a b c p q = grind arith

module _ {T E N : Type 0} (entries : T → List E) (number : T → ℕ) (name : T → N) (o : Opening E N) where
  abbrev K : Type 0
  K = Known E N

  abbrev S : Type 0
  S = State (Option T) K

  abbrev Rule : S → Type 0
  Rule = Turned entries number name o

  -- what the rule says about a seat in which all passes are joined
  pub record Whole (s : S) (r : Rule s) (v : K) : Type 0 where
    pub next : r.next ≡ o.first + v.draws
    pub log : v.log ≡ r.all
    pub floor : v.floor ≡ r.most
    pub knows : KnowsAll v

  pub empty_else : (s : S) (r : Rule s) (id : ℕ) (v : K) → get_elem? s.views id ≡ some v → v.parts ≡ o.passes → (j : ℕ) (d : K) → j ≢ id → get_elem? s.views j ≡ some d → d.parts ≡ 0
  empty_else s r id v at all j d n e =
      let a = total_set (λ (d : K). d.parts) s.views id v spent at in
      let none_left : total (λ (d : K). d.parts) (set s.views id spent) ≡ 0 = (let b = r.whole in omega arith) in
      total_zero (λ (d : K). d.parts) (set s.views id spent) none_left j d (set_else s.views id j spent n ∙ e)

  pub whole : (s : S) (r : Rule s) (id : ℕ) (v : K) → get_elem? s.views id ≡ some v → v.parts ≡ o.passes → 0 < v.parts → Whole s r v
  whole s r id v at all part =
      let empty = empty_else s r id v at all in
      let only : (f : K → ℕ) → f spent ≡ 0 → ((d : K) → IsBlank d → f d ≡ 0) → total f s.views ≡ f v = λ f z h.
      let b = total_set f s.views id v spent at in
      let c : total f (set s.views id spent) ≡ 0 = total_none f (set s.views id spent) (λ j d e. ⊎_elim (λ (p : (j ≡ id) × (spent ≡ d)). ap f (sym p.1) ∙ z) (λ (p : (j ≢ id) × (get_elem? s.views j ≡ some d)). h d ((r.each_seat j d p.1).blank (empty j d p.0 p.1))) (at_set s.views id j spent d e)) in
      omega arith in
      let k = r.knower in
      let me : v ≡ k.1 = dite (ℕ_discrete k.0 id) (λ e. same_at s.views id k.0 v k.1 at k.2 (sym e)) (λ n. absurd (let z = empty k.0 k.1 n k.2 in let q = k.5 in omega arith)) in
      let log : v.log ≡ r.all = ap (λ (x : K). x.log) me ∙ k.3 in
      let floor : v.floor ≡ r.most = ap (λ (x : K). x.floor) me ∙ k.4 in
      let draws = only (λ (d : K). d.draws) refl (λ d b. b.draws) in
      let rises = only (λ (d : K). d.rises) refl (λ d b. b.rises) in
      let next : r.next ≡ o.first + v.draws = (let a = r.drawn in omega arith) in
      record {
        next = next;
        log = log;
        floor = floor;
        knows = subst (λ (p : Opening E N). KnowsAll (record v { opening = p })) (sym ((r.each_seat id v at).made part)) record {
          tickets = λ h. let b = (r.each_seat id v at).below h in omega arith;
          no_ticket = (r.each_seat id v at).undrawn;
          rises = (let a = r.risen in omega arith);
          entries = λ q. ap (count_by q) log ∙ (r.added q ∙ ap (λ (z : ℕ). count_by q o.entries + z) (only (λ (d : K). count_by q d.own) refl (λ d b. ap (count_by q) b.own)));
        };
      }

  -- drawing
  abbrev drawn_with : K → ℕ → Bool → K
  drawn_with d t b = record d { draws = d.draws + 1; greatest = max d.greatest t; stage = cond b (Waiting t) Idle }

  drawn_knows : (s : S) (r : Rule s) (id : ℕ) (v : K) → get_elem? s.views id ≡ some v → 0 < v.parts → v.greatest ≤ r.next → (b : Bool)
      → Knows o (r.next + 1) r.serving r.all r.most (drawn_with v r.next b)
  drawn_knows s r id v at part above b = let mine = r.each_seat id v at in let order = r.order in
      let Is : Bool → Type 0 = λ b. Stands (r.next + 1) r.serving r.all r.most (drawn_with v r.next b) (cond b (Waiting r.next) Idle) in
      let all = elim b as Is [ true ↦ (order, omega arith) | false ↦ tt ] in
      record {
        begins = mine.begins;
        beside_begins = mine.beside_begins;
        shorter = mine.shorter;
        reached = mine.reached;
        below = λ _. omega arith;
        undrawn = λ z. absurd (omega arith);
        made = mine.made;
        stands = all;
        blank = λ z. absurd (omega arith);
      }

  others_drawn : (s : S) (r : Rule s) (id : ℕ) (j : ℕ) (d : K) → j ≢ id → get_elem? s.views j ≡ some d → Knows o (r.next + 1) r.serving r.all r.most d
  others_drawn s r id j d _ atj = let k = r.each_seat j d atj in record {
    begins = k.begins;
    beside_begins = k.beside_begins;
    shorter = k.shorter;
    reached = k.reached;
    below = λ h. (let b = k.below h in omega arith);
    undrawn = k.undrawn;
    made = k.made;
    stands = stands_more r.next (r.next + 1) r.serving r.all r.most d d.stage (omega arith) k.stands;
    blank = k.blank;
  }

  drawn_low : (s : S) (r : Rule s) (id : ℕ) (v : K) → get_elem? s.views id ≡ some v → v.greatest < 2 ^ 62 → 0 < v.parts → v.greatest ≤ r.next → (b : Bool)
      → r.next + 1 ≤ 2 ^ 62 + total worn_parts (set s.views id (drawn_with v r.next b))
  drawn_low s r id v at fresh part above b =
      let w : K = drawn_with v r.next b in
      let sum = total_set worn_parts s.views id v w at in
      let before = worn_parts-fresh v fresh in
      let low = r.low in
      let Goal : Type 0 = r.next + 1 ≤ 2 ^ 62 + total worn_parts (set s.views id w) in
      dite {C = Goal} (dec_le (2 ^ 62) r.next)
      (λ le. let after = worn_parts-worn w (omega arith) in omega arith)
      (λ lt. omega arith)

  drawn_rule : (s : S) (r : Rule s) (id : ℕ) (v : K) → get_elem? s.views id ≡ some v → v.stage ≡ Idle → v.greatest < 2 ^ 62 → 0 < v.parts → v.greatest ≤ r.next → (b : Bool)
      → Rule record { words = (r.next + 1) ∷ r.serving ∷ r.parked; homes = s.homes; views = set s.views id (drawn_with v r.next b) }
  drawn_rule s r id v at idle fresh part above b =
      let w : K = drawn_with v r.next b in
      let not_held : (t : ℕ) → v.stage ≡ Holding t → ⊥ = λ t h. idle_not_held t (sym idle ∙ h) in
      let order = r.order in
      let Is : Bool → Type 0 = λ b. (u : ℕ) → HasTicket (cond b (Waiting r.next) Idle) u → r.next ≡ u in
      let ticket = elim b as Is [ true ↦ λ u h. h | false ↦ λ u h. absurd h ] in
      rebuilt entries number name o s r id v w at (r.next + 1) r.serving r.all r.most s.homes (omega arith) (home_stays entries number name o s r id v w at not_held)
      (drawn_knows s r id v at part above b)
      (others_drawn s r id)
      (λ j d u ne atj hw hd. let lt = below_next r.next r.serving r.all r.most d d.stage u (r.each_seat j d atj).stands hd in let same = ticket u hw in omega arith)
      record {
        parts = refl;
        draws = omega arith;
        low = drawn_low s r id v at fresh part above b;
        rises = refl;
        own = λ p. refl;
        knower = still_known entries number name o s r id v w at refl refl part;
      }

  pub draws : (slots id : ℕ) (me : Me (Option T) K) (st : Step (Option T)) → me.0.stage ≡ Idle → me.0.greatest < 2 ^ 62 → 0 < me.0.parts → Allows Rule slots id me 0 (λ n. (n + 1) % 2 ^ 64) (Drew st me)
  draws slots id me st idle fresh part s r _ at _ = subst (Goes entries number name o s 0 id me (λ n. (n + 1) % 2 ^ 64) (Drew st me)) (sym r.words)
      (let small = next_small entries number name o s r in
      let e : (r.next + 1) % 2 ^ 64 ≡ r.next + 1 = mod-eq_of_lt small in
      let mine = r.each_seat id me.0 at in
      let above : me.0.greatest ≤ r.next = above_all me.0.draws me.0.greatest r.next mine.below mine.undrawn in
      let rule = drawn_rule s r id me.0 at idle fresh part above (nat_lt r.next (2 ^ 62)) in (
        drawn_by me.0 r.next,
        keeps,
        tt,
        subst (λ (x : ℕ). Rule record { words = x ∷ r.serving ∷ r.parked; homes = s.homes; views = set s.views id (drawn_by me.0 r.next) }) (sym e) rule,
        record {
          slots = refl;
          view = refl;
          above = above;
          next = λ all. let same : o ≡ me.0.opening = sym (mine.made part) in
              subst (λ (x : Opening E N). r.next ≡ x.first + me.0.draws) same (whole s r id me.0 at (all ∙ ap (λ (x : Opening E N). x.passes) (sym same)) part).next;
        },
      ))

  -- looking: the ticket that is served belongs to one seat alone
  found_turn : (slots id t : ℕ) (me : Me (Option T) K) (st : Step (Option T)) (s : S) (r : Rule s) → get_elem? s.views id ≡ some me.0 → me.0.stage ≡ Waiting t → r.serving ≡ t
      → Goes entries number name o s 1 id me (λ n. n) (Looked entries number name st me) (r.next ∷ r.serving ∷ r.parked)
  found_turn slots id t me st s r at waits here = ⊎_elim
      (λ (p : (v : T) × (s.homes ≡ some (Some v) ∷ []) × (entries v ≡ r.all) × (number v ≡ r.most) × (Some (name v) ≡ o.name)).
      let v : T = p.0 in
      let w : K = holding me.0 t (entries v) (number v) in
      let mine = r.each_seat id me.0 at in
      let stands : Stands r.next r.serving r.all r.most me.0 (Waiting t) = subst (Stands r.next r.serving r.all r.most me.0) waits mine.stands in
      let lt = stands.1 in
      let begun : IsPrefix me.0.log (entries v) = subst (IsPrefix me.0.log) (sym p.2) mine.begins in
      let reached : me.0.floor ≤ number v = subst (λ (x : ℕ). me.0.floor ≤ x) (sym p.3) mine.reached in
      let inside : id < length s.views = get_elem-below s.views id me.0 at in
      let not_blank : me.0.parts ≡ 0 → ⊥ = λ z. waits_not_idle t (sym waits ∙ (mine.blank z).stage) in
      let some_parts : 0 < me.0.parts = positive me.0.parts not_blank in
      let longer : length me.0.beside ≤ length (entries v) = (let a = mine.shorter in let b = prefix_length me.0.log (entries v) begun in omega arith) in (
        w,
        takes 0 (Some v),
        ap (λ hs. get_elem? hs 0) p.1,
        rebuilt entries number name o s r id me.0 w at r.next r.serving r.all r.most (set s.homes 0 none) r.order
            (inr (ap (λ hs. set hs 0 none) p.1, (id, w, set_here s.views id w inside, ap Holding (sym here))))
            record {
              begins = prefix_all (entries v) r.all p.2;
              beside_begins = mine.beside_begins;
              shorter = longer;
              reached = subst (λ (x : ℕ). x ≤ r.most) (sym p.3) (le_refl r.most);
              below = mine.below;
              undrawn = mine.undrawn;
              made = mine.made;
              stands = (sym here, lt, p.2, p.3);
              blank = λ z. absurd (not_blank z);
            }
            (λ j d _ atj. r.each_seat j d atj)
            (λ j d u ne atj hw hd. ne (sym (r.apart id j me.0 d u at atj (subst (λ (x : Stage). HasTicket x u) (sym waits) hw) hd)))
            record { parts = refl; draws = refl; low = same_low entries number name o s.views id r.next me.0 w at refl r.low; rises = refl; own = λ q. refl; knower = (id, w, set_here s.views id w inside, p.2, p.3, some_parts) },
        (λ u is. let same : t ≡ u = ap ticket_of (sym waits ∙ is) in (
          (λ _. (
            v,
            refl,
            ap (λ (x : ℕ). holding me.0 x (entries v) (number v)) same,
            begun,
            reached,
            p.4 ∙ ap (λ (x : Opening E N). x.name) (sym (mine.made some_parts)),
          )),
          (λ ne. absurd (ne (here ∙ same))),
        )),
      ))
      (λ (p : IsOut entries number name o r.serving s.homes s.views).
      let d : K = p.1.1 in
      let e : id ≡ p.1.0 = r.apart id p.1.0 me.0 d t at p.1.2 (subst (λ (x : Stage). HasTicket x t) (sym waits) refl) (subst (λ (x : Stage). HasTicket x t) (sym p.1.3) here) in
      let no : Waiting t ≡ Holding r.serving = sym waits ∙ (ap (λ (x : K). x.stage) (same_at s.views id p.1.0 me.0 d at p.1.2 e) ∙ p.1.3) in
      absurd (waits_not_held t r.serving no))
      r.home

  pub looks : (slots id t : ℕ) (me : Me (Option T) K) (st : Step (Option T)) → me.0.stage ≡ Waiting t → Allows Rule slots id me 1 (λ n. n) (Looked entries number name st me)
  looks slots id t me st waits s r _ at _ = subst (Goes entries number name o s 1 id me (λ n. n) (Looked entries number name st me)) (sym r.words) (dite (ℕ_discrete r.serving t)
      (λ here. found_turn slots id t me st s r at waits here)
      (λ not_here. (
        me.0,
        keeps,
        tt,
        unmoved entries number name o s r id me.0 at,
        (λ u is. let same : t ≡ u = ap ticket_of (sym waits ∙ is) in ((λ f. absurd (not_here (f ∙ sym same))), (λ _. refl))),
      )))

  -- comparing
  pub compares : (slots id : ℕ) (me : Me (Option T) K) (st : Step (Option T)) → me.0.stage ≡ Idle → 0 < me.0.parts → Allows Rule slots id me 0 (λ n. n) (Compared st me)
  compares slots id me st idle part s r _ at _ = subst (Goes entries number name o s 0 id me (λ n. n) (Compared st me)) (sym r.words)
      (let mine = r.each_seat id me.0 at in
      let w : K = compared me.0 in
      let not_held : (t : ℕ) → me.0.stage ≡ Holding t → ⊥ = λ t h. idle_not_held t (sym idle ∙ h) in
      let parts = total_at (λ (d : K). d.parts) s.views id me.0 at in
      let rule = rebuilt entries number name o s r id me.0 w at r.next r.serving r.all r.most s.homes r.order (home_stays entries number name o s r id me.0 w at not_held)
      record {
        begins = mine.begins;
        beside_begins = prefix_none r.all;
        shorter = omega arith;
        reached = mine.reached;
        below = mine.below;
        undrawn = mine.undrawn;
        made = mine.made;
        stands = subst (Stands r.next r.serving r.all r.most w) (sym idle) tt;
        blank = λ z. absurd (omega arith);
      }
      (λ j d _ atj. r.each_seat j d atj)
      (λ j d u ne atj hw hd. idle_has_none u me.0 idle hw)
      record { parts = refl; draws = refl; low = same_low entries number name o s.views id r.next me.0 w at refl r.low; rises = refl; own = λ q. refl; knower = still_known entries number name o s r id me.0 w at refl refl part } in (
        w,
        keeps,
        tt,
        rule,
        record {
          slots = refl;
          view = refl;
          begins = prefix_both me.0.beside me.0.log r.all mine.beside_begins mine.begins mine.shorter;
          few = (let a = r.whole in let b = r.small in omega arith);
          all = λ all. (whole s r id me.0 at (all ∙ ap (λ (x : Opening E N). x.passes) (mine.made part)) part).knows;
        },
      ))

  -- calling, and sleeping: a word to park on may take any value
  called : (slots id k : ℕ) (f : ℕ → ℕ) (me : Me (Option T) K) (st : Step (Option T)) → Allows Rule slots id me (suc (suc k)) f (Called st me)
  called slots id k f me st s r _ at _ = subst (Goes entries number name o s (suc (suc k)) id me f (Called st me)) (sym r.words) (
    me.0,
    keeps,
    tt,
    stirred entries number name o s r id me.0 at (set r.parked k (f (get_or r.parked k 0))) (length-set r.parked k (f (get_or r.parked k 0)) ∙ r.parks),
    refl,
  )

  pub calls : (slots id i k : ℕ) (f : ℕ → ℕ) (me : Me (Option T) K) (st : Step (Option T)) → i ≡ 2 + k → Allows Rule slots id me i f (Called st me)
  calls slots id i k f me st is = let e : suc (suc k) ≡ i = omega (arith, is) in
      subst (λ (i : ℕ). Allows Rule slots id me i f (Called st me)) e (called slots id k f me st)

  -- passing on
  pub passes_on : (slots id t : ℕ) (me : Me (Option T) K) (st : Step (Option T)) (v : T) → me.0.stage ≡ Holding t → me.1 ≡ (0, Some v) ∷ [] → 0 < me.0.parts → IsPrefix me.0.log (entries v) → me.0.floor ≤ number v
      → Some (name v) ≡ me.0.opening.name → Allows Rule slots id me 1 (λ n. (n + 1) % 2 ^ 64) (PassedOn entries number st me)
  passes_on slots id t me st v holds out part begins reached its s r _ at _ = subst (Goes entries number name o s 1 id me (λ n. (n + 1) % 2 ^ 64) (PassedOn entries number st me)) (sym r.words)
      (let mine = r.each_seat id me.0 at in
      let stands : Stands r.next r.serving r.all r.most me.0 (Holding t) = subst (Stands r.next r.serving r.all r.most me.0) holds mine.stands in
      let here : t ≡ r.serving = stands.0 in
      let lt : t < r.next = stands.1 in
      let all : me.0.log ≡ r.all = stands.2 in
      let most : me.0.floor ≡ r.most = stands.3 in
      let small = next_small entries number name o s r in
      let e : (r.serving + 1) % 2 ^ 64 ≡ r.serving + 1 = mod-eq_of_lt (omega arith) in
      let longer : IsPrefix r.all (entries v) = subst (λ (x : List E). IsPrefix x (entries v)) all begins in
      let w : K = given me.0 (entries v) (number v) in
      let inside : id < length s.views = get_elem-below s.views id me.0 at in
      let named : Some (name v) ≡ o.name = its ∙ ap (λ (x : Opening E N). x.name) (mine.made part) in
      let fresh : drop (length me.0.log) (entries v) ≡ begins.0 = ap (drop (length me.0.log)) (sym begins.1) ∙ drop-append_seam me.0.log begins.0 in
      let one : length s.homes ≡ 1 = ⊎_elim (λ p. ap length p.1) (λ p. ap length p.0) r.home in
      let back : homes_after s.homes me.1 gives ≡ some (Some v) ∷ [] = ap (λ (c : List (ℕ × Option T)). homes_after s.homes c gives) out ∙ set_only s.homes (some (Some v)) one in
      let a1 = mine.shorter in
      let a2 = prefix_length me.0.log (entries v) begins in
      let rule = rebuilt entries number name o s r id me.0 w at r.next (r.serving + 1) (entries v) (number v) (some (Some v) ∷ []) (omega arith) (inl (v, refl, refl, refl, named))
      record {
        begins = prefix_all (entries v) (entries v) refl;
        beside_begins = prefix_trans me.0.beside r.all (entries v) mine.beside_begins longer;
        shorter = omega arith;
        reached = le_refl (number v);
        below = mine.below;
        undrawn = mine.undrawn;
        made = mine.made;
        stands = tt;
        blank = λ z. absurd (omega arith);
      }
      (λ j d ne atj. let k = r.each_seat j d atj in record {
        begins = prefix_trans d.log r.all (entries v) k.begins longer;
        beside_begins = prefix_trans d.beside r.all (entries v) k.beside_begins longer;
        shorter = k.shorter;
        reached = omega (arith, k.reached);
        below = k.below;
        undrawn = k.undrawn;
        made = k.made;
        stands = waiting_on r.next r.serving r.all (entries v) r.most (number v) d d.stage
            (λ h. ne (sym (r.apart id j me.0 d r.serving at atj (subst (λ (x : Stage). HasTicket x r.serving) (sym holds) here) h))) k.stands;
        blank = k.blank;
      })
      (λ j d u ne atj hw hd. hw)
      record {
        parts = refl;
        draws = refl;
        low = same_low entries number name o s.views id r.next me.0 w at refl r.low;
        rises = omega arith;
        own = λ q. let a = ap (count_by q) (sym begins.1) ∙ count_append q me.0.log begins.0 in let b = count_append q me.0.own (drop (length me.0.log) (entries v)) in let c = ap (count_by q) fresh in let d = ap (count_by q) all in omega arith;
        knower = (id, w, set_here s.views id w inside, refl, refl, part);
      } in (
        w,
        gives,
        tt,
        subst (λ (x : ℕ × List (mo.Option (Option T))). Rule record { words = r.next ∷ x.0 ∷ r.parked; homes = x.1; views = set s.views id w }) (λ i. (sym e i, sym back i)) rule,
        (λ u is. let same : v ≡ u = slot_value v u (sym out ∙ is) in (ap (λ (c : List (ℕ × Option T)). carried_after c gives) out, ap (λ (x : T). given me.0 (entries x) (number x)) same)),
      ))

  -- splitting a pass off
  pub splits : (id : ℕ) (v : K) → v.stage ≡ Idle → v.greatest < 2 ^ 62 → 1 < v.parts → Splits Rule id v (rest_of v) (one_of v)
  splits id v idle fresh many s r at =
      let w : K = rest_of v in
      let u : K = one_of v in
      let vs : List K = set s.views id w ++ u ∷ [] in
      let mine = r.each_seat id v at in
      let inside : id < length s.views = get_elem-below s.views id v at in
      let not_held : (t : ℕ) → v.stage ≡ Holding t → ⊥ = λ t h. idle_not_held t (sym idle ∙ h) in
      let kw : Knows o r.next r.serving r.all r.most w = record {
        begins = mine.begins;
        beside_begins = mine.beside_begins;
        shorter = mine.shorter;
        reached = mine.reached;
        below = mine.below;
        undrawn = mine.undrawn;
        made = λ _. mine.made (omega arith);
        stands = subst (Stands r.next r.serving r.all r.most w) (sym idle) tt;
        blank = λ z. absurd (omega arith);
      } in
      let ku : Knows o r.next r.serving r.all r.most u = record {
        begins = mine.begins;
        beside_begins = prefix_none r.all;
        shorter = omega arith;
        reached = mine.reached;
        below = λ h. absurd (omega arith);
        undrawn = λ _. refl;
        made = λ _. mine.made (omega arith);
        stands = tt;
        blank = λ z. absurd (omega arith);
      } in
      let tot : (f : K → ℕ) → total f vs + f v ≡ total f s.views + f w + f u = λ f. let a = total_set f s.views id v w at in let b = total_snoc f (set s.views id w) u in omega arith in
      let known = still_known entries number name o s r id v w at refl refl (omega arith) in
      record {
        next = r.next;
        serving = r.serving;
        parked = r.parked;
        all = r.all;
        most = r.most;
        words = r.words;
        parks = r.parks;
        order = r.order;
        home = ⊎_elim inl (λ (p : IsOut entries number name o r.serving s.homes s.views).
            let other : p.1.0 ≢ id = λ e. not_held r.serving (ap (λ (x : K). x.stage) (same_at s.views id p.1.0 v p.1.1 at p.1.2 (sym e)) ∙ p.1.3) in
            inr (p.0, (p.1.0, p.1.1, at_longer (set s.views id w) (u ∷ []) p.1.0 p.1.1 (set_else s.views id p.1.0 w other ∙ p.1.2), p.1.3))) r.home;
        each_seat = λ j d e. ⊎_elim
            (λ (e : get_elem? (set s.views id w) j ≡ some d). ⊎_elim (λ (p : (j ≡ id) × (w ≡ d)). subst (λ (x : K). Knows o r.next r.serving r.all r.most x) p.1 kw) (λ (p : (j ≢ id) × (get_elem? s.views j ≡ some d)). r.each_seat j d p.1) (at_set s.views id j w d e))
            (λ (e : u ≡ d). subst (λ (x : K). Knows o r.next r.serving r.all r.most x) e ku)
            (at_snoc (set s.views id w) u d j e);
        apart = λ i j d e t ati atj hi hj. r.apart i j d e t (old_seat s.views id w u i d t idle refl ati hi) (old_seat s.views id w u j e t idle refl atj hj) hi hj;
        whole = let a = tot (λ (d : K). d.parts) in let b = r.whole in omega arith;
        small = r.small;
        drawn = let a = tot (λ (d : K). d.draws) in let b = r.drawn in omega arith;
        low = let a = tot worn_parts in let b = r.low in let c = worn_parts-fresh v fresh in omega arith;
        risen = let a = tot (λ (d : K). d.rises) in let b = r.risen in omega arith;
        added = λ p. let a = tot (λ (d : K). count_by p d.own) in let b = r.added p in omega arith;
        knower = (known.0, known.1, at_longer (set s.views id w) (u ∷ []) known.0 known.1 known.2, known.3, known.4, known.5);
      }

  both_knows : (n t : ℕ) (all : List E) (most : ℕ) (v w : K) → 0 < v.parts → Knows o n t all most v → Knows o n t all most w → Knows o n t all most (both_of v w)
  both_knows n t all most v w part kv kw = record {
    begins = longer_prefix v.log w.log all kv.begins kw.begins;
    beside_begins = shorter_prefix v.log w.log all kv.begins kw.begins;
    shorter = shorter_is v.log w.log;
    reached = max_le v.floor w.floor most kv.reached kw.reached;
    below = below_both v.draws w.draws v.greatest w.greatest n kv.below kw.below kv.undrawn kw.undrawn;
    undrawn = λ z. max_left v.greatest w.greatest 0 (kv.undrawn (omega arith)) (omega (arith, kw.undrawn (omega arith)));
    made = λ _. kv.made part;
    stands = tt;
    blank = λ z. absurd (omega arith);
  }

  spent_knows : (n t : ℕ) (all : List E) (most : ℕ) → Knows o n t all most spent
  spent_knows n t all most = record {
    begins = prefix_none all;
    beside_begins = prefix_none all;
    shorter = omega arith;
    reached = omega arith;
    below = λ h. absurd (omega arith);
    undrawn = λ _. refl;
    made = λ z. absurd (omega arith);
    stands = tt;
    blank = λ z. record { draws = refl; rises = refl; own = refl; stage = refl };
  }

  -- joining two
  pub joins : (id : ℕ) (v : K) (other : ℕ) (w : K) → v.stage ≡ Idle → w.stage ≡ Idle → 0 < v.parts → Joins Rule id v other w (both_of v w) spent
  joins id v other w idle_v idle_w some_v s r at apart_ids at_w =
      let b : K = both_of v w in
      let vs : List K = set (set s.views id b) other spent in
      let ne : other ≢ id = apart_ids in
      let at_w' : get_elem? s.views other ≡ some w = sym (set_else s.views id other b ne) ∙ at_w in
      let kv = r.each_seat id v at in
      let kw = r.each_seat other w at_w' in
      let inside : id < length s.views = get_elem-below s.views id v at in
      let not_here : (d : K) (j t : ℕ) → get_elem? s.views j ≡ some d → HasTicket d.stage t → (j ≢ id) × (j ≢ other) = λ d j t atj h. (
        (λ e. idle_has_none t d (ap (λ (x : K). x.stage) (same_at s.views j id d v atj at e) ∙ idle_v) h),
        (λ e. idle_has_none t d (ap (λ (x : K). x.stage) (same_at s.views j other d w atj at_w' e) ∙ idle_w) h),
      ) in
      let stays : (j : ℕ) → j ≢ id → j ≢ other → get_elem? vs j ≡ get_elem? s.views j = λ j n m. set_else (set s.views id b) other j spent m ∙ set_else s.views id j b n in
      let kb = both_knows r.next r.serving r.all r.most v w some_v kv kw in
      let ks = spent_knows r.next r.serving r.all r.most in
      let tot : (f : K → ℕ) → total f vs + (f v + f w) ≡ total f s.views + (f b + f spent) = λ f. let x = total_set f s.views id v b at in let y = total_set f (set s.views id b) other w spent at_w in omega arith in
      let here : get_elem? vs id ≡ some b = set_else (set s.views id b) other id spent (λ e. ne (sym e)) ∙ set_here s.views id b inside in
      let seat : (j : ℕ) (d : K) → get_elem? vs j ≡ some d → (spent ≡ d) ⊎ ((b ≡ d) ⊎ (get_elem? s.views j ≡ some d)) = λ j d e. ⊎_elim
      (λ (p : (j ≡ other) × (spent ≡ d)). inl p.1)
      (λ (p : (j ≢ other) × (get_elem? (set s.views id b) j ≡ some d)). inr (⊎_elim (λ (q : (j ≡ id) × (b ≡ d)). inl q.1) (λ (q : (j ≢ id) × (get_elem? s.views j ≡ some d)). inr q.1) (at_set s.views id j b d p.1)))
      (at_set (set s.views id b) other j spent d e) in
      let ticket : (j : ℕ) (d : K) (t : ℕ) → get_elem? vs j ≡ some d → HasTicket d.stage t → get_elem? s.views j ≡ some d = λ j d t e h. ⊎_elim
      (λ (p : spent ≡ d). absurd (idle_has_none t d (ap (λ (x : K). x.stage) (sym p)) h))
      (⊎_elim (λ (q : b ≡ d). absurd (idle_has_none t d (ap (λ (x : K). x.stage) (sym q)) h)) (λ (q : get_elem? s.views j ≡ some d). q))
      (seat j d e) in
      record {
        next = r.next;
        serving = r.serving;
        parked = r.parked;
        all = r.all;
        most = r.most;
        words = r.words;
        parks = r.parks;
        order = r.order;
        home = ⊎_elim inl (λ (p : IsOut entries number name o r.serving s.homes s.views).
            let n = not_here p.1.1 p.1.0 r.serving p.1.2 (subst (λ (x : Stage). HasTicket x r.serving) (sym p.1.3) refl) in
            inr (p.0, (p.1.0, p.1.1, stays p.1.0 n.0 n.1 ∙ p.1.2, p.1.3))) r.home;
        each_seat = λ j d e. ⊎_elim
            (λ (p : spent ≡ d). subst (λ (x : K). Knows o r.next r.serving r.all r.most x) p ks)
            (⊎_elim (λ (q : b ≡ d). subst (λ (x : K). Knows o r.next r.serving r.all r.most x) q kb) (λ (q : get_elem? s.views j ≡ some d). r.each_seat j d q))
            (seat j d e);
        apart = λ i j d e t ati atj hi hj. r.apart i j d e t (ticket i d t ati hi) (ticket j e t atj hj) hi hj;
        whole = let a = tot (λ (d : K). d.parts) in let c = r.whole in omega arith;
        small = r.small;
        drawn = let a = tot (λ (d : K). d.draws) in let c = r.drawn in omega arith;
        low = let a = tot worn_parts in let c = worn_parts-both v w b refl refl in let d = r.low in omega arith;
        risen = let a = tot (λ (d : K). d.rises) in let c = r.risen in omega arith;
        added = λ p. let a = tot (λ (d : K). count_by p d.own) in let b = count_append p v.own w.own in let c = r.added p in omega arith;
        knower = let k = r.knower in dite (ℕ_discrete k.0 id)
            (λ e. let same : v ≡ k.1 = same_at s.views id k.0 v k.1 at k.2 (sym e) in
            let l : v.log ≡ r.all = ap (λ (x : K). x.log) same ∙ k.3 in let f : v.floor ≡ r.most = ap (λ (x : K). x.floor) same ∙ k.4 in
            (id, b, here, longer_left v.log w.log r.all l kw.begins, max_left v.floor w.floor r.most f kw.reached, omega arith))
            (λ n. dite (ℕ_discrete k.0 other)
            (λ e. let same : w ≡ k.1 = same_at s.views other k.0 w k.1 at_w' k.2 (sym e) in
            let l : w.log ≡ r.all = ap (λ (x : K). x.log) same ∙ k.3 in let f : w.floor ≡ r.most = ap (λ (x : K). x.floor) same ∙ k.4 in
            (id, b, here, longer_right v.log w.log r.all l kv.begins, max_right v.floor w.floor r.most f kv.reached, omega arith))
            (λ m. (k.0, k.1, stays k.0 n m ∙ k.2, k.3, k.4, k.5)));
      }

  -- a new table
  pub opens : (v : T) → entries v ≡ o.entries → number v ≡ o.number → Some (name v) ≡ o.name → 0 < o.passes → o.passes ≤ 4096 → o.first ≤ 2 ^ 62 → Rule (opening (replicate 66 o.first) (Some v ∷ []) (starting o))
  opens v same_entries same_number same_name part few low =
      let d : K = starting o in
      let k : Knows o o.first o.first o.entries o.number d = record {
        begins = prefix_all o.entries o.entries refl;
        beside_begins = prefix_none o.entries;
        shorter = omega arith;
        reached = le_refl o.number;
        below = λ h. absurd (omega arith);
        undrawn = λ _. refl;
        made = λ _. refl;
        stands = tt;
        blank = λ z. absurd (omega arith);
      } in
      let only : (j : ℕ) (e : K) → get_elem? (d ∷ []) j ≡ some e → d ≡ e = λ j e. only_one d j e in
      let one : (f : K → ℕ) → total f (d ∷ []) ≡ f d = λ f. total_one f d in
      record {
        next = o.first;
        serving = o.first;
        parked = replicate 64 o.first;
        all = o.entries;
        most = o.number;
        words = refl;
        parks = length-replicate 64 o.first;
        order = le_refl o.first;
        home = inl (v, refl, same_entries, same_number, same_name);
        each_seat = λ j e at. subst (λ (x : K). Knows o o.first o.first o.entries o.number x) (only j e at) k;
        apart = λ i j e f t ati atj hi hj. absurd (subst (λ (x : K). HasTicket x.stage t) (sym (only i e ati)) hi);
        whole = one (λ (d : K). d.parts);
        small = few;
        drawn = let a = one (λ (d : K). d.draws) in omega arith;
        low = omega arith;
        risen = let a = one (λ (d : K). d.rises) in omega arith;
        added = λ p. let a = one (λ (d : K). count_by p d.own) in omega arith;
        knower = (0, d, refl, refl, refl, part);
      }

  -- if one pass is left, the value is at home, and stands for all that the pass saw
  pub record Closes (v : K) (slot : Option T) : Type 0 where
    pub value : T
    pub is : slot ≡ Some value
    pub log : entries value ≡ v.log
    pub floor : number value ≡ v.floor
    pub named : Some (name value) ≡ v.opening.name
    pub knows : KnowsAll v

  not_out : (s : S) (r : Rule s) (id : ℕ) (v : K) → get_elem? s.views id ≡ some v → v.parts ≡ o.passes → v.stage ≡ Idle → IsOut entries number name o r.serving s.homes s.views → ⊥
  not_out s r id v at all idle p = dite (ℕ_discrete p.1.0 id)
      (λ e. idle_not_held r.serving (sym idle ∙ (ap (λ (x : K). x.stage) (same_at s.views id p.1.0 v p.1.1 at p.1.2 (sym e)) ∙ p.1.3)))
      (λ n. idle_not_held r.serving (sym ((r.each_seat p.1.0 p.1.1 p.1.2).blank (empty_else s r id v at all p.1.0 p.1.1 n p.1.2)).stage ∙ p.1.3))

  pub closes : (id : ℕ) (v : K) (ws : List ℕ) (xs : List (Option T)) → Final (Seen Rule id v) ws xs → v.parts ≡ o.passes → v.stage ≡ Idle → 0 < v.parts → (slot : Option T) → get_elem? xs 0 ≡ some slot → Closes v slot
  closes id v ws xs final all idle part slot at_slot =
      let s : S = final.0 in
      let r = final.1.0 in
      let at = final.1.1 in
      let w = whole s r id v at all part in ⊎_elim
      (λ (p : (x : T) × (s.homes ≡ some (Some x) ∷ []) × (entries x ≡ r.all) × (number x ≡ r.most) × (Some (name x) ≡ o.name)). record {
        value = p.0;
        is = some-injective slot (Some p.0) (sym at_slot ∙ final.4 0 (Some p.0) (ap (λ hs. get_elem? hs 0) p.1));
        log = p.2 ∙ sym w.log;
        floor = p.3 ∙ sym w.floor;
        named = p.4 ∙ ap (λ (x : Opening E N). x.name) (sym ((r.each_seat id v at).made part));
        knows = w.knows;
      })
      (λ (p : IsOut entries number name o r.serving s.homes s.views). absurd (not_out s r id v at all idle p))
      r.home
