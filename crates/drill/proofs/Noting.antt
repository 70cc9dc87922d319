-- What asks do to the openings that are noted.
use Rattle.std.proofs.Common.{◌≡◌, ◌≢◌, ◌⊎◌, ◌<◌, ◌≤◌, ◌%◌, ◌++◌, ◌+◌, ℕ, Bool, true, false, List, [], ◌∷◌, All, IfSome, Some, IsSome, count_by, get_or, zero, suc, if◌then◌else◌, length, inl, inr, refl, sym, ◌∙◌, ap, subst, arith}
use Rattle.std.specs.Prelude.{cond}
use Rattle.std.proofs.lemmas.Bool.{cases_eq}
use Rattle.std.proofs.lemmas.Bool.Decides.{nat_tests}
use Rattle.std.proofs.lemmas.List.{length-append}
use Rattle.std.proofs.lemmas.List.Elements.{All-append, All-cons, All-head, All-nil, All-tail}
use Rattle.std.proofs.lemmas.List.Sums.{sum_by-append, sum_by-cons}
use Rattle.drill_schedule.specs.Draws.{message_bytes}
use Rattle.leaf_table.specs.Entries.{IsFree, IsLeased, LeafUse}
use Rattle.lms_bytes.specs.declared.ask.Ask.{Ask}
use Rattle.lms_bytes.specs.declared.ask.Second.{Second}
use Rattle.lms_bytes.specs.declared.public_key.PublicKey.{PublicKey}
use Rattle.opening_journal.specs.Entries.{LeafState}
use Rattle.ots_chain.specs.MessageHash.{message_digest}
use Rattle.reference_value.specs.Dealing.{Dealing, leaf_randomizer}
use Rattle.reference_value.specs.Places.{tag_in}
use Rattle.session_core.specs.Asks.{ask_with}
use Rattle.session_core.specs.Seats.{Seat, is_filled}
use Rattle.session_core.specs.State.{State, asked_c, seats_of}
use Rattle.session_core.specs.Verdicts.{digest_of}
use Rattle.drill.specs.Courses.{GoesTo, Grows, HasSigned, IsGoing, IsNext, IsNextOf, IsOnCourse, count_filled, steps_in, steps_of}
use Rattle.drill.specs.Ids.{DifferentIds, id_of}
use Rattle.drill.specs.Openings.{AreOwn, AreSingle, IsOwn, Notes, is_at, opening_of}
use Rattle.drill.specs.declared.asks.NextAsk.{NextAsk}
use Rattle.drill.specs.declared.desk.Desk.{Desk}
use Rattle.drill.specs.declared.openings.Opening.{Opening}
use Rattle.drill.specs.declared.seat.Seat.{Seat as Place}
use Rattle.drill.specs.declared.seat.Seat.TheVariants.{Refused, Running, Signed, Waiting}
use Rattle.drill.proofs.Rounds.{by-round, pair-of}

-- ---- one of each leaf

abbrev one-if : Bool → ℕ
one-if b = cond b 1 0

no-more : (b : Bool) → (b ≡ true → ⊥) → one-if b ≡ 0
no-more true never = absurd (never refl)
no-more false never = refl

none-at : (p : Opening → Bool) (xs : List Opening) → All (λ (x : Opening). p x ≡ true → ⊥) xs → count_by p xs ≡ 0
none-at p [] all = refl
none-at p (x ∷ xs) all =
    let head = no-more (p x) (All-head (λ (y : Opening). p y ≡ true → ⊥) x xs all) in
    let rest = none-at p xs (All-tail (λ (y : Opening). p y ≡ true → ⊥) x xs all) in
    subst (λ (n : ℕ). n ≡ 0) (sym (sum_by-cons (λ (y : Opening). one-if (p y)) x xs)) (omega arith)

one-in : (p : Opening → Bool) (xs : List Opening) (i : ℕ) (d : Opening) → i < length xs → p (get_or xs i d) ≡ true → 1 ≤ count_by p xs
one-in p [] i d within is = absurd (omega arith)
one-in p (x ∷ xs) zero d within is =
    let head : one-if (p x) ≡ 1 = ap one-if is in
    subst (λ (n : ℕ). 1 ≤ n) (sym (sum_by-cons (λ (y : Opening). one-if (p y)) x xs)) (omega arith)
one-in p (x ∷ xs) (suc i) d within is =
    let rest = one-in p xs i d (omega arith) is in
    subst (λ (n : ℕ). 1 ≤ n) (sym (sum_by-cons (λ (y : Opening). one-if (p y)) x xs)) (omega arith)

self-at : (member leaf : ℕ) (x : Opening) → x.member ≡ member → x.leaf ≡ leaf → is_at member leaf x ≡ true
self-at member leaf x a b = grind (arith, nat_tests)

-- an opening is one of those at its place
pub here-one : (xs : List Opening) (i : ℕ) (o p : Opening) → i < length xs → o ≡ get_or xs i o → p ≡ get_or xs i p → 1 ≤ count_by (is_at o.member p.leaf) xs
here-one xs i o p within a b =
    one-in (is_at o.member p.leaf) xs i o within
    (self-at o.member p.leaf (get_or xs i o) (ap (λ (x : Opening). x.member) (sym a)) (ap (λ (x : Opening). x.leaf) (get_or-any xs i o p within ∙ sym b)))
  where
    get_or-any : (xs : List Opening) (i : ℕ) (a b : Opening) → i < length xs → get_or xs i a ≡ get_or xs i b
    get_or-any [] i a b within = absurd (omega arith)
    get_or-any (x ∷ xs) zero a b within = refl
    get_or-any (x ∷ xs) (suc i) a b within = get_or-any xs i a b (omega arith)

at-place : (member leaf : ℕ) (x : Opening) → is_at member leaf x ≡ true → (x.member ≡ member) × (x.leaf ≡ leaf)
at-place member leaf x is = (grind (arith, nat_tests), grind (arith, nat_tests))

one-more : (p : Opening → Bool) (xs : List Opening) (o : Opening) (b : Bool) → p o ≡ b → count_by p xs ≤ 1 → (b ≡ true → count_by p xs ≡ 0) → count_by p (xs ++ o ∷ []) ≤ 1
one-more p xs o b is few none =
    let f : Opening → ℕ = λ y. one-if (p y) in
    let last : count_by p (o ∷ []) ≡ one-if b = sum_by-cons f o [] ∙ (ap (λ (x : Bool). one-if x + 0) is ∙ omega arith) in
    subst (λ (n : ℕ). n ≤ 1) (sym (sum_by-append f xs (o ∷ []) ∙ ap (λ (n : ℕ). count_by p xs + n) last)) (by-test b few none)
  where
    by-test : (b : Bool) → count_by p xs ≤ 1 → (b ≡ true → count_by p xs ≡ 0) → count_by p xs + one-if b ≤ 1
    by-test true few none = let e = none refl in omega arith
    by-test false few none = omega arith

single-more : (xs : List Opening) (o : Opening) → AreSingle xs → All (λ (x : Opening). x ≢ o) xs → All (λ (x : Opening). x.member ≡ o.member → x.leaf ≡ o.leaf → x ≡ o) xs
    → AreSingle (xs ++ o ∷ [])
single-more xs o single fresh same member leaf =
    one-more (is_at member leaf) xs o (is_at member leaf o) refl (single member leaf) (λ is.
    let here = at-place member leaf o is in
    none-at (is_at member leaf) xs (λ k none inside at.
    let there = at-place member leaf (get_or xs k none) at in
    fresh k none inside (same k none inside (there.0 ∙ sym here.0) (there.1 ∙ sym here.1))))

-- ---- the openings of sessions

pub leased-same : (a b : List ℕ) → IsLeased a ≡ IsLeased b → a ≡ b
leased-same a b is = cc

pub free-not : (a : List ℕ) → IsFree ≡ IsLeased a → ⊥
free-not a is = absurd (cc)

-- what a step of session i does to one leaf
pub at-leaf : (i : ℕ) (old new : ℕ → LeafUse) → Grows i old new → (q : ℕ) → q < 32 → (new q ≡ old q) ⊎ ((old q ≡ IsFree) × ((q % 3 ≡ i % 3) × (new q ≡ IsLeased (id_of i))))
at-leaf i old new (inl same) q within = inl (same q within)
at-leaf i old new (inr takes) q within = elim (cases_eq q takes.leaf) [
  | inl e ↦ inr (ap old e ∙ takes.free, (ap (λ (x : ℕ). x % 3) e ∙ takes.coalition, ap new e ∙ takes.leased))
  | inr other ↦ inl (takes.others q other)
]

module _ (desk : Desk) (d : Dealing) (count : ℕ) where
  same-own : (map : ℕ → LeafUse) (x o : Opening) → DifferentIds count → IsOwn desk d count map x → IsOwn desk d count map o → x.member ≡ o.member → x.leaf ≡ o.leaf → x ≡ o
  same-own map x o different a b member leaf =
      let one : a.session ≡ b.session =
      different a.session b.session a.within b.within (leased-same (id_of a.session) (id_of b.session) (sym a.leased ∙ (ap map leaf ∙ b.leased))) in
      let c : x.c ≡ o.c = a.c ∙ (ap (leaf_randomizer d) leaf ∙ sym b.c) in
      let moved : message_digest desk.dealt.public.params desk.dealt.public.id x.leaf (leaf_randomizer d x.leaf) (message_bytes a.session)
      ≡ message_digest desk.dealt.public.params desk.dealt.public.id o.leaf (leaf_randomizer d o.leaf) (message_bytes b.session) =
      λ j. message_digest desk.dealt.public.params desk.dealt.public.id (leaf j) (leaf_randomizer d (leaf j)) (message_bytes (one j)) in
      let digest : x.digest ≡ o.digest = a.digest ∙ (moved ∙ sym b.digest) in
      λ j. record { member = member j; leaf = leaf j; c = c j; digest = digest j }

  -- a lease takes no opening away
  pub still-own : (i : ℕ) (uses after : ℕ → LeafUse) (openings : List Opening) → Grows i uses after → AreOwn desk d count uses openings → AreOwn desk d count after openings
  still-own i uses after openings grows own = record {
    each = λ k none inside.
        let o = own.each k none inside in
        record {
          session = o.session;
          within = o.within;
          leaf = o.leaf;
          leased = elim (at-leaf i uses after grows (get_or openings k none).leaf o.leaf) [ inl same ↦ same ∙ o.leased | inr fresh ↦ absurd (free-not (id_of o.session) (sym fresh.0 ∙ o.leased)) ];
          c = o.c;
          digest = o.digest;
        };
    single = own.single;
  }

-- an ask takes no opening away
pub keeps-all : (old new : List Opening) (member : ℕ) (ask : Ask) → Notes old member ask new → length old ≤ length new
keeps-all old new member ask (inl same) = let e = ap (λ (l : List Opening). length l) same in omega arith
keeps-all old new member ask (inr more) =
    let o = opening_of member ask more.second in
    let e = ap (λ (l : List Opening). length l) more.after in
    let both = length-append old (o ∷ []) in
    omega arith

-- ---- the opening of a session that has signed

two-at-most : (x y : Seat) → count_filled (x ∷ y ∷ []) ≤ 2
unfolding count_filled
two-at-most x y = let a = one-at-most (is_filled x) in let b = one-at-most (is_filled y) in omega arith
  where
    one-at-most : (b : Bool) → (if b then 1 else 0) ≤ 1
    one-at-most true = omega arith
    one-at-most false = omega arith

-- the ask before the last step is one of round two
last-ask : (tag digest : List ℕ) (s : State) → count_filled (seats_of s) ≤ 2 → steps_in s ≡ 4 → IsSome (ask_with s tag digest).second
last-ask tag digest = by-round (λ s. count_filled (seats_of s) ≤ 2 → steps_in s ≡ 4 → IsSome (ask_with s tag digest).second)
    (λ key plan leaf id first after few is. absurd (omega arith)) (λ key plan leaf id c first after few is. refl)

all-steps : (place : Place) (n : ℕ) → steps_of place ≡ suc n → HasSigned place → n ≡ 4
all-steps Waiting n is has = absurd has
all-steps (Running s) n is has = absurd has
all-steps (Signed leaf) n is has = omega arith
all-steps Refused n is has = absurd has

-- if the answer to an ask ends a session signed, the ask was one of round two
pub second-there : (desk : Desk) (d : Dealing) (i : ℕ) (map : ℕ → LeafUse) (leaves after : ℕ → ℕ → LeafState) (s : State) (next : NextAsk) (place : Place) → IsOnCourse desk d i map leaves s
    → IsNext desk s (message_bytes i) next → GoesTo desk d i map after (suc (steps_in s)) place → HasSigned place → IsSome next.ask.second
second-there desk d i map leaves after s next place course is goes has =
    let p = pair-of s course.session (course.of.plan_is ∙ desk.plan_is) in
    let few : count_filled (seats_of s) ≤ 2 = subst (λ (l : List Seat). count_filled l ≤ 2) (sym p.seats) (two-at-most p.x p.y) in
    subst (λ (a : Ask). IsSome a.second) (sym is.ask) (last-ask _ (digest_of s (message_bytes i)) s few (all-steps place (steps_in s) goes.steps_are has))

second-is : (r tag digest : List ℕ) (s : State) → IfSome s.c (λ c. c ≡ r) → (second : Second) → (ask_with s tag digest).second ≡ Some second
    → (second.c ≡ r) × ((second.digest ≡ digest) × (asked_c s ≡ r))
second-is r tag digest = by-round (λ s. IfSome s.c (λ c. c ≡ r) → (second : Second) → (ask_with s tag digest).second ≡ Some second
    → (second.c ≡ r) × ((second.digest ≡ digest) × (asked_c s ≡ r)))
    (λ key plan leaf id first after is second same. absurd (cc))
    (λ key plan leaf id c first after is second same.
    let parts : record { c = c; tag = tag; digest = digest } ≡ second = cc in
    subst (λ (x : Second). (x.c ≡ r) × ((x.digest ≡ digest) × (c ≡ r))) parts (is, (refl, is)))

module _ (desk : Desk) (d : Dealing) (i count : ℕ) (inside : i < count) (map : ℕ → LeafUse) (leaves : ℕ → ℕ → LeafState) where
  opened : (s : State) (next : NextAsk) (second : Second) → IsOnCourse desk d i map leaves s → IsNext desk s (message_bytes i) next → next.ask.second ≡ Some second
      → IsOwn desk d count map (opening_of next.member next.ask second)
  opened s next second course is round =
      let m = message_bytes i in
      let tag = tag_in s.key.params s.plan desk.dealt.reference.items s.leaf next.member in
      let leaf : next.ask.leaf ≡ s.leaf = ap (λ (a : Ask). a.leaf) is.ask in
      let parts = second-is (leaf_randomizer d s.leaf) tag (digest_of s m) s course.c second (ap (λ (a : Ask). a.second) (sym is.ask) ∙ round) in
      let within : s.leaf < 32 = (let h : s.key.params.h ≡ 5 = ap (λ (k : PublicKey). k.params.h) course.of.key_is ∙ desk.height in rw h at course.session.leaf) in
      let back : leaf_randomizer d s.leaf ≡ leaf_randomizer d next.ask.leaf = ap (leaf_randomizer d) (sym leaf) in
      let c : asked_c s ≡ leaf_randomizer d next.ask.leaf = parts.1.1 ∙ back in
      let q = sym leaf in
      let key = course.of.key_is in
      let moved : digest_of s m ≡ message_digest desk.dealt.public.params desk.dealt.public.id next.ask.leaf (leaf_randomizer d next.ask.leaf) m =
      λ j. message_digest (key j).params (key j).id (q j) (c j) m in
      record {
        session = i;
        within = inside;
        leaf = rw leaf within;
        leased = ap map leaf ∙ course.leased;
        c = parts.0 ∙ back;
        digest = parts.1.0 ∙ moved;
      }

  -- what is noted for a session's next ask
  pub noted : (s : State) (next : NextAsk) (old new : List Opening) → DifferentIds count → IsOnCourse desk d i map leaves s → IsNext desk s (message_bytes i) next
      → Notes old next.member next.ask new → AreOwn desk d count map old → AreOwn desk d count map new
  noted s next old new different course is (inl same) own = subst (λ (l : List Opening). AreOwn desk d count map l) (sym same) own
  noted s next old new different course is (inr more) own =
      let o = opening_of next.member next.ask more.second in
      let here = opened s next more.second course is more.round in
      subst (λ (l : List Opening). AreOwn desk d count map l) (sym more.after) (record {
        each = All-append (IsOwn desk d count map) old (o ∷ []) own.each (All-cons (IsOwn desk d count map) o [] here (All-nil (IsOwn desk d count map)));
        single = single-more old o own.single more.is_new (λ k none within. same-own desk d count map (get_or old k none) o different (own.each k none within) here);
      })

  pub noted-of : (place : Place) (next : NextAsk) (old new : List Opening) → DifferentIds count → IsGoing desk d i map leaves place → IsNextOf desk i next place
      → Notes old next.member next.ask new → AreOwn desk d count map old → AreOwn desk d count map new
  noted-of Waiting next old new different going is notes own = absurd is
  noted-of (Running s) next old new different going is notes own = noted s next old new different going.0 is notes own
  noted-of (Signed leaf) next old new different going is notes own = absurd is
  noted-of Refused next old new different going is notes own = absurd is
