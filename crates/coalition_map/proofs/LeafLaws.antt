-- What follows from the definition of the leaves of a coalition.
use Rattle.std.proofs.Common.{◌≡◌, ◌⊎◌, inl, inr, ◌≢◌, ℕ, zero, suc, ◌+◌, ◌*◌, ◌/◌, ◌%◌, ◌^◌, ◌<◌, ◌≤◌, cond, eqb, ltb, List, [], ◌∷◌, ◌++◌, length, filter, refl, ◌∙◌, ap, arith}
use Rattle.std.proofs.lemmas.Bool.{cases_eq, cases_lt, cond-true, cond-false, lt-ltb, le-ltb, eq-eqb, ne_eqb}
use Rattle.std.proofs.lemmas.Nat.{mod-mul-add, div-mul-add, div-add-mod', mod_below}
use Rattle.std.proofs.lemmas.List.{length-append}
use Rattle.std.proofs.lemmas.List.Elements.{filter-append}
use Rattle.std.specs.List.{range_with_len}
use Rattle.coalition_map.specs.Coalitions.{PlanNumbers, count_of, leaves_of}

range_push : (a n : ℕ) → range_with_len a (suc n) ≡ range_with_len a n ++ (a + n) ∷ []
range_push a zero = let e : a + 0 ≡ a = omega arith in rw e refl
range_push a (suc n) = let e : a + suc n ≡ a + 1 + n = omega arith in rw e (ap (λ l. a ∷ l) (range_push (a + 1) n))

-- the numbers below m that leave the remainder c
rest_c : ℕ → ℕ → ℕ → List ℕ
rest_c b c m = filter (λ q. eqb (q % b) c) (range_with_len 0 m)

rest_c-suc : (b c m : ℕ) → rest_c b c (suc m) ≡ rest_c b c m ++ cond (eqb (m % b) c) (m ∷ []) []
unfolding rest_c
rest_c-suc b c m =
    ap (λ l. filter (λ q. eqb (q % b) c) l) (range_push 0 m ∙ (let e : 0 + m ≡ m = omega arith in rw e refl))
    ∙ filter-append (λ q. eqb (q % b) c) (range_with_len 0 m) (m ∷ [])

length-rest_c-own : (b c m : ℕ) → m % b ≡ c → length (rest_c b c (suc m)) ≡ length (rest_c b c m) + 1
length-rest_c-own b c m e = rw (rest_c-suc b c m, length-append, cond-true (eqb (m % b) c) (m ∷ []) [] (eq-eqb (m % b) c e)) refl

length-rest_c-other : (b c m : ℕ) → m % b ≢ c → length (rest_c b c (suc m)) ≡ length (rest_c b c m)
length-rest_c-other b c m e = rw (rest_c-suc b c m, length-append, cond-false (eqb (m % b) c) (m ∷ []) [] (ne_eqb (m % b) c e)) (omega arith)

-- one number on, the remainder rises or starts anew
record IsRise (b m : ℕ) : Type 0 where
  below : suc (m % b) < b
  rest : suc m % b ≡ suc (m % b)
  whole : suc m / b ≡ m / b

record IsWrap (b m : ℕ) : Type 0 where
  last : suc (m % b) ≡ b
  rest : suc m % b ≡ 0
  whole : suc m / b ≡ suc (m / b)

rise_or_wrap : (b m : ℕ) → 0 < b → IsRise b m ⊎ IsWrap b m
rise_or_wrap b m h =
    let parts = div-add-mod' m b in
    let small = mod_below m b h in
    elim (cases_lt (suc (m % b)) b) [
      | inl lt ↦
          let e : suc m ≡ m / b * b + suc (m % b) = omega arith in
          inl (record { below = lt; rest = ap (λ x. x % b) e ∙ mod-mul-add (m / b) b (suc (m % b)) lt; whole = ap (λ x. x / b) e ∙ div-mul-add (m / b) b (suc (m % b)) lt })
      | inr ge ↦
          let e : suc m ≡ suc (m / b) * b + 0 = omega arith in
          inr (record { last = omega arith; rest = ap (λ x. x % b) e ∙ mod-mul-add (suc (m / b)) b 0 h; whole = ap (λ x. x / b) e ∙ div-mul-add (suc (m / b)) b 0 h })
    ]

-- one more if the remainder of m is above c
extra : ℕ → ℕ → ℕ → ℕ
extra b c m = cond (ltb c (m % b)) 1 0

extra-one : (b c m : ℕ) → c < m % b → extra b c m ≡ 1
unfolding extra
extra-one b c m h = cond-true (ltb c (m % b)) 1 0 (lt-ltb c (m % b) h)

extra-none : (b c m : ℕ) → m % b ≤ c → extra b c m ≡ 0
unfolding extra
extra-none b c m h = cond-false (ltb c (m % b)) 1 0 (le-ltb c (m % b) h)

share_own : (b c m : ℕ) → c < b → m % b ≡ c → m / b + extra b c m + 1 ≡ suc m / b + extra b c (suc m)
share_own b c m h e = elim (rise_or_wrap b m (omega arith)) [
  | inl rise ↦ rw (rise.whole, extra-none b c m (omega arith), extra-one b c (suc m) (omega (arith, rise.rest))) (omega arith)
  | inr wrap ↦ rw (wrap.whole, extra-none b c m (omega arith), extra-none b c (suc m) (omega (arith, wrap.rest))) (omega arith)
]

share_other : (b c m : ℕ) → c < b → m % b ≢ c → m / b + extra b c m ≡ suc m / b + extra b c (suc m)
share_other b c m h e = elim (rise_or_wrap b m (omega arith)) [
  | inl rise ↦ rw rise.whole (elim (cases_lt c (m % b)) [
    | inl lt ↦ rw (extra-one b c m lt, extra-one b c (suc m) (omega (arith, rise.rest))) refl
    | inr ge ↦ rw (extra-none b c m ge, extra-none b c (suc m) (omega (arith, rise.rest))) refl
  ])
  | inr wrap ↦ rw (wrap.whole, extra-one b c m (omega (arith, wrap.last)), extra-none b c (suc m) (omega (arith, wrap.rest))) (omega arith)
]

length-rest_c : (b c m : ℕ) → c < b → length (rest_c b c m) ≡ m / b + extra b c m
unfolding rest_c
length-rest_c b c zero h =
    let zero : 0 * b + 0 ≡ 0 = omega arith in
    let whole : 0 / b ≡ 0 = rw zero at (div-mul-add 0 b 0 (omega arith)) in
    let rest : 0 % b ≡ 0 = rw zero at (mod-mul-add 0 b 0 (omega arith)) in
    rw (whole, extra-none b c 0 (omega arith)) refl
length-rest_c b c (suc m) h = elim (cases_eq (m % b) c) [
  | inl e ↦ length-rest_c-own b c m e ∙ ap (λ x. x + 1) (length-rest_c b c m h) ∙ share_own b c m h e
  | inr e ↦ length-rest_c-other b c m e ∙ length-rest_c b c m h ∙ share_other b c m h e
]

-- ---- how many leaves a coalition has
pub length-leaves_of-first : (p : PlanNumbers) (c : ℕ) → c < count_of p → c < 2 ^ p.h % count_of p → length (leaves_of p c) ≡ 2 ^ p.h / count_of p + 1
unfolding rest_c leaves_of
length-leaves_of-first p c h less =
    length-rest_c (count_of p) c (2 ^ p.h) h ∙ ap (λ x. 2 ^ p.h / count_of p + x) (extra-one (count_of p) c (2 ^ p.h) less)

pub length-leaves_of-others : (p : PlanNumbers) (c : ℕ) → c < count_of p → 2 ^ p.h % count_of p ≤ c → length (leaves_of p c) ≡ 2 ^ p.h / count_of p
unfolding rest_c leaves_of
length-leaves_of-others p c h more =
    length-rest_c (count_of p) c (2 ^ p.h) h ∙ rw (extra-none (count_of p) c (2 ^ p.h) more) (omega arith)
