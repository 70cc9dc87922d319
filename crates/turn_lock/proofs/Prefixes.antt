-- Lists that begin others, and the longer of two.
use Rattle.std.proofs.Common.{◌≡◌, ◌+◌, ◌<◌, ◌≤◌, Bool, true, false, nat_lt, cond, List, [], ◌∷◌, ◌++◌, length, refl, sym, ap, ◌∙◌, arith, append_assoc}
use Rattle.std.proofs.lemmas.List.{append-nil, length-append}
use mathlib.Core.List.{IsPrefix}
use Rattle.turn_lock.specs.Pass.{longer_of}
use Rattle.turn_lock.specs.Known.{shorter_of}

pub prefix_all : {A : Type 0} (xs ys : List A) → xs ≡ ys → IsPrefix xs ys
prefix_all xs ys e = ([], append-nil xs ∙ e)

pub prefix_none : {A : Type 0} (ys : List A) → IsPrefix [] ys
prefix_none ys = (ys, refl)

pub prefix_trans : {A : Type 0} (xs ys zs : List A) → IsPrefix xs ys → IsPrefix ys zs → IsPrefix xs zs
prefix_trans xs ys zs p q = (p.0 ++ q.0, sym (append_assoc xs p.0 q.0) ∙ (ap (λ t. t ++ q.0) p.1 ∙ q.1))

pub prefix_length : {A : Type 0} (xs ys : List A) → IsPrefix xs ys → length xs ≤ length ys
prefix_length xs ys p = let e : length xs + length p.0 ≡ length ys = sym (length-append xs p.0) ∙ ap length p.1 in omega arith

head_or : {A : Type 0} → A → List A → A
head_or x [] = x
head_or x (y ∷ ys) = y

tail_of : {A : Type 0} → List A → List A
tail_of [] = []
tail_of (y ∷ ys) = ys

-- of two beginnings of one list, the shorter begins the longer
pub prefix_both : {A : Type 0} (xs ys zs : List A) → IsPrefix xs zs → IsPrefix ys zs → length xs ≤ length ys → IsPrefix xs ys
unfolding head_or tail_of
prefix_both [] ys zs p q le = prefix_none ys
prefix_both (x ∷ xs) [] zs p q le = absurd (omega arith)
prefix_both (x ∷ xs) (y ∷ ys) [] p q le = absurd (let e = ap length p.1 in omega arith)
prefix_both (x ∷ xs) (y ∷ ys) (z ∷ zs) p q le =
    let h : x ≡ y = ap (head_or x) p.1 ∙ sym (ap (head_or x) q.1) in
    let r = prefix_both xs ys zs (p.0, ap tail_of p.1) (q.0, ap tail_of q.1) (omega arith) in
    (r.0, λ i. h i ∷ r.1 i)

none_left : {A : Type 0} (ys r xs : List A) → ys ++ r ≡ xs → length xs ≤ length ys → ys ≡ xs
none_left ys [] xs e le = sym (append-nil ys) ∙ e
none_left ys (x ∷ r) xs e le = absurd (let f = sym (length-append ys (x ∷ r)) ∙ ap length e in omega arith)

-- a beginning that is no shorter is the whole
pub prefix_whole : {A : Type 0} (xs ys : List A) → IsPrefix xs ys → length ys ≤ length xs → xs ≡ ys
prefix_whole xs ys p le = none_left xs p.0 ys p.1 le

module _ {E : Type 0} where
  chosen_prefix : (b : Bool) (xs ys zs : List E) → IsPrefix xs zs → IsPrefix ys zs → IsPrefix (cond b ys xs) zs
  chosen_prefix true xs ys zs p q = q
  chosen_prefix false xs ys zs p q = p

  pub longer_prefix : (xs ys zs : List E) → IsPrefix xs zs → IsPrefix ys zs → IsPrefix (longer_of xs ys) zs
  longer_prefix xs ys zs p q = chosen_prefix (nat_lt (length xs) (length ys)) xs ys zs p q

  pub shorter_prefix : (xs ys zs : List E) → IsPrefix xs zs → IsPrefix ys zs → IsPrefix (shorter_of xs ys) zs
  shorter_prefix xs ys zs p q = chosen_prefix (nat_lt (length xs) (length ys)) ys xs zs q p

  pub shorter_is : (xs ys : List E) → length (shorter_of xs ys) ≤ length (longer_of xs ys)
  shorter_is xs ys = let Is : Bool → Type 0 = λ b. (nat_lt (length xs) (length ys) ≡ b) → length (cond b xs ys) ≤ length (cond b ys xs) in
      let all = elim (nat_lt (length xs) (length ys)) as Is [ true ↦ λ is. grind (arith, is) | false ↦ λ is. grind (arith, is) ] in all refl

  -- the longer of everything and a beginning of it is everything
  pub longer_left : (xs ys zs : List E) → xs ≡ zs → IsPrefix ys zs → longer_of xs ys ≡ zs
  longer_left xs ys zs e q = let le = prefix_length ys zs q in let l = ap length e in let Is : Bool → Type 0 = λ b. (nat_lt (length xs) (length ys) ≡ b) → cond b ys xs ≡ zs in
      let all = elim (nat_lt (length xs) (length ys)) as Is [ true ↦ λ is. absurd (let lt : length xs < length ys = grind (arith, is) in omega arith) | false ↦ λ is. e ] in all refl

  pub longer_right : (xs ys zs : List E) → ys ≡ zs → IsPrefix xs zs → longer_of xs ys ≡ zs
  longer_right xs ys zs e p = let l = ap length e in let Is : Bool → Type 0 = λ b. (nat_lt (length xs) (length ys) ≡ b) → cond b ys xs ≡ zs in
      let all = elim (nat_lt (length xs) (length ys)) as Is [ true ↦ λ is. e | false ↦ λ is. prefix_whole xs zs p (let le : length ys ≤ length xs = grind (arith, is) in omega arith) ] in all refl
