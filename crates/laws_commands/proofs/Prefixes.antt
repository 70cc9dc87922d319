-- Beginnings of one log.
use Rattle.std.proofs.Common.{◌≡◌, ◌⊎◌, List, [], ◌∷◌, ◌++◌, get_or, take, inl, inr, refl, sym, subst, arith, length-append}
use Rattle.std.proofs.lemmas.List.{get_or_append_left, take-append-le}
use mathlib.Core.List.{IsPrefix}
use Rattle.leaf_table.specs.Entries.{Follows, OneLease}
use Rattle.leaf_table.specs.declared.lease.Lease.{Lease}

-- two beginnings of one list: one of them begins the other
pub either-begins : {A : Type 0} (xs ys more rest : List A) → xs ++ more ≡ ys ++ rest → IsPrefix xs ys ⊎ IsPrefix ys xs
either-begins [] ys more rest same = inl (ys, refl)
either-begins (x ∷ xs) [] more rest same = inr (x ∷ xs, refl)
either-begins (x ∷ xs) (y ∷ ys) more rest same =
    let head : x ≡ y = cc in
    let tail : xs ++ more ≡ ys ++ rest = cc in
    elim (either-begins xs ys more rest tail) [
      | inl p ↦ inl (p.0, (λ i. head i ∷ p.1 i))
      | inr p ↦ inr (p.0, (λ i. sym head i ∷ p.1 i))
    ]

-- a beginning of a legal log is legal
pub legal-front : (front rest : List Lease) → OneLease (front ++ rest) → OneLease front
legal-front front rest legal place none below =
    subst (λ (log : List Lease). Follows log (get_or front place none)) (take-append-le place front rest (omega (arith, below)))
    (subst (λ (entry : Lease). Follows (take place (front ++ rest)) entry) (get_or_append_left front rest none place below)
    (legal place none (omega (arith, below, length-append front rest))))
