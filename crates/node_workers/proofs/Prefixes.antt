-- Lists that begin others.
use Rattle.std.proofs.Common.{◌≡◌, List, ◌++◌, [], refl, sym, ap, ◌∙◌, append_assoc, append-nil}
use mathlib.Core.List.{IsPrefix}

pub prefix-same : {A : Type 0} (xs : List A) → IsPrefix xs xs
prefix-same xs = ([], append-nil xs)

pub prefix-is : {A : Type 0} (xs ys : List A) → xs ≡ ys → IsPrefix xs ys
prefix-is xs ys e = ([], append-nil xs ∙ e)

pub prefix-more : {A : Type 0} (xs ys : List A) → IsPrefix xs (xs ++ ys)
prefix-more xs ys = (ys, refl)

-- the same in front of both
pub prefix-in : {A : Type 0} (front xs ys : List A) → IsPrefix xs ys → IsPrefix (front ++ xs) (front ++ ys)
prefix-in front xs ys p = (p.0, append_assoc front xs p.0 ∙ ap (λ t. front ++ t) p.1)

pub prefix-then : {A : Type 0} (xs ys zs : List A) → IsPrefix xs ys → IsPrefix ys zs → IsPrefix xs zs
prefix-then xs ys zs p q = (p.0 ++ q.0, sym (append_assoc xs p.0 q.0) ∙ (ap (λ t. t ++ q.0) p.1 ∙ q.1))
