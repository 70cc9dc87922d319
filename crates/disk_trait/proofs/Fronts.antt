-- Buffers that begin with the same bytes.
use Rattle.std.proofs.Common.{◌≡◌, ◌+◌, ℕ, ◌≤◌, Bool, List, length, get_or, take, drop, refl, sym, ◌∙◌, ap}
use Rattle.std.proofs.lemmas.List.{get_or-take, length-take-le}
use lib.Seq.{take-append_seam}
use Rattle.disk_trait.specs.Images.{written}
use Rattle.disk_trait.specs.MemDiskFields.{AgreeBelow}

-- what was written at the front
pub written-front : {A : Type 0} (xs ys : List A) (n : ℕ) → length ys ≡ n → take n (written xs 0 ys) ≡ ys
written-front xs ys n size = ap (λ (m : ℕ). take m (written xs 0 ys)) (sym size) ∙ take-append_seam ys (drop (0 + length ys) xs)

-- two buffers whose first n bytes are these
pub agree-begun : (n : ℕ) (front bytes stable : List ℕ) (pending : List Bool) → take n bytes ≡ front → take n stable ≡ front → AgreeBelow n n bytes stable pending
agree-begun n front bytes stable pending is_bytes is_stable = record {
  within = λ k below unmarked. below;
  same = λ k below unmarked. sym (get_or-take n bytes k 0 below) ∙ ap (λ (l : List ℕ). get_or l k 0) (is_bytes ∙ sym is_stable) ∙ get_or-take n stable k 0 below;
}

-- what a read gives was written over what was stable
pub agree-settled : (len : ℕ) (bytes stable new : List ℕ) (pending : List Bool) → len ≤ length bytes → new ≡ written stable 0 (take len bytes) → AgreeBelow len len bytes new pending
agree-settled len bytes stable new pending within is =
    agree-begun len (take len bytes) bytes new pending refl (ap (take len) is ∙ written-front stable (take len bytes) len (length-take-le len bytes within))
