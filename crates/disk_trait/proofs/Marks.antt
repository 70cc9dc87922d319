-- Which bytes agree with the last sync, after marks and writes.
use Rattle.std.proofs.Common.{◌≡◌, ◌⊎◌, ℕ, ◌+◌, ◌-◌, ◌<◌, ◌≤◌, max, Bool, true, false, List, length, get_or, replicate, sym, ◌∙◌, arith, inl, inr}
use Rattle.std.proofs.lemmas.Bool.{false≢true, cases_lt}
use Rattle.std.proofs.lemmas.List.{length-replicate, get_or-replicate}
use Rattle.disk_trait.specs.Images.{written}
use Rattle.disk_trait.specs.MemDiskFields.{AgreeBelow}
use Rattle.disk_trait.proofs.Written.{written_before, written_inside, written_after}

-- a place that is not marked lies outside of the range
pub record Outside (pending : List Bool) (from n k : ℕ) : Type 0 where
  pub place : (k < from) ⊎ (from + n ≤ k)
  pub unmarked : get_or pending k true ≡ false

pub outside : (pending : List Bool) (from n k : ℕ) → from ≤ length pending → get_or (written pending from (replicate n true)) k true ≡ false → Outside pending from n k
outside pending from n k within unmarked =
    let size : length (replicate n true) ≡ n = length-replicate n true in
    elim (cases_lt k from) [
      | inl before ↦ record { place = inl before; unmarked = sym (written_before pending (replicate n true) from within k true before) ∙ unmarked }
      | inr from_on ↦ elim (cases_lt k (from + n)) [
        | inl inside ↦
            let marked : get_or (written pending from (replicate n true)) k true ≡ true =
            written_inside pending (replicate n true) from within k true from_on (omega arith) ∙ get_or-replicate n (k - from) true true (omega arith) in
            absurd (false≢true (sym unmarked ∙ marked))
        | inr after ↦ record { place = inr after; unmarked = sym (written_after pending (replicate n true) from within k true (omega arith)) ∙ unmarked }
      ]
    ]

module _ (len stable_len : ℕ) (bytes stable : List ℕ) (pending : List Bool) (agree : AgreeBelow len stable_len bytes stable pending) where
  -- more marks
  pub agree-marked : (from n : ℕ) → from ≤ length pending → AgreeBelow len stable_len bytes stable (written pending from (replicate n true))
  agree-marked from n within = record {
    within = λ k below unmarked. agree.within k below (outside pending from n k within unmarked).unmarked;
    same = λ k below unmarked. agree.same k below (outside pending from n k within unmarked).unmarked;
  }

  -- a write, whose bytes are marked
  pub agree-written : (at : ℕ) (ys : List ℕ) → at ≤ len → len ≤ length bytes → length pending ≡ length bytes → AgreeBelow (max len (at + length ys)) stable_len (written bytes at ys) stable (written pending at (replicate (length ys) true))
  agree-written at ys from within size =
      let there : at ≤ length bytes = omega arith in
      let marks_there : at ≤ length pending = omega arith in
      let out : (k : ℕ) → get_or (written pending at (replicate (length ys) true)) k true ≡ false → Outside pending at (length ys) k = λ k unmarked. outside pending at (length ys) k marks_there unmarked in
      let below : (k : ℕ) → k < max len (at + length ys) → (k < at) ⊎ (at + length ys ≤ k) → k < len = λ k small place. elim place [ inl before ↦ omega arith | inr after ↦ omega arith ] in
      let kept : (k : ℕ) → (k < at) ⊎ (at + length ys ≤ k) → get_or (written bytes at ys) k 0 ≡ get_or bytes k 0 = λ k place. elim place [ inl before ↦ written_before bytes ys at there k 0 before | inr after ↦ written_after bytes ys at there k 0 after ] in
      record {
        within = λ k small unmarked. agree.within k (below k small (out k unmarked).place) (out k unmarked).unmarked;
        same = λ k small unmarked. kept k (out k unmarked).place ∙ agree.same k (below k small (out k unmarked).place) (out k unmarked).unmarked;
      }
