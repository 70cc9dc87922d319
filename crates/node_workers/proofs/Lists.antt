-- Lists of workers.
use Rattle.std.proofs.Common.{◌≡◌, ℕ, List, [], ◌∷◌, ◌++◌, All, length, take, drop, refl, sym, ap, ◌∙◌, subst, arith}
use Rattle.std.proofs.Math.Seq.{take-append_seam}

pub none-of : {A : Type 0} (xs : List A) → length xs ≡ 0 → xs ≡ []
none-of [] is = refl
none-of (x ∷ xs) is = absurd (omega (arith, is))

module _ {W : Type 0} where
  -- a list of which a slice was written, where the slice is all of the list
  pub written-whole : (items slice news : List W) (len : ℕ) → slice ≡ items → length news ≡ length slice → len ≡ length items → take len (news ++ drop (length news) items) ≡ news
  written-whole items slice news len value size count =
      let same : len ≡ length news = omega (arith, count, size, ap length value) in
      ap (λ (k : ℕ). take k (news ++ drop (length news) items)) same ∙ take-append_seam news (drop (length news) items)

  pub written-all : (Each : W → Type 0) (items slice news : List W) (len : ℕ) → slice ≡ items → length news ≡ length slice → len ≡ length items → All Each news
      → All Each (take len (news ++ drop (length news) items))
  written-all Each items slice news len value size count each = subst (All Each) (sym (written-whole items slice news len value size count)) each
