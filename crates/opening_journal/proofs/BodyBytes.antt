-- The bytes of the bodies of slots.
use Rattle.std.proofs.Common.{◌≡◌, ℕ, ◌-◌, replicate, append_assoc, length-append, ◌≤◌, List, ◌++◌, length, take, drop, sym, ◌∙◌, ap, arith}
use Rattle.std.proofs.Math.Seq.{drop-append_seam}
use Rattle.std.proofs.lemmas.List.{take_at, length-replicate, places, same_lists}
use borrow.Rule.Slice.PartMut.{put_mid}
use Rattle.opening_journal.specs.EntrySlots.{filled}

-- what is written over the end of a list
pub put-back : (a k : ℕ) (front tail ys : List ℕ) → length front ≡ a → length tail ≡ k → length ys ≡ k → put_mid a k (front ++ tail) ys ≡ front ++ ys
put-back a k front tail ys is_a is_k size = same_lists _ _ (grind (arith, places)) (λ k d below. grind (arith, places))

-- the values in a body B
pub pair-front : (n : ℕ) (c digest : List ℕ) → length c ≡ n → take n (filled c ++ filled digest) ≡ c
pair-front n c digest is_n =
    ap (take n) (append_assoc c _ (filled digest)) ∙ take_at c (replicate (32 - length c) 0 ++ filled digest) n is_n

pub pair-back : (n : ℕ) (c digest : List ℕ) → length c ≡ n → length digest ≡ n → n ≤ 32 → take n (drop 32 (filled c ++ filled digest)) ≡ digest
pair-back n c digest is_c is_digest small =
    let size : length (filled c) ≡ 32 = omega (arith, length-append c (replicate (32 - length c) 0), length-replicate {A = ℕ} (32 - length c) 0) in
    ap (λ (m : ℕ). take n (drop m (filled c ++ filled digest))) (sym size) ∙ ap (take n) (drop-append_seam (filled c) (filled digest)) ∙ take_at digest (replicate (32 - length digest) 0) n is_digest
