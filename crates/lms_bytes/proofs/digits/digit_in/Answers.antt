use Rattle.std.proofs.Common.{◌≡◌, ℕ, ◌-◌, ◌*◌, ◌%◌, ◌^◌, bit_and, inl, inr}
use Rattle.std.proofs.lemmas.Nat.{and_mask}
use Rattle.lms_bytes.specs.HashLength.{IsDigitWidth}
use Rattle.lms_bytes.proofs.digits.digit_in.Goals as goal

masked : (x w : ℕ) → IsDigitWidth w → (w ≡ 8 → ⊥) → bit_and x (1 * 2 ^ w % 256 - 1) ≡ x % 2 ^ w
masked x w (inl e) other = rw e (and_mask x 1)
masked x w (inr (inl e)) other = rw e (and_mask x 2)
masked x w (inr (inr (inl e))) other = rw e (and_mask x 4)
masked x w (inr (inr (inr e))) other = absurd (other e)

pub returns-else-w-eq8 : goal.returns-else-w-eq8
returns-else-w-eq8 c = masked _ c.args.w c.requires.width c.if-w-eq8.false
