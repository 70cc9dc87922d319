use Rattle.std.proofs.Common.{◌≡◌, ℕ, ◌-◌, ◌*◌, ◌/◌, ◌%◌, ◌<◌, ◌≤◌, List, ◌++◌, length, inl, inr, ap, sym, ◌∙◌, arith}
use Rattle.std.specs.Int.{w16, to_be_bytes}
use Rattle.std.proofs.lemmas.List.{get_or_append_left, get_or-append_right}
use Rattle.lms_bytes.specs.Digits.{coef}
use Rattle.lms_bytes.specs.HashLength.{IsDigitWidth}
use Rattle.lms_bytes.proofs.digits.digit.Goals as goal

-- digit i of the n bytes in front lies in them
within : (i n w : ℕ) → IsDigitWidth w → i < 8 * n / w → i * w / 8 < n
within i n w (inl e) = rw e (λ h. omega arith)
within i n w (inr (inl e)) = rw e (λ h. omega arith)
within i n w (inr (inr (inl e))) = rw e (λ h. omega arith)
within i n w (inr (inr (inr e))) = rw e (λ h. omega arith)

front : (d s : List ℕ) (i n w : ℕ) → IsDigitWidth w → length d ≡ n → i < 8 * n / w → coef (d ++ s) i w ≡ coef d i w
front d s i n w width len h =
    let inside = within i n w width h in
    rw (get_or_append_left d s 0 (i * w / 8) (omega arith))

-- where digit i lies after n bytes
behind : (i n w : ℕ) → IsDigitWidth w → 8 * n / w ≤ i → (n ≤ i * w / 8) × ((i - 8 * n / w) * w / 8 ≡ i * w / 8 - n) × ((i - 8 * n / w) % (8 / w) ≡ i % (8 / w))
behind i n w (inl e) = rw e (λ h. (omega arith, omega arith, omega arith))
behind i n w (inr (inl e)) = rw e (λ h. (omega arith, omega arith, omega arith))
behind i n w (inr (inr (inl e))) = rw e (λ h. (omega arith, omega arith, omega arith))
behind i n w (inr (inr (inr e))) = rw e (λ h. (omega arith, omega arith, omega arith))

back : (d s : List ℕ) (i n w : ℕ) → IsDigitWidth w → length d ≡ n → 8 * n / w ≤ i → coef (d ++ s) i w ≡ coef s (i - 8 * n / w) w
back d s i n w width len h =
    let b = behind i n w width h in
    rw (get_or-append_right d s n (i * w / 8) 0 len b.0, b.1, b.2)

pub returns-then-i-digest_digits : goal.returns-then-i-digest_digits
returns-then-i-digest_digits c =
    let p = c.args.params.now in
    c.digit_in.ensures ∙ (ap (λ s. coef s c.args.i p.w) c.bytes.ensures.bytes ∙ sym (front c.args.digest.now _ c.args.i p.n p.w p.digit_width c.requires.digest c.if-i-digest_digits.true))

pub returns-else-i-digest_digits : goal.returns-else-i-digest_digits
returns-else-i-digest_digits c =
    let p = c.args.params.now in
    let sum = c.to_be_bytes.ensures ∙ ap (to_be_bytes w16) c.checksum_of-sum.ensures in
    c.digit_in-else-i-digest_digits.ensures ∙ (ap (λ s. coef s (c.args.i - 8 * p.n / p.w) p.w) sum ∙ sym (back c.args.digest.now _ c.args.i p.n p.w p.digit_width c.requires.digest c.if-i-digest_digits.false))
