-- Sums of masks that are joined.
use Rattle.std.proofs.Common.{◌≡◌, ℕ, zero, suc, ◌*◌, List, [], ◌∷◌, ◌++◌, length, map, replicate, refl, sym, ◌∙◌, ap, arith, mul-zero, mul-suc, bit_xor}
use Rattle.std.proofs.lemmas.List.{length-replicate, replicate-append-replicate}
use Rattle.lms_bytes.specs.Bytes.{joined, xor}
use Rattle.lms_bytes.proofs.Joined.{joined-none, joined-suc, length-joined}
use Rattle.reference_value.specs.Dealing.{masked, sum_of_masks}
use Rattle.reference_value.proofs.Xor.{length-xor}

xor-append : (a b c d : List ℕ) → length a ≡ length c → xor (a ++ b) (c ++ d) ≡ xor a c ++ xor b d
xor-append [] b [] d even = refl
xor-append [] b (y ∷ c) d even = absurd (omega arith)
xor-append (x ∷ a) b [] d even = absurd (omega arith)
xor-append (x ∷ a) b (y ∷ c) d even = ap (λ (l : List ℕ). bit_xor x y ∷ l) (xor-append a b c d (omega arith))

-- strings that are joined, XOR others of their lengths
xor-joined : (f g : ℕ → List ℕ) (n count : ℕ) → ((i : ℕ) → length (f i) ≡ n) → ((i : ℕ) → length (g i) ≡ n)
    → xor (joined f count) (joined g count) ≡ joined (λ i. xor (f i) (g i)) count
xor-joined f g n zero sized sized' = rw (joined-none f) (sym (joined-none (λ i. xor (f i) (g i))))
xor-joined f g n (suc count) sized sized' =
    let even = length-joined f n count (λ i _. sized i) ∙ sym (length-joined g n count (λ i _. sized' i)) in
    rw (joined-suc f count, joined-suc g count, joined-suc (λ i. xor (f i) (g i)) count, xor-append (joined f count) (f count) (joined g count) (g count) even, xor-joined f g n count sized sized') refl

zeros : (n count : ℕ) → replicate (n * count) 0 ≡ joined (λ i. replicate n 0) count
zeros n zero = rw (mul-zero n, joined-none (λ i. replicate n 0)) refl
zeros n (suc count) =
    rw (mul-suc n count, joined-suc (λ i. replicate n 0) count, ← zeros n count) (sym (replicate-append-replicate (n * count) n 0))

-- strings that are joined, XOR the joined masks of each member
masked-joined : (n count : ℕ) (mask : ℕ → ℕ → List ℕ) (f : ℕ → List ℕ) (ms : List ℕ) → ((i : ℕ) → length (f i) ≡ n)
    → ((i t : ℕ) → length (mask i t) ≡ n)
    → masked (joined f count) (map (λ t. joined (λ i. mask i t) count) ms) ≡ joined (λ i. masked (f i) (map (mask i) ms)) count
masked-joined n count mask f [] sized sized' = refl
masked-joined n count mask f (t ∷ ms) sized sized' =
    let each : (i : ℕ) → length (xor (f i) (mask i t)) ≡ n = λ i. (let a = sized i in let b = sized' i t in length-xor (f i) (mask i t) (a ∙ sym b) ∙ a) in
    ap (λ (v : List ℕ). masked v (map (λ t'. joined (λ i. mask i t') count) ms)) (xor-joined f (λ i. mask i t) n count sized (λ i. sized' i t))
    ∙ masked-joined n count mask (λ i. xor (f i) (mask i t)) ms each sized'

-- the sum of joined masks is the sums, joined
pub sum-joined : (n count : ℕ) (mask : ℕ → ℕ → List ℕ) (ms : List ℕ) → ((i t : ℕ) → length (mask i t) ≡ n)
    → sum_of_masks (n * count) (map (λ t. joined (λ i. mask i t) count) ms) ≡ joined (λ i. sum_of_masks n (map (mask i) ms)) count
sum-joined n count mask ms sized =
    rw (zeros n count) (masked-joined n count mask (λ i. replicate n 0) ms (λ i. length-replicate n 0) sized)
