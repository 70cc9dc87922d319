-- Bytes that are put to a room one after the other.
use Rattle.std.proofs.Common.{◌≡◌, ◌+◌, ◌++◌, ◌∙◌, ℕ, List, ap, append_assoc, length, take, subst}

-- what stood in front stays there, and the bytes follow it
pub put-then : (new old front bytes : List ℕ) (m n : ℕ) → length bytes ≡ n → take (m + length bytes) new ≡ take m old ++ bytes → take m old ≡ front
    → take (m + n) new ≡ front ++ bytes
put-then new old front bytes m n size put is = subst (λ k. take (m + k) new ≡ front ++ bytes) size (put ∙ ap (λ t. t ++ bytes) is)

-- what bytes that are put one after the other make together
pub in-two : (o a b c : List ℕ) → ((o ++ a) ++ b) ++ c ≡ o ++ ((a ++ b) ++ c)
in-two o a b c = ap (λ t. t ++ c) (append_assoc o a b) ∙ append_assoc o (a ++ b) c

pub in-three : (o a b c d : List ℕ) → (((o ++ a) ++ b) ++ c) ++ d ≡ o ++ ((a ++ b) ++ (c ++ d))
in-three o a b c d = append_assoc ((o ++ a) ++ b) c d ∙ in-two o a b (c ++ d)

pub in-four : (o a b c d e : List ℕ) → ((((o ++ a) ++ b) ++ c) ++ d) ++ e ≡ o ++ ((a ++ b) ++ (c ++ (d ++ e)))
in-four o a b c d e = append_assoc (((o ++ a) ++ b) ++ c) d e ∙ in-three o a b c (d ++ e)

-- the same for bytes that are known by another name
pub put-as : (new old front given bytes : List ℕ) (m n : ℕ) → given ≡ bytes → length bytes ≡ n → take (m + length given) new ≡ take m old ++ given → take m old ≡ front
    → take (m + n) new ≡ front ++ bytes
put-as new old front given bytes m n same size put is =
    put-then new old front bytes m n size (subst (λ xs. take (m + length xs) new ≡ take m old ++ xs) same put) is
