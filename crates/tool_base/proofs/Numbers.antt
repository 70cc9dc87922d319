-- Numbers that are told one after another.
use Rattle.std.proofs.Common.{◌≡◌, ◌++◌, ℕ, List, [], ◌∷◌, ap, sym, ◌∙◌, append_assoc}
use Rattle.std.proofs.lemmas.List.{append-nil}
use Rattle.std.specs.Fmt.{decimal}
use Rattle.std.specs.Prelude.{codes}
use Rattle.coalition_map.proofs.MemberLaws.{IsAscendingIn-trustees_from}
use Rattle.coalition_map.specs.Members.{IsAscendingIn, member_numbers}
use Rattle.tool_base.specs.Ending.{spaced}

-- one number more
pub spaced_more : (numbers : List ℕ) (number : ℕ) → spaced (numbers ++ number ∷ []) ≡ spaced numbers ++ (codes " " ++ decimal number)
spaced_more [] number = ap (λ (l : List ℕ). codes " " ++ l) (append-nil (decimal number))
spaced_more (one ∷ numbers) number =
    let more : List ℕ = codes " " ++ decimal number in
    ap (λ (l : List ℕ). codes " " ++ (decimal one ++ l)) (spaced_more numbers number)
    ∙ ap (λ (l : List ℕ). codes " " ++ l) (sym (append_assoc (decimal one) (spaced numbers) more))

pub members_ascend : (bits : ℕ) → IsAscendingIn 1 17 (member_numbers bits)
unfolding member_numbers
members_ascend bits = IsAscendingIn-trustees_from 1 16 bits
