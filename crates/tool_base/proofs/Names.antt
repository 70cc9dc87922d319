-- Names that are all different.
use Rattle.std.proofs.Common.{◌≢◌, ◌<◌, ℕ, zero, suc, List, [], ◌∷◌, length, take, get_or, All, arith}
use Rattle.std.proofs.lemmas.List.Elements.{All-cons, All-nil, All-get_or}
use Rattle.tool_base.specs.Outputs.{AreDifferent}

-- each name differs from those before it
pub before_differ : (names : List (List ℕ)) (i : ℕ) → i < length names → AreDifferent names → All (λ name. name ≢ get_or names i []) (take i names)
before_differ [] i h d = absurd (omega arith)
before_differ (name ∷ names) zero h d = All-nil (λ other. other ≢ name)
before_differ (name ∷ names) (suc i) h d =
    All-cons (λ other. other ≢ get_or names i []) name (take i names) (All-get_or (λ other. name ≢ other) names i [] (omega arith) d.0)
    (before_differ names i (omega arith) d.1)
