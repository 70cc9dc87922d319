use Rattle.std.proofs.Common.{◌≡◌, ◌∙◌, ℕ, List, ap, length, refl, sym}
use Rattle.coalition_map.specs.Coalitions.{PlanNumbers}
use Rattle.lms_bytes.specs.Bytes.{xor}
use Rattle.lms_bytes.specs.declared.params.Params.{Params}
use Rattle.reference_value.specs.Places.{randomizer_in}
use Rattle.dealer.proofs.signing.unmask_randomizer.Goals as goal

pub new-cells-requires-clause-exact : goal.new-cells-requires-clause-exact
new-cells-requires-clause-exact c = ap length c.deref.ensures.value ∙ c.requires.fits.reference

pub new-cells-requires-clause-height : goal.new-cells-requires-clause-height
new-cells-requires-clause-height c = c.requires.fits.height

pub join_randomizer-requires-clause-leaf : goal.join_randomizer-requires-clause-leaf
join_randomizer-requires-clause-leaf c = rw c.new-cells.ensures.set c.requires.leaf

pub unwrap-requires : goal.unwrap-requires
unwrap-requires c =
    c.join_randomizer.ensures.succeeds refl refl
    (rw (c.new-cells.ensures.set, c.new-cells.ensures.plan) (ap length (c.new-cells.ensures.leaves ∙ c.deref.ensures.value) ∙ c.requires.fits.reference))

pub returns-clause-length : goal.returns-clause-length
returns-clause-length c = (rw c.unwrap.ensures at c.join_randomizer.ensures.length) ∙ ap (λ (params : Params). params.n) c.new-cells.ensures.set

-- randomizers that are joined from the same parts
same_random : (set set' : Params) (plan plan' : PlanNumbers) (leaves leaves' : List ℕ) (q : ℕ) (sum sum' : List ℕ) → set ≡ set' → plan ≡ plan' → leaves ≡ leaves' → sum ≡ sum'
    → xor (randomizer_in set plan leaves q) sum ≡ xor (randomizer_in set' plan' leaves' q) sum'
same_random set set' plan plan' leaves leaves' q sum sum' a b d e = rw (a, b, d, e) refl

pub returns-clause-randomizer : goal.returns-clause-randomizer
returns-clause-randomizer c =
    (rw c.unwrap.ensures at (c.join_randomizer.ensures.value refl))
    ∙ same_random _ _ _ _ _ _ _ _ _ c.new-cells.ensures.set c.new-cells.ensures.plan (c.new-cells.ensures.leaves ∙ c.deref.ensures.value) c.random_sum.ensures.sum

pub join_randomizer-requires-clause-sum : goal.join_randomizer-requires-clause-sum
join_randomizer-requires-clause-sum c = c.random_sum.ensures.length ∙ ap (λ (params : Params). params.n) (sym c.new-cells.ensures.set)
