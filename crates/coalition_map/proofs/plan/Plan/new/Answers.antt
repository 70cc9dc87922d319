use Rattle.std.proofs.Common.{◌≡◌, ℕ, length, sym, ◌∙◌, refl, arith}
use Rattle.std.proofs.lemmas.Bool.{false≢true}
use Rattle.std.proofs.lemmas.Nat.{one_shl}
use Rattle.coalition_map.specs.Coalitions.{coalitions, binomial, IsThreshold}
use Rattle.coalition_map.proofs.CoalitionLaws.{length-subsets}
use Rattle.coalition_map.proofs.plan.Plan.new.Goals as goal

counted : (n k count : ℕ) → count ≡ binomial n k → count ≡ length (coalitions n k)
counted n k count e = e ∙ sym (length-subsets 1 n k)

pub returns-then-count-h-clause-accepted : goal.returns-then-count-h-clause-accepted
returns-then-count-h-clause-accepted c = (
  (λ e. absurd (false≢true e)),
  (λ p. absurd (omega (arith, p.each_has_a_leaf, one_shl c.args.h 32 (omega arith), counted _ _ _ c.binomial_of-count.ensures))),
)

pub returns-then-count-h-clause-leaves : goal.returns-then-count-h-clause-leaves
returns-then-count-h-clause-leaves c = λ count.
    let shl = one_shl c.args.h 32 (omega arith) in
    let all = counted _ _ _ c.binomial_of-count.ensures in
    let threshold : IsThreshold c.args.n c.args.k = record { two_or_more = omega arith; k_within = omega arith; n_within = omega arith } in (
      λ e. let same : c.binomial_of-count.result ≡ count = cc in (threshold, sym same ∙ all, omega arith),
      λ h. let same : c.binomial_of-count.result ≡ count = all ∙ sym h.1 in rw same refl,
    )

pub invariant_of-result : goal.invariant_of-result
invariant_of-result c =
    let shl = one_shl c.args.h 32 (omega arith) in
    let all = counted _ _ _ c.binomial_of-count.ensures in
    record {
      plan = record {
        threshold = record { two_or_more = omega arith; k_within = omega arith; n_within = omega arith };
        h_within = c.requires;
        each_has_a_leaf = omega arith;
      };
      counted = all;
    }

pub returns-clause-accepted : goal.returns-clause-accepted
returns-clause-accepted c = ((λ e. (invariant_of-result c).plan), (λ p. refl))

pub returns-clause-leaves : goal.returns-clause-leaves
returns-clause-leaves c = λ count.
    let shl = one_shl c.args.h 32 (omega arith) in
    let all = counted _ _ _ c.binomial_of-count.ensures in
    (λ e. absurd (cc), λ h. absurd (omega (arith, h.1, h.2)))
