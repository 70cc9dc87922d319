use Rattle.std.proofs.Common.{◌≡◌, ℕ, ◌+◌, ◌*◌, ◌/◌, ◌%◌, ◌^◌, ◌<◌, sym, ◌∙◌, refl, arith}
use Rattle.std.proofs.Math.Nat.{div-eq_of_lt}
use Rattle.std.proofs.lemmas.Bool.{false≢true}
use Rattle.std.proofs.lemmas.Nat.{div-add-mod', mod_below, pow_pos}
use Rattle.coalition_map.specs.Coalitions.{IsSubset}
use Rattle.coalition_map.proofs.CoalitionLaws.{IsSubset-from_bits, bits-from_IsSubset, IsSubset-listed}
use Rattle.coalition_map.proofs.plan.Plan.number_of.Goals as goal
use Rattle.coalition_map.proofs.plan.Plan.number_of.Goals.{else-size-self-via-then-size-self+else-bits-self-eq0, else-size-self-via-else-size-self}

-- no bit above the first n
low : (b n : ℕ) → b / 2 ^ n ≡ 0 → b < 2 ^ n
low b n e =
    let whole : 0 * 2 ^ n + b % 2 ^ n ≡ b = rw e at (div-add-mod' b (2 ^ n)) in
    omega (arith, mod_below b (2 ^ n) (pow_pos n))

pub returns-then-bits-self-eq0-clause-subset : goal.returns-then-bits-self-eq0-clause-subset
returns-then-bits-self-eq0-clause-subset c = (
  (λ e. rw (← c.self.view_is, c.bits-bits.ensures.same)
      (IsSubset-from_bits _ _ _ (omega (arith, c.self.invariant.plan.threshold.n_within)) (low _ _ c.if-bits-self-eq0.true)
      (rw (← c.bits-bits.ensures.same) (sym c.size.ensures.number ∙ c.if-size-self.true)))),
  (λ h. refl),
)

pub returns-else-size-self-clause-subset : goal.returns-else-size-self-clause-subset
returns-else-size-self-clause-subset c = (
  (λ e. absurd (false≢true e)),
  (λ h. absurd (
      let of_n : IsSubset 1 (c.self.inside.n + 1) c.self.inside.k c.args.members = rw (← c.self.view_is) at h in
      elim c.else-size-self.branch [
        | else-size-self-via-then-size-self+else-bits-self-eq0 w ↦
            w.if-bits-self-eq0.false (div-eq_of_lt (bits-from_IsSubset _ _ _ c.bits-bits.type_inv (rw c.bits-bits.ensures.same at of_n)))
        | else-size-self-via-else-size-self w ↦ w.if-size-self.false (c.size.ensures.number ∙ of_n.size)
      ])),
)

pub returns-else-size-self-clause-listed : goal.returns-else-size-self-clause-listed
returns-else-size-self-clause-listed c =
    ((λ e. absurd (false≢true e)), (λ h. (returns-else-size-self-clause-subset c).1 (IsSubset-listed _ _ _ h)))
