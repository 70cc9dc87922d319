-- No two faults at once, and none if there is a dealing.
use Rattle.std.proofs.Common.{◌≡◌, ℕ, ◌<◌, ◌≤◌, Bool, false, true, List, refl, ap, ◌∙◌, arith, sym}
use Rattle.std.proofs.lemmas.Bool.{false≢true}
use Rattle.coalition_map.specs.Coalitions.{PlanNumbers}
use Rattle.lms_bytes.specs.declared.params.Params.{Params}
use Rattle.dealer.specs.Faults.{AreFirstAlike, HasFault, IsDealable, IsSetDealt, greatest_height, too_high, too_wide, bad_entropy, same_keys}
use Rattle.dealer.specs.declared.faults.DealFault.{DealFault}
use Rattle.dealer.specs.declared.faults.DealFault.TheVariants.{SameKeys}

-- a set that is dealt is not too high, and not too wide
low : (large : Bool) (params : Params) → IsSetDealt large params → params.h ≤ greatest_height large
low false params set = set.height
low true params set = set.height

narrow : (large : Bool) (params : Params) → large ≡ false → IsSetDealt large params → params.h ≡ 10 → params.w < 8
narrow false params small set ten = set.width ten
narrow true params small set ten = absurd (false≢true (sym small))

ten : (large : Bool) → 10 ≤ greatest_height large
ten false = omega arith
ten true = omega arith

pub none_dealable : (large : Bool) (params : Params) (plan : PlanNumbers) (entropy : List ℕ) (fault : DealFault) → IsDealable large params plan entropy
    → HasFault large params plan entropy fault → ⊥
none_dealable large params plan entropy fault dealable (too_high high) = let most = low large params dealable.set in omega arith
none_dealable large params plan entropy fault dealable (too_wide small height width) = let thin = narrow large params small dealable.set height in omega arith
none_dealable large params plan entropy fault dealable (bad_entropy set other) = other dealable.size
none_dealable large params plan entropy fault dealable (same_keys t u set size alike) = dealable.keys t u alike.two alike.alike

one_pair : (trustees : ℕ) (entropy : List ℕ) (t u t' u' : ℕ) → AreFirstAlike trustees entropy t u → AreFirstAlike trustees entropy t' u'
    → (t ≡ t') × (u ≡ u')
one_pair trustees entropy t u t' u' a b =
    let forth = a.first t' u' b.two b.alike in
    let back = b.first t u a.two a.alike in
    (omega arith, omega arith)

pub one_fault : (large : Bool) (params : Params) (plan : PlanNumbers) (entropy : List ℕ) (fault other : DealFault) → HasFault large params plan entropy fault
    → HasFault large params plan entropy other → fault ≡ other
one_fault large params plan entropy fault other (too_high high) (too_high _) = refl
one_fault large params plan entropy fault other (too_high high) (too_wide small height _) = let most = ten large in absurd (omega arith)
one_fault large params plan entropy fault other (too_high high) (bad_entropy set _) = let most = low large params set in absurd (omega arith)
one_fault large params plan entropy fault other (too_high high) (same_keys _ _ set _ _) = let most = low large params set in absurd (omega arith)
one_fault large params plan entropy fault other (too_wide small height width) (too_high high) = let most = ten large in absurd (omega arith)
one_fault large params plan entropy fault other (too_wide small height width) (too_wide _ _ _) = refl
one_fault large params plan entropy fault other (too_wide small height width) (bad_entropy set _) = let thin = narrow large params small set height in absurd (omega arith)
one_fault large params plan entropy fault other (too_wide small height width) (same_keys _ _ set _ _) = let thin = narrow large params small set height in absurd (omega arith)
one_fault large params plan entropy fault other (bad_entropy set _) (too_high high) = let most = low large params set in absurd (omega arith)
one_fault large params plan entropy fault other (bad_entropy set _) (too_wide small height width) = let thin = narrow large params small set height in absurd (omega arith)
one_fault large params plan entropy fault other (bad_entropy set _) (bad_entropy _ _) = refl
one_fault large params plan entropy fault other (bad_entropy _ unlike) (same_keys _ _ _ size _) = absurd (unlike size)
one_fault large params plan entropy fault other (same_keys _ _ set _ _) (too_high high) = let most = low large params set in absurd (omega arith)
one_fault large params plan entropy fault other (same_keys _ _ set _ _) (too_wide small height width) = let thin = narrow large params small set height in absurd (omega arith)
one_fault large params plan entropy fault other (same_keys _ _ _ size _) (bad_entropy _ unlike) = absurd (unlike size)
one_fault large params plan entropy fault other (same_keys t u _ _ a) (same_keys t' u' _ _ b) =
    let same = one_pair plan.n entropy t u t' u' a b in
    ap (λ (x : ℕ). SameKeys x u) same.0 ∙ ap (λ (x : ℕ). SameKeys t' x) same.1
