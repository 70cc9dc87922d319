-- References that give what they have.
use Rattle.std.proofs.Common.{◌≡◌, ℕ, Bool, true, false, List, length, IsTrue, refl}
use Rattle.std.proofs.lemmas.Bool.{eq-eqb, eqb-true, false≢true}
use Rattle.coalition_map.specs.Coalitions.{PlanNumbers}
use Rattle.lms_bytes.specs.declared.params.Params.{Params}
use Rattle.mask_prf.specs.Lengths.{leaves_length}
use Rattle.tool_sign.specs.Ports.{is_exact}

pub exact-parts : (told steady : Bool) (leaves : List ℕ) (params : Params) (plan : PlanNumbers) → IsTrue (is_exact told steady leaves params plan)
    → IsTrue told × IsTrue steady × (length leaves ≡ leaves_length params plan)
exact-parts true true leaves params plan is = (refl, refl, eqb-true (length leaves) (leaves_length params plan) is)
exact-parts true false leaves params plan is = absurd (false≢true is)
exact-parts false steady leaves params plan is = absurd (false≢true is)

pub exact-of : (told steady : Bool) (leaves : List ℕ) (params : Params) (plan : PlanNumbers) → IsTrue told → IsTrue steady → length leaves ≡ leaves_length params plan
    → IsTrue (is_exact told steady leaves params plan)
exact-of true true leaves params plan t s is = eq-eqb (length leaves) (leaves_length params plan) is
exact-of true false leaves params plan t s is = absurd (false≢true s)
exact-of false steady leaves params plan t s is = absurd (false≢true t)
