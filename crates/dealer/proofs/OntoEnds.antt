-- How a dealing onto a disk ends, and a reference whose gate is opened.
use Rattle.std.proofs.Common.{◌≡◌, ◌⊎◌, ℕ, true, IsTrue, Result, Ok, Err, List, [], ◌∷◌, get_or, inl, inr, ⊎_elim, refl, sym, ap, ◌∙◌, subst, arith}
use Rattle.std.specs.Prelude.{IfErr}
use Rattle.std.proofs.lemmas.Bool.{cases_eq}
use Rattle.coalition_map.specs.Coalitions.{PlanNumbers}
use Rattle.disk_trait.specs.Gate.{NeverHalf, OpensLast}
use Rattle.disk_trait.specs.Images.{Torn, written}
use Rattle.disk_trait.specs.declared.disk.Pages as pages
use Rattle.lms_bytes.specs.declared.params.Params.{Params}
use Rattle.reference_value.specs.Dealing.{Dealing}
use Rattle.dealer.specs.Entropy.{dealing_of}
use Rattle.dealer.specs.Faults.{IsDealable}
use Rattle.dealer.specs.Files.{reference_file}
use Rattle.dealer.specs.Onto.{FailsOnto, FailsToBuild, HoldsShut, IsUnready, IsWritten, Stops, shut}
use Rattle.dealer.specs.Onto as onto
use Rattle.dealer.specs.declared.onto.OntoFault.{OntoFault}
use Rattle.dealer.proofs.OntoStops.{shut-unready}

-- what was built of the material fails as the dealing of the entropy does
pub fails-onto : {D P T : Type 0} (p : pages.Ghosts D) (told : P → ℕ → ℕ → P) (d : Dealing) (params : Params) (plan : PlanNumbers) (entropy : List ℕ)
    (old new : D) (before after : P) (answer : Result T OntoFault) → IsDealable true params plan entropy → d ≡ dealing_of params plan entropy
    → IfErr answer (FailsToBuild p told d old new before after) → IfErr answer (FailsOnto p told params plan entropy old new before after)
fails-onto p told d params plan entropy old new before after (Ok value) dealable same fails = tt
fails-onto p told d params plan entropy old new before after (Err fault) dealable same (inl both) =
    subst (λ (f : OntoFault). FailsOnto p told params plan entropy old new before after f) (sym both.0)
    (onto.no_memory_behind dealable (subst (λ (e : Dealing). IsWritten p told e old new before after) same both.1))
fails-onto p told d params plan entropy old new before after (Err fault) dealable same (inr both) =
    subst (λ (f : OntoFault). FailsOnto p told params plan entropy old new before after f) (sym both.0)
    (onto.device dealable (subst (λ (e : Dealing). Stops p told e old new before after) same both.1))

-- the gate is opened, or any other byte stands there
pub opened : (d : Dealing) → written (shut (reference_file d)) 0 (0x54 ∷ []) ≡ reference_file d
opened d = refl

any-gate : (d : Dealing) (image : List ℕ) → Torn 0 1 (shut (reference_file d)) image → IsUnready image ⊎ (image ≡ reference_file d)
any-gate d [] torn = inl (inl (omega arith))
any-gate d (gate ∷ image) torn = elim (cases_eq gate 0x54) [
  | inl is ↦ inr (λ i. is i ∷ torn.after i)
  | inr shut ↦ inl (inr shut)
]

pub never-half : {D : Type 0} (p : pages.Ghosts D) (d : Dealing) (old new : D) → HoldsShut p d old → OpensLast p old new
    → NeverHalf p 0x54 32 (λ file. file ≡ reference_file d) old new
never-half p d old new holds last =
    let torn_from : IsTrue (p.told old) → (image : List ℕ) → Torn 0 1 (p.reads old) image → Torn 0 1 (shut (reference_file d)) image = λ told image.
    subst (λ (l : List ℕ). Torn 0 1 l image) (holds.reads told) in
    record {
      images = λ told honest image leaves.
          ⊎_elim (λ before. inl (holds.images told honest image before)) (λ torn. any-gate d image (torn_from told image torn)) (last.images told honest image leaves);
      shows = λ told honest.
          ⊎_elim (λ same. inl (shut-unready (p.reads new) (ap (λ (l : List ℕ). get_or l 0 0) (same ∙ holds.reads told))))
          (λ all. inr (reference_file d, refl, λ image leaves. (torn_from told image (all image leaves)).after)) (last.shows told honest);
    }
