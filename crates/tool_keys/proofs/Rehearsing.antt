-- How a rehearsal ends.
use Rattle.std.proofs.Common.{[], ◌∷◌, ◌≢◌, All, map, refl, ◌≡◌, ◌⊎◌, List, ℕ, inl, inr}
use Rattle.dealer.specs.declared.faults.DealFault.{DealFault}
use Rattle.dealer.specs.declared.faults.DealFault.TheVariants.{NoMemory}
use Rattle.dealer.specs.Rehearsal.{CanRehearse, RehearsalFault}
use Rattle.tool_keys.specs.Rehearse.{IsBegun, IsNotRehearsed, IsRehearsedTo, RehearseEnds, faulty, no_memory}
use Rattle.tool_keys.specs.Steps.{StepThen, Writes, all_new}
use Rattle.tool_keys.proofs.Stepping.{two_given}
use Rattle.std.proofs.lemmas.List.Elements.{All-cons, All-nil}
use Rattle.tool_base.specs.Ending.{Ending, Rehearsed}
use Rattle.tool_base.specs.Outputs.{AreDifferent, Output}
use Rattle.tool_keys.specs.Undealt.{end_of_fault}
use Rattle.tool_base.specs.World.{StoreRun}

pub rehearsal_refused : (entropy : List ℕ) (fault : DealFault) → ((fault ≡ NoMemory) × CanRehearse entropy) ⊎ RehearsalFault entropy fault
    → IsNotRehearsed entropy (end_of_fault fault)
rehearsal_refused entropy fault (inl none) = rw none.0 no_memory
rehearsal_refused entropy fault (inr has) = faulty fault has

-- the names of both outputs
pub rehearsed_names : (entropy message key_out signature_out : List ℕ) (outputs : List Output) → IsRehearsedTo entropy message key_out signature_out outputs
    → map (λ output. output.name) outputs ≡ key_out ∷ signature_out ∷ []
rehearsed_names entropy message key_out signature_out outputs made = rw made.outputs_are refl

pub begun_then : (store : StoreRun) (entropy message key_out signature_out seeds text : List ℕ) (end : Ending) (written : List Output)
    → IsBegun store entropy message key_out signature_out seeds text
    → StepThen (IsNotRehearsed seeds) (IsRehearsedTo seeds text key_out signature_out) (λ outputs. Writes store outputs Rehearsed) end written
    → RehearseEnds store entropy message key_out signature_out end written
begun_then store entropy message key_out signature_out seeds text end written begun rest =
    all_new end written begun.new (two_given store entropy message _ seeds text end written begun.read rest)

pub two_differ : (a b : List ℕ) → a ≢ b → AreDifferent (a ∷ b ∷ [])
two_differ a b other = (All-cons (λ name. a ≢ name) b [] other (All-nil (λ name. a ≢ name)), (All-nil (λ name. b ≢ name), tt))

pub two_hold : (P : List ℕ → Type 0) (a b : List ℕ) → P a → P b → All P (a ∷ b ∷ [])
two_hold P a b one two = All-cons P a (b ∷ []) one (All-cons P b [] two (All-nil P))
