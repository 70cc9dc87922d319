-- How `rehearse` ends: it tests that both outputs are new, reads the entropy and the message, deals and signs in
-- memory, and writes the public key and then the signature.
use Rattle.std.specs.Prelude.{◌≡◌, ℕ, List, [], ◌∷◌, All}
use Rattle.dealer.specs.declared.faults.DealFault.{DealFault}
use Rattle.lms_bytes.specs.PublicKey.{public_bytes}
use Rattle.lms_bytes.specs.declared.public_key.PublicKey.{PublicKey}
use Rattle.dealer.specs.Rehearsal.{CanRehearse, IsRehearsed, RehearsalFault}
use Rattle.stream_io.specs.declared.store.Readers.TheVariants.{Anyone}
use Rattle.tool_base.specs.Ending as ending
use Rattle.tool_base.specs.Ending.{Ending, Rehearsed}
use Rattle.tool_base.specs.Outputs.{IsNew, Output}
use Rattle.tool_keys.specs.Undealt.{end_of_fault}
use Rattle.tool_base.specs.World.{StoreRun}
use Rattle.tool_keys.specs.Steps.{AreRead, NewThen, StepThen, TextThen, Writes}

-- the rehearsal gives these outputs for anyone to read: the public key, and then the signature
pub record IsRehearsedTo (entropy message key_out signature_out : List ℕ) (outputs : List Output) : Type 0 where
  pub public : PublicKey
  pub signature : List ℕ
  pub can : CanRehearse entropy
  pub rehearsed : IsRehearsed entropy message public signature
  pub outputs_are : outputs
      ≡ record { name = key_out; bytes = public_bytes public; readers = Anyone }
      ∷ record { name = signature_out; bytes = signature; readers = Anyone } ∷ []

-- the end if there is no rehearsal with this entropy
pub data IsNotRehearsed (entropy : List ℕ) : Ending → Type 0 where
  faulty : (fault : DealFault) → RehearsalFault entropy fault → IsNotRehearsed entropy (end_of_fault fault)
  no_memory : IsNotRehearsed entropy ending.NoMemory

-- internal: neither output is there, and the entropy and the message are read
pub record IsBegun (store : StoreRun) (entropy message key_out signature_out seeds text : List ℕ) : Type 0 where
  pub new : All (IsNew store) (key_out ∷ signature_out ∷ [])
  pub read : AreRead store entropy message seeds text

-- internal: all is begun so, and the rehearsal gives these outputs
pub record IsReady (store : StoreRun) (entropy message key_out signature_out : List ℕ) (outputs : List Output)
    : Type 0 where
  pub seeds : List ℕ
  pub text : List ℕ
  pub begun : IsBegun store entropy message key_out signature_out seeds text
  pub made : IsRehearsedTo seeds text key_out signature_out outputs

-- the end, and the outputs that were written
abbrev pub RehearseEnds : StoreRun → (entropy message key_out signature_out : List ℕ) → Ending → List Output → Type 0
RehearseEnds store entropy message key_out signature_out =
    NewThen store (key_out ∷ signature_out ∷ [])
    (TextThen store entropy (λ bytes.
    TextThen store message (λ text.
    StepThen (IsNotRehearsed bytes) (IsRehearsedTo bytes text key_out signature_out) (λ outputs.
    Writes store outputs Rehearsed))))
