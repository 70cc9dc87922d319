-- How `verify` ends: it reads the key, the message and the signature, in this order, and the key is tested before the
-- message is read.
use Rattle.std.specs.Prelude.{ℕ, List}
use Rattle.lms_verify.specs.Verdict.{IsVerdict}
use Rattle.tool_base.specs.Ending.{Ending, Verified}
use Rattle.tool_base.specs.Outputs.{Output}
use Rattle.tool_base.specs.World.{StoreRun}
use Rattle.tool_desk.specs.Key.{FailsKey, IsKeyRead}
use Rattle.tool_keys.specs.Steps.{StepThen, Tells, TextThen}

-- what became of the key's file, the message's and the signature's
abbrev pub VerifyEnds : StoreRun → (key message signature : List ℕ) → Ending → List Output → Type 0
VerifyEnds store key message signature =
    StepThen (FailsKey store key) (IsKeyRead store key) (λ public.
    TextThen store message (λ text.
    TextThen store signature (λ bytes.
    Tells Verified (IsVerdict public text bytes))))
