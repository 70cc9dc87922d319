-- How `hss check` ends: it reads the key, the message and the signature, in this order, and the key is tested before
-- the message is read.
use Rattle.std.specs.Prelude.{ℕ, List, Option, option_map}
use Rattle.hss_levels.specs.FaultNumbers.{hss_key_fault_number}
use Rattle.hss_levels.specs.HssKey.{hss_key_bytes, hss_key_fault}
use Rattle.hss_levels.specs.Verdict.{IsHssVerdict}
use Rattle.hss_levels.specs.declared.hss_key.HssKey.{HssKey}
use Rattle.tool_base.specs.Ending.{Checked, Ending}
use Rattle.tool_base.specs.Grammars.{FailsGrammar}
use Rattle.tool_base.specs.Outputs.{Output}
use Rattle.tool_base.specs.World.{StoreRun, Bytes, IsRead}
use Rattle.tool_keys.specs.Steps.{StepThen, Tells, TextThen}

-- the file of this name is this HSS key
abbrev pub IsHssKeyRead : StoreRun → List ℕ → HssKey → Type 0
IsHssKeyRead store name key = IsRead store name (Bytes (hss_key_bytes key))

-- the number of the first fault of bytes as an HSS key
abbrev pub hss_key_file_fault : List ℕ → Option ℕ
hss_key_file_fault bytes = option_map hss_key_fault_number (hss_key_fault bytes)

-- what became of the key's file, the message's and the signature's
abbrev pub HssCheckEnds : StoreRun → (key message signature : List ℕ) → Ending → List Output → Type 0
HssCheckEnds store key message signature =
    StepThen (FailsGrammar hss_key_file_fault store key) (IsHssKeyRead store key) (λ public.
    TextThen store message (λ text.
    TextThen store signature (λ bytes.
    Tells Checked (IsHssVerdict public text bytes))))
