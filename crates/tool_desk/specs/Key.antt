-- The public key of a dealing, read from its file.
use Rattle.std.specs.Prelude.{ℕ, List, Option, option_map}
use Rattle.lms_bytes.specs.FaultNumbers.{key_fault_number}
use Rattle.lms_bytes.specs.PublicKey.{public_bytes, public_fault}
use Rattle.lms_bytes.specs.declared.public_key.PublicKey.{PublicKey}
use Rattle.tool_base.specs.Ending.{Ending}
use Rattle.tool_base.specs.Grammars.{FailsGrammar}
use Rattle.tool_base.specs.World.{StoreRun, Bytes, IsRead}

-- the file of this name is this key
abbrev pub IsKeyRead : StoreRun → List ℕ → PublicKey → Type 0
IsKeyRead store name key = IsRead store name (Bytes (public_bytes key))

-- the number of the first fault of bytes as a public key
abbrev pub key_file_fault : List ℕ → Option ℕ
key_file_fault bytes = option_map key_fault_number (public_fault bytes)

-- the end if the file of this name could not be read, or is no public key
abbrev pub FailsKey : StoreRun → List ℕ → Ending → Type 0
FailsKey = FailsGrammar key_file_fault
