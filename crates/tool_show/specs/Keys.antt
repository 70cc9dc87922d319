-- What calls inside the crate say about keys and faults, and the ends of faults. Only contracts inside the crate speak
-- of it.
use Rattle.std.specs.Prelude.{◌≡◌, ◌⊎◌, ℕ, List, Some, length}
use Rattle.hss_levels.specs.HssKey.{hss_key_bytes}
use Rattle.lms_bytes.specs.PublicKey.{public_bytes}
use Rattle.tool_base.specs.Contents.{HasHead}
use Rattle.tool_base.specs.Ending as ending
use Rattle.tool_base.specs.Ending.{Ending}
use Rattle.tool_show.specs.Listing.{IsNotLoaded}
use Rattle.tool_show.specs.Kinds.{IsHssKey, IsKey, IsSlots, Kind, kind_of, show_fault}
use Rattle.tool_show.specs.Lines as lines
use Rattle.tool_show.specs.declared.any_key.AnyKey.{AnyKey}
use Rattle.tool_show.specs.declared.any_key.AnyKey.TheVariants.{Lms, Hss}
use Rattle.tool_show.specs.declared.bytes_shown.ShowFault.{ShowFault}
use Rattle.tool_show.specs.declared.bytes_shown.ShowFault.TheVariants.{NoMemory, NotLoaded, Unreadable}

-- the kind of a file that is this key
abbrev pub kind_of_key : AnyKey → Kind
kind_of_key (Lms key) = IsKey
kind_of_key (Hss key) = IsHssKey

-- the bytes of a key
abbrev pub any_key_bytes : AnyKey → List ℕ
any_key_bytes (Lms key) = public_bytes key
any_key_bytes (Hss key) = hss_key_bytes key

-- the line of a key
abbrev pub any_key_line : AnyKey → List ℕ
any_key_line (Lms key) = lines.key_line key
any_key_line (Hss key) = lines.hss_key_line key

-- why bytes are not shown
abbrev pub IsFaultOf : List ℕ → ShowFault → Type 0
IsFaultOf bytes (Unreadable fault) = show_fault bytes ≡ Some fault
IsFaultOf bytes (NotLoaded fault) = (kind_of bytes ≡ Some IsSlots) × IsNotLoaded bytes fault
IsFaultOf bytes NoMemory = Unit {0}

-- why every file with this head and this length is not shown
abbrev pub IsFaultOfHead : List ℕ → ℕ → ShowFault → Type 0
IsFaultOfHead head got (Unreadable fault) =
    (file : List ℕ) → HasHead head file → length file ≡ got → show_fault file ≡ Some fault
IsFaultOfHead head got (NotLoaded fault) = ⊥
IsFaultOfHead head got NoMemory = Unit {0}

-- the end for each fault of the file of this name
abbrev pub IsEndOf : List ℕ → ShowFault → Ending → Type 0
IsEndOf file (Unreadable fault) end = (end ≡ ending.NoMemory) ⊎ (end ≡ ending.Unreadable file fault)
IsEndOf file (NotLoaded fault) end = end ≡ ending.NotLoaded fault
IsEndOf file NoMemory end = end ≡ ending.NoMemory
