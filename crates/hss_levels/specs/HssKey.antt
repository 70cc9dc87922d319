-- How an HSS key lies in bytes.
use Rattle.std.specs.Prelude.{ℕ, List, ◌++◌, length, drop, Option, Some, None, ◌&&◌, nat_lt, nat_le, if◌then◌else◌}
use Rattle.lms_bytes.specs.Bytes.{u32str, str_to_u32, bytes_at}
use Rattle.lms_bytes.specs.PublicKey.{public_bytes, public_fault}
use Rattle.hss_levels.specs.declared.hss_key.HssKey.{HssKey}
use Rattle.hss_levels.specs.declared.faults.HssKeyFault.{HssKeyFault}
use Rattle.hss_levels.specs.declared.faults.HssKeyFault.TheVariants.{Short, Levels, Key}

-- u32str(L) || pub[0] (RFC 8554 section 6.1)
abbrev pub hss_key_bytes : HssKey → List ℕ
hss_key_bytes key = u32str key.levels ++ public_bytes key.top

-- the first test that bytes fail as an HSS key, or none
unfoldable pub hss_key_fault : List ℕ → Option HssKeyFault
hss_key_fault bytes =
    let levels = str_to_u32 (bytes_at bytes 0 4) in
    if nat_lt (length bytes) 4 then Some Short else
    if nat_le 1 levels && nat_le levels 8 then
    elim (public_fault (drop 4 bytes)) [ None ↦ None | Some fault ↦ Some (Key fault) ]
    else Some (Levels levels)
