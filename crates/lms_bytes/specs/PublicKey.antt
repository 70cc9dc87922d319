-- How a public key lies in bytes.
use Rattle.std.specs.Prelude.{◌≡◌, ℕ, ◌+◌, List, ◌++◌, length, Option, Some, None, ◌==◌, nat_lt, if◌then◌else◌}
use Rattle.lms_bytes.specs.Bytes.{u32str, str_to_u32, bytes_at}
use Rattle.lms_bytes.specs.ParameterSets.{lms_row}
use Rattle.lms_bytes.specs.Params.{codes_fault}
use Rattle.lms_bytes.specs.declared.public_key.PublicKey.{PublicKey}
use Rattle.lms_bytes.specs.declared.faults.KeyFault.{KeyFault}
use Rattle.lms_bytes.specs.declared.faults.KeyFault.TheVariants.{Short, Length}

-- u32str(type) || u32str(otstype) || I || T[1] (RFC 8554 section 5.3)
abbrev pub public_bytes : PublicKey → List ℕ
public_bytes key = u32str key.params.lms ++ u32str key.params.ots ++ key.id ++ key.root

-- two keys have the same typecodes, identifier and root: everything else in them follows from the typecodes
pub record SameKey (a b : PublicKey) : Type 0 where
  pub lms : b.params.lms ≡ a.params.lms
  pub ots : b.params.ots ≡ a.params.ots
  pub id : b.id ≡ a.id
  pub root : b.root ≡ a.root

-- the length of a public key of this LMS typecode
abbrev pub public_length : ℕ → ℕ
public_length lms = elim (lms_row lms) [ None ↦ 0 | Some tree ↦ 24 + tree.m ]

-- the first test of RFC 8554's Algorithm 6, step 1 to 2, that bytes fail as a public key, or none
unfoldable pub public_fault : List ℕ → Option KeyFault
public_fault bytes =
    if nat_lt (length bytes) 8 then Some Short else
    elim (codes_fault (str_to_u32 (bytes_at bytes 0 4)) (str_to_u32 (bytes_at bytes 4 4))) [
      | Some fault ↦ Some fault
      | None ↦
          let want = public_length (str_to_u32 (bytes_at bytes 0 4)) in
          if length bytes == want then None else Some (Length (length bytes) want)
    ]
