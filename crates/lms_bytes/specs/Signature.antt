-- How an LMS signature lies in bytes.
use Rattle.std.specs.Prelude.{ℕ, ◌+◌, ◌*◌, ◌^◌, ◌<◌, ◌≡◌, ◌==◌, nat_lt, if◌then◌else◌}
use Rattle.std.specs.Prelude.{List, ◌++◌, length, Option, Some, None}
use Rattle.lms_bytes.specs.Bytes.{u32str, str_to_u32, bytes_at}
use Rattle.lms_bytes.specs.declared.params.Params.{Params}
use Rattle.lms_bytes.specs.declared.faults.SigFault.{SigFault}
use Rattle.lms_bytes.specs.declared.faults.SigFault.TheVariants.{Short, OtsCode, TooShort, LmsCode, Leaf, Length}

-- u32str(q) || u32str(otstype) || C || y || u32str(type) || path (RFC 8554 sections 4.5 and 5.4)
abbrev pub signature_bytes : Params → ℕ → List ℕ → List ℕ → List ℕ → List ℕ
signature_bytes params q c y path = u32str q ++ u32str params.ots ++ c ++ y ++ u32str params.lms ++ path

-- bytes are the signature with these parts, each of the set's length
pub record HasLayout (params : Params) (bytes : List ℕ) (q : ℕ) (c y path : List ℕ) : Type 0 where
  pub leaf : q < 2 ^ params.h
  pub c_length : length c ≡ params.n
  pub y_length : length y ≡ params.n * params.p
  pub path_length : length path ≡ params.n * params.h
  pub parts : bytes ≡ signature_bytes params q c y path

-- where the LMS typecode lies in a signature
abbrev pub tree_place : Params → ℕ
tree_place params = 8 + params.n * (params.p + 1)

-- how long a signature is
abbrev pub signature_length : Params → ℕ
signature_length params = 12 + params.n * (params.p + 1) + params.n * params.h

-- the first test of RFC 8554's Algorithm 6a, step 2, that bytes fail as a signature, or none
unfoldable pub signature_fault : Params → List ℕ → Option SigFault
signature_fault params bytes =
    let ots = str_to_u32 (bytes_at bytes 4 4) in
    let lms = str_to_u32 (bytes_at bytes (tree_place params) 4) in
    let q = str_to_u32 (bytes_at bytes 0 4) in
    if nat_lt (length bytes) 8 then Some Short else
    if ots == params.ots then (
    if nat_lt (length bytes) (12 + params.n * (params.p + 1)) then Some (TooShort (length bytes)) else
    if lms == params.lms then (
    if nat_lt q (2 ^ params.h) then (
    if length bytes == signature_length params then None else Some (Length (length bytes) (signature_length params))
    ) else Some (Leaf q)
    ) else Some (LmsCode lms)
    ) else Some (OtsCode ots)
