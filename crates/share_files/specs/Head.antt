-- The heads of the files of a dealing, and the tests of their readers.
use Rattle.std.specs.Prelude.{ℕ, ◌^◌, List, [], ◌∷◌, ◌++◌, length, slice_index, Bool, Option, Some, None}
use Rattle.std.specs.Prelude.{◌==◌, ◌&&◌, ◌||◌}
use Rattle.std.specs.Prelude.{nat_lt, nat_le, if◌then◌else◌}
use Rattle.std.specs.Str.{bytes_eq}
use Rattle.lms_bytes.specs.Bytes.{u32str, str_to_u32, bytes_at}
use Rattle.lms_bytes.specs.declared.params.Params.{Params}
use Rattle.coalition_map.specs.Coalitions.{PlanNumbers, count_of}
use Rattle.share_files.specs.Sets.{can_be_dealt, height_of, version_of}
use Rattle.share_files.specs.declared.faults.FileFault.{FileFault}
use Rattle.share_files.specs.declared.faults.FileFault.TheVariants.{Magic, Version, Code, Plan, Length, Number}

-- this project's profile: the magic, the version of the set, three bytes of the file's own, the typecodes and I
abbrev pub head_bytes : List ℕ → List ℕ → Params → List ℕ → List ℕ
head_bytes magic own params id =
    magic ++ version_of params.lms params.ots ∷ own ++ u32str params.lms ++ u32str params.ots ++ id

-- the first of these tests that fails, or none
unfoldable pub first_fault : List (Option FileFault) → Option FileFault
first_fault [] = None
first_fault (None ∷ tests) = first_fault tests
first_fault (Some fault ∷ tests) = Some fault

-- shorter than the head
abbrev pub short_fault : ℕ → List ℕ → Option FileFault
short_fault want bytes = if nat_lt (length bytes) want then Some (Length (length bytes) want) else None

abbrev pub magic_fault : List ℕ → List ℕ → Option FileFault
magic_fault magic bytes = if bytes_eq (bytes_at bytes 0 4) magic then None else Some Magic

-- the typecodes in a head
abbrev pub lms_at : List ℕ → ℕ
lms_at bytes = str_to_u32 (bytes_at bytes 8 4)

abbrev pub ots_at : List ℕ → ℕ
ots_at bytes = str_to_u32 (bytes_at bytes 12 4)

-- the typecodes in a head can be dealt, and byte 4 is the version of their files
unfoldable pub has_version : List ℕ → Bool
has_version bytes =
    can_be_dealt (lms_at bytes) (ots_at bytes) && version_of (lms_at bytes) (ots_at bytes) == slice_index bytes 4

-- a version other than 1 that is not that of the typecodes
abbrev pub version_fault : List ℕ → Option FileFault
version_fault bytes =
    if slice_index bytes 4 == 1 || has_version bytes then None else Some (Version (slice_index bytes 4))

abbrev pub code_fault : List ℕ → Option FileFault
code_fault bytes = if has_version bytes then None else Some (Code (lms_at bytes) (ots_at bytes))

-- this project's profile: the thresholds that can be dealt, with no more coalitions than leaves
unfoldable pub is_plan : PlanNumbers → Bool
is_plan p = nat_le 2 p.k && nat_le p.k p.n && nat_le p.n 12 && nat_le (count_of p) (2 ^ p.h)

-- the plan of a head: byte 6 is k and byte 7 is n
abbrev pub plan_at : List ℕ → PlanNumbers
plan_at bytes = record { n = slice_index bytes 7; k = slice_index bytes 6; h = height_of (lms_at bytes) }

abbrev pub plan_fault : List ℕ → Option FileFault
plan_fault bytes = if is_plan (plan_at bytes) then None else Some Plan

-- a byte that must be zero
abbrev pub zero_fault : ℕ → List ℕ → Option FileFault
zero_fault place bytes = if slice_index bytes place == 0 then None else Some (Number (slice_index bytes place))

abbrev pub length_fault : ℕ → ℕ → Option FileFault
length_fault got want = if got == want then None else Some (Length got want)

-- the tests that are the same for every head
unfoldable pub head_fault : List ℕ → List ℕ → Option FileFault
head_fault magic bytes = first_fault (magic_fault magic bytes ∷ version_fault bytes ∷ code_fault bytes ∷ [])
