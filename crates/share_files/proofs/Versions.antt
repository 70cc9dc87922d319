-- The version of the typecodes in a head.
use Rattle.std.proofs.Common.{◌≡◌, ℕ, Bool, true, false, ◌==◌, ◌&&◌, ◌||◌, nat_le, List, Some, None, refl}
use Rattle.std.specs.Prelude.{slice_index}
use Rattle.lms_bytes.specs.Params.{codes_fault}
use Rattle.lms_bytes.specs.declared.faults.KeyFault.{KeyFault}
use Rattle.lms_bytes.specs.declared.params.Params.{Params}
use Rattle.share_files.specs.Head.{code_fault, has_version, lms_at, ots_at, version_fault}
use Rattle.share_files.specs.Sets.{version_of}
use Rattle.share_files.proofs.Dealt.{can_be_dealt-codes, can_be_dealt-refused}

or-true : (b : Bool) → (b || true) ≡ true
or-true true = refl
or-true false = refl

pub version-passes : (bytes : List ℕ) → has_version bytes ≡ true → version_fault bytes ≡ None
version-passes bytes has = rw (has, or-true (slice_index bytes 4 == 1)) refl

pub code-passes : (bytes : List ℕ) → has_version bytes ≡ true → code_fault bytes ≡ None
code-passes bytes has = rw has refl

-- the test at a parameter set
pub has_version-codes : (bytes : List ℕ) (params : Params) → params.lms ≡ lms_at bytes → params.ots ≡ ots_at bytes
    → has_version bytes ≡ (nat_le params.h 20 && version_of params.lms params.ots == slice_index bytes 4)
unfolding has_version
has_version-codes bytes params lms ots = rw (← lms, ← ots, can_be_dealt-codes params) refl

-- the test at typecodes that are no parameter set
pub has_version-refused : (bytes : List ℕ) (lms ots : ℕ) (fault : KeyFault) → lms ≡ lms_at bytes → ots ≡ ots_at bytes
    → codes_fault lms ots ≡ Some fault → has_version bytes ≡ false
unfolding has_version
has_version-refused bytes lms ots fault l o refused = rw (← l, ← o, can_be_dealt-refused lms ots fault refused) refl
