-- The test of the typecodes.
use Rattle.std.proofs.Common.{◌≡◌, ℕ, false, Some, ◌==◌, ◌&&◌, ◌||◌, nat_lt, nat_le, if◌then◌else◌, refl}
use Rattle.lms_bytes.specs.Params.{codes_fault}
use Rattle.lms_bytes.specs.declared.faults.KeyFault.{KeyFault}
use Rattle.lms_bytes.specs.declared.params.Params.{Params}
use Rattle.lms_bytes.proofs.Layouts.{codes_accepted}
use Rattle.share_files.specs.Sets.{can_be_dealt, chain_count, height_of, is_small, node_length, version_of, width_of}

pub height_of-lms : (params : Params) → height_of params.lms ≡ params.h
height_of-lms params = rw (params.lms_is, height_of) refl

pub node_length-lms : (params : Params) → node_length params.lms ≡ params.n
node_length-lms params = rw (params.lms_is, node_length) refl

pub width_of-ots : (params : Params) → width_of params.ots ≡ params.w
width_of-ots params = rw (params.ots_is, width_of) refl

pub chain_count-ots : (params : Params) → chain_count params.ots ≡ params.p
chain_count-ots params = rw (params.ots_is, chain_count) refl

-- the tests at a parameter set
pub can_be_dealt-codes : (params : Params) → can_be_dealt params.lms params.ots ≡ nat_le params.h 20
unfolding can_be_dealt
can_be_dealt-codes params = rw (codes_accepted params, height_of-lms params) refl

pub version_of-codes : (params : Params) → version_of params.lms params.ots ≡ (if (nat_lt params.h 10 || (params.h == 10 && nat_lt params.w 8)) then 1 else 2)
unfolding version_of is_small
version_of-codes params = rw (height_of-lms params, width_of-ots params) refl

-- the test at typecodes that are no parameter set
pub can_be_dealt-refused : (lms ots : ℕ) (fault : KeyFault) → codes_fault lms ots ≡ Some fault → can_be_dealt lms ots ≡ false
unfolding can_be_dealt
can_be_dealt-refused lms ots fault e = rw e refl
