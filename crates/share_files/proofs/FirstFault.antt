-- The first of several tests that fails.
use Rattle.std.proofs.Common.{◌≡◌, List, [], ◌∷◌, Option, Some, None, refl}
use Rattle.share_files.specs.Head.{first_fault}
use Rattle.share_files.specs.declared.faults.FileFault.{FileFault}

pub first_fault-end : first_fault [] ≡ None
unfolding first_fault
first_fault-end = refl

pub first_fault-passed : (test : Option FileFault) (tests : List (Option FileFault)) → test ≡ None → first_fault (test ∷ tests) ≡ first_fault tests
unfolding first_fault
first_fault-passed test tests e = rw e refl

pub first_fault-failed : (test : Option FileFault) (tests : List (Option FileFault)) (fault : FileFault) → test ≡ Some fault → first_fault (test ∷ tests) ≡ Some fault
unfolding first_fault
first_fault-failed test tests fault e = rw e refl

-- no test fails, and yet one does
pub contradiction : {A : Type 0} (test : Option FileFault) (fault : FileFault) → test ≡ None → test ≡ Some fault → A
contradiction test fault passed failed = absurd (cc)
