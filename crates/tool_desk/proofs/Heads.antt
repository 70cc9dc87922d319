-- The head of a reference that is read on its own.
use Rattle.std.proofs.Common.{◌≡◌, ◌<◌, ◌≤◌, ◌∙◌, ℕ, List, ◌++◌, length, take, drop, Some, None, Result, Ok, Err, refl, sym, ap, subst, arith}
use Rattle.std.proofs.lemmas.Bool.{le-ltb, lt-ltb}
use Rattle.std.proofs.lemmas.List.{length-drop, take-append-drop}
use Rattle.disk_trait.specs.Faults.{Rose}
use Rattle.share_files.specs.Head.{short_fault}
use Rattle.share_files.specs.Reference.{reference_fault, reference_head, reference_head_fault, reference_length}
use Rattle.share_files.specs.Sets.{CanBeDealt}
use Rattle.share_files.specs.declared.faults.FileFault.{FileFault}
use Rattle.share_files.specs.declared.faults.FileFault.TheVariants.{Length}
use Rattle.share_files.specs.declared.reference.RefHeader.{RefHeader}
use Rattle.share_files.proofs.FirstFault.{first_fault-failed, first_fault-passed}
use Rattle.stream_io.specs.Store.{RisesWhere}
use Rattle.tool_base.proofs.Fronts.{layout-by-head, refused-by-head}
use Rattle.tool_desk.specs.Reference.{IsNoReference, IsReferenceOf}
use Rattle.tool_desk.specs.declared.reference.HeadFault.{HeadFault}
use Rattle.tool_desk.specs.declared.reference.HeadFault.TheVariants.{File, Device}

-- a file that is shorter than its head
pub too_short : (bytes : List ℕ) (n : ℕ) → n ≡ length bytes → n < 32 → IsNoReference (Length n 32) bytes
unfolding reference_fault
too_short bytes n is short =
    let test : short_fault 32 bytes ≡ Some (Length n 32) = rw (is, lt-ltb (length bytes) 32 (rw is at short)) refl in
    record { fault_is = first_fault-failed _ _ _ test }

-- a head that is refused in a file of this length
pub head_refused : (bytes head : List ℕ) (n : ℕ) (fault : FileFault) → n ≡ length bytes → 32 ≤ n → head ≡ take 32 bytes
    → reference_head_fault head n ≡ Some fault → IsNoReference fault bytes
head_refused bytes head n fault is long front refused = record { fault_is = refused-by-head bytes head n fault is long front refused }

-- a head that is read in a file of this length
pub head_read : (bytes head : List ℕ) (n : ℕ) (header : RefHeader) → n ≡ length bytes → head ≡ take 32 bytes
    → head ≡ reference_head header → n ≡ reference_length header → CanBeDealt header.params → IsReferenceOf header bytes
head_read bytes head n header is front parts size dealt = record {
  leaves = drop 32 bytes;
  layout = layout-by-head bytes head n header is front parts size dealt;
}

-- ---- what becomes of the count of faults the answer if a call of the pages failed
abbrev failed : Result RefHeader HeadFault
failed = Err Device

pub file_other : (fault : FileFault) → Err (File fault) ≡ failed → ⊥
file_other fault is = cc

pub header_other : (header : RefHeader) → Ok header ≡ failed → ⊥
header_other header is = cc

pub quiet : {Fails : Type 0} {old new : ℕ} → new ≡ old → (Fails → ⊥) → RisesWhere Fails old new
quiet is never = record { later = omega (arith, is); rose = λ fails. absurd (never fails); same = λ no. is }

pub loud : {Fails : Type 0} {old new : ℕ} → Fails → old ≤ new → Rose old new → RisesWhere Fails old new
loud fails later rose = record { later = later; rose = λ yes. rose; same = λ never. absurd (never fails) }

-- the call before it did not fail
pub loud_behind : {Fails : Type 0} {old mid new : ℕ} → Fails → mid ≡ old → mid ≤ new → Rose mid new → RisesWhere Fails old new
loud_behind {Fails} {old} {mid} {new} fails is later rose = loud fails (omega (arith, is, later)) (subst (λ (n : ℕ). Rose n new) is rose)
