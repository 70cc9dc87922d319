-- Calls that write nothing, one after the other.
use Rattle.std.proofs.Common.{◌≡◌, ◌≤◌, ℕ, List, IsTrue, ◌∙◌}
use Rattle.disk_trait.proofs.SameDisk.{same-then}
use Rattle.disk_trait.specs.Disks.{SameKind}
use Rattle.disk_trait.specs.declared.disk.Pages as pages
use Rattle.disk_trait.specs.declared.faults.Faults as faults
use Rattle.slot_file.specs.Disks.{Unwritten}

module _ {D : Type 0} (p : pages.Ghosts D) (f : faults.Ghosts D) where
  pub unwritten-then : (old mid new : D) → Unwritten p f old mid → Unwritten p f mid new → Unwritten p f old new
  unwritten-then old mid new first then = record {
    same = λ told. then.same (first.stays.told ∙ told) ∙ first.same told;
    images = λ honest image leaves. first.images honest image (then.images (first.stays.honest ∙ honest) image leaves);
    stays = same-then p f old mid new first.stays then.stays;
  }

  -- a call of a disk that writes nothing
  pub unwritten-call : (old new : D) → SameKind p.told p.honest f.steady p.room old new → f.count old ≤ f.count new → (IsTrue (p.told old) → p.reads new ≡ p.reads old)
      → (IsTrue (p.honest old) → (image : List ℕ) → p.may_leave new image → p.may_leave old image) → Unwritten p f old new
  unwritten-call old new kind later same images = record {
    same = same;
    images = images;
    stays = record { told = kind.told; honest = kind.honest; steady = kind.steady; room = kind.room; count = later };
  }

  -- one such call more
  pub unwritten-next : {old mid new : D} → Unwritten p f old mid → SameKind p.told p.honest f.steady p.room mid new → f.count mid ≤ f.count new → (IsTrue (p.told mid) → p.reads new ≡ p.reads mid)
      → (IsTrue (p.honest mid) → (image : List ℕ) → p.may_leave new image → p.may_leave mid image) → Unwritten p f old new
  unwritten-next {old} {mid} {new} first kind later same images = unwritten-then old mid new first (unwritten-call mid new kind later same images)
