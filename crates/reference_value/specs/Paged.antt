-- References on pages.
use Rattle.std.specs.Prelude.{◌≡◌, ℕ, IsOk, IsTrue, Result, drop, length}
use Rattle.disk_trait.specs.Disks.{SameKind}
use Rattle.disk_trait.specs.Faults.{HasCause}
use Rattle.disk_trait.specs.declared.disk.Pages as pages
use Rattle.disk_trait.specs.declared.faults.Faults as faults
use Rattle.mask_prf.specs.Lengths.{leaves_length}
use Rattle.reference_value.specs.declared.layout.Layout.{Layout}
use Rattle.reference_value.specs.declared.paged.Paged.{Paged}

module _ {V : Type 0} {p : pages.Ghosts V} {f : faults.Ghosts V} where
  -- the pages that a reference is read from
  abbrev pub pages_of : Paged V p f → V
  pages_of cells = cells.pages

  -- internal: what says where its values lie
  abbrev pub layout_of : Paged V p f → Layout
  layout_of cells = cells.layout

  -- internal: where what the last read gave lies among the leaves, and how many bytes that is
  abbrev pub first_of : Paged V p f → ℕ
  first_of cells = cells.first

  abbrev pub count_of : Paged V p f → ℕ
  count_of cells = cells.count

  -- internal: Something was read of the leaves, or was refused: only if the count of faults rose, and over steady pages
  -- that are told only if these are not as long as all leaves. The pages stay as they are.
  pub record HasRead {T E : Type 0} (old new : Paged V p f) (result : Result T E) : Type 0 where
    pub succeeds : IsTrue (f.steady (pages_of old)) → IsTrue (p.told (pages_of old))
        → length (drop 32 (p.reads (pages_of old))) ≡ leaves_length (layout_of old).params (layout_of old).plan
        → IsOk result
    pub cause : HasCause (f.count (pages_of old)) (f.count (pages_of new)) result
    pub same : IsTrue (p.told (pages_of old)) → p.reads (pages_of new) ≡ p.reads (pages_of old)
    pub stays : SameKind p.told p.honest f.steady p.room (pages_of old) (pages_of new)
    pub layout : layout_of new ≡ layout_of old
