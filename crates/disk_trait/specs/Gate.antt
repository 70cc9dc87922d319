-- A file that is being made: its first byte is a gate, which is shut until all else is stable.
use Rattle.std.specs.Prelude.{◌≡◌, ◌≢◌, ◌⊎◌, ◌<◌, ℕ, List, drop, length, slice_index, IsTrue}
use Rattle.disk_trait.specs.Images.{Torn}
use Rattle.disk_trait.specs.declared.disk.Pages as pages

-- the gate is shut
abbrev pub IsShut : List ℕ → Type 0
IsShut file = slice_index file 0 ≡ 0

-- a file that does not open: it is shorter than its head, or has another byte than that of an open gate
abbrev pub IsUnready : ℕ → ℕ → List ℕ → Type 0
IsUnready gate head file = (length file < head) ⊎ (slice_index file 0 ≢ gate)

-- each image has all of a file except its first byte
abbrev pub AllBut : List ℕ → (List ℕ → Type 0) → Type 0
AllBut file images = (image : List ℕ) → images image → Torn 0 1 file image

module _ {D : Type 0} (p : pages.Ghosts D) where
  -- a shut gate stays shut, in what a read gives and in each image
  pub record StaysShut (old new : D) : Type 0 where
    pub reads : IsTrue (p.told old) → IsShut (p.reads old) → IsShut (p.reads new)
    pub images : IsTrue (p.honest old) → ((image : List ℕ) → p.may_leave old image → IsShut image)
        → (image : List ℕ) → p.may_leave new image → IsShut image

  -- A gate is opened last. A crash leaves what it could leave before, or the file with any gate; a read shows another
  -- gate only if all else is stable.
  pub record OpensLast (old new : D) : Type 0 where
    pub images : IsTrue (p.told old) → IsTrue (p.honest old) → (image : List ℕ) → p.may_leave new image
        → p.may_leave old image ⊎ Torn 0 1 (p.reads old) image
    pub shows : IsTrue (p.told old) → IsTrue (p.honest old)
        → (p.reads new ≡ p.reads old) ⊎ AllBut (p.reads old) (p.may_leave new)

  -- with this byte for an open gate, and a head of this length
  module _ (gate head : ℕ) where
    -- neither a read nor a crash shows a file that opens
    pub record AreUnready (old new : D) : Type 0 where
      pub reads : IsTrue (p.told old) → IsUnready gate head (p.reads new)
      pub images : IsTrue (p.told old) → IsTrue (p.honest old) → (image : List ℕ) → p.may_leave new image
          → IsUnready gate head image

    -- A crash leaves what doesn't open, or a whole file. A read shows an open gate only if all else is stable.
    pub record NeverHalf (whole : List ℕ → Type 0) (old new : D) : Type 0 where
      pub images : IsTrue (p.told old) → IsTrue (p.honest old) → (image : List ℕ) → p.may_leave new image
          → IsUnready gate head image ⊎ whole image
      pub shows : IsTrue (p.told old) → IsTrue (p.honest old) → IsUnready gate head (p.reads new)
          ⊎ ((file : List ℕ) × whole file × ((image : List ℕ) → p.may_leave new image → drop 1 image ≡ drop 1 file))
