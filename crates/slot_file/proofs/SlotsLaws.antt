-- What holds of each open file of slots.
use Rattle.std.specs.Prelude.{◌≡◌, List, ℕ, None}
use Rattle.disk_trait.specs.declared.disk.Pages as pages
use Rattle.disk_trait.specs.declared.faults.Faults as faults
use Rattle.slot_file.specs.declared.slots.Slots.{Slots}
use Rattle.slot_file.specs.Doubts.{IsSure}
use Rattle.slot_file.specs.Layout.{load_fault}
use Rattle.slot_file.specs.Slots.{header_of, count_of, doubt_of, file_of, IsTold, IsHonest, IsStable, MayLeave}

module _ {D : Type 0} {p : pages.Ghosts D} {f : faults.Ghosts D} (slots : Slots D p f) where
  -- it opens again
  pub opens : IsTold slots → load_fault (header_of slots) (count_of slots) (file_of slots) ≡ None
  opens told = (slots.whole told).opens

  -- and so does all that a crash may leave of it
  pub images_open : IsTold slots → IsHonest slots → (image : List ℕ) → MayLeave slots image
      → load_fault (header_of slots) (count_of slots) image ≡ None
  images_open told honest image leaves = (slots.images_whole told honest image leaves).opens

  -- a crash leaves what a read gives, unless a put was refused since the last settle
  pub stable_where_sure : IsSure (doubt_of slots) → IsStable slots
  stable_where_sure sure told honest = slots.stable sure told honest
