-- What a cache shows if no put is in doubt.
use Rattle.std.proofs.Common.{◌≡◌, ℕ, List, Option, None, refl, sym, subst}
use Rattle.disk_trait.specs.declared.disk.Pages as pages
use Rattle.disk_trait.specs.declared.faults.Faults as faults
use Rattle.slot_file.specs.Inside.{IsDoubt, Shows}
use Rattle.slot_file.specs.State.{HasSlots}
use Rattle.slot_file.specs.declared.doubted.Doubted.{Doubted}
use Rattle.slot_file.specs.Doubts.{IsSure}
use Rattle.slot_file.specs.Slots.{IsHonest, IsTold, MayLeave, doubt_of, file_of, header_of}
use Rattle.slot_file.proofs.SlotsLaws.{stable_where_sure}
use Rattle.slot_file.specs.declared.header.Header.{Header}
use Rattle.slot_file.specs.declared.slot.Slot.{Slot}
use Rattle.slot_file.specs.declared.slots.Doubt.{Doubt}
use Rattle.slot_file.specs.declared.slots.Doubt.TheVariants.{Nowhere}
use Rattle.slot_file.specs.declared.slots.Slots.{Slots}
use Rattle.slot_file.proofs.Files.{all-shown, doubt-none, renamed}

pub doubt-sure : (count : ℕ) (doubt : Doubt) (put : Option Doubted) → put ≡ None → doubt ≡ Nowhere → IsDoubt count doubt put
doubt-sure count doubt put none nowhere = subst (IsDoubt count doubt) (sym none) (doubt-none count doubt nowhere)

-- the slots now, and the header that they have
module _ {D : Type 0} {p : pages.Ghosts D} {f : faults.Ghosts D} (slots : Slots D p f) (header : Header) (names : header_of slots ≡ header) (list : List Slot) (put : Option Doubted) (none : put ≡ None) (has : IsTold slots → HasSlots header list (file_of slots)) where
  shows-file : (file : List ℕ) → file ≡ file_of slots → IsTold slots → Shows (header_of slots) list put file
  shows-file file same told =
      renamed (header_of slots) header list put file names
      (subst (λ (d : Option Doubted). Shows header list d file) (sym none)
      (all-shown header list file (subst (λ (l : List ℕ). HasSlots header list l) (sym same) (has told))))

  pub reads-sure : IsTold slots → Shows (header_of slots) list put (file_of slots)
  reads-sure told = shows-file (file_of slots) refl told

  pub images-sure : doubt_of slots ≡ Nowhere → IsTold slots → IsHonest slots → (image : List ℕ) → MayLeave slots image → Shows (header_of slots) list put image
  images-sure nowhere told honest image leaves = shows-file image (stable_where_sure slots (subst IsSure (sym nowhere) tt) told honest image leaves) told
