-- The leaf that a search finds.
use Rattle.std.proofs.Common.{◌≡◌, ◌≢◌, ℕ, List, refl, sym, ap, ◌∙◌, inl, inr}
use Rattle.leaf_table.specs.Entries.{LeafUse, IsBurnt, IsFree, IsLeased}
use Rattle.leaf_table.specs.Leasing.{WasLeasedFor}
use Rattle.leaf_table.specs.Slots.{use_of_slot}
use Rattle.slot_file.specs.declared.slot.Slot.{Slot}
use Rattle.slot_file.specs.declared.slot.Slot.TheVariants.{Free, Half, Full, Damaged}

pub free-use : (x : Slot) → use_of_slot x ≡ IsFree → x ≡ Free
free-use Free is = refl
free-use (Half a) is = absurd (cc)
free-use (Full a b moment) is = absurd (cc)
free-use (Damaged a b) is = absurd (cc)

pub leased-use : (x : Slot) (message : List ℕ) → use_of_slot x ≡ IsLeased message → x ≡ Half message
leased-use Free message is = absurd (cc)
leased-use (Half a) message is = let same : a ≡ message = cc in ap Half same
leased-use (Full a b moment) message is = absurd (cc)
leased-use (Damaged a b) message is = absurd (cc)

-- the slot of a leaf that was leased or burnt
pub half-of : (x : Slot) (a message : List ℕ) (kept : LeafUse) → x ≡ Half a → use_of_slot x ≡ kept → WasLeasedFor message kept → kept ≡ IsLeased message
half-of x a message kept half same (inl is) = is
half-of x a message kept half same (inr burnt) = let no : IsLeased a ≡ IsBurnt = ap use_of_slot (sym half) ∙ (same ∙ burnt) in absurd (cc)

pub burnt-of : (x : Slot) (message : List ℕ) (kept : LeafUse) → ((a : List ℕ) → x ≢ Half a) → use_of_slot x ≡ kept → WasLeasedFor message kept → kept ≡ IsBurnt
burnt-of x message kept other same (inl is) = absurd (other message (leased-use x message (same ∙ is)))
burnt-of x message kept other same (inr burnt) = burnt
