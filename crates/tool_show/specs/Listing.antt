-- What listing the slots of a file gives.
use Rattle.std.specs.Prelude.{◌≡◌, ℕ, Bool, List, None, Some}
use Rattle.slot_file.specs.Layout.{header_in}
use Rattle.tool_show.specs.SlotKinds.{Loads, LoadsNot, slot_kind, slots_of}
use Rattle.tool_show.specs.SlotLines.{AreLines}
use Rattle.tool_show.specs.declared.kind.SlotKind.{SlotKind}
use Rattle.tool_show.specs.declared.listing.ListingFault.{ListingFault}
use Rattle.tool_show.specs.declared.listing.ListingFault.TheVariants.{NotASlotFile, NotLoaded, NoMemory}

-- the bytes are a file of slots that loads, and the text is its lines
pub record IsListing (bytes : List ℕ) (leaves : Bool) (text : List ℕ) : Type 0 where
  pub kind : SlotKind
  pub kind_is : slot_kind bytes ≡ Some kind
  pub loads : Loads kind bytes
  pub lines : AreLines kind (header_in bytes) (slots_of kind bytes) leaves text

-- the bytes are a file of slots that does not load, by this fault
pub record IsNotLoaded (bytes : List ℕ) (fault : ℕ) : Type 0 where
  pub kind : SlotKind
  pub kind_is : slot_kind bytes ≡ Some kind
  pub fails : LoadsNot kind bytes fault

-- why bytes are not listed
abbrev pub IsNotListed : List ℕ → ListingFault → Type 0
IsNotListed bytes NotASlotFile = slot_kind bytes ≡ None
IsNotListed bytes (NotLoaded fault) = IsNotLoaded bytes fault
IsNotListed bytes NoMemory = Unit {0}
