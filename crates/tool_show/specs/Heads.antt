-- What a file of slots is. Only contracts inside the crate speak of it.
use Rattle.std.specs.Prelude.{◌≡◌, ℕ, List, Some}
use Rattle.slot_file.specs.Layout.{header_in}
use Rattle.tool_show.specs.SlotKinds.{slot_count, slot_kind}
use Rattle.tool_show.specs.declared.kind.Head.{Head}

-- the kind, the header and the number of slots of the file
pub record IsHead (bytes : List ℕ) (head : Head) : Type 0 where
  pub kind : slot_kind bytes ≡ Some head.kind
  pub header : head.header ≡ header_in bytes
  pub count : head.count ≡ slot_count head.kind bytes
