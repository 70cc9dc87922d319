-- The lines that say what a file of slots holds: one of the whole file, and one for each slot that is not free.
use Rattle.std.specs.Prelude.{◌≡◌, ◌+◌, ℕ, Bool, true, false, List, [], ◌++◌, length, slice_index, slice_index_or}
use Rattle.std.specs.Prelude.{count_by, fold, if◌then◌else◌, max, ◌==◌, Option, None, Some, codes}
use Rattle.std.specs.Fmt.{decimal}
use Rattle.hex.specs.Hex.{encode_lower}
use Rattle.lms_bytes.specs.MessageId.{message_id_of}
use Rattle.slot_file.specs.Copies.{taken_count}
use Rattle.slot_file.specs.declared.header.Header.{Header}
use Rattle.slot_file.specs.declared.slot.Slot.{Slot}
use Rattle.slot_file.specs.declared.slot.Slot.TheVariants.{Free, Half, Full, Damaged}
use Rattle.tool_base.specs.Ending.{end_of_line}
use Rattle.tool_show.specs.Lines.{key_words}
use Rattle.tool_show.specs.Moments.{IsMomentWord}
use Rattle.tool_show.specs.declared.kind.SlotKind.{SlotKind}
use Rattle.tool_show.specs.declared.kind.SlotKind.TheVariants.{Journal, OldJournal, Table, Book}

-- gate A alone is open: bound and not opened, or leased and not burnt
abbrev pub is_half : Slot → Bool
is_half Free = false
is_half (Half a) = true
is_half (Full a b moment) = false
is_half (Damaged a b) = false

-- both gates are open: opened, or burnt
abbrev pub is_full : Slot → Bool
is_full Free = false
is_full (Half a) = false
is_full (Full a b moment) = true
is_full (Damaged a b) = false

-- a moment that is known: a journal that was migrated has zero where it knows none
abbrev pub known : ℕ → Option ℕ
known moment = if moment == 0 then None else Some moment

-- the moment of an opening, which a journal of version 2 alone keeps
abbrev pub full_moment : Slot → Option ℕ
full_moment Free = None
full_moment (Half a) = None
full_moment (Full a b moment) = known moment
full_moment (Damaged a b) = None

abbrev pub slot_moment : SlotKind → Slot → Option ℕ
slot_moment Journal slot = full_moment slot
slot_moment OldJournal slot = None
slot_moment Table slot = None
slot_moment Book slot = None

-- the greater of two moments
abbrev pub later : Option ℕ → Option ℕ → Option ℕ
later None other = other
later (Some moment) None = Some moment
later (Some moment) (Some other) = Some (max moment other)

-- the greatest moment of the slots
abbrev pub last_moment : SlotKind → List Slot → Option ℕ
last_moment kind slots = fold (λ last slot. later last (slot_moment kind slot)) None slots

-- the words about the leaves of a journal, with the word of its last moment
abbrev pub opened_words : List Slot → List ℕ → List ℕ
opened_words slots last =
    codes " leaves " ++ (decimal (length slots)
    ++ (codes " bound " ++ (decimal (count_by is_half slots)
    ++ (codes " opened " ++ (decimal (count_by is_full slots) ++ (codes " last " ++ last))))))

-- the line of a journal
abbrev pub journal_line : Header → List Slot → List ℕ → List ℕ
journal_line header slots last =
    codes "journal member " ++ (decimal header.number
    ++ (codes " version " ++ (decimal header.version
    ++ (key_words header.lms header.ots header.id ++ (opened_words slots last ++ end_of_line)))))

-- the line of a leaf table
abbrev pub table_line : Header → List Slot → List ℕ
table_line header slots =
    codes "table" ++ (key_words header.lms header.ots header.id
    ++ (codes " leaves " ++ (decimal (length slots)
    ++ (codes " leased " ++ (decimal (count_by is_half slots)
    ++ (codes " burnt " ++ (decimal (count_by is_full slots) ++ end_of_line)))))))

-- the line of a book
abbrev pub book_line : Header → List Slot → List ℕ
book_line header slots =
    codes "book member " ++ (decimal header.number
    ++ (key_words header.lms header.ots header.id
    ++ (codes " slots 1024 listed " ++ (decimal (taken_count slots) ++ end_of_line))))

-- the line of a file, with the word of its last moment
abbrev pub file_line : SlotKind → Header → List Slot → List ℕ → List ℕ
file_line Journal header slots last = journal_line header slots last
file_line OldJournal header slots last = journal_line header slots last
file_line Table header slots last = table_line header slots
file_line Book header slots last = book_line header slots

-- a message's id, which lies in body A: its length, a colon, and its SHA-256 in hex
abbrev pub id_words : List ℕ → List ℕ
id_words body = decimal (message_id_of body).length ++ (codes ":" ++ encode_lower (message_id_of body).hash)

-- the line of a leaf in a journal, with the word of its moment, or nothing if it is free
abbrev pub journal_slot_line : ℕ → Slot → List ℕ → List ℕ
journal_slot_line leaf Free moment = []
journal_slot_line leaf (Half a) moment =
    codes "leaf " ++ (decimal leaf ++ (codes " bound " ++ (id_words a ++ end_of_line)))
journal_slot_line leaf (Full a b opened) moment =
    codes "leaf " ++ (decimal leaf
    ++ (codes " opened " ++ (id_words a ++ (codes " " ++ (moment ++ end_of_line)))))
journal_slot_line leaf (Damaged a b) moment = []

-- the line of a leaf in a leaf table: byte 36 of body B is the member that reported it as spent
abbrev pub table_slot_line : ℕ → Slot → List ℕ
table_slot_line leaf Free = []
table_slot_line leaf (Half a) =
    codes "leaf " ++ (decimal leaf ++ (codes " leased " ++ (id_words a ++ end_of_line)))
table_slot_line leaf (Full a b moment) =
    codes "leaf " ++ (decimal leaf
    ++ (codes " burnt " ++ (id_words a ++ (codes " by " ++ (decimal (slice_index b 36) ++ end_of_line)))))
table_slot_line leaf (Damaged a b) = []

-- the line of a slot in a book, which lists the message of its body A
abbrev pub book_slot_line : ℕ → Slot → List ℕ
book_slot_line slot Free = []
book_slot_line slot (Half a) = codes "slot " ++ (decimal slot ++ (codes " " ++ (id_words a ++ end_of_line)))
book_slot_line slot (Full a b moment) =
    codes "slot " ++ (decimal slot ++ (codes " " ++ (id_words a ++ end_of_line)))
book_slot_line slot (Damaged a b) = []

-- the line of a slot, with the word of its moment
abbrev pub slot_line : SlotKind → ℕ → Slot → List ℕ → List ℕ
slot_line Journal place slot moment = journal_slot_line place slot moment
slot_line OldJournal place slot moment = journal_slot_line place slot moment
slot_line Table place slot moment = table_slot_line place slot
slot_line Book place slot moment = book_slot_line place slot

-- a file's line
abbrev pub IsFileLine : SlotKind → Header → List Slot → List ℕ → Type 0
IsFileLine kind header slots line =
    (last : List ℕ) × IsMomentWord (last_moment kind slots) last × (line ≡ file_line kind header slots last)

-- a slot's line
abbrev pub IsSlotLine : SlotKind → ℕ → Slot → List ℕ → Type 0
IsSlotLine kind place slot line =
    (word : List ℕ) × IsMomentWord (slot_moment kind slot) word × (line ≡ slot_line kind place slot word)

-- the lines of this many of the first slots, in ascending order
pub data AreSlotLines (kind : SlotKind) (slots : List Slot) : ℕ → List ℕ → Type 0 where
  none : AreSlotLines kind slots 0 []
  more : (place : ℕ) (lines line : List ℕ) → AreSlotLines kind slots place lines
      → IsSlotLine kind place (slice_index_or slots place Free) line
      → AreSlotLines kind slots (place + 1) (lines ++ line)

-- the lines after the first: those of all slots, or none if they are not wanted
abbrev pub AreFurtherLines : Bool → SlotKind → List Slot → List ℕ → Type 0
AreFurtherLines true kind slots lines = AreSlotLines kind slots (length slots) lines
AreFurtherLines false kind slots lines = lines ≡ []

-- all lines: that of the file, and those after it
pub record AreLines (kind : SlotKind) (header : Header) (slots : List Slot) (leaves : Bool) (text : List ℕ)
    : Type 0 where
  pub first : List ℕ
  pub further : List ℕ
  pub first_is : IsFileLine kind header slots first
  pub further_are : AreFurtherLines leaves kind slots further
  pub text_is : text ≡ first ++ further
