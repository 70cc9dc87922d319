-- This project's profile: frames, and what a string of bytes says to a reader of frames. A frame is the magic
-- 54 4C 01, a byte of kind, the length of the payload as u32str, and the payload.
use Rattle.std.specs.Prelude.{◌≡◌, ◌+◌, ◌==◌, ℕ, List, [], ◌∷◌, ◌++◌, length, take, drop, min, slice_index, Bool}
use Rattle.std.specs.Prelude.{nat_lt, Option, Some, None, Result, Ok, Err, if◌then◌else◌}
use Rattle.lms_bytes.specs.Bytes.{bytes_at, str_to_u32, u32str}
use Rattle.round_frames.specs.declared.fault.FrameFault.{FrameFault}
use Rattle.round_frames.specs.declared.fault.FrameFault.TheVariants.{End, Cut, Magic, Kind, TooLong, Shape}
use Rattle.round_frames.specs.declared.header.Header.{Header}

-- 54 4C 01
abbrev pub magic : List ℕ
magic = 84 ∷ 76 ∷ 1 ∷ []

-- the longest message, in bytes
abbrev pub limit : ℕ
limit = 16777216

-- how a frame of this kind begins, with the length of its payload
abbrev pub header_bytes : ℕ → ℕ → List ℕ
header_bytes kind size = magic ++ kind ∷ u32str size

-- a frame of this kind with this payload
abbrev pub frame : ℕ → List ℕ → List ℕ
frame kind payload = header_bytes kind (length payload) ++ payload

-- A reader: the kinds that it reads, the greatest length that it reads, whether a length is one of its kind's, and what
-- the payload of such a frame is.
pub record Reader (V : Type 0) : Type 0 where
  pub reads : ℕ → Bool
  pub most : ℕ
  pub has_length : Header → Bool
  pub value : Header → List ℕ → Result V FrameFault

-- what bytes say, and how many of them say it
pub record Says (V : Type 0) : Type 0 where
  pub result : Result V FrameFault
  pub size : ℕ

-- the first fault of a list of tests, or none
abbrev pub first_fault : List (Option FrameFault) → Option FrameFault
first_fault [] = None
first_fault (None ∷ tests) = first_fault tests
first_fault (Some fault ∷ tests) = Some fault

-- the first byte that is not that of these bytes, or the end before that
abbrev pub disagrees : List ℕ → List ℕ → Option FrameFault
disagrees [] bytes = None
disagrees (m ∷ want) [] = Some Cut
disagrees (m ∷ want) (b ∷ bytes) = if b == m then disagrees want bytes else Some Magic

-- test 1: no byte is there; test 2: a byte that is not the magic's, or the end within it
abbrev pub magic_fault : List ℕ → Option FrameFault
magic_fault [] = Some End
magic_fault (b ∷ bytes) = disagrees magic (b ∷ bytes)

-- the header in eight bytes, or in as many as there are; test 3: the end within it
unfoldable pub header_in : List ℕ → Result Header FrameFault
header_in bytes = elim (magic_fault bytes) [
  | Some fault ↦ Err fault
  | None ↦
      if nat_lt (length bytes) 8 then Err Cut else
      Ok (record { kind = slice_index bytes 3; length = str_to_u32 (bytes_at bytes 4 4) })
]

-- test 4: the reader does not read this kind; test 5: the length is too great; test 6: it is none of the kind's
unfoldable pub header_fault : {V : Type 0} → Reader V → Header → Option FrameFault
header_fault reader header =
    first_fault (
    (if reader.reads header.kind then None else Some (Kind header.kind))
    ∷ (if nat_lt reader.most header.length then Some (TooLong header.length) else None)
    ∷ (if reader.has_length header then None else Some Shape) ∷ [])

-- test 7, the end within bytes of this size, and then what they are
abbrev pub whole : {V : Type 0} → ℕ → (List ℕ → Result V FrameFault) → List ℕ → Says V
whole size value bytes =
    if nat_lt (length bytes) size then record { result = Err Cut; size = length bytes } else
    record { result = value (take size bytes); size = size }

-- what follows a header: nothing more is needed if one of its tests fails
abbrev pub after_tests : {V : Type 0} → Reader V → Header → List ℕ → Option FrameFault → Says V
after_tests reader header bytes (Some fault) = record { result = Err fault; size = 0 }
after_tests reader header bytes None = whole header.length (reader.value header) bytes

unfoldable pub payload_in : {V : Type 0} → Reader V → Header → List ℕ → Says V
payload_in reader header bytes = after_tests reader header bytes (header_fault reader header)

-- the same, said of `k` more bytes
abbrev pub behind : {V : Type 0} → ℕ → Says V → Says V
behind k says = record { result = says.result; size = k + says.size }

abbrev pub after_header : {V : Type 0} → Reader V → List ℕ → Result Header FrameFault → Says V
after_header reader bytes (Err fault) = record { result = Err fault; size = min 8 (length bytes) }
after_header reader bytes (Ok header) = behind 8 (payload_in reader header (drop 8 bytes))

-- The first frame of a string, or its first fault: eight bytes are the header, or as many as there are.
unfoldable pub frame_of : {V : Type 0} → Reader V → List ℕ → Says V
frame_of reader bytes = after_header reader bytes (header_in (take 8 bytes))

-- the reader reads this value of these bytes and of no more, whatever follows them
abbrev pub ReadsBack : {V : Type 0} → Reader V → List ℕ → V → Type 0
ReadsBack reader bytes value =
    (rest : List ℕ) → frame_of reader (bytes ++ rest) ≡ record { result = Ok value; size = length bytes }
