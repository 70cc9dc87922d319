-- What ports in memory stand for.
use Rattle.std.specs.Prelude.{◌&&◌, ◌-◌, ◌^◌, ℕ, Bool, true, List, [], ◌∷◌, length, map, min, option_map, is_some}
use Rattle.std.specs.Prelude.{if◌then◌else◌, string_bytes, vec_capacity}
use Rattle.std.specs.List.{list_all, list_any}
use Rattle.std.specs.Str.{bytes_eq}
use Rattle.std.specs.declared.alloc.Global.{Global}
use Rattle.std.specs.declared.string.String.{String}
use Rattle.stream_memory.specs.Calls.{is_empty}
use Rattle.stream_memory.specs.Chain.{own}
use Rattle.stream_memory.specs.Links.{conversation_of, is_steady_link, talk_of}
use Rattle.stream_memory.specs.declared.kept_port.KeptPort.{KeptPort}
use Rattle.stream_memory.specs.declared.mem_link.MemLink.{MemLink}
use Rattle.stream_memory.specs.declared.mem_port.MemPort.{MemPort}
use Rattle.stream_memory.specs.declared.port_script.PortScript.{PortScript}
use Rattle.stream_io.specs.Net.{PortState}

-- a link that waits to be dialled at this place
abbrev pub is_at : List ℕ → String Global × MemLink → Bool
is_at place entry = bytes_eq (string_bytes entry.0) place

-- a link that waits to be accepted, or at a place, and is steady
abbrev pub is_steady_waiting : MemLink → Bool
is_steady_waiting link = is_steady_link (conversation_of link)

abbrev pub is_steady_entry : String Global × MemLink → Bool
is_steady_entry entry = is_steady_link (conversation_of entry.1)

-- these links are steady, those that wait to be accepted and those that wait to be dialled
abbrev pub are_steady : List MemLink → List (String Global × MemLink) → Bool
are_steady waiting dialled =
    list_all is_steady_waiting waiting && list_all is_steady_entry dialled

-- how many bytes a link takes once it begins
abbrev pub room_of_waiting : MemLink → ℕ
room_of_waiting link = vec_capacity (conversation_of link).sink.written

abbrev pub room_of_entry : String Global × MemLink → ℕ
room_of_entry entry = room_of_waiting entry.1

-- the least room of these, and 2^64 - 1 if there is none
abbrev pub least : {L : Type 0} → (L → ℕ) → List L → ℕ
least room [] = 2 ^ 64 - 1
least room (link ∷ links) = min (room link) (least room links)

-- the least room of these links, those that wait to be accepted and those that wait to be dialled
abbrev pub least_room : List MemLink → List (String Global × MemLink) → ℕ
least_room waiting dialled = min (least room_of_waiting waiting) (least room_of_entry dialled)

-- what a port has and keeps
abbrev pub kept_of : MemPort → KeptPort
kept_of port = own port.node.value

-- a port of this script is steady
abbrev pub is_steady_script : PortScript → Bool
is_steady_script script = is_empty script.failing.items && are_steady script.waiting.items script.dialled.items

-- a port with its conversations, all of it told
abbrev pub port_state : KeptPort → PortState
port_state port = record {
  told = true;
  steady = is_empty port.calls.failing.items && port.gave_steady && are_steady port.waiting.items port.dialled.items;
  place = option_map string_bytes port.place;
  count = port.calls.faults;
  accept_count = port.accept_faults;
  waiting = if is_some port.place then length port.waiting.items else 0;
  reaches = λ place. list_any (is_at place) port.dialled.items;
  room = least_room port.waiting.items port.dialled.items;
  talks = map talk_of port.talks;
}
