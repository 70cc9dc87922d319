-- What nets in memory stand for.
use Rattle.std.specs.Prelude.{◌&&◌, ℕ, Bool, true, List, Option, Some, None, map, string_bytes}
use Rattle.std.specs.List.{list_all, list_any}
use Rattle.std.specs.Str.{bytes_eq}
use Rattle.std.specs.declared.alloc.Global.{Global}
use Rattle.std.specs.declared.string.String.{String}
use Rattle.stream_memory.specs.Calls.{is_empty}
use Rattle.stream_memory.specs.Ports.{is_steady_script, least, least_room, port_state}
use Rattle.stream_memory.specs.declared.mem_net.MemNet.{MemNet}
use Rattle.stream_memory.specs.declared.port_script.PortScript.{PortScript}
use Rattle.stream_io.specs.Net.{NetState}

-- one of these places has this name
abbrev pub is_listed : List (String Global) → List ℕ → Bool
is_listed places name = list_any (λ place. bytes_eq (string_bytes place) name) places

-- ports may be made here, at a place among these or without one
abbrev pub is_admitted : (List ℕ → Bool) → Option (List ℕ) → Bool
is_admitted offers None = true
is_admitted offers (Some place) = offers place

-- the least room of a link of this script
abbrev pub room_of_script : PortScript → ℕ
room_of_script script = least_room script.waiting.items script.dialled.items

-- a net with the ports that came back, all of it told
abbrev pub net_state : MemNet → NetState
net_state net = record {
  told = true;
  steady = is_empty net.calls.failing.items && net.gave_steady && list_all is_steady_script net.scripts.items;
  count = net.calls.faults;
  port_count = net.port_faults;
  offers = is_listed net.places.items;
  room = least room_of_script net.scripts.items;
  out = net.out;
  kept = map port_state net.kept;
}
