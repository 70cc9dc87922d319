-- What links in memory stand for.
use Rattle.std.specs.Prelude.{◌&&◌, ◌-◌, ℕ, Bool, None, true, take, drop, is_none, option_map, string_bytes}
use Rattle.std.specs.Prelude.{vec_capacity, vec_len}
use Rattle.stream_memory.specs.Calls.{is_empty}
use Rattle.stream_memory.specs.Chain.{own}
use Rattle.stream_memory.specs.declared.conversation.Conversation.{Conversation}
use Rattle.stream_memory.specs.declared.mem_link.MemLink.{MemLink}
use Rattle.stream_io.specs.Talk.{Talk}

-- what a link holds
abbrev pub conversation_of : MemLink → Conversation
conversation_of link = own link.node.value

-- how many more bytes the link takes
abbrev pub room_left : Conversation → ℕ
room_left link = vec_capacity link.sink.written - vec_len link.sink.written

-- what has gone over the link, all of it told
abbrev pub talk_of : Conversation → Talk
talk_of link = record {
  told = true;
  place = option_map string_bytes link.place;
  taken = take link.source.at link.source.bytes.items;
  left = drop link.source.at link.source.bytes.items;
  written = link.sink.written.items;
  room = room_left link;
  count = link.calls.faults;
}

-- what a new link tells that was made from a source and a sink: what has gone over these, and no fault
abbrev pub joined_talk : Talk → Talk → Talk
joined_talk source sink = record {
  told = true;
  place = None;
  taken = source.taken;
  left = source.left;
  written = sink.written;
  room = sink.room;
  count = 0;
}

-- no call is listed to fail, of the link or of its two ends, and nothing is held
abbrev pub is_steady_link : Conversation → Bool
is_steady_link link =
    is_empty link.calls.failing.items && is_none link.gate
    && is_empty link.source.calls.failing.items && is_empty link.sink.calls.failing.items
