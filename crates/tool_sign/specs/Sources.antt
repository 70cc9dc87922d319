-- What a session is run with, and where its message comes from.
use Rattle.std.specs.Prelude.{map, string_bytes}
use Rattle.tool_base.specs.World.{StoreRun}
use Rattle.tool_sign.specs.Tasks.{MessageSource, message_in, message_of}
use Rattle.tool_sign.specs.Tasks as tasks
use Rattle.tool_sign.specs.declared.task.Message.{Message}
use Rattle.tool_sign.specs.declared.task.Message.TheVariants.{InFile, Known}
use Rattle.tool_sign.specs.declared.task.SessionWords.{SessionWords}
use Rattle.tool_words.specs.Words.{places_named}

-- the words of a session, each as its bytes
abbrev pub session_words : SessionWords → tasks.SessionWords
session_words words = record {
  prefix = words.prefix.now;
  table = words.table.now;
  places = places_named (map string_bytes words.places.words.now);
}

-- where the message of a run comes from
abbrev pub source_of : Message → StoreRun → MessageSource
source_of (InFile name) store = message_in store name.now
source_of (Known bytes) store = message_of bytes.items
