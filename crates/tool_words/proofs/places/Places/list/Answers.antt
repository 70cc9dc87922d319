use Rattle.std.proofs.Common.{map, string_bytes}
use Rattle.tool_words.proofs.Addresses.{listed}
use Rattle.tool_words.proofs.places.Places.list.Goals as goal

pub returns : goal.returns
returns c = listed (map string_bytes c.args.self.now.words.now) _ c.fill-complete.result c.args.self.now.placed c.fill-complete.ensures
