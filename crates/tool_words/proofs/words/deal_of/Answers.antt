use Rattle.std.specs.String.{string_bytes}
use Rattle.tool_words.proofs.Few.{few-deal}
use Rattle.tool_words.proofs.words.deal_of.Goals as goal

pub returns-in_default : goal.returns-in_default
returns-in_default c = few-deal string_bytes _ c.in_default.len_below
