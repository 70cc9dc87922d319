use Rattle.std.specs.String.{string_bytes}
use Rattle.tool_words.proofs.Few.{few-hss_sign}
use Rattle.tool_words.proofs.words.hss_sign_of.Goals as goal

pub returns-in_default : goal.returns-in_default
returns-in_default c = few-hss_sign string_bytes _ c.in_default.len_below
