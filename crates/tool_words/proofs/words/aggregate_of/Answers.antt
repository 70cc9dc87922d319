use Rattle.std.proofs.Common.{◌∙◌, ap}
use Rattle.std.specs.String.{string_bytes}
use Rattle.tool_words.specs.Words.{aggregate_of}
use Rattle.tool_words.proofs.Few.{few-aggregate}
use Rattle.tool_words.proofs.Taken.{five, taken}
use Rattle.tool_words.proofs.words.aggregate_of.Goals as goal

pub returns-in_default : goal.returns-in_default
returns-in_default c = few-aggregate string_bytes _ c.in_default.len_below

pub returns : goal.returns
returns c =
    c.aggregate_with.ensures
    ∙ ap aggregate_of
    (five _ _ _ _ _ _ _ _ _ _ _ (c.word_at.ensures ∙ c.as_str.ensures.value) (c.word_at-2.ensures ∙ c.as_str-2.ensures.value) (c.word_at-3.ensures ∙ c.as_str-3.ensures.value)
    c.as_str-4.ensures.value c.as_str-5.ensures.value
    ∙ taken string_bytes c.args.words.now _ _ _ _ _ c.in-len5-up.len_at_least
    c.prefix-item.is c.table-item.is c.place-item.is c.workers-item.is c.connections-item.is)
