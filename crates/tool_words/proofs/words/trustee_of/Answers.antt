use Rattle.std.proofs.Common.{◌∙◌, ap}
use Rattle.std.specs.String.{string_bytes}
use Rattle.tool_words.specs.Words.{trustee_of}
use Rattle.tool_words.proofs.Few.{few-trustee}
use Rattle.tool_words.proofs.Taken.{taken}
use Rattle.tool_words.proofs.words.trustee_of.Goals as goal

pub returns : goal.returns
returns c =
    c.trustee_with.ensures
    ∙ rw (c.word_at.ensures, c.as_str.ensures.value, c.word_at-2.ensures, c.as_str-2.ensures.value)
    (rw (c.word_at-3.ensures, c.as_str-3.ensures.value, c.as_str-4.ensures.value, c.as_str-5.ensures.value)
    (c.in_ok-book.ensures _ _ _ _ _
    ∙ ap trustee_of
    (taken string_bytes c.args.words.now _ _ _ _ _ c.in-len5-up.len_at_least
    c.share-item.is c.journal-item.is c.place-item.is c.workers-item.is c.connections-item.is)))

pub returns-in_default : goal.returns-in_default
returns-in_default c = few-trustee string_bytes _ c.in_default.len_below

pub returns-in_err-book : goal.returns-in_err-book
returns-in_err-book c =
    rw c.from_residual.ensures
    (c.in_err-book.ensures _ _ _ _ _
    ∙ ap trustee_of
    (taken string_bytes c.args.words.now _ _ _ _ _ c.in-len5-up.len_at_least
    c.share-item.is c.journal-item.is c.place-item.is c.workers-item.is c.connections-item.is))
