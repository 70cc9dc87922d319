use Rattle.std.proofs.Common.{sym, ◌∙◌}
use Rattle.tool_words.proofs.Addresses.{with_free, with_none, with_taken}
use Rattle.tool_words.proofs.places.add.Goals as goal

pub returns-in_default : goal.returns-in_default
returns-in_default c = with_none (λ place. place.now) c.args.places.now c.args.word.now c.in_default.ensures.value

pub returns-then-is_some : goal.returns-then-is_some
returns-then-is_some c =
    with_taken (λ place. place.now) c.args.places.now c.args.word.now _ _ c.in-Some.ensures.value (sym c.is_some.ensures ∙ c.if-is_some.true)

pub returns : goal.returns
returns c =
    with_free (λ place. place.now) c.args.places.now c.args.word.now _ c.in-Some.place c.in-Some.ensures.value
    (sym c.is_some.ensures ∙ c.if-is_some.false)
