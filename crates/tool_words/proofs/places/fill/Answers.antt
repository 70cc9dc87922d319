use Rattle.std.proofs.Common.{◌∙◌, refl, string_bytes}
use Rattle.tool_words.proofs.Addresses.{ended, stopped, went_on}
use Rattle.tool_words.proofs.places.fill.Goals as goal

pub loop-word-init : goal.loop-word-init
loop-word-init c = refl

pub returns-then-not-add : goal.returns-then-not-add
returns-then-not-add c =
    let text = c.as_str.ensures.value in
    let none = c.if-not-add.ensures in
    c.loop-word.invariant ∙ stopped _ string_bytes c.args.words.now c.loop-word.word-index c.word-item.result c.loop-word-test.true c.word-item.is
    (rw text at none)

pub loop-word-preserved : goal.loop-word-preserved
loop-word-preserved c =
    let text = c.as_str.ensures.value in
    let some = c.if-not-add.ensures in
    c.loop-word.invariant ∙ went_on _ _ string_bytes c.args.words.now c.loop-word.word-index c.word-item.result c.loop-word-test.true c.word-item.is
    (rw text at some)

pub returns : goal.returns
returns c = c.loop-word.invariant ∙ ended _ string_bytes c.args.words.now c.loop-word.word-index c.loop-word-test.false
