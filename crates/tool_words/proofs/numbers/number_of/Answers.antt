use Rattle.std.proofs.Common.{◌∙◌, arith}
use Rattle.tool_words.proofs.Digits.{all_digits, long_none, number_read, other_none}
use Rattle.tool_words.proofs.numbers.number_of.Goals as goal
use Rattle.tool_words.proofs.numbers.number_of.Goals.{then-word-gt10-via-then-word-gt10, then-word-gt10-via-else-word-gt10+then-not-is_decimal}

pub returns-then-word-gt10 : goal.returns-then-word-gt10
returns-then-word-gt10 c =
    elim c.then-word-gt10.branch [
      | then-word-gt10-via-then-word-gt10 w ↦ long_none _ w.if-word-gt10.true
      | then-word-gt10-via-else-word-gt10+then-not-is_decimal w ↦ other_none _ (let is = w.is_decimal.ensures in let other = w.if-not-is_decimal.true in cc)
    ]

pub returns : goal.returns
returns c =
    let is = c.is_decimal.ensures in
    let digits = c.if-not-is_decimal.false in
    c.ok.ensures.value ∙ number_read c.args.word.now c.parse.result c.parse.ensures.value.0 (all_digits c.args.word.now ∙ cc) (let short = c.if-word-gt10.false in omega arith)
