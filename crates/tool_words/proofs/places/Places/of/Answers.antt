use Rattle.std.proofs.Common.{◌∙◌, arith, map, string_bytes, sym}
use Rattle.std.proofs.lemmas.List.{length-map}
use Rattle.tool_words.proofs.Addresses.{counted, named, none_named, too_many_named}
use Rattle.tool_words.proofs.places.Places.of.Goals as goal
use Rattle.tool_words.proofs.places.Places.of.Goals.{then-is_empty-via-then-is_empty, then-is_empty-via-else-is_empty+then-words-gt12}

pub returns-then-is_empty : goal.returns-then-is_empty
returns-then-is_empty c =
    let same = length-map c.args.words.now string_bytes in
    elim c.then-is_empty.branch [
      | then-is_empty-via-then-is_empty w ↦ none_named (map string_bytes c.args.words.now) (let none = w.if-is_empty.ensures in grind (arith, none, same))
      | then-is_empty-via-else-is_empty+then-words-gt12 w ↦ too_many_named (map string_bytes c.args.words.now) (let many = w.if-words-gt12.true in omega (arith, many, same))
    ]

pub returns-then-not-fill : goal.returns-then-not-fill
returns-then-not-fill c =
    let same = length-map c.args.words.now string_bytes in
    let some = c.if-is_empty.ensures in
    sym c.if-not-fill.ensures ∙ counted (map string_bytes c.args.words.now) (grind (arith, some, same)) (let few = c.if-words-gt12.false in omega (arith, few, same))

pub invariant_of-result : goal.invariant_of-result
invariant_of-result c =
    let same = length-map c.args.words.now string_bytes in
    let some = c.if-is_empty.ensures in
    let few = c.if-words-gt12.false in
    record { placed = (named (map string_bytes c.args.words.now) _ (grind (arith, some, same)) (omega (arith, few, same)) c.if-not-fill.ensures).0 }

pub returns : goal.returns
returns c =
    let same = length-map c.args.words.now string_bytes in
    let some = c.if-is_empty.ensures in
    let few = c.if-words-gt12.false in
    (named (map string_bytes c.args.words.now) _ (grind (arith, some, same)) (omega (arith, few, same)) c.if-not-fill.ensures).1
