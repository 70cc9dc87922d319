use Rattle.std.proofs.Common.{◌≡◌, false}
use Rattle.tool_desk.proofs.Keys.{reference_refused, sizes, tree_refused}
use Rattle.tool_desk.proofs.files.test_same_key.Goals as goal

pub returns-then-not-is_of_key-clause-refused : goal.returns-then-not-is_of_key-clause-refused
returns-then-not-is_of_key-clause-refused c =
    let no : c.is_of_key.result ≡ false = let test = c.if-not-is_of_key.true in cc in
    tree_refused c.args.prefix.now c.args.files.now c.args.header.now c.is_of_key.result _ c.is_of_key.ensures no c.other_key.ensures

pub returns-then-not-is_of_key-2-clause-refused : goal.returns-then-not-is_of_key-2-clause-refused
returns-then-not-is_of_key-2-clause-refused c =
    let yes = c.if-not-is_of_key.false in
    let no : c.is_of_key-2.result ≡ false = let test = c.if-not-is_of_key-2.true in cc in
    reference_refused c.args.prefix.now c.args.files.now c.args.header.now c.is_of_key-2.result _ (c.is_of_key.ensures.0 (cc)) c.is_of_key-2.ensures no c.other_key-then-not-is_of_key-2.ensures

pub returns-clause-sizes : goal.returns-clause-sizes
returns-clause-sizes c =
    let one = c.if-not-is_of_key.false in
    let two = c.if-not-is_of_key-2.false in
    sizes _ _ (record { tree = c.is_of_key.ensures.0 (cc); reference_is = c.is_of_key-2.ensures.0 (cc) })
