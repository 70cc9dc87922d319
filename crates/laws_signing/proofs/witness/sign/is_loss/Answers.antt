use Rattle.std.proofs.Common.{◌≡◌, ap, arith, rules}
use Rattle.tool_base.specs.Ending.{NotSigned}
use Rattle.tool_base.specs.declared.unsigned.Unsigned.TheVariants.{Missing}
use Rattle.laws_signing.proofs.witness.sign.is_loss.Goals as goal

pub returns-in-NotSigned-Missing : goal.returns-in-NotSigned-Missing
returns-in-NotSigned-Missing c = λ _.
    let member = c.in-NotSigned-Missing.field-0-0 in
    let round = c.in-NotSigned-Missing.field-0-1 in
    let is = c.in-NotSigned-Missing.field-0-is in
    let why : c.in-NotSigned-Missing.field-0 ≡ Missing member round = first_of (cc, search rules, grind arith) in
    (member, round, rw c.in-NotSigned-Missing.is (ap NotSigned why))
