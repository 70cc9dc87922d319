use Rattle.std.proofs.Common.{◌∙◌, ap, arith, map}
use Rattle.std.proofs.lemmas.Result.{IfOk-weaker}
use Rattle.dealer.specs.declared.files.DealingFiles.{DealingFiles}
use Rattle.tool_keys.proofs.Naming.{blank_names}
use Rattle.tool_keys.proofs.deal.blank_outputs.Goals as goal

pub named_outputs-requires : goal.named_outputs-requires
named_outputs-requires c = let all = c.shares.invariant in let end = c.shares.auto.counter-end in omega (arith, all, end, c.requires)

pub returns : goal.returns
returns c =
    let all = c.shares.invariant in
    let end = c.shares.auto.counter-end in
    let files : DealingFiles = record { public = c.new-2.result; tree = c.new-3.result; reference = c.new-4.result; shares = c.shares.shares } in
    IfOk-weaker c.named_outputs.result _ _ (λ outputs is. ap (map (λ output. output.name)) is ∙ blank_names c.args.prefix.now files c.args.n (omega (arith, all, end)))
    c.named_outputs.ensures
