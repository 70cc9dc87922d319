use Rattle.std.proofs.Common.{◌∙◌, List, ℕ, ap, take}
use Rattle.sha2.specs.Sha256.{sha256}
use Rattle.ots_chain.proofs.Blocks.{block_text}
use Rattle.ots_chain.proofs.chains.step.Goals as goal

pub returns-clause-value : goal.returns-clause-value
returns-clause-value c =
    let n = c.args.n in
    let text = c.part.ensures.bytes ∙ block_text c.args.block.now c.put.new.out _ n c.put.ensures.front c.put.ensures.after in
    let written = rw c.part-value.ensures.length at c.put-2.ensures.bytes in
    written ∙ (c.part-value.ensures.bytes ∙ ap (λ (t : List ℕ). take n t) (c.digest-digest.ensures ∙ ap sha256 text))
