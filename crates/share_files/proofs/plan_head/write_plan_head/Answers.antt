use Rattle.std.proofs.Common.{◌∙◌, sym, arith}
use Rattle.std.proofs.lemmas.List.{take_all}
use Rattle.share_files.proofs.plan_head.write_plan_head.Goals as goal

pub returns : goal.returns
returns c =
    let size = c.told-out in
    sym (take_all 32 c.write_head.new.out (omega (arith, c.write_head.auto.out))) ∙ rw (c.k.ensures.value, c.n.ensures.value) at c.write_head.ensures.head
