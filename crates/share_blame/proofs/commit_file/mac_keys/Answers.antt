use Rattle.std.proofs.Common.{arith}
use Rattle.std.proofs.lemmas.List.{take_all}
use Rattle.share_blame.proofs.Remade.{one-more}
use Rattle.share_blame.proofs.commit_file.mac_keys.Goals as goal

pub shares-preserved : goal.shares-preserved
shares-preserved c =
    one-more c.args.shares.now c.shares.i c.index-shares-i.result _ _ _ (omega arith) c.shares.invariant c.new.ensures c.in_ok-push.ensures.items

pub returns : goal.returns
returns c =
    let all = take_all c.shares.i c.args.shares.now (omega arith) in
    rw all at c.shares.invariant
