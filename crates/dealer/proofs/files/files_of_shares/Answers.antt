use Rattle.std.proofs.Common.{arith}
use Rattle.dealer.proofs.FilesOf.{one_more}
use Rattle.dealer.proofs.files.files_of_shares.Goals as goal

-- one more share has its file
pub shares-preserved : goal.shares-preserved
shares-preserved c =
    one_more c.args.shares.now c.shares.share-index c.share-item.result c.shares.files.items _ c.in_ok-share_file.field-0
    (omega arith) c.share-item.is c.shares.invariant c.in_ok-share_file.ensures c.in_ok-push.ensures.items
