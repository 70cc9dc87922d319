use Rattle.std.proofs.Common.{refl}
use Rattle.dealer.specs.Files.{share_file}
use Rattle.tool_keys.specs.Large.{dealing_in}
use Rattle.tool_keys.proofs.Naming.{named_all}
use Rattle.tool_keys.proofs.OnDisk.{few_key}
use Rattle.tool_keys.proofs.large.key_outputs.Goals as goal

pub push_shares-requires : goal.push_shares-requires
push_shares-requires c =
    let d = dealing_in c.args.asked.now in
    few_key d c.in_ok-public.field-0 c.requires.plan (c.in_ok-public.ensures d c.requires.key)

pub returns : goal.returns
returns c =
    let d = dealing_in c.args.asked.now in
    let are = c.in_ok-public.ensures d c.requires.key in
    rw (
      c.in_ok-push_shares.ensures,
      c.in_ok-push_file-2.ensures,
      c.in_ok-push_file.ensures,
      c.new-outputs.ensures.items,
      are.public_is,
      are.tree_is,
      are.shares_are,
      named_all c.args.prefix.now (share_file d) 1 d.plan.n,
    ) refl
