use Rattle.std.proofs.Common.{map, ap, ◌∙◌}
use Rattle.share_files.specs.Share.{share_bytes}
use Rattle.dealer.proofs.FilesOf.{are_files}
use Rattle.dealer.proofs.dealing.Dealt.into_files.Goals as goal

-- each file is what is written from its part
pub returns : goal.returns
returns c = record {
  files = λ d is. are_files d c.args.self c.index-share.result.now _ is c.requires c.index-share.ensures
      c.in_ok-public.ensures.public c.in_ok-public.ensures.tree c.in_ok-reference_file.ensures
      (c.in_ok-public.ensures.shares ∙ ap (map share_bytes) c.deref.ensures.value);
}
