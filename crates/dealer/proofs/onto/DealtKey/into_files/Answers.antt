use Rattle.std.proofs.Common.{◌≡◌, ap, map, length, ◌∙◌, Ok, Err, Result}
use Rattle.std.proofs.lemmas.Result.{IfOk-weaker}
use Rattle.share_files.specs.Share.{share_bytes}
use Rattle.dealer.specs.Files.{AreKeyFiles}
use Rattle.dealer.proofs.FilesOf.{key_files_of}
use Rattle.dealer.proofs.onto.DealtKey.into_files.Goals as goal

pub returns : goal.returns
returns c = λ d is. key_files_of d c.args.self c.key_files.result is c.key_files.ensures.public c.key_files.ensures.tree
    (IfOk-weaker c.key_files.result _ _ (λ files made. made ∙ ap (map share_bytes) c.deref.ensures.value) c.key_files.ensures.shares)
