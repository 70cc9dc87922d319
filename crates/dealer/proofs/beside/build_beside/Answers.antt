use Rattle.std.proofs.Common.{◌∙◌, arith}
use Rattle.std.proofs.lemmas.Result.{err_from_is_err_and}
use Rattle.dealer.proofs.Built.{built-as, same-set}
use Rattle.dealer.proofs.beside.build_beside.Goals as goal

pub finish-requires-clause-low : goal.finish-requires-clause-low
finish-requires-clause-low g c = rw (same-set c.in_ok-material.ensures.dealing) (omega (arith, c.requires.dealable.set.height))

pub finish-requires-clause-keys : goal.finish-requires-clause-keys
finish-requires-clause-keys g c = c.deref.ensures.value ∙ c.in_ok-leaves.ensures.built.keys_are

pub finish-requires-clause-leaves : goal.finish-requires-clause-leaves
finish-requires-clause-leaves g c = c.in_ok-leaves.ensures.built.leaves_are

pub returns-clause-built : goal.returns-clause-built
returns-clause-built g c =
    let e = c.in_ok-material.ensures in
    let leaves = c.in_ok-leaves.ensures in
    let dealt = c.in_ok-dealt.ensures in
    built-as e.dealing e.asked dealt.dealt leaves.built.file_is dealt.shares

pub returns-in_err-material-clause-built : goal.returns-in_err-material-clause-built
returns-in_err-material-clause-built g c = rw (err_from_is_err_and c.from_residual.result c.from_residual.ensures.1).1 tt

pub returns-in_err-leaves-clause-built : goal.returns-in_err-leaves-clause-built
returns-in_err-leaves-clause-built g c = rw (err_from_is_err_and c.from_residual-in_err-leaves.result c.from_residual-in_err-leaves.ensures.1).1 tt

pub returns-in_err-dealt-clause-built : goal.returns-in_err-dealt-clause-built
returns-in_err-dealt-clause-built g c = rw (err_from_is_err_and c.from_residual-in_err-dealt.result c.from_residual-in_err-dealt.ensures.1).1 tt

pub returns-clause-told : goal.returns-clause-told
returns-clause-told g c = rw (same-set c.in_ok-material.ensures.dealing) at c.in_ok-leaves.ensures.told
