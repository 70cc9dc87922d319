use Rattle.std.proofs.Common.{◌∙◌, arith}
use Rattle.std.proofs.lemmas.Result.{err_from_is_err_and}
use Rattle.dealer.proofs.Built.{built-as, same-set}
use Rattle.dealer.proofs.building.build.Goals as goal

pub finish-requires-clause-low : goal.finish-requires-clause-low
finish-requires-clause-low c = rw (same-set c.in_ok-material.ensures.dealing) (omega (arith, c.requires.dealable.set.height))

pub finish-requires-clause-keys : goal.finish-requires-clause-keys
finish-requires-clause-keys c = c.deref.ensures.value ∙ c.in_ok-leaves.ensures.keys_are

pub finish-requires-clause-leaves : goal.finish-requires-clause-leaves
finish-requires-clause-leaves c = c.in_ok-leaves.ensures.leaves_are

pub returns : goal.returns
returns c =
    let e = c.in_ok-material.ensures in
    let leaves = c.in_ok-leaves.ensures in
    let dealt = c.in_ok-dealt.ensures in
    built-as e.dealing e.asked dealt.dealt leaves.file_is dealt.shares

pub returns-in_err-material : goal.returns-in_err-material
returns-in_err-material c = rw (err_from_is_err_and c.from_residual.result c.from_residual.ensures.1).1 tt

pub returns-in_err-leaves : goal.returns-in_err-leaves
returns-in_err-leaves c = rw (err_from_is_err_and c.from_residual-in_err-leaves.result c.from_residual-in_err-leaves.ensures.1).1 tt

pub returns-in_err-dealt : goal.returns-in_err-dealt
returns-in_err-dealt c = rw (err_from_is_err_and c.from_residual-in_err-dealt.result c.from_residual-in_err-dealt.ensures.1).1 tt
