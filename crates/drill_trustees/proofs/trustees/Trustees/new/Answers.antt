use Rattle.std.proofs.Common.{◌≡◌, ◌<◌, arith}
use Rattle.share_files.specs.declared.share.Share.{Share}
use Rattle.drill_trustees.proofs.Replacing.{are-new, inside-three, of-three}
use Rattle.drill_trustees.proofs.trustees.Trustees.new.Goals as goal

pub returns : goal.returns
returns c =
    are-new c.args.shares.now c.in_ok-new.field-0 c.in_ok-new-2.field-0 c.in_ok-new-3.field-0 c.index-shares-0.result c.index-shares-1.result c.index-shares-2.result
    c.requires.count c.in_ok-new.ensures.share c.in_ok-new-2.ensures.share c.in_ok-new-3.ensures.share c.index-shares-0.is c.index-shares-1.is c.index-shares-2.is
    c.in_ok-new.ensures.free c.in_ok-new-2.ensures.free c.in_ok-new-3.ensures.free

first-of-three : 0 < 3
first-of-three = omega arith

second-of-three : 1 < 3
second-of-three = omega arith

third-of-three : 2 < 3
third-of-three = omega arith

pub bounds-shares-0 : goal.bounds-shares-0
bounds-shares-0 c = inside-three c.args.shares.now c.requires.count 0 first-of-three

pub new-requires-clause-hash_length : goal.new-requires-clause-hash_length
new-requires-clause-hash_length c =
    of-three c.args.shares.now c.requires.count (λ (share : Share). share.params.n ≡ 32) 0 c.index-shares-0.result
    first-of-three c.index-shares-0.is c.requires.hash_length

pub new-requires-clause-height : goal.new-requires-clause-height
new-requires-clause-height c =
    of-three c.args.shares.now c.requires.count (λ (share : Share). share.params.h ≡ 5) 0 c.index-shares-0.result
    first-of-three c.index-shares-0.is c.requires.height

pub bounds-shares-1 : goal.bounds-shares-1
bounds-shares-1 c = inside-three c.args.shares.now c.requires.count 1 second-of-three

pub new-requires-2-clause-hash_length : goal.new-requires-2-clause-hash_length
new-requires-2-clause-hash_length c =
    of-three c.args.shares.now c.requires.count (λ (share : Share). share.params.n ≡ 32) 1 c.index-shares-1.result
    second-of-three c.index-shares-1.is c.requires.hash_length

pub new-requires-2-clause-height : goal.new-requires-2-clause-height
new-requires-2-clause-height c =
    of-three c.args.shares.now c.requires.count (λ (share : Share). share.params.h ≡ 5) 1 c.index-shares-1.result
    second-of-three c.index-shares-1.is c.requires.height

pub bounds-shares-2 : goal.bounds-shares-2
bounds-shares-2 c = inside-three c.args.shares.now c.requires.count 2 third-of-three

pub new-requires-3-clause-hash_length : goal.new-requires-3-clause-hash_length
new-requires-3-clause-hash_length c =
    of-three c.args.shares.now c.requires.count (λ (share : Share). share.params.n ≡ 32) 2 c.index-shares-2.result
    third-of-three c.index-shares-2.is c.requires.hash_length

pub new-requires-3-clause-height : goal.new-requires-3-clause-height
new-requires-3-clause-height c =
    of-three c.args.shares.now c.requires.count (λ (share : Share). share.params.h ≡ 5) 2 c.index-shares-2.result
    third-of-three c.index-shares-2.is c.requires.height
