use Rattle.std.proofs.Common.{refl, sym, subst}
use Rattle.std.proofs.lemmas.Slice.Eq.{bytes_eq-Decides}
use Rattle.lms_verify.specs.Accepts.{LeadsTo}
use Rattle.ots_chain.specs.MessageHash.{HasTaken}
use Rattle.rikselbe_c.proofs.Streams.{leads}
use Rattle.rikselbe_c.proofs.lms_stream.verdict_of.Goals as goal

pub leaf_key_from-leaf_key-requires-clause-digest : goal.leaf_key_from-leaf_key-requires-clause-digest
leaf_key_from-leaf_key-requires-clause-digest c = let had = c.requires in c.finish-digest.ensures.length _ _ had.0 had.1 had.2 had.3

pub returns-then-eq : goal.returns-then-eq
returns-then-eq c = λ q randomizer y path message layout taken.
    let view = c.in-Ok.view in
    let parts = c.in-Ok.ensures.read q randomizer y path layout in
    let same = (bytes_eq-Decides _ _).0 (sym c.if-eq.ensures) in
    let key = c.args.key.now in
    let here : HasTaken c.args.hash key.params key.id view.leaf view.c.now message = rw (parts.0, parts.1) taken in
    let got = leads key message c.args.signature.now view.leaf view.c.now view.chains.now view.path.now _ _ c.root_from-got.result c.in-Ok.ensures.layout
    (c.finish-digest.ensures.digest _ _ view.leaf view.c.now message here) c.leaf_key_from-leaf_key.ensures.leaf_key c.root_from-got.ensures.root in
    subst (LeadsTo key message c.args.signature.now view.leaf) same got

pub returns-else-eq : goal.returns-else-eq
returns-else-eq c = λ q randomizer y path message layout taken.
    let view = c.in-Ok.view in
    let parts = c.in-Ok.ensures.read q randomizer y path layout in
    let key = c.args.key.now in
    let here : HasTaken c.args.hash key.params key.id view.leaf view.c.now message = rw (parts.0, parts.1) taken in
    let got = leads key message c.args.signature.now view.leaf view.c.now view.chains.now view.path.now _ _ c.root_from-got.result c.in-Ok.ensures.layout
    (c.finish-digest.ensures.digest _ _ view.leaf view.c.now message here) c.leaf_key_from-leaf_key.ensures.leaf_key c.root_from-got.ensures.root in
    ((view.leaf, got), (λ same. let equal = (bytes_eq-Decides c.root_from-got.result key.root).1 same in let unequal = c.if-eq.ensures in cc), refl)
