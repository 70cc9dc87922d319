use Rattle.std.proofs.Common.{◌≡◌, Some, [], ◌∷◌, rules, refl}
use Rattle.turn_lock.specs.Known.{opening_of}
use Rattle.turn_lock.proofs.Moves.{opens}
use Rattle.turn_lock.proofs.steps.open.Goals as goal

pub new-requires : goal.new-requires
new-requires g c =
    let k = g.T.Kept in
    let start = c.args.start.now in
    let items : c.push.new.self.items ≡ Some c.args.value ∷ [] = search rules in
    let value = c.requires.value in
    rw items (opens k.entries k.number k.name (opening_of k.entries k.number k.name start.value.value start.first start.passes) c.args.value
    (rw value refl) (rw value refl) (rw value refl) c.requires.passes.0 c.requires.passes.1 c.requires.first)
