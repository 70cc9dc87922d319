use Rattle.std.proofs.Common.{◌≡◌, ◌∙◌, ◌++◌, List, [], ◌∷◌, ap, sym, subst}
use Rattle.disk_trait.specs.MemDisk.{MemState}
use Rattle.drill_trustees.specs.Trustees.{AreJournals}
use Rattle.drill_trustees.proofs.Ending.{are-journals}
use Rattle.drill_trustees.proofs.trustees.Trustees.end.Goals as goal

pub returns : goal.returns
returns c =
    let x = c.end.result in
    let y = c.end-2.result in
    let z = c.end-3.result in
    let one : c.push.new.self.items ≡ x ∷ [] = c.in_ok-push.ensures.items ∙ ap (λ (l : List MemState). l ++ x ∷ []) c.in_ok-disks.ensures.items in
    let two : c.push-2.new.self.items ≡ x ∷ y ∷ [] = c.in_ok-push-2.ensures.items ∙ ap (λ (l : List MemState). l ++ y ∷ []) one in
    let all : c.push-3.new.self.items ≡ x ∷ y ∷ z ∷ [] = c.in_ok-push-3.ensures.items ∙ ap (λ (l : List MemState). l ++ z ∷ []) two in
    subst (λ (l : List MemState). AreJournals c.args.self l) (sym all) (are-journals c.args.self.one c.args.self.two c.args.self.three x y z c.end.ensures c.end-2.ensures c.end-3.ensures)
