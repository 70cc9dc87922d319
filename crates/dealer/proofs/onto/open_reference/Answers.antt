use Rattle.std.proofs.Common.{◌∷◌, [], ℕ, List, ◌∙◌, ap}
use Rattle.std.proofs.lemmas.Result.{on_ok_weaker}
use Rattle.disk_trait.specs.Images.{written}
use Rattle.dealer.proofs.OntoEnds.{never-half, opened}
use Rattle.dealer.proofs.onto.open_reference.Goals as goal

pub returns-clause-opened : goal.returns-clause-opened
returns-clause-opened g c = λ d holds told.
    on_ok_weaker c.open_gate.result (λ is. is ∙ ap (λ (l : List ℕ). written l 0 (0x54 ∷ [])) (holds.reads told) ∙ opened d) (c.open_gate.ensures.bytes told)

pub returns-clause-half : goal.returns-clause-half
returns-clause-half g c = λ d holds. never-half g.D.Pages d c.args.disk.now c.open_gate.new.disk holds c.open_gate.ensures.last
