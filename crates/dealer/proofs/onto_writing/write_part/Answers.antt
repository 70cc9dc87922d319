use Rattle.std.proofs.Common.{◌∙◌, refl}
use Rattle.dealer.proofs.OntoParts.{torn-more}
use Rattle.dealer.proofs.onto_writing.write_part.Goals as goal

pub returns-clause-more : goal.returns-clause-more
returns-clause-more g c = λ told.
    torn-more _ _ _ (g.D.Pages.reads c.args.disk.now) (g.D.Pages.reads c.append.new.disk) (c.requires.end told ∙ rw (c.leaf_bytes.ensures, c.k.ensures.value) refl) (c.write_beside.auto.out ∙ c.requires.leaves_room) (c.append.ensures.torn told)
