use Rattle.std.proofs.Common.{refl, sym, ◌∙◌, subst}
use Rattle.disk_trait.specs.MemDisk.{MayLeave, MemState}
use Rattle.drill_trustees.proofs.Asking.{stopping}
use Rattle.drill_trustees.proofs.Journals.{file-of, stands-of}
use Rattle.drill_trustees.specs.Members.{CutSets, leaf_in}
use Rattle.drill_trustees.specs.declared.member.Answer.{Answer}
use Rattle.opening_journal.specs.Entries.{map_of}
use Rattle.drill_trustees.proofs.living.ask_stopping.Goals as goal

pub load-requires-clause-file : goal.load-requires-clause-file
load-requires-clause-file c =
    let e = c.end.ensures in
    let image = c.in_ok-disk.disk.bytes in
    let leaves = subst (λ (d : MemState). MayLeave d image) e.disk c.in_ok-disk.ensures.image in
    file-of c.decide.new.self c.args.share.now (c.decide.ensures.decided.share ∙ c.new-trustee.ensures.share) c.requires.hash_length c.requires.height e.header e.params image
    (e.holds.images refl refl image leaves)

pub returns-clause-sets : goal.returns-clause-sets
returns-clause-sets c = λ may.
    let e = c.end.ensures in
    let image = c.in_ok-disk.disk.bytes in
    let share = c.args.share.now in
    let leaves = subst (λ (d : MemState). MayLeave d image) e.disk c.in_ok-disk.ensures.image in
    let stands = stands-of c.decide.new.self share (c.decide.ensures.decided.share ∙ c.new-trustee.ensures.share) c.requires.hash_length c.requires.height e.header e.params image
    (e.holds.images refl refl image leaves) in
    subst (λ (a : Answer). CutSets (map_of c.args.journal.entries.items) (leaf_in c.in_ok-load.field-0) c.args.ask.now a) (sym c.answer_of-answer.ensures)
    (stopping c.new-trustee.result c.decide.new.self c.args.journal share c.args.ask.now c.decide.result c.new-trustee.ensures.share c.new-trustee.ensures.journal
    c.requires.settled c.decide.ensures.event c.decide.ensures.ask image (leaf_in c.in_ok-load.field-0) c.requires.height may stands c.in_ok-load.ensures.leaves)
