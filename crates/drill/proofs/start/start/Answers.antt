use Rattle.std.proofs.Common.{◌∙◌, List, length, ap, subst}
use Rattle.drill_trustees.specs.Trustees.{AreNew}
use Rattle.share_files.specs.declared.share.Share.{Share}
use Rattle.drill.proofs.Beginning.{begins}
use Rattle.drill.proofs.Seating.{waiting-fit}
use Rattle.drill.proofs.Desks.{shares-h, shares-n}
use Rattle.drill.proofs.start.start.Goals as goal

pub returns-clause-good : goal.returns-clause-good
returns-clause-good c = λ own different.
    let new = subst (λ (l : List Share). AreNew l c.in_ok-new.field-0) c.deref.ensures.value c.in_ok-new.ensures in
    begins c.args.desk.now own _ (rw c.in_ok-waiting.ensures.count different) new c.in_ok-new_table.ensures.settled c.in_ok-new_table.ensures.free c.in_ok-waiting.ensures.waiting c.new-2.ensures

pub returns-clause-is_for : goal.returns-clause-is_for
returns-clause-is_for c =
    let desk = c.args.desk.now in
    record { table = c.in_ok-new_table.ensures.table; seats = waiting-fit desk.dealt.public desk.plan _ c.in_ok-waiting.ensures.waiting }

pub returns-clause-count : goal.returns-clause-count
returns-clause-count c = c.in_ok-waiting.ensures.count

pub returns-clause-waiting : goal.returns-clause-waiting
returns-clause-waiting c = c.in_ok-waiting.ensures.waiting

pub new-requires-clause-count : goal.new-requires-clause-count
new-requires-clause-count c = ap (λ (l : List Share). length l) c.deref.ensures.value ∙ c.args.desk.now.count

pub new-requires-clause-hash_length : goal.new-requires-clause-hash_length
new-requires-clause-hash_length c = shares-n c.args.desk.now _ c.deref.ensures.value

pub new-requires-clause-height : goal.new-requires-clause-height
new-requires-clause-height c = shares-h c.args.desk.now _ c.deref.ensures.value
