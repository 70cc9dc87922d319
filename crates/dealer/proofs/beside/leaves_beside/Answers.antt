use Rattle.std.proofs.Common.{◌∙◌}
use Rattle.dealer.proofs.Built.{rows-built}
use Rattle.dealer.proofs.beside.leaves_beside.Goals as goal

pub write_leaves_beside-requires-clause-room : goal.write_leaves_beside-requires-clause-room
write_leaves_beside-requires-clause-room g c = λ _ _. rw (c.deref_mut.ensures.value, c.deref_mut-2.ensures.value, c.deref_mut-3.ensures.value) c.in_ok-rows.ensures

pub returns-clause-built : goal.returns-clause-built
returns-clause-built g c =
    let call = c.write_leaves_beside in
    rows-built c.in_ok-rows.rows call.ensures.built (call.auto.out ∙ c.deref_mut.ensures.len)
    (call.auto.file ∙ c.deref_mut-2.ensures.len) (call.auto.keys ∙ c.deref_mut-3.ensures.len)

pub returns-clause-told : goal.returns-clause-told
returns-clause-told g c = c.write_leaves_beside.ensures.told
