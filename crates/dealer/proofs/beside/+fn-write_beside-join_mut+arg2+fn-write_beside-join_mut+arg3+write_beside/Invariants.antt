use Rattle.dealer.proofs.beside.+fn-write_beside-join_mut+arg2+fn-write_beside-join_mut+arg3+write_beside.Given as goal

abbrev pub decreases-join_mut+arg2 : goal.decreases-join_mut+arg2
decreases-join_mut+arg2 g l = l.first.count

abbrev pub decreases-join_mut+arg3 : goal.decreases-join_mut+arg3
decreases-join_mut+arg3 g l = l.next.count

abbrev pub decreases-write_beside : goal.decreases-write_beside
decreases-write_beside g l = l.run.count
