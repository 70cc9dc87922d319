use Rattle.std.proofs.Common.{ap, Err}
use Rattle.dealer.specs.Faults.{bad_entropy, same_keys}
use Rattle.dealer.proofs.Exclusive.{none_dealable, one_fault}
use Rattle.dealer.proofs.checks.test_dealing.Goals as goal

pub returns-in-Some-clause-cause : goal.returns-in-Some-clause-cause
returns-in-Some-clause-cause c = c.in-Some.ensures.cause _ _

pub returns-in-Some-clause-refused : goal.returns-in-Some-clause-refused
returns-in-Some-clause-refused c fault has = ap Err (one_fault _ _ _ _ _ _ (c.in-Some.ensures.cause _ _) has)

pub returns-then-entropy-want-clause-cause : goal.returns-then-entropy-want-clause-cause
returns-then-entropy-want-clause-cause c =
    rw c.n.ensures.value (bad_entropy c.in_default.ensures.dealt (rw c.n.ensures.value at c.if-entropy-want.true))

pub returns-then-entropy-want-clause-refused : goal.returns-then-entropy-want-clause-refused
returns-then-entropy-want-clause-refused c fault has =
    rw c.n.ensures.value (ap Err (one_fault _ _ _ _ _ _ (bad_entropy c.in_default.ensures.dealt (rw c.n.ensures.value at c.if-entropy-want.true)) has))

pub returns-in-Some-first_alike-clause-cause : goal.returns-in-Some-first_alike-clause-cause
returns-in-Some-first_alike-clause-cause c =
    same_keys _ _ c.in_default.ensures.dealt (rw c.n.ensures.value at c.if-entropy-want.false) (rw c.n-2.ensures.value at c.in-Some-first_alike.ensures.alike)

pub returns-in-Some-first_alike-clause-refused : goal.returns-in-Some-first_alike-clause-refused
returns-in-Some-first_alike-clause-refused c fault has =
    ap Err (one_fault _ _ _ _ _ _
    (same_keys _ _ c.in_default.ensures.dealt (rw c.n.ensures.value at c.if-entropy-want.false) (rw c.n-2.ensures.value at c.in-Some-first_alike.ensures.alike)) has)

pub returns-clause-refused : goal.returns-clause-refused
returns-clause-refused c fault has =
    absurd (none_dealable _ _ _ _ _ (record {
      set = c.in_default.ensures.dealt;
      size = rw c.n.ensures.value at c.if-entropy-want.false;
      keys = rw c.n-2.ensures.value at c.in_default-first_alike.ensures.differ;
    }) has)
