use Rattle.std.proofs.Common.{◌≡◌, ◌∙◌, Err, Result, ap, arith, refl}
use Rattle.share_files.specs.Commits.{commits_length}
use Rattle.dealer.specs.Committed.{not_dealt, too_large}
use Rattle.dealer.specs.declared.committed.CommittedFault.TheVariants.{Deal}
use Rattle.dealer.specs.declared.faults.DealFault.{DealFault}
use Rattle.dealer.proofs.Exclusive.{none_dealable}
use Rattle.dealer.proofs.committed.test_committed.Goals as goal

pub returns-in-Err-clause-too_large : goal.returns-in-Err-clause-too_large
returns-in-Err-clause-too_large c = λ dealable large. absurd (none_dealable _ _ _ _ c.in-Err.fault dealable c.in-Err.ensures.cause)

pub returns-in-Err-clause-cause : goal.returns-in-Err-clause-cause
returns-in-Err-clause-cause c = not_dealt c.in-Err.fault c.in-Err.ensures.cause

pub returns-then-bytes-gt-COMMITS_LIMIT-clause-cause : goal.returns-then-bytes-gt-COMMITS_LIMIT-clause-cause
returns-then-bytes-gt-COMMITS_LIMIT-clause-cause c =
    let bytes : c.length_of_commits-bytes.result ≡ commits_length c.args.params.now c.args.plan.now = c.length_of_commits-bytes.ensures ∙ rw c.k.ensures.value refl in
    rw bytes (too_large c.in_default.ensures.dealable (rw bytes at c.if-bytes-gt-COMMITS_LIMIT.true))

same-fault : {T : Type 0} {fault other : DealFault} → ◌≡◌ {A = Result T DealFault} (Err fault) (Err other) → fault ≡ other
same-fault e = cc

pub returns-in-Err-clause-refused : goal.returns-in-Err-clause-refused
returns-in-Err-clause-refused c = λ fault has. ap (λ (why : DealFault). Err (Deal why)) (same-fault (c.in-Err.ensures.refused fault has))

pub returns-then-bytes-gt-COMMITS_LIMIT-clause-refused : goal.returns-then-bytes-gt-COMMITS_LIMIT-clause-refused
returns-then-bytes-gt-COMMITS_LIMIT-clause-refused c = λ fault has. absurd (none_dealable _ _ _ _ fault c.in_default.ensures.dealable has)

pub returns-then-bytes-gt-COMMITS_LIMIT-clause-too_large : goal.returns-then-bytes-gt-COMMITS_LIMIT-clause-too_large
returns-then-bytes-gt-COMMITS_LIMIT-clause-too_large c = λ dealable large.
    let bytes : c.length_of_commits-bytes.result ≡ commits_length c.args.params.now c.args.plan.now = c.length_of_commits-bytes.ensures ∙ rw c.k.ensures.value refl in
    rw bytes refl

pub returns-clause-dealable : goal.returns-clause-dealable
returns-clause-dealable c = c.in_default.ensures.dealable

pub returns-clause-refused : goal.returns-clause-refused
returns-clause-refused c = λ fault has. absurd (none_dealable _ _ _ _ fault c.in_default.ensures.dealable has)

pub returns-clause-small : goal.returns-clause-small
returns-clause-small c =
    let bytes : c.length_of_commits-bytes.result ≡ commits_length c.args.params.now c.args.plan.now = c.length_of_commits-bytes.ensures ∙ rw c.k.ensures.value refl in
    rw bytes at c.if-bytes-gt-COMMITS_LIMIT.false

pub returns-clause-too_large : goal.returns-clause-too_large
returns-clause-too_large c = λ dealable large.
    let bytes : c.length_of_commits-bytes.result ≡ commits_length c.args.params.now c.args.plan.now = c.length_of_commits-bytes.ensures ∙ rw c.k.ensures.value refl in
    let small = rw bytes at c.if-bytes-gt-COMMITS_LIMIT.false in
    absurd (omega (arith, small, large))
