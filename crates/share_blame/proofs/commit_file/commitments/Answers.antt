use Rattle.std.proofs.Common.{◌≡◌, ◌∙◌, arith, refl}
use Rattle.share_files.specs.Commits.{commits_length}
use Rattle.share_blame.specs.CommitFile.{no_memory, too_large}
use Rattle.share_blame.proofs.Remade.{count-shares, of-dealt}
use Rattle.share_blame.proofs.commit_file.commitments.Goals as goal

pub make_file-requires : goal.make_file-requires
make_file-requires c = rw c.deref.ensures.value (count-shares c.args.plan.now c.requires.0 c.args.dealt.now c.requires.1)

pub returns-in-Ok-clause-file : goal.returns-in-Ok-clause-file
returns-in-Ok-clause-file c = λ d is. c.in-Ok.ensures d (rw c.deref.ensures.value (of-dealt c.args.plan.now d c.args.dealt.now _ is refl refl refl))

pub returns-then-bytes-gt-COMMITS_LIMIT-clause-cause : goal.returns-then-bytes-gt-COMMITS_LIMIT-clause-cause
returns-then-bytes-gt-COMMITS_LIMIT-clause-cause c =
    let bytes : c.length_of_commits-bytes.result ≡ commits_length c.args.dealt.now.public.params c.args.plan.now = c.length_of_commits-bytes.ensures ∙ rw c.k.ensures.value refl in
    rw bytes (too_large (rw bytes at c.if-bytes-gt-COMMITS_LIMIT.true))

pub returns-in-Err-clause-cause : goal.returns-in-Err-clause-cause
returns-in-Err-clause-cause c =
    let bytes : c.length_of_commits-bytes.result ≡ commits_length c.args.dealt.now.public.params c.args.plan.now = c.length_of_commits-bytes.ensures ∙ rw c.k.ensures.value refl in
    no_memory (omega (arith, bytes, c.if-bytes-gt-COMMITS_LIMIT.false))
