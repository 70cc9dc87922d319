use Rattle.std.proofs.Common.{◌∙◌, sym}
use Rattle.share_files.proofs.FirstFault.{contradiction}
use Rattle.share_files.proofs.References.{commits_length_of-codes}
use Rattle.share_files.proofs.TreeFiles.{length_passes}
use Rattle.share_files.proofs.commits_layout.read_commits_header.Goals as goal

pub returns-in_err-check_length-clause-read : goal.returns-in_err-check_length-clause-read
returns-in_err-check_length-clause-read c = λ header dealt parts size.
    let same = c.in_ok-header.ensures.read header dealt parts in
    let want = rw (same.lms, same.ots, same.plan) at c.length_of_file.ensures.codes in
    contradiction _ _ (length_passes _ _ (size ∙ sym (want ∙ commits_length_of-codes header.params header.plan.k))) c.in_err-check_length.ensures.refused
