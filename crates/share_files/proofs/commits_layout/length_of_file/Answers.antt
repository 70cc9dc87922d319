use Rattle.std.proofs.Common.{◌∙◌, sym}
use Rattle.share_files.proofs.References.{commits_length_of-codes}
use Rattle.share_files.proofs.commits_layout.length_of_file.Goals as goal

pub returns-clause-codes : goal.returns-clause-codes
returns-clause-codes c =
    rw c.k.ensures.value at c.length_of_commits.ensures ∙ sym (commits_length_of-codes c.args.header.now.params c.args.header.now.plan.k)
