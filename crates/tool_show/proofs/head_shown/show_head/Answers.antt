use Rattle.std.proofs.Common.{◌≡◌, true, rules}
use Rattle.std.proofs.lemmas.Result.{err_from_is_err_and}
use Rattle.share_files.specs.Commits.{commits_magic}
use Rattle.share_files.specs.Reference.{reference_magic}
use Rattle.tool_show.specs.Kinds.{begins_with}
use Rattle.tool_show.proofs.Fronts.{commits_refused, commits_shown, reference_refused, reference_shown}
use Rattle.tool_show.proofs.head_shown.show_head.Goals as goal

pub returns-in_err-header-clause-refused : goal.returns-in_err-header-clause-refused
returns-in_err-header-clause-refused c =
    let p = err_from_is_err_and c.from_residual.result c.from_residual.ensures.1 in
    let begins : begins_with reference_magic c.args.head.now ≡ true = search rules in
    rw (p.1, p.2) (λ file has is. reference_refused c.args.head.now c.args.got c.told-head file has is _ begins c.in_err-header.ensures.refused)

pub returns-then-starts_with-clause-shown : goal.returns-then-starts_with-clause-shown
returns-then-starts_with-clause-shown c = λ file leaves has is.
    let begins : begins_with reference_magic c.args.head.now ≡ true = search rules in
    let read = c.in_ok-header.ensures in
    rw c.in_ok-header_line.ensures
    (reference_shown c.args.head.now c.args.got c.told-head file has is c.in_ok-header.header leaves begins read.header read.size read.dealt)

pub returns-in_err-header-2-clause-refused : goal.returns-in_err-header-2-clause-refused
returns-in_err-header-2-clause-refused c =
    let p = err_from_is_err_and c.from_residual-in_err-header-2.result c.from_residual-in_err-header-2.ensures.1 in
    let begins : begins_with commits_magic c.args.head.now ≡ true = search rules in
    rw (p.1, p.2) (λ file has is. commits_refused c.args.head.now c.args.got c.told-head file has is _ begins c.in_err-header-2.ensures.refused)

pub returns-then-starts_with-2-clause-shown : goal.returns-then-starts_with-2-clause-shown
returns-then-starts_with-2-clause-shown c = λ file leaves has is.
    let begins : begins_with commits_magic c.args.head.now ≡ true = search rules in
    let read = c.in_ok-header-2.ensures in
    rw c.in_ok-header_line-2.ensures
    (commits_shown c.args.head.now c.args.got c.told-head file has is c.in_ok-header-2.header leaves begins read.header read.size read.dealt)
