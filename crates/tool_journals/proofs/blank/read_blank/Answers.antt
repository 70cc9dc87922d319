use Rattle.std.proofs.Common.{◌≡◌, true, false, rules}
use Rattle.std.proofs.lemmas.Result.{err_from_is_err_and}
use Rattle.share_files.specs.Reference.{reference_magic}
use Rattle.tool_journals.specs.Enrol.{begins_with, not_found, whole}
use Rattle.tool_journals.proofs.Enrolling.{enrol_refused, long_goes, long_other, long_refused}
use Rattle.tool_journals.proofs.blank.read_blank.Goals as goal

pub returns-in_err-bytes-clause-refused : goal.returns-in_err-bytes-clause-refused
returns-in_err-bytes-clause-refused g c =
    let p = err_from_is_err_and c.from_residual.result c.from_residual.ensures.1 in
    λ first last part. rw (p.1, p.2) (not_found _ (c.in_err-bytes.ensures.refused first last part))

pub returns-in-Ok-clause-blank : goal.returns-in-Ok-clause-blank
returns-in-Ok-clause-blank g c = λ first last part.
    let read = rw c.in-Whole.is at (c.in_ok-bytes.ensures.found first last part) in
    whole c.in-Whole.bytes.items _ _ read (rw c.deref.ensures.value at c.in-Ok.ensures.blank)

pub returns-in-Whole-clause-refused : goal.returns-in-Whole-clause-refused
returns-in-Whole-clause-refused g c = λ first last part.
    let read = rw c.in-Whole.is at (c.in_ok-bytes.ensures.found first last part) in
    enrol_refused _ _ c.in-Whole.bytes.items c.in-Err.fault c.number.result _ read (rw c.deref.ensures.value at c.in-Err.ensures.refused) c.number.ensures c.unreadable.ensures

pub returns-then-not-starts_with-clause-refused : goal.returns-then-not-starts_with-clause-refused
returns-then-not-starts_with-clause-refused g c = λ first last part.
    let found = rw c.in-Long.is at (c.in_ok-bytes.ensures.found first last part) in
    let other : begins_with reference_magic c.in-Long.head ≡ false = search rules in
    long_other _ _ c.in-Long.head c.in-Long.got found other

pub returns-in-Ok-read_ref_header-clause-blank : goal.returns-in-Ok-read_ref_header-clause-blank
returns-in-Ok-read_ref_header-clause-blank g c = λ first last part.
    let found = rw c.in-Long.is at (c.in_ok-bytes.ensures.found first last part) in
    let read = c.in-Ok-read_ref_header.ensures in
    long_goes _ _ c.in-Long.head c.in-Long.got found c.in-Ok-read_ref_header.reference _ _ read.header read.size read.dealt c.table_of.ensures.header c.table_of.ensures.count

pub returns-clause-refused : goal.returns-clause-refused
returns-clause-refused g c = λ first last part.
    let found = rw c.in-Long.is at (c.in_ok-bytes.ensures.found first last part) in
    let same : begins_with reference_magic c.in-Long.head ≡ true = search rules in
    long_refused _ _ c.in-Long.head c.in-Long.got found c.in-Err-read_ref_header.fault _ _ same c.in-Err-read_ref_header.ensures.refused c.number-in-Err-read_ref_header.ensures c.unreadable-in-Err-read_ref_header.ensures
