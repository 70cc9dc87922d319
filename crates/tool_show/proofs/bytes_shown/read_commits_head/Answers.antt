use Rattle.std.proofs.Common.{◌≡◌, ◌∙◌, refl, take, length, Some, None, true, false, nat_lt, arith}
use Rattle.std.proofs.lemmas.Result.{IfErr-weaker}
use Rattle.std.proofs.lemmas.Bool.Decides.{nat_tests}
use Rattle.share_files.specs.Commits.{commits_head_fault}
use Rattle.share_files.specs.Head.{short_fault}
use Rattle.share_files.proofs.FirstFault.{first_fault-failed, first_fault-passed}
use Rattle.tool_show.specs.Kinds.{commits_fault}
use Rattle.tool_show.proofs.bytes_shown.read_commits_head.Goals as goal

pub returns-then-bytes-lt-HEAD-clause-refused : goal.returns-then-bytes-lt-HEAD-clause-refused
unfolding commits_fault
returns-then-bytes-lt-HEAD-clause-refused c =
    let short : nat_lt (length c.args.bytes.now) 32 ≡ true = let less = c.if-bytes-lt-HEAD.true in grind (arith, nat_tests) in
    first_fault-failed _ _ _ (rw short refl)

pub returns-clause-refused : goal.returns-clause-refused
unfolding commits_fault
returns-clause-refused c =
    let head : c.copy_from_slice.new.self ≡ take 32 c.args.bytes.now = c.copy_from_slice.ensures.after ∙ c.part.ensures.bytes in
    let long : nat_lt (length c.args.bytes.now) 32 ≡ false = let more = c.if-bytes-lt-HEAD.false in grind (arith, nat_tests) in
    let passed : short_fault 32 c.args.bytes.now ≡ None = rw long refl in
    IfErr-weaker c.read_commits_header.result
    (λ fault. commits_head_fault c.copy_from_slice.new.self (length c.args.bytes.now) ≡ Some fault)
    (λ fault. commits_fault c.args.bytes.now ≡ Some fault)
    (λ fault is. first_fault-passed _ _ passed ∙ first_fault-failed _ _ _ (rw head at is))
    c.read_commits_header.ensures.refused
