use Rattle.std.proofs.Common.{◌≡◌, ◌∙◌, ℕ, ◌-◌, ◌≤◌, List, [], ◌∷◌, length, None, false, nat_lt, refl, arith}
use Rattle.std.proofs.lemmas.Bool.Decides.{nat_tests}
use Rattle.std.specs.Prelude.{codes}
use Rattle.std.proofs.lemmas.Result.{err_from_is_err_and}
use Rattle.share_files.specs.Head.{head_bytes, short_fault}
use Rattle.share_files.specs.TreeFile.{tree_fault}
use Rattle.share_files.proofs.FirstFault.{contradiction, first_fault-end, first_fault-passed, first_fault-failed}
use Rattle.share_files.proofs.HeadParts.{head_and_rest, head_passes}
use Rattle.share_files.proofs.TreeFiles.{rest_at, rest_length, tree_length_passes, tree_lies, want_is}
use Rattle.share_files.proofs.tree_file.read_tree.Goals as goal

short_passes : (want : ℕ) (bytes : List ℕ) → want ≤ length bytes → short_fault want bytes ≡ None
short_passes want bytes h =
    let test : nat_lt (length bytes) want ≡ false = grind (arith, nat_tests) in
    rw test refl

pub returns-in_err-check_front-clause-refused : goal.returns-in_err-check_front-clause-refused
unfolding tree_fault
returns-in_err-check_front-clause-refused c =
    let p = err_from_is_err_and c.from_residual.result c.from_residual.ensures.1 in
    rw (p.1, p.2) (first_fault-failed _ _ _ c.in_err-check_front.ensures.refused)

pub returns-in_err-head-clause-read : goal.returns-in_err-head-clause-read
returns-in_err-head-clause-read c = λ params id nodes l.
    contradiction _ _ (head_passes _ _ _ _ _ _ _ c.args.bytes.now (tree_lies params c.args.bytes.now id nodes l) l.dealt) c.in_err-head.ensures.refused

pub returns-in_err-head-clause-refused : goal.returns-in_err-head-clause-refused
unfolding tree_fault
returns-in_err-head-clause-refused c =
    let p = err_from_is_err_and c.from_residual-in_err-head.result c.from_residual-in_err-head.ensures.1 in
    rw (p.1, p.2)
    (first_fault-passed _ _ c.in_ok-check_front.ensures.faultless ∙ first_fault-failed _ _ _ c.in_err-head.ensures.refused)

pub returns-in_err-check_zero-clause-refused : goal.returns-in_err-check_zero-clause-refused
unfolding tree_fault
returns-in_err-check_zero-clause-refused c =
    let p = err_from_is_err_and c.from_residual-in_err-check_zero.result c.from_residual-in_err-check_zero.ensures.1 in
    rw (p.1, p.2)
    (first_fault-passed _ _ c.in_ok-check_front.ensures.faultless
    ∙ (first_fault-passed _ _ c.in_ok-head.ensures.faultless ∙ first_fault-failed _ _ _ c.in_err-check_zero.ensures.refused))

pub returns-in_err-check_zero-2-clause-refused : goal.returns-in_err-check_zero-2-clause-refused
unfolding tree_fault
returns-in_err-check_zero-2-clause-refused c =
    let p = err_from_is_err_and c.from_residual-in_err-check_zero-2.result c.from_residual-in_err-check_zero-2.ensures.1 in
    rw (p.1, p.2)
    (first_fault-passed _ _ c.in_ok-check_front.ensures.faultless
    ∙ (first_fault-passed _ _ c.in_ok-head.ensures.faultless
    ∙ (first_fault-passed _ _ c.in_ok-check_zero.ensures.faultless ∙ first_fault-failed _ _ _ c.in_err-check_zero-2.ensures.refused)))

pub returns-in_err-check_zero-3-clause-refused : goal.returns-in_err-check_zero-3-clause-refused
unfolding tree_fault
returns-in_err-check_zero-3-clause-refused c =
    let p = err_from_is_err_and c.from_residual-in_err-check_zero-3.result c.from_residual-in_err-check_zero-3.ensures.1 in
    rw (p.1, p.2)
    (first_fault-passed _ _ c.in_ok-check_front.ensures.faultless
    ∙ (first_fault-passed _ _ c.in_ok-head.ensures.faultless
    ∙ (first_fault-passed _ _ c.in_ok-check_zero.ensures.faultless
    ∙ (first_fault-passed _ _ c.in_ok-check_zero-2.ensures.faultless ∙ first_fault-failed _ _ _ c.in_err-check_zero-3.ensures.refused))))

pub returns-in_err-check_length-clause-refused : goal.returns-in_err-check_length-clause-refused
unfolding tree_fault
returns-in_err-check_length-clause-refused c =
    let p = err_from_is_err_and c.from_residual-in_err-check_length.result c.from_residual-in_err-check_length.ensures.1 in
    let want = want_is c.in_ok-head.head.params c.args.bytes.now c.tree_length.result c.in_ok-head.ensures.codes.0 c.tree_length.ensures in
    rw (p.1, p.2)
    (first_fault-passed _ _ c.in_ok-check_front.ensures.faultless
    ∙ (first_fault-passed _ _ c.in_ok-head.ensures.faultless
    ∙ (first_fault-passed _ _ c.in_ok-check_zero.ensures.faultless
    ∙ (first_fault-passed _ _ c.in_ok-check_zero-2.ensures.faultless
    ∙ (first_fault-passed _ _ c.in_ok-check_zero-3.ensures.faultless
    ∙ first_fault-failed _ _ _ (rw want at c.in_err-check_length.ensures.refused))))))

pub returns-clause-layout : goal.returns-clause-layout
returns-clause-layout c =
    let head = c.in_ok-head.head in
    let front = head_bytes (codes "TLTR") (0 ∷ 0 ∷ 0 ∷ []) head.params head.id in
    let more = rest_length (length c.args.bytes.now) c.tree_length.result _ c.in_ok-check_length.ensures.length c.tree_length.ensures in
    record {
      dealt = c.in_ok-head.ensures.dealt;
      id_length = head.id_length;
      nodes_length = c.part.ensures.length ∙ more;
      parts = head_and_rest c.args.bytes.now front c.part.result.now (length c.args.bytes.now - 32) (omega (arith, c.in_ok-check_front.ensures.room))
          (rw (c.in_ok-check_zero.ensures.zero, c.in_ok-check_zero-2.ensures.zero, c.in_ok-check_zero-3.ensures.zero) at c.in_ok-head.ensures.head) c.part.ensures.bytes;
    }

pub returns-clause-read : goal.returns-clause-read
returns-clause-read c = λ params id nodes l.
    let lies = tree_lies params c.args.bytes.now id nodes l in
    record {
      lms = c.in_ok-head.ensures.codes.0 ∙ lies.lms_is;
      ots = c.in_ok-head.ensures.codes.1 ∙ lies.ots_is;
      same_id = c.in_ok-head.ensures.id ∙ lies.id_at;
      same_nodes = c.part.ensures.bytes ∙ rest_at params c.args.bytes.now id nodes l;
    }

pub returns-clause-faultless : goal.returns-clause-faultless
unfolding tree_fault
returns-clause-faultless c =
    let want = want_is c.in_ok-head.head.params c.args.bytes.now c.tree_length.result c.in_ok-head.ensures.codes.0 c.tree_length.ensures in
    first_fault-passed _ _ c.in_ok-check_front.ensures.faultless
    ∙ (first_fault-passed _ _ c.in_ok-head.ensures.faultless
    ∙ (first_fault-passed _ _ c.in_ok-check_zero.ensures.faultless
    ∙ (first_fault-passed _ _ c.in_ok-check_zero-2.ensures.faultless
    ∙ (first_fault-passed _ _ c.in_ok-check_zero-3.ensures.faultless
    ∙ (first_fault-passed _ _ (rw want at c.in_ok-check_length.ensures.faultless) ∙ first_fault-end)))))

pub returns-in_err-check_front-clause-read : goal.returns-in_err-check_front-clause-read
returns-in_err-check_front-clause-read c = λ params id nodes l.
    let lies = tree_lies params c.args.bytes.now id nodes l in
    contradiction _ _ (short_passes 32 c.args.bytes.now (omega (arith, lies.size))) c.in_err-check_front.ensures.refused

pub returns-in_err-check_length-clause-read : goal.returns-in_err-check_length-clause-read
returns-in_err-check_length-clause-read c = λ params id nodes l.
    let lies = tree_lies params c.args.bytes.now id nodes l in
    let want = want_is c.in_ok-head.head.params c.args.bytes.now c.tree_length.result c.in_ok-head.ensures.codes.0 c.tree_length.ensures in
    contradiction _ _ (tree_length_passes params c.args.bytes.now id nodes l) (rw (want, lies.lms_is) at c.in_err-check_length.ensures.refused)
