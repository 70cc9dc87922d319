use Rattle.std.proofs.Common.{◌≤◌, ◌∷◌, ◌++◌, List, [], length, ◌∙◌, ap, sym, arith, ℕ, length-append}
use Rattle.std.proofs.lemmas.List.{take_at}
use Rattle.std.proofs.lemmas.Slice.{take-put_mid, take-put_mid_below}
use Rattle.slot_file.proofs.PutB.{length-moment_bytes, second-wide, second-narrow}
use Rattle.slot_file.proofs.slots.second_block.Goals as goal

zeros : List ℕ
zeros = 0 ∷ 0 ∷ 0 ∷ 0 ∷ 0 ∷ 0 ∷ 0 ∷ 0 ∷ []

pub returns-then-version-eq2-clause-bytes : goal.returns-then-version-eq2-clause-bytes
unfolding zeros
returns-then-version-eq2-clause-bytes c =
    let body = c.copy_from_slice.new.self in
    let ys = c.copy_from_slice-2.new.self in
    let xs = body ++ zeros in
    let size = c.copy_from_slice.ensures.len in
    let there : 64 ≤ length xs = omega (arith, length-append body zeros) in
    let ys_is = c.copy_from_slice-2.ensures.after ∙ c.moment_bytes.ensures in
    take-put_mid 64 8 xs ys 72 (omega (arith, ap length ys_is, length-moment_bytes c.args.moment)) there
    ∙ ap (λ (l : List ℕ). l ++ ys) (take_at body zeros 64 size ∙ c.copy_from_slice.ensures.after)
    ∙ ap (λ (l : List ℕ). c.args.body.now ++ l) ys_is
    ∙ sym (second-wide c.args.version c.args.body.now c.args.moment c.if-version-eq2.true)

pub returns-else-version-eq2-clause-bytes : goal.returns-else-version-eq2-clause-bytes
unfolding zeros
returns-else-version-eq2-clause-bytes c =
    let body = c.copy_from_slice.new.self in
    let ys = c.copy_from_slice-2.new.self in
    let xs = body ++ zeros in
    let size = c.copy_from_slice.ensures.len in
    let there : 64 ≤ length xs = omega (arith, length-append body zeros) in
    take-put_mid_below 64 8 xs ys 64 (omega arith) there
    ∙ take_at body zeros 64 size ∙ c.copy_from_slice.ensures.after
    ∙ sym (second-narrow c.args.version c.args.body.now c.args.moment c.if-version-eq2.false)
