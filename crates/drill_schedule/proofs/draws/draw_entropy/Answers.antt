use Rattle.std.proofs.Common.{◌≡◌, ◌+◌, ◌%◌, ℕ, List, [], ◌∷◌, ◌++◌, length, take, take_all, slice_set, refl, sym, ◌∙◌, ap, arith}
use Rattle.std.proofs.lemmas.List.{length-set, take_more_set}
use Rattle.disk_trait.specs.Generator.{draw_of}
use Rattle.drill_schedule.specs.Draws.{bytes_of, draw_at, entropy_of}
use Rattle.drill_schedule.proofs.Drawing.{bytes-more, bytes-none, state-next, state-none}
use Rattle.drill_schedule.proofs.draws.draw_entropy.Goals as goal

pub bytes-init : goal.bytes-init
bytes-init c = record { size = refl; state = sym (state-none _); front = sym (bytes-none _) }

pub bytes-preserved : goal.bytes-preserved
bytes-preserved c =
    let number = c.args.generator.now.state in
    let before = c.bytes.invariant in
    let v : c.draw.result ≡ draw_at number c.bytes.i = c.draw.ensures.value ∙ ap draw_of before.state in
    let size : length c.bytes.entropy ≡ 176 = before.size in
    record {
      size = length-set c.bytes.entropy c.bytes.i (c.draw.result % 256) ∙ size;
      state = state-next number c.bytes.i _ _ before.state c.draw.ensures.after;
      front = take_more_set c.bytes.entropy c.bytes.i (c.draw.result % 256) (omega arith)
          ∙ (λ j. before.front j ++ (v j % 256) ∷ []) ∙ sym (bytes-more number c.bytes.i);
    }

with-numbers : (number : ℕ) (bytes : List ℕ) → bytes ≡ bytes_of number 176 → slice_set (slice_set (slice_set bytes 80 1) 112 2) 144 3 ≡ entropy_of number
unfolding entropy_of
with-numbers number bytes is = ap (λ (b : List ℕ). slice_set (slice_set (slice_set b 80 1) 112 2) 144 3) is

pub returns-clause-entropy : goal.returns-clause-entropy
returns-clause-entropy c =
    let number = c.args.generator.now.state in
    let all : c.bytes.i ≡ 176 = omega arith in
    let size : length c.bytes.entropy ≡ 176 = c.bytes.invariant.size in
    let front : take 176 c.bytes.entropy ≡ bytes_of number 176 = rw all at c.bytes.invariant.front in
    with-numbers number c.bytes.entropy (sym (take_all 176 c.bytes.entropy (omega arith)) ∙ front)
