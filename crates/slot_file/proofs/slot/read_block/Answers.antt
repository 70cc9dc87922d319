use Rattle.std.proofs.Common.{◌≡◌, ◌+◌, ◌*◌, ◌-◌, ℕ, List, take, drop, ◌∙◌, ap, rules, arith}
use Rattle.slot_file.specs.Layout.{part, slot_of, slot_size}
use Rattle.slot_file.proofs.Runs.{in-block-more}
use Rattle.slot_file.proofs.slot.read_block.Goals as goal

-- a range of that many bytes
range-is : (version size at place : ℕ) (block : List ℕ) → size ≡ at → slot_of version (take (size * place + size - size * place) (drop (size * place) block)) ≡ slot_of version (part (at * place) at block)
range-is version size at place block is =
    let all : size * place + size - size * place ≡ size = omega arith in
    ap (λ (n : ℕ). slot_of version (take n (drop (size * place) block))) all ∙ ap (λ (n : ℕ). slot_of version (part (n * place) n block)) is

pub loop-place-preserved : goal.loop-place-preserved
loop-place-preserved c =
    let loop = c.loop-place in
    let here = c.of_bytes.ensures ∙ range-is c.args.version c.slot_len-size.result (slot_size c.args.version) loop.place c.args.block.now c.slot_len-size.ensures in
    record {
      count = search rules;
      slots = in-block-more c.args.version c.args.block.now loop.out loop.place c.of_bytes.result (omega arith) here loop.invariant.slots;
    }
