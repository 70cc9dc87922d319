use Rattle.std.proofs.Common.{ap, sym, ◌∙◌, arith, drop, drop-drop, length-drop, rules, take, take-add}
use Rattle.std.proofs.lemmas.List.{drop_all}
use Rattle.stream_memory.proofs.mem_source.MemSourceSource.read.Goals as goal

pub returns-clause-read : goal.returns-clause-read
returns-clause-read c =
    let bytes = c.args.self.now.bytes.items in
    let at = c.args.self.now.at in
    let n = c.min-count.result in
    let few = c.min-count.ensures in
    record {
      size = search rules;
      bytes = λ told. c.copy_part.ensures ∙ ap (λ b. take n (drop at b)) c.as_slice.ensures.value;
      took = λ told. record {
        there = (let l = length-drop at bytes in grind (arith, few, l));
        taken = take-add at n bytes;
        left = sym (drop-drop n at bytes);
      };
      end = λ told none room.
          let m = c.most-most.ensures in
          let a = c.min.ensures in
          drop_all at bytes (grind (arith, m, a, few, none, room));
    }
