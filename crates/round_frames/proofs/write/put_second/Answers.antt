use Rattle.std.proofs.Common.{◌≡◌, ◌+◌, ◌++◌, ◌∙◌, List, ℕ, length, take, refl, subst, ap, arith}
use Rattle.lms_bytes.specs.Bytes.{u32str}
use Rattle.round_frames.specs.Frames.{header_bytes}
use Rattle.round_frames.proofs.Puts.{put-as, put-then}
use Rattle.round_frames.proofs.write.put_second.Goals as goal

pub returns : goal.returns
returns c =
    let ask = c.args.ask.now in
    let second = c.args.second.now in
    let key : length ask.key ≡ 16 = omega arith in
    let tag : length second.tag ≡ 32 = omega arith in
    let rand = c.bytes-c.ensures.bytes in
    let head : List ℕ = header_bytes 2 (52 + length second.c + length c.args.message.now) in
    let zero : take 8 c.put_header.new.out ≡ head = c.put_header.ensures ∙ ap (λ xs. header_bytes 2 (52 + length xs + length c.args.message.now)) rand in
    let one = put-then c.put.new.out c.put_header.new.out head ask.key 8 16 key c.put.ensures.front zero in
    let two = put-as c.put-2.new.out c.put.new.out (head ++ ask.key) c.to_be_bytes.result (u32str ask.leaf) 24 4 c.to_be_bytes.ensures refl c.put-2.ensures.front one in
    let three = put-as c.put-3.new.out c.put-2.new.out (head ++ ask.key ++ u32str ask.leaf) c.bytes-c.result.now second.c 28 (length second.c) rand refl c.put-3.ensures.front two in
    let four = put-then c.put-4.new.out c.put-3.new.out (head ++ ask.key ++ u32str ask.leaf ++ second.c) second.tag (28 + length second.c) 32 tag (subst (λ n. take (28 + n + length second.tag) c.put-4.new.out ≡ take (28 + n) c.put-3.new.out ++ second.tag) (ap length rand) c.put-4.ensures.front) three in
    let size : 28 + length second.c + 32 ≡ 60 + length second.c = omega arith in
    subst (λ k. take k c.put-4.new.out ≡ head ++ ask.key ++ u32str ask.leaf ++ second.c ++ second.tag) size four
