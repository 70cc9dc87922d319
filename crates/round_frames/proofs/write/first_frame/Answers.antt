use Rattle.std.proofs.Common.{◌≡◌, ◌+◌, ◌++◌, ◌∙◌, List, ℕ, ap, length, length-append, take, refl, sym, arith}
use Rattle.std.proofs.lemmas.List.{take_all}
use Rattle.lms_bytes.specs.Bytes.{u32str}
use Rattle.round_frames.specs.Asks.{first_payload}
use Rattle.round_frames.specs.Frames.{header_bytes}
use Rattle.round_frames.proofs.Puts.{in-three, put-as, put-then}
use Rattle.round_frames.proofs.write.first_frame.Goals as goal

long : (key hash : List ℕ) (leaf size : ℕ) → length key ≡ 16 → length hash ≡ 32 → length ((key ++ u32str leaf) ++ (u32str size ++ hash)) ≡ 56
long key hash leaf size k h =
    length-append (key ++ u32str leaf) (u32str size ++ hash)
    ∙ (let a : length (key ++ u32str leaf) ≡ length key + 4 = length-append key (u32str leaf) in let b : length (u32str size ++ hash) ≡ 4 + length hash = length-append (u32str size) hash in omega (arith, a, b, k, h))

pub returns : goal.returns
returns c =
    let ask = c.args.ask.now in
    let key : length ask.key ≡ 16 = omega arith in
    let hash : length ask.message.hash ≡ 32 = omega arith in
    let zero = c.put_header.ensures in
    let one = put-then c.put.new.out c.put_header.new.out _ ask.key 8 16 key c.put.ensures.front zero in
    let two = put-as c.put-2.new.out c.put.new.out _ c.to_be_bytes.result (u32str ask.leaf) 24 4 c.to_be_bytes.ensures refl c.put-2.ensures.front one in
    let three = put-as c.put-3.new.out c.put-2.new.out _ c.to_be_bytes-2.result (u32str ask.message.length) 28 4 c.to_be_bytes-2.ensures refl c.put-3.ensures.front two in
    let four = put-then c.put-4.new.out c.put-3.new.out (header_bytes 1 56 ++ ask.key ++ u32str ask.leaf ++ u32str ask.message.length) ask.message.hash 32 32 hash c.put-4.ensures.front three in
    let all : take 64 c.put-4.new.out ≡ c.put-4.new.out = take_all 64 c.put-4.new.out (omega arith) in
    sym all ∙ four ∙ in-three (header_bytes 1 56) ask.key (u32str ask.leaf) (u32str ask.message.length) ask.message.hash
    ∙ ap (λ n. header_bytes 1 n ++ first_payload ask) (sym (long ask.key ask.message.hash ask.leaf ask.message.length key hash))
