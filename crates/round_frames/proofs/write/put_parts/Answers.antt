use Rattle.std.proofs.Common.{◌≡◌, ◌∷◌, [], ◌∙◌, length, take, refl, arith}
use Rattle.lms_bytes.specs.Bytes.{u32str}
use Rattle.round_frames.proofs.Puts.{in-four, put-as, put-then}
use Rattle.round_frames.proofs.write.put_parts.Goals as goal

pub returns : goal.returns
returns c =
    let head = c.args.head.now in
    let out = c.args.out.now in
    let key : length head.key ≡ 16 = omega arith in
    let hash : length head.message.hash ≡ 32 = omega arith in
    let one = put-then c.put.new.out out (take 8 out) head.key 8 16 key c.put.ensures.front refl in
    let two = put-as c.put-2.new.out c.put.new.out _ c.to_be_bytes.result (u32str head.leaf) 24 4 c.to_be_bytes.ensures refl c.put-2.ensures.front one in
    let three = put-then c.put-3.new.out c.put-2.new.out _ (head.member ∷ []) 28 1 refl c.put-3.ensures.front two in
    let four = put-as c.put-4.new.out c.put-3.new.out _ c.to_be_bytes-2.result (u32str head.message.length) 29 4 c.to_be_bytes-2.ensures refl c.put-4.ensures.front three in
    let five = put-then c.put-5.new.out c.put-4.new.out _ head.message.hash 33 32 hash c.put-5.ensures.front four in
    five ∙ in-four (take 8 out) head.key (u32str head.leaf) (head.member ∷ []) (u32str head.message.length) head.message.hash
