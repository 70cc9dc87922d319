use Rattle.std.proofs.Common.{◌≡◌, ℕ, List, ◌+◌, ◌-◌, ◌≤◌, ◌∙◌, ◌++◌, length, sym, ap, refl, arith, take, drop, zero-add}
use Rattle.std.proofs.Math.Seq.{take-add}
use Rattle.lms_bytes.specs.Bytes.{bytes_at}
use Rattle.mask_prf.proofs.Lengths.{length-check_tag_of}
use Rattle.reference_value.proofs.leaf.add_member.Goals as goal

-- the randomizer's mask is put in front, and the tag after what is there
added : (old masked new random tag : List ℕ) (n size place : ℕ) → size ≡ n → n ≤ place → length tag ≡ 32
    → take (0 + size) masked ≡ random → drop (0 + size) masked ≡ drop (0 + size) old → take (place + length tag) new ≡ take place masked ++ tag
    → take (place + 32) new ≡ random ++ bytes_at old n (place - n) ++ tag
added old masked new random tag n size place same far long front behind written =
    let front' : take n masked ≡ random = rw (zero-add, same) at front in
    let behind' : drop n masked ≡ drop n old = rw (zero-add, same) at behind in
    let whole : n + (place - n) ≡ place = omega arith in
    let before : take place masked ≡ random ++ bytes_at old n (place - n) =
    ap (λ m. take m masked) (sym whole) ∙ (take-add n (place - n) masked ∙ rw (front', behind') refl) in
    rw (← before, ← long) written

pub returns-clause-front : goal.returns-clause-front
returns-clause-front c =
    let n = c.args.params.now.n in
    let tag = c.check_tag.ensures in
    let long : length c.check_tag.result ≡ 32 = ap length tag ∙ length-check_tag_of c.args.key.now c.args.id.now c.args.q c.args.c.now in
    let front = added c.args.front.now c.mask_value.new.out c.put.new.out _ c.check_tag.result n (length c.random_mask.result) c.args.place c.random_mask.ensures.length c.requires.behind long
    c.mask_value.ensures.front c.mask_value.ensures.after c.put.ensures.front in
    front ∙ rw (tag, c.random_mask.ensures.length, c.random_mask.ensures.mask) refl
