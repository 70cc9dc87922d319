use Rattle.std.proofs.Common.{◌≡◌, length, refl, sym, ap, ◌∙◌, arith, append-nil}
use Rattle.lms_bytes.specs.Bytes.{joined}
use Rattle.trustee_core.specs.Grants.{ask_in, granted_by, mask_of}
use Rattle.trustee_node.proofs.Masks.{masks-more, some-there}
use Rattle.trustee_node.proofs.reply.put_masks.Goals as goal

pub loop-i-init : goal.loop-i-init
loop-i-init c = record {
  later = omega arith;
  within = (let a = c.requires.from in let b = c.count-count.ensures in omega (arith, a, b));
  first = λ _. refl;
  size = refl;
  small = omega arith;
  bytes = append-nil (joined (mask_of (granted_by c.args.masks.now) (ask_in c.args.masks.now)) c.args.from);
}

pub loop-i-preserved : goal.loop-i-preserved
loop-i-preserved c =
    let v = c.loop-i.invariant in
    let f = mask_of (granted_by c.args.masks.now) (ask_in c.args.masks.now) in
    let bytes = c.bytes.ensures.bytes in
    record {
      later = (let a = v.later in omega (arith, a));
      within = (let t = c.loop-i-test.true in omega (arith, t));
      first = λ is. absurd (let a = v.later in omega (arith, a, is));
      size = c.put.auto.out ∙ v.size;
      small = (let t = c.if-is_full.false in let k = v.size in omega (arith, t, k));
      bytes = masks-more f c.args.from c.loop-i.i c.loop-i.length c.mask_length-n.result c.loop-i.room c.put.new.out c.bytes.result.now
          v.bytes (bytes ∙ c.mask.ensures.mask) (ap length bytes ∙ c.mask.ensures.length ∙ sym c.mask_length-n.ensures.length) c.put.ensures.front;
    }

pub returns-then-is_full-clause-later : goal.returns-then-is_full-clause-later
returns-then-is_full-clause-later c =
    let v = c.loop-i.invariant in
    some-there c.args.from c.loop-i.i c.loop-i.length c.mask_length-n.result (length c.loop-i.room) v.later v.first c.mask_length-n.ensures.small
    (let r = c.requires.room in let k = v.size in omega (arith, r, k)) c.if-is_full.true

pub returns-clause-bytes : goal.returns-clause-bytes
returns-clause-bytes c =
    let v = c.loop-i.invariant in
    let f = mask_of (granted_by c.args.masks.now) (ask_in c.args.masks.now) in
    let whole : c.loop-i.i ≡ c.count-count.result = (let t = c.loop-i-test.false in let w = v.within in omega (arith, t, w)) in
    v.bytes ∙ ap (joined f) whole
