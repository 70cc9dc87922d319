use Rattle.std.proofs.Common.{◌∙◌, ap, arith, subst, sym}
use Rattle.std.proofs.lemmas.Result.{on_ok_weaker}
use Rattle.slot_file.specs.declared.slot.Slot.{Slot}
use Rattle.slot_file.specs.Files.{with_b}
use Rattle.slot_file.specs.Doubts.{IsSure}
use Rattle.slot_file.specs.Layout.{slot_at}
use Rattle.slot_file.proofs.Kept.{slot-within}
use Rattle.slot_file.proofs.PutB.{second, puts_b, has_b, half-body}
use Rattle.slot_file.proofs.slots.Slots.put_b.Goals as goal

pub returns-clause-made : goal.returns-clause-made
returns-clause-made g c = record {
  put = λ told.
      let slots = c.args.self.now in
      let version = slots.header.version in
      let file = slots.whole told in
      let fits = slot-within version c.args.slot slots.count c.requires.within in
      let half = half-body _ (c.requires.half told) in
      let two = second version c.args.body.now c.args.moment _ c.told-body (omega arith) c.requires.moment c.second_block-len.ensures.bytes in
      let full = ap (λ (s : Slot). with_b s c.args.body.now c.args.moment) half.1 in
      rw (c.put.ensures.stays.header, full)
      (on_ok_weaker c.put.result
      (has_b version c.args.slot c.args.body.now c.args.moment _ _ half.0 two (omega (arith, file.size)) half.1 _) (c.put.ensures.gated.bytes told));
  file = λ told.
      let slots = c.args.self.now in
      let version = slots.header.version in
      let file = slots.whole told in
      let fits = slot-within version c.args.slot slots.count c.requires.within in
      let half = half-body _ (c.requires.half told) in
      let two = second version c.args.body.now c.args.moment _ c.told-body (omega arith) c.requires.moment c.second_block-len.ensures.bytes in
      let full = ap (λ (s : Slot). with_b s c.args.body.now c.args.moment) half.1 in
      rw full (puts_b version c.args.slot c.args.body.now c.args.moment _ _ half.0 two (omega (arith, file.size)) half.1 _ (c.put.ensures.gated.file told));
  images = λ told honest image leaves.
      let slots = c.args.self.now in
      let version = slots.header.version in
      let from = c.put.ensures.gated.images told honest image leaves in
      let file = slots.images_whole told honest from.0 from.1 in
      let fits = slot-within version c.args.slot slots.count c.requires.within in
      let half = half-body _ (c.requires.half told) in
      let two = second version c.args.body.now c.args.moment _ c.told-body (omega arith) c.requires.moment c.second_block-len.ensures.bytes in
      let full = ap (λ (s : Slot). with_b s c.args.body.now c.args.moment) half.1 in
      let sure = subst IsSure (sym c.requires.sure) tt in
      let same = ap (slot_at slots.header.version c.args.slot) (slots.stable sure told honest from.0 from.1) in
      let was_half = same ∙ half.1 in
      (from.0, from.1, rw full (puts_b version c.args.slot c.args.body.now c.args.moment _ from.0 half.0 two (omega (arith, file.size)) was_half image from.2));
  stable = c.put.ensures.gated.stable;
  doubt = c.put.ensures.doubt;
}

pub put-requires-clause-within : goal.put-requires-clause-within
put-requires-clause-within g c = c.requires.within

pub returns-clause-succeeds : goal.returns-clause-succeeds
returns-clause-succeeds g c = c.put.ensures.succeeds

pub returns-clause-cause : goal.returns-clause-cause
returns-clause-cause g c = c.put.ensures.cause

pub returns-clause-stays : goal.returns-clause-stays
returns-clause-stays g c = c.put.ensures.stays
