use Rattle.std.proofs.Common.{◌∙◌, ap, arith, subst, sym}
use Rattle.std.proofs.lemmas.Result.{on_ok_weaker}
use Rattle.slot_file.specs.Doubts.{IsSure}
use Rattle.slot_file.specs.Layout.{slot_at}
use Rattle.slot_file.proofs.Kept.{slot-within}
use Rattle.slot_file.proofs.PutA.{puts_a, has_a}
use Rattle.slot_file.proofs.slots.Slots.put_a.Goals as goal

pub returns-clause-made : goal.returns-clause-made
returns-clause-made g c = record {
  put = λ told.
      let slots = c.args.self.now in
      let file = slots.whole told in
      let fits = slot-within slots.header.version c.args.slot slots.count c.requires.within in
      rw c.put.ensures.stays.header (on_ok_weaker c.put.result
      (has_a slots.header.version c.args.slot c.args.body.now _ c.told-body (omega (arith, file.size)) (c.requires.free told) _) (c.put.ensures.gated.bytes told));
  file = λ told.
      let slots = c.args.self.now in
      let file = slots.whole told in
      let fits = slot-within slots.header.version c.args.slot slots.count c.requires.within in
      puts_a slots.header.version c.args.slot c.args.body.now _ c.told-body (omega (arith, file.size)) (c.requires.free told) _ (c.put.ensures.gated.file told);
  images = λ told honest image leaves.
      let slots = c.args.self.now in
      let from = c.put.ensures.gated.images told honest image leaves in
      let file = slots.images_whole told honest from.0 from.1 in
      let fits = slot-within slots.header.version c.args.slot slots.count c.requires.within in
      let sure = subst IsSure (sym c.requires.sure) tt in
      let same = ap (slot_at slots.header.version c.args.slot) (slots.stable sure told honest from.0 from.1) in
      let free = same ∙ c.requires.free told in
      (from.0, from.1, puts_a slots.header.version c.args.slot c.args.body.now from.0 c.told-body (omega (arith, file.size)) free image from.2);
  stable = c.put.ensures.gated.stable;
  doubt = c.put.ensures.doubt;
}

pub put-requires-clause-within : goal.put-requires-clause-within
put-requires-clause-within g c = c.requires.within

pub returns-clause-succeeds : goal.returns-clause-succeeds
returns-clause-succeeds g c = c.put.ensures.succeeds

pub returns-clause-cause : goal.returns-clause-cause
returns-clause-cause g c = c.put.ensures.cause

pub returns-clause-stays : goal.returns-clause-stays
returns-clause-stays g c = c.put.ensures.stays
