use Rattle.std.proofs.Common.{refl, sym, arith}
use Rattle.disk_trait.proofs.SameDisk.{same-kind}
use Rattle.slot_file.proofs.Kept.{run-within}
use Rattle.slot_file.proofs.SlotsLooks.{kept-images, kept-room, kept-stable, kept-whole, nowhere-run, sure-run}
use Rattle.slot_file.proofs.Unwritten.{unwritten-call}
use Rattle.slot_file.proofs.slots.Slots.read.Goals as goal

pub invariant_of-self : goal.invariant_of-self
invariant_of-self g c =
    let slots = c.args.self.now in
    let r = c.read_at-done.ensures in
    let new = c.read_at-done.new.self in
    let unwritten = unwritten-call g.D.Pages g.D.Faults slots.disk new r.stays r.cause.later r.same (λ honest image. (r.images honest image).0) in
    record {
      whole = kept-whole slots new unwritten;
      has_room = kept-room slots new unwritten;
      images_whole = kept-images slots new unwritten;
      stable = λ sure. kept-stable slots new unwritten (sure-run _ _ _ slots.doubt _ c.after_look-self.ensures sure);
    }

pub returns-clause-bytes : goal.returns-clause-bytes
returns-clause-bytes g c = rw (sym c.slot_start.ensures.value) c.read_at-done.ensures.bytes

pub returns-clause-looked : goal.returns-clause-looked
returns-clause-looked g c =
    let slots = c.args.self.now in
    let r = c.read_at-done.ensures in
    record {
      same = r.same;
      images = r.images;
      doubt = nowhere-run _ _ _ slots.doubt _ c.after_look-self.ensures;
      stays = record { header = refl; count = refl; disk = same-kind g.D.Pages g.D.Faults slots.disk c.read_at-done.new.self r.stays r.cause.later };
    }

pub returns-clause-doubt : goal.returns-clause-doubt
returns-clause-doubt g c = c.after_look-self.ensures

pub returns-clause-succeeds : goal.returns-clause-succeeds
returns-clause-succeeds g c = λ steady told.
    let slots = c.args.self.now in
    let within = run-within slots.header.version c.args.first c.args.count slots.count c.requires.within in
    c.read_at-done.ensures.succeeds steady told (omega (arith, within, c.requires.size, c.slot_start.ensures.value, (slots.whole told).size))

pub returns-clause-cause : goal.returns-clause-cause
returns-clause-cause g c = c.read_at-done.ensures.cause
