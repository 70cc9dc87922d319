use Rattle.std.proofs.Common.{refl, ◌∙◌, ap, length, arith}
use Rattle.slot_file.specs.Files.{with_b}
use Rattle.slot_file.specs.declared.slot.Slot.{Slot}
use Rattle.slot_file.proofs.CachedPuts.{doubted-held, made-held, puts-half}
use Rattle.std.proofs.lemmas.List.{length-set}
use Rattle.slot_file.proofs.cache.CachedSlots.put_b.Goals as goal

pub invariant_of-self : goal.invariant_of-self
invariant_of-self g c =
    let self = c.args.self.now in
    let is = c.with_b-after.ensures ∙ ap (λ (s : Slot). with_b s c.args.body.now c.args.moment) c.slot.ensures in
    let half = puts-half self c.args.slot c.args.body.now c.args.moment c.with_b-after.result c.put_b.new.self _ c.requires.settled c.requires.within c.requires.half is c.in-Ok.ensures.made in
    let held = made-held self c.requires.settled c.args.slot c.requires.within c.with_b-after.result half.whole c.put_b.new.self c.put_b.ensures.stays _ refl half.put c.set.new.self c.set.ensures in
    record {
      count = held.count;
      whole = held.whole;
      in_doubt = held.in_doubt;
      faulted = λ none. c.requires.settled;
      reads = held.reads;
      images = held.images;
    }

pub invariant_of-self-in-Err : goal.invariant_of-self-in-Err
invariant_of-self-in-Err g c =
    let self = c.args.self.now in
    let is = c.with_b-after.ensures ∙ ap (λ (s : Slot). with_b s c.args.body.now c.args.moment) c.slot.ensures in
    let half = puts-half self c.args.slot c.args.body.now c.args.moment c.with_b-after.result c.put_b.new.self _ c.requires.settled c.requires.within c.requires.half is c.in-Err.ensures.made in
    let held = doubted-held self c.requires.settled c.args.slot c.requires.within c.with_b-after.result half.whole c.put_b.new.self c.put_b.ensures.stays _ refl half.put in
    record {
      count = held.count;
      whole = held.whole;
      in_doubt = held.in_doubt;
      faulted = λ none. absurd (omega (arith, c.in-Err.ensures.cause.failed, none));
      reads = held.reads;
      images = held.images;
    }

pub put_b-requires-clause-within : goal.put_b-requires-clause-within
put_b-requires-clause-within g c = omega (arith, c.requires.within, c.args.self.now.count)

pub returns-in-Ok-clause-cause : goal.returns-in-Ok-clause-cause
returns-in-Ok-clause-cause g c = record { later = c.put_b.ensures.cause.later; succeeded = c.in-Ok.ensures.cause.succeeded; failed = tt }

pub returns-in-Ok-clause-stays : goal.returns-in-Ok-clause-stays
returns-in-Ok-clause-stays g c = (let stays = c.put_b.ensures.stays in record { header = stays.header; count = ap length c.set.ensures ∙ length-set c.args.self.now.cached c.args.slot c.with_b-after.result; disk = stays.disk })

pub returns-in-Err-clause-cause : goal.returns-in-Err-clause-cause
returns-in-Err-clause-cause g c = record { later = c.put_b.ensures.cause.later; succeeded = tt; failed = c.in-Err.ensures.cause.failed }

pub returns-in-Err-clause-stays : goal.returns-in-Err-clause-stays
returns-in-Err-clause-stays g c = (let stays = c.put_b.ensures.stays in record { header = stays.header; count = refl; disk = stays.disk })
