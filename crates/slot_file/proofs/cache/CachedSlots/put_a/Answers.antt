use Rattle.std.proofs.Common.{◌∙◌, ap, length, refl, arith}
use Rattle.slot_file.specs.declared.slot.Slot.TheVariants.{Half}
use Rattle.slot_file.proofs.CachedPuts.{doubted-held, made-held}
use Rattle.std.proofs.lemmas.Bool.{false≢true}
use Rattle.std.proofs.lemmas.List.{length-set}
use Rattle.slot_file.proofs.cache.CachedSlots.put_a.Goals as goal

pub invariant_of-self : goal.invariant_of-self
invariant_of-self g c =
    let held = made-held c.args.self.now c.requires.settled c.args.slot c.requires.within (Half c.args.body.now) refl c.put_a.new.self c.put_a.ensures.stays _ refl c.in-Ok.ensures.made c.set.new.self c.set.ensures in
    record {
      count = held.count;
      whole = held.whole;
      in_doubt = held.in_doubt;
      faulted = λ none. c.requires.settled;
      reads = held.reads;
      images = held.images;
    }

pub invariant_of-self-in-Err : goal.invariant_of-self-in-Err
invariant_of-self-in-Err g c =
    let held = doubted-held c.args.self.now c.requires.settled c.args.slot c.requires.within (Half c.args.body.now) refl c.put_a.new.self c.put_a.ensures.stays _ refl c.in-Err.ensures.made in
    record {
      count = held.count;
      whole = held.whole;
      in_doubt = held.in_doubt;
      faulted = λ none. absurd (omega (arith, c.in-Err.ensures.cause.failed, none));
      reads = held.reads;
      images = held.images;
    }

pub put_a-requires-clause-within : goal.put_a-requires-clause-within
put_a-requires-clause-within g c = omega (arith, c.requires.within, c.args.self.now.count)

pub returns-in-Ok-clause-succeeds : goal.returns-in-Ok-clause-succeeds
returns-in-Ok-clause-succeeds g c = λ steady told. refl

pub returns-in-Ok-clause-cause : goal.returns-in-Ok-clause-cause
returns-in-Ok-clause-cause g c = record { later = c.put_a.ensures.cause.later; succeeded = c.in-Ok.ensures.cause.succeeded; failed = tt }

pub returns-in-Ok-clause-stays : goal.returns-in-Ok-clause-stays
returns-in-Ok-clause-stays g c = (let stays = c.put_a.ensures.stays in record { header = stays.header; count = ap length c.set.ensures ∙ length-set c.args.self.now.cached c.args.slot (Half c.args.body.now); disk = stays.disk })

pub returns-in-Err-clause-succeeds : goal.returns-in-Err-clause-succeeds
returns-in-Err-clause-succeeds g c = λ steady told. absurd (false≢true (c.in-Err.ensures.succeeds steady told))

pub returns-in-Err-clause-cause : goal.returns-in-Err-clause-cause
returns-in-Err-clause-cause g c = record { later = c.put_a.ensures.cause.later; succeeded = tt; failed = c.in-Err.ensures.cause.failed }

pub returns-in-Err-clause-stays : goal.returns-in-Err-clause-stays
returns-in-Err-clause-stays g c = (let stays = c.put_a.ensures.stays in record { header = stays.header; count = refl; disk = stays.disk })
