use Rattle.std.proofs.Common.{◌+◌, ◌∙◌, refl, ap, length, arith}
use Rattle.std.proofs.lemmas.List.{length-set}
use Rattle.slot_file.proofs.Lists.{set-before, set-run}
use Rattle.slot_file.proofs.slot_list.SlotList.set_run.Goals as goal

pub places-preserved : goal.places-preserved
places-preserved c =
    let so_far = c.places.invariant in
    let set = c.set.ensures in
    record {
      before = λ slot below. set-before c.places.self c.set.new.self (c.args.first + c.places.place) slot _ set (omega (arith, below)) ∙ so_far.before slot below;
      run = set-run c.places.self c.set.new.self c.args.run.now c.args.first c.places.place _ set (omega (arith, c.requires.within, so_far.count)) refl so_far.run;
      count = ap length set ∙ length-set c.places.self (c.args.first + c.places.place) _ ∙ so_far.count;
    }
