use Rattle.std.proofs.Common.{◌≡◌, ◌≢◌, Result, Ok, Err, sym, refl, ap, ◌∙◌, subst, arith}
use Rattle.slot_file.specs.Files.{IsFile}
use Rattle.slot_file.specs.declared.header.LoadFault.{LoadFault}
use Rattle.slot_file.specs.declared.header.LoadFault.TheVariants.{Device}
use Rattle.slot_file.proofs.Loads.{is_file}
use Rattle.slot_file.proofs.slots.Slots.load.Goals as goal

pub invariant_of-result : goal.invariant_of-result
invariant_of-result g c =
    let header = c.args.header.now in
    let count = c.args.count in
    let call = c.check_file.ensures in
    let file = λ (was_told : _). is_file header count (g.D.Pages.reads c.args.disk) (c.in-Ok.ensures.opens was_told) in
    record {
      whole = λ told.
          let was_told = sym call.unwritten.stays.told ∙ told in
          subst (IsFile header count) (sym (call.unwritten.same was_told)) (file was_told);
      has_room = λ told.
          let was_told = sym call.unwritten.stays.told ∙ told in
          let whole = file was_told in
          omega (arith, whole.size, call.has_room was_told, call.unwritten.stays.room);
      images_whole = λ told honest image leaves.
          let was_told = sym call.unwritten.stays.told ∙ told in
          let was_honest = sym call.unwritten.stays.honest ∙ honest in
          subst (IsFile header count) (sym (c.in-Ok.ensures.stable was_honest was_told image leaves)) (file was_told);
      stable = λ sure told honest image leaves.
          let was_told = sym call.unwritten.stays.told ∙ told in
          let was_honest = sym call.unwritten.stays.honest ∙ honest in
          c.in-Ok.ensures.stable was_honest was_told image leaves ∙ sym (call.unwritten.same was_told);
    }

opened : {T : Type 0} (value : T) → ◌≢◌ {A = Result T LoadFault} (Ok value) (Err Device)
opened value is = cc

same-fault : {T : Type 0} (fault other : LoadFault) → ◌≡◌ {A = Result T LoadFault} (Err fault) (Err other) → fault ≡ other
same-fault fault other is = cc

pub returns-in-Ok-clause-opened : goal.returns-in-Ok-clause-opened
returns-in-Ok-clause-opened g c = record {
  opens = c.in-Ok.ensures.opens;
  named = refl;
  size = refl;
  doubt = refl;
  unwritten = c.check_file.ensures.unwritten;
  faults = c.in-Ok.ensures.cause.others (opened _);
}

pub returns-in-Err-clause-refuses : goal.returns-in-Err-clause-refuses
returns-in-Err-clause-refuses g c = c.in-Err.ensures.refuses

pub returns-in-Err-clause-unwritten : goal.returns-in-Err-clause-unwritten
returns-in-Err-clause-unwritten g c = c.check_file.ensures.unwritten

pub returns-in-Err-clause-succeeds : goal.returns-in-Err-clause-succeeds
returns-in-Err-clause-succeeds g c = c.in-Err.ensures.succeeds

pub returns-in-Err-clause-cause : goal.returns-in-Err-clause-cause
returns-in-Err-clause-cause g c =
    let cause = c.in-Err.ensures.cause in
    record { later = cause.later; failed = λ is. cause.failed (ap Err is); others = λ differs. cause.others (λ is. differs (same-fault _ _ is)) }
