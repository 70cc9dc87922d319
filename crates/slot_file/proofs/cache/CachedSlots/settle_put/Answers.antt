use Rattle.std.proofs.Common.{◌≡◌, ℕ, List, length, None, set, refl, sym, ◌∙◌, ap, subst}
use Rattle.std.proofs.lemmas.List.{length-set}
use Rattle.slot_file.specs.State.{HasSlots, slot_in}
use Rattle.slot_file.specs.Copies.{is_damaged}
use Rattle.slot_file.specs.Slots.{IsTold, doubt_of, file_of, header_of}
use Rattle.slot_file.specs.declared.slot.Slot.{Slot}
use Rattle.slot_file.specs.declared.slots.Doubt.TheVariants.{Nowhere}
use Rattle.slot_file.proofs.Files.{doubt-none, has-dropped, has-made, whole-set}
use Rattle.slot_file.proofs.Sure.{images-sure, reads-sure}
use Rattle.std.proofs.Common.{◌≢◌, Result, arith}
use Rattle.std.proofs.lemmas.Bool.{false≢true}
use Rattle.slot_file.specs.Calls.{Settles}
use Rattle.slot_file.specs.State.{CacheState, settled_with}
use Rattle.slot_file.specs.declared.faults.SettleFault.{SettleFault}
use Rattle.slot_file.specs.declared.faults.Settled.{Settled}
use Rattle.slot_file.proofs.CachedPuts.{HoldsPut}
use Rattle.slot_file.proofs.CachedLooks.{damaged-not, device-not, doubt-kept, kept-images, kept-reads, neither-not, settled-not, some-of}
use Rattle.slot_file.proofs.CopyLaws.{device-answer}
use Rattle.disk_trait.proofs.FaultLaws.{rises-failed, rises-fine}
use Rattle.slot_file.proofs.cache.CachedSlots.settle_put.Goals as goal

pub invariant_of-self-then-is_same : goal.invariant_of-self-then-is_same
invariant_of-self-then-is_same g c =
    let self = c.args.self.now in
    let put = c.args.doubted.now in
    let header = header_of self.slots in
    let items = self.cached in
    let old = file_of self.slots in
    let new = c.look_settled.new.slots in
    let call = c.in_ok-found.ensures in
    let within = self.in_doubt.within put c.requires in
    let nowhere : doubt_of new ≡ Nowhere = call.doubt ∙ self.in_doubt.settles put c.requires in
    let same : c.in_ok-found.found ≡ put.after = c.if-is_same.ensures.0 refl in
    let list = set items put.slot c.in_ok-found.found in
    let made : IsTold new → HasSlots header list (file_of new) = λ told_new.
    let told = sym call.stays.disk.told ∙ told_new in
    let has = has-made header items self.doubt old (self.reads told) put c.requires within (sym (call.slot told) ∙ same) in
    subst (λ (l : List ℕ). HasSlots header list l) (sym (call.unwritten.same told))
    (subst (λ (s : Slot). HasSlots header (set items put.slot s) old) (sym same) has) in
    let held : HoldsPut new list None = record {
      count = call.stays.count ∙ self.count ∙ sym (length-set items put.slot c.in_ok-found.found);
      whole = whole-set items put.slot c.in_ok-found.found self.whole (ap is_damaged same ∙ self.in_doubt.whole put c.requires);
      in_doubt = doubt-none _ (doubt_of new) nowhere;
      reads = reads-sure new header call.stays.header list None refl made;
      images = images-sure new header call.stays.header list None refl made nowhere;
    } in
    let all : HoldsPut new c.set.new.self None = rw c.set.ensures held in
    record {
      count = all.count;
      whole = all.whole;
      in_doubt = all.in_doubt;
      faulted = λ none. refl;
      reads = all.reads;
      images = all.images;
    }

pub invariant_of-self-then-is_same-2 : goal.invariant_of-self-then-is_same-2
invariant_of-self-then-is_same-2 g c =
    let self = c.args.self.now in
    let put = c.args.doubted.now in
    let header = header_of self.slots in
    let items = self.cached in
    let old = file_of self.slots in
    let new = c.look_settled.new.slots in
    let call = c.in_ok-found.ensures in
    let within = self.in_doubt.within put c.requires in
    let nowhere : doubt_of new ≡ Nowhere = call.doubt ∙ self.in_doubt.settles put c.requires in
    let same : c.in_ok-found.found ≡ slot_in items put.slot = c.if-is_same-2.ensures.0 refl ∙ c.slot.ensures in
    let made : IsTold new → HasSlots header items (file_of new) = λ told_new.
    let told = sym call.stays.disk.told ∙ told_new in
    let has = has-dropped header items self.doubt old (self.reads told) put c.requires (sym (call.slot told) ∙ same) in
    subst (λ (l : List ℕ). HasSlots header items l) (sym (call.unwritten.same told)) has in
    record {
      count = call.stays.count ∙ self.count;
      whole = self.whole;
      in_doubt = doubt-none _ (doubt_of new) nowhere;
      faulted = λ none. refl;
      reads = reads-sure new header call.stays.header items None refl made;
      images = images-sure new header call.stays.header items None refl made nowhere;
    }

pub returns-in_err-found-clause-unwritten : goal.returns-in_err-found-clause-unwritten
returns-in_err-found-clause-unwritten g c = c.look_settled.ensures.unwritten

pub returns-in_err-found-clause-stays : goal.returns-in_err-found-clause-stays
returns-in_err-found-clause-stays g c = (let stays = c.look_settled.ensures.stays in record { header = stays.header; count = refl; disk = stays.disk })

pub returns-then-is_same-clause-unwritten : goal.returns-then-is_same-clause-unwritten
returns-then-is_same-clause-unwritten g c = c.look_settled.ensures.unwritten

pub returns-then-is_same-clause-stays : goal.returns-then-is_same-clause-stays
returns-then-is_same-clause-stays g c = (let stays = c.look_settled.ensures.stays in record { header = stays.header; count = ap length c.set.ensures ∙ length-set c.args.self.now.cached c.args.doubted.now.slot c.in_ok-found.found; disk = stays.disk })

pub returns-then-is_same-2-clause-unwritten : goal.returns-then-is_same-2-clause-unwritten
returns-then-is_same-2-clause-unwritten g c = c.look_settled.ensures.unwritten

pub returns-then-is_same-2-clause-stays : goal.returns-then-is_same-2-clause-stays
returns-then-is_same-2-clause-stays g c = (let stays = c.look_settled.ensures.stays in record { header = stays.header; count = refl; disk = stays.disk })

pub returns-clause-unwritten : goal.returns-clause-unwritten
returns-clause-unwritten g c = c.look_settled.ensures.unwritten

pub returns-clause-stays : goal.returns-clause-stays
returns-clause-stays g c = (let stays = c.look_settled.ensures.stays in record { header = stays.header; count = refl; disk = stays.disk })

pub returns-in_err-found-clause-told : goal.returns-in_err-found-clause-told
returns-in_err-found-clause-told g c = λ told. device-not _ (device-answer _ c.from_residual.ensures.1)

pub returns-then-is_same-clause-told : goal.returns-then-is_same-clause-told
returns-then-is_same-clause-told g c = λ told slot a b. settled-not _ _

pub returns-then-is_same-2-clause-told : goal.returns-then-is_same-2-clause-told
returns-then-is_same-2-clause-told g c = λ told slot a b. settled-not _ _

pub returns-in_err-found-clause-succeeds : goal.returns-in_err-found-clause-succeeds
returns-in_err-found-clause-succeeds g c = λ steady told. absurd (false≢true (c.in_err-found.ensures.succeeds steady told))

pub returns-then-is_same-clause-succeeds : goal.returns-then-is_same-clause-succeeds
returns-then-is_same-clause-succeeds g c = λ steady told. settled-not _ _

pub returns-then-is_same-2-clause-succeeds : goal.returns-then-is_same-2-clause-succeeds
returns-then-is_same-2-clause-succeeds g c = λ steady told. settled-not _ _

pub returns-clause-succeeds : goal.returns-clause-succeeds
returns-clause-succeeds g c = λ steady told. damaged-not _ _ _

pub returns-in_err-found-clause-cause : goal.returns-in_err-found-clause-cause
returns-in_err-found-clause-cause g c = rises-failed _ _ _ _ _ (device-answer _ c.from_residual.ensures.1) refl c.look_settled.ensures.cause.later c.in_err-found.ensures.cause.failed

pub returns-then-is_same-clause-cause : goal.returns-then-is_same-clause-cause
returns-then-is_same-clause-cause g c = rises-fine _ _ _ _ (settled-not _ _) c.in_ok-found.ensures.cause.succeeded

pub returns-then-is_same-2-clause-cause : goal.returns-then-is_same-2-clause-cause
returns-then-is_same-2-clause-cause g c = rises-fine _ _ _ _ (settled-not _ _) c.in_ok-found.ensures.cause.succeeded

pub returns-clause-cause : goal.returns-clause-cause
returns-clause-cause g c = rises-fine _ _ _ _ (damaged-not _ _ _) c.in_ok-found.ensures.cause.succeeded

pub returns-in_err-found-clause-event : goal.returns-in_err-found-clause-event
returns-in_err-found-clause-event g c =
    let self = c.args.self.now in
    let before : CacheState = record { slots = self.cached; doubt = self.doubt } in
    subst (λ (r : Result Settled SettleFault). Settles (header_of self.slots).version before r before) (sym (device-answer _ c.from_residual.ensures.1)) (some-of c.args.doubted.now self.doubt c.requires, refl)

pub returns-then-is_same-2-clause-event : goal.returns-then-is_same-2-clause-event
returns-then-is_same-2-clause-event g c = (some-of c.args.doubted.now c.args.self.now.doubt c.requires, refl)

pub returns-then-is_same-clause-event : goal.returns-then-is_same-clause-event
returns-then-is_same-clause-event g c =
    let put = c.args.doubted.now in
    (put, c.requires, ap settled_with c.set.ensures ∙ ap (λ (s : Slot). settled_with (set c.args.self.now.cached put.slot s)) (c.if-is_same.ensures.0 refl))

pub invariant_of-self : goal.invariant_of-self
invariant_of-self g c =
    let self = c.args.self.now in
    let call = c.look_settled.ensures in
    let new = c.look_settled.new.slots in
    record {
      count = call.stays.count ∙ self.count;
      whole = self.whole;
      in_doubt = doubt-kept _ (doubt_of self.slots) (doubt_of new) self.doubt c.args.doubted.now c.requires self.in_doubt call.doubt_refused;
      faulted = λ none. absurd (omega (arith, c.in_err-found.ensures.cause.failed, none));
      reads = kept-reads self new call.unwritten call.stays;
      images = kept-images self new call.unwritten call.stays;
    }

pub invariant_of-self-else-is_same-2 : goal.invariant_of-self-else-is_same-2
invariant_of-self-else-is_same-2 g c =
    let self = c.args.self.now in
    let call = c.look_settled.ensures in
    let new = c.look_settled.new.slots in
    record {
      count = call.stays.count ∙ self.count;
      whole = self.whole;
      in_doubt = doubt-kept _ (doubt_of self.slots) (doubt_of new) self.doubt c.args.doubted.now c.requires self.in_doubt call.doubt_refused;
      faulted = λ none. self.faulted (sym c.in_ok-found.ensures.cause.succeeded ∙ none);
      reads = kept-reads self new call.unwritten call.stays;
      images = kept-images self new call.unwritten call.stays;
    }

pub returns-clause-told : goal.returns-clause-told
returns-clause-told g c = λ told slot a b.
    let self = c.args.self.now in
    let put = c.args.doubted.now in
    let found = c.in_ok-found.found in
    let before : found ≢ slot_in self.cached put.slot = λ is. false≢true (c.if-is_same-2.ensures.1 (is ∙ sym c.slot.ensures)) in
    absurd (neither-not self put found c.requires told (c.in_ok-found.ensures.slot told) before (λ is. false≢true (c.if-is_same.ensures.1 is)))

pub returns-clause-event : goal.returns-clause-event
returns-clause-event g c =
    let self = c.args.self.now in
    let put = c.args.doubted.now in
    let found = c.in_ok-found.found in
    let before : found ≢ slot_in self.cached put.slot = λ is. false≢true (c.if-is_same-2.ensures.1 (is ∙ sym c.slot.ensures)) in (
      put,
      c.requires,
      refl,
      refl,
      record {
        found = found;
        shown = c.in_ok-found.ensures.shown;
        not_before = before;
        not_after = λ is. false≢true (c.if-is_same.ensures.1 is);
        gates = sym c.gates-a.ensures;
      },
    )

pub look_settled-requires : goal.look_settled-requires
look_settled-requires g c = omega (arith, c.args.self.now.in_doubt.within c.args.doubted.now c.requires, c.args.self.now.count)
