use Rattle.std.proofs.Common.{◌≡◌, ◌+◌, ◌≤◌, List, ℕ, Result, Ok, Err, OnOk, is_ok, if◌then◌else◌, length, ◌∙◌, sym, subst, arith}
use Rattle.slot_file.specs.Doubts.{IsSure}
use Rattle.slot_file.specs.declared.slots.Doubt.{Doubt}
use Rattle.slot_file.specs.declared.slots.Doubt.TheVariants.{Refused}
use Rattle.slot_file.specs.Layout.{file_size}
use Rattle.slot_file.specs.Files.{IsFile}
use Rattle.disk_trait.specs.declared.disk.Pages as pages
use Rattle.disk_trait.specs.declared.faults.Faults as faults
use Rattle.slot_file.specs.declared.slots.Slots.{Slots}
use Rattle.slot_file.specs.Gated.{Gated}
use Rattle.slot_file.specs.Slots.{HasGated}
use Rattle.slot_file.proofs.Kept.{slot-within, gated_stays}
use Rattle.std.proofs.Common.{refl}
use Rattle.slot_file.proofs.slots.Slots.put.Goals as goal

-- what holds after a put that succeeded, if no put was refused
sure-after : {T E X : Type 0} (done : Result T E) (was doubt : Doubt) (slot : ℕ)
    → doubt ≡ (if is_ok done then was else Refused slot) → OnOk done X → IsSure doubt → X
sure-after (Ok x) was doubt slot is holds sure = holds
sure-after (Err e) was doubt slot is holds sure = absurd (subst IsSure is sure)

pub invariant_of-self : goal.invariant_of-self
invariant_of-self g c =
    let slots = c.args.self.now in
    let is_start = c.slot_start-start.ensures.value in
    let inside = slot-within slots.header.version c.args.slot slots.count c.requires.within in
    let at = c.slot_start-start.result + c.args.at in
    let gate_at = c.slot_start-start.result + c.args.gate_at in
    let fits : at + length c.args.body.now ≤ file_size slots.header.version slots.count = omega (arith, c.requires.fits) in
    let stays = λ (old new : List ℕ) (file : IsFile slots.header slots.count old) (leaves : Gated at c.args.body.now gate_at old new).
    gated_stays slots.header slots.count at c.args.body.now gate_at c.args.gate old file (omega arith) fits (omega arith) (omega (arith, c.requires.gate_fits)) new leaves in
    let call = c.write_gated-done.ensures in
    record {
      whole = λ told. let was_told = sym call.stays.told ∙ told in stays _ _ (slots.whole was_told) (call.file was_told);
      has_room = λ told. let was_told = sym call.stays.told ∙ told in omega (arith, slots.has_room was_told, call.stays.room);
      images_whole = λ told honest image leaves.
          let was_told = sym call.stays.told ∙ told in
          let was_honest = sym call.stays.honest ∙ honest in
          let from = call.images was_told was_honest image leaves in
          stays from.0 image (slots.images_whole was_told was_honest from.0 from.1) from.2;
      stable = λ sure told honest.
          let was_told = sym call.stays.told ∙ told in
          let was_honest = sym call.stays.honest ∙ honest in
          sure-after c.write_gated-done.result slots.doubt c.after-self.result c.args.slot c.after-self.ensures
          (call.stable was_told was_honest) sure;
    }

pub returns-clause-doubt : goal.returns-clause-doubt
returns-clause-doubt g c = c.after-self.ensures

pub returns-clause-cause : goal.returns-clause-cause
returns-clause-cause g c = c.write_gated-done.ensures.cause

pub returns-clause-stays : goal.returns-clause-stays
returns-clause-stays g c = record { header = refl; count = refl; disk = c.write_gated-done.ensures.stays }

-- the same of a file after a write as before it
when-ok : {T E A B F G : Type 0} (X : Type 0) (answer : Result T E) → (F → A) → (G → B) → (A → B → OnOk answer X) → OnOk answer (F → G → X)
when-ok X (Ok value) first second holds = λ a b. holds (first a) (second b)
when-ok X (Err fault) first second holds = tt

gated-at : {D R E : Type 0} {p : pages.Ghosts D} {f : faults.Ghosts D} (start place at : ℕ) (body : List ℕ) (gate_at gate : ℕ) (old new : Slots D p f) (result : Result R E)
    → start ≡ place → HasGated (start + at) body (start + gate_at) gate old new result → HasGated (place + at) body (place + gate_at) gate old new result
gated-at start place at body gate_at gate old new result is gated = subst (λ (s : ℕ). HasGated (s + at) body (s + gate_at) gate old new result) is gated

pub returns-clause-gated : goal.returns-clause-gated
returns-clause-gated g c =
    let call = c.write_gated-done.ensures in
    gated-at _ _ c.args.at c.args.body.now c.args.gate_at c.args.gate c.args.self.now _ c.write_gated-done.result c.slot_start-start.ensures.value
    (record {
      bytes = call.bytes;
      file = call.file;
      images = call.images;
      stable = when-ok _ c.write_gated-done.result (λ told. sym call.stays.told ∙ told) (λ honest. sym call.stays.honest ∙ honest) call.stable;
    })

pub returns-clause-succeeds : goal.returns-clause-succeeds
returns-clause-succeeds g c = λ steady told.
    let slots = c.args.self.now in
    let is_start = c.slot_start-start.ensures.value in
    let inside = slot-within slots.header.version c.args.slot slots.count c.requires.within in
    let size = (slots.whole told).size in
    c.write_gated-done.ensures.succeeds steady told (omega (arith, size, c.requires.fits)) (omega (arith, size, c.requires.gate_fits)) (omega (arith, size, slots.has_room told))
