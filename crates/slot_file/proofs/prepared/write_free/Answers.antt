use Rattle.std.proofs.Common.{◌≡◌, ◌≤◌, ◌+◌, ◌*◌, ◌++◌, ℕ, List, replicate, length, take, sym, ◌∙◌, ap, length-append, arith, append_assoc, refl}
use Rattle.std.proofs.lemmas.List.{length-replicate, replicate-append-replicate, take-replicate}
use Rattle.std.proofs.lemmas.Bool.{false≢true}
use Rattle.slot_file.specs.Layout.{slot_size}
use Rattle.slot_file.proofs.Kept.{slot-within}
use Rattle.slot_file.proofs.Puts.{most_size}
use Rattle.disk_trait.proofs.FaultLaws.{cause-failed, on-err}
use Rattle.disk_trait.proofs.SameDisk.{same-then}
use Rattle.slot_file.proofs.prepared.write_free.Goals as goal

one_more : (front : List ℕ) (size slot n : ℕ) → n ≡ size → size ≤ 160 → (front ++ replicate (size * slot) 0) ++ take n (replicate 160 0) ≡ front ++ replicate (size * (slot + 1)) 0
one_more front size slot n is most =
    let step : size * slot + size ≡ size * (slot + 1) = omega arith in
    append_assoc front (replicate (size * slot) 0) (take n (replicate 160 0))
    ∙ ap (λ (l : List ℕ). front ++ (replicate (size * slot) 0 ++ l)) (ap (λ (k : ℕ). take k (replicate 160 0)) is ∙ take-replicate size 160 0 most)
    ∙ ap (λ (l : List ℕ). front ++ l) (replicate-append-replicate (size * slot) size 0)
    ∙ ap (λ (k : ℕ). front ++ replicate k 0) step

pub loop-slot-preserved : goal.loop-slot-preserved
loop-slot-preserved g c =
    let so_far = c.loop-slot.invariant in
    let size = c.slot_len-size.result in
    record {
      bytes = λ told.
          let here : g.D.Pages.reads c.append.new.disk ≡ g.D.Pages.reads c.loop-slot.disk ++ take size (replicate 160 0) = c.in_ok-append.ensures.bytes (so_far.stays.told ∙ told) in
          here ∙ ap (λ (l : List ℕ). l ++ take size (replicate 160 0)) (so_far.bytes told)
          ∙ one_more (g.D.Pages.reads c.args.disk.now) (slot_size c.args.version) c.loop-slot.slot size c.slot_len-size.ensures (most_size c.args.version);
      shut = record {
        reads = λ told shut. c.append.ensures.shut.reads (so_far.stays.told ∙ told) (so_far.shut.reads told shut);
        images = λ honest all. c.append.ensures.shut.images (so_far.stays.honest ∙ honest) (so_far.shut.images honest all);
      };
      count = c.in_ok-append.ensures.cause.succeeded ∙ so_far.count;
      stays = same-then g.D.Pages g.D.Faults c.args.disk.now c.loop-slot.disk c.append.new.disk so_far.stays c.append.ensures.stays;
    }

pub returns-clause-shut : goal.returns-clause-shut
returns-clause-shut g c = c.loop-slot.invariant.shut

pub returns-clause-stays : goal.returns-clause-stays
returns-clause-stays g c = c.loop-slot.invariant.stays

pub returns-in_err-append-clause-bytes : goal.returns-in_err-append-clause-bytes
returns-in_err-append-clause-bytes g c = λ told. on-err _ _ c.from_residual.ensures.0

pub returns-in_err-append-clause-cause : goal.returns-in_err-append-clause-cause
returns-in_err-append-clause-cause g c = cause-failed _ (g.D.Faults.count c.loop-slot.disk) _ _ c.from_residual.ensures.0 c.loop-slot.invariant.count c.append.ensures.cause.later c.in_err-append.ensures.cause.failed

pub returns-in_err-append-clause-stays : goal.returns-in_err-append-clause-stays
returns-in_err-append-clause-stays g c = same-then g.D.Pages g.D.Faults c.args.disk.now c.loop-slot.disk c.append.new.disk c.loop-slot.invariant.stays c.append.ensures.stays

pub returns-in_err-append-clause-shut : goal.returns-in_err-append-clause-shut
returns-in_err-append-clause-shut g c =
    let so_far = c.loop-slot.invariant in
    record {
      reads = λ told shut. c.append.ensures.shut.reads (so_far.stays.told ∙ told) (so_far.shut.reads told shut);
      images = λ honest all. c.append.ensures.shut.images (so_far.stays.honest ∙ honest) (so_far.shut.images honest all);
    }

pub returns-clause-succeeds : goal.returns-clause-succeeds
returns-clause-succeeds g c = λ steady told room. refl

pub returns-clause-cause : goal.returns-clause-cause
returns-clause-cause g c = record { later = c.loop-slot.invariant.stays.count; succeeded = c.loop-slot.invariant.count; failed = tt }

so-long : (front file : List ℕ) (size slot : ℕ) → file ≡ front ++ replicate (size * slot) 0 → length front ≡ 128 → length file ≡ 128 + size * slot
so-long front file size slot is front_is = omega (arith, ap length is, length-append front (replicate (size * slot) 0), length-replicate {A = ℕ} (size * slot) 0, front_is)

sized : (size n : ℕ) → n ≡ size → size ≤ 160 → length {A = ℕ} (take n (replicate 160 0)) ≡ size
sized size n is most = ap (λ (k : ℕ). length {A = ℕ} (take k (replicate 160 0))) is ∙ ap length (take-replicate size 160 0 most) ∙ length-replicate {A = ℕ} size 0

pub append-requires-clause-end : goal.append-requires-clause-end
append-requires-clause-end g c = λ told.
    let so_far = c.loop-slot.invariant in
    let was = sym so_far.stays.told ∙ told in
    so-long (g.D.Pages.reads c.args.disk.now) (g.D.Pages.reads c.loop-slot.disk) (slot_size c.args.version) c.loop-slot.slot (so_far.bytes was) (c.requires was) ∙ sym c.slot_start.ensures.value

pub returns-in_err-append-clause-succeeds : goal.returns-in_err-append-clause-succeeds
returns-in_err-append-clause-succeeds g c = λ steady told room.
    let stays = c.loop-slot.invariant.stays in
    let size = sized (slot_size c.args.version) c.slot_len-size.result c.slot_len-size.ensures (most_size c.args.version) in
    let inside = slot-within c.args.version c.loop-slot.slot c.args.count c.loop-slot-test.true in
    absurd (false≢true (c.in_err-append.ensures.succeeds (stays.steady ∙ steady) (stays.told ∙ told) (omega (arith, c.slot_start.ensures.value, size, inside, room, stays.room))))
