use Rattle.std.proofs.Common.{◌≡◌, ◌+◌, ◌*◌, ◌∙◌, length, refl, sym, arith, mul-zero, mul-le-mul_left}
use Rattle.std.proofs.lemmas.Bool.{false≢true}
use Rattle.disk_trait.proofs.SameDisk.{same-none, same-then}
use Rattle.lms_bytes.specs.Bytes.{joined}
use Rattle.lms_bytes.proofs.Joined.{joined-none}
use Rattle.mask_prf.specs.Lengths.{leaf_length}
use Rattle.reference_value.specs.Dealing.{leaf_part}
use Rattle.reference_value.proofs.Parts.{part-written}
use Rattle.dealer.specs.Material.{dealing_with}
use Rattle.dealer.specs.Runs.{dealt_leaf_key}
use Rattle.dealer.proofs.OntoParts.{bytes-all, bytes-length, bytes-more, bytes-none, on-fault, parts-cut-onto, stops-behind, told-all-onto}
use Rattle.dealer.proofs.Parts.{leaves-fit, part-fits, parts-written, told-more, told-none}
use Rattle.dealer.proofs.onto_writing.write_leaves_onto.Goals as goal

pub parts-init : goal.parts-init
parts-init g c =
    let d = dealing_with c.args.material.now in
    let part = c.part_count-count.result in
    let disk = c.args.disk.now in
    let nothing : c.args.material.now.params.n * part * 0 ≡ 0 = mul-zero (c.args.material.now.params.n * part) in
    record {
      keys = rw (nothing, joined-none (λ k. joined (λ j. dealt_leaf_key d (k * part + j)) part)) refl;
      told = told-none g.P.Progress.told part c.leaves-all.result c.args.progress.now;
      bytes = λ told. bytes-none (leaf_part d) part (g.D.Pages.reads disk);
      shut = record { reads = λ told shut. shut; images = λ honest all. all };
      faults = refl;
      stays = same-none g.D.Pages g.D.Faults disk;
    }

pub write_part-requires-clause-end : goal.write_part-requires-clause-end
write_part-requires-clause-end g c κs within = λ told.
    let so_far = c.parts.invariant in
    let was = sym so_far.stays.told ∙ told in
    bytes-length (dealing_with c.args.material.now) _ 32 (g.D.Pages.reads c.args.disk.now) (g.D.Pages.reads c.parts.disk) c.args.material.now.plan_is (c.requires.head was) (so_far.bytes was)

pub returns-in_err-write_part-clause-succeeds : goal.returns-in_err-write_part-clause-succeeds
returns-in_err-write_part-clause-succeeds g c = λ steady told room.
    let stays = c.parts.invariant.stays in
    let params = c.args.material.now.params in
    let cut = parts-cut-onto params c.leaves-all.ensures c.part_count-count.ensures in
    let fits = mul-le-mul_left (leaf_length params c.args.material.now.plan.k) (leaves-fit c.parts.i cut c.parts-test.true) in
    absurd (false≢true (c.in_err-write_part.ensures.succeeds (stays.steady ∙ steady) (stays.told ∙ told) (omega (arith, fits, room, stays.room))))

pub returns-in_err-write_part-clause-stops : goal.returns-in_err-write_part-clause-stops
returns-in_err-write_part-clause-stops g c =
    let so_far = c.parts.invariant in
    let d = dealing_with c.args.material.now in
    let cut = parts-cut-onto c.args.material.now.params c.leaves-all.ensures c.part_count-count.ensures in
    let within = leaves-fit c.parts.i cut c.parts-test.true in
    on-fault _ c.from_residual.result (
      c.parts.i,
      stops-behind g.D.Pages g.P.Progress.told d c.parts.i (g.D.Pages.reads c.args.disk.now) c.args.disk.now c.parts.disk c.write_part.new.disk c.args.progress.now c.parts.progress
          c.leaves-all.ensures c.part_count-count.ensures (omega (arith, within)) so_far.told so_far.bytes (λ told. c.write_part.ensures.more (so_far.stays.told ∙ told)),
    )

pub parts-preserved : goal.parts-preserved
parts-preserved g c =
    let p = g.D.Pages in
    let d = dealing_with c.args.material.now in
    let n = c.args.material.now.params.n in
    let part = c.part_count-count.result in
    let so_far = c.parts.invariant in
    let cut = parts-cut-onto c.args.material.now.params c.leaves-all.ensures c.part_count-count.ensures in
    let keys = part-fits n n c.parts.i (length c.parts.keys) cut refl (c.parts.auto.keys ∙ c.requires.keys_room) c.parts-test.true in
    record {
      keys = part-written (λ k. joined (λ j. dealt_leaf_key d (k * part + j)) part) (n * part) c.parts.i c.parts.keys c.write_part.new.keys keys c.write_part.auto.keys
          c.write_part.ensures.keys so_far.keys;
      told = told-more g.P.Progress.told part c.leaves-all.result c.parts.i c.args.progress.now c.parts.progress c.built.new.self so_far.told c.built.ensures;
      bytes = λ told.
          bytes-more (leaf_part d) c.parts.i part (p.reads c.args.disk.now) (p.reads c.parts.disk) (p.reads c.write_part.new.disk) (so_far.bytes told)
          (c.in_ok-write_part.ensures.bytes (so_far.stays.told ∙ told));
      shut = record {
        reads = λ told shut. c.write_part.ensures.shut.reads (so_far.stays.told ∙ told) (so_far.shut.reads told shut);
        images = λ honest all. c.write_part.ensures.shut.images (so_far.stays.honest ∙ honest) (so_far.shut.images honest all);
      };
      faults = c.in_ok-write_part.ensures.cause.succeeded ∙ so_far.faults;
      stays = same-then p g.D.Faults c.args.disk.now c.parts.disk c.write_part.new.disk so_far.stays c.write_part.ensures.stays;
    }

pub returns-clause-keys : goal.returns-clause-keys
returns-clause-keys g c =
    let n = c.args.material.now.params.n in
    let cut = parts-cut-onto c.args.material.now.params c.leaves-all.ensures c.part_count-count.ensures in
    parts-written (dealt_leaf_key (dealing_with c.args.material.now)) n n c.parts.i c.parts.keys cut refl (c.parts.auto.keys ∙ c.requires.keys_room)
    c.parts-test.false c.parts.auto.i-end c.parts.invariant.keys

pub returns-clause-bytes : goal.returns-clause-bytes
returns-clause-bytes g c = λ told.
    let cut = parts-cut-onto c.args.material.now.params c.leaves-all.ensures c.part_count-count.ensures in
    bytes-all (dealing_with c.args.material.now) c.parts.i (g.D.Pages.reads c.args.disk.now) (g.D.Pages.reads c.parts.disk) cut c.parts-test.false c.parts.auto.i-end (c.parts.invariant.bytes told)

pub returns-clause-told : goal.returns-clause-told
returns-clause-told g c =
    told-all-onto g.P.Progress.told c.args.material.now.params c.parts.i c.args.progress.now c.parts.progress c.leaves-all.ensures c.part_count-count.ensures c.parts-test.false c.parts.auto.i-end
    c.parts.invariant.told
