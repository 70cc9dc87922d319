use Rattle.std.proofs.Common.{◌≡◌, ◌++◌, List, ℕ, IsTrue, inr, sym, ◌∙◌, ap, subst}
use Rattle.std.proofs.lemmas.Result.{on_ok_weaker}
use Rattle.disk_trait.specs.Gate.{IsShut}
use Rattle.disk_trait.specs.Images.{Only}
use Rattle.reference_value.specs.Dealing.{reference}
use Rattle.dealer.specs.Material.{dealing_with}
use Rattle.dealer.specs.Onto.{shut_head}
use Rattle.dealer.proofs.OntoParts.{on-fault}
use Rattle.dealer.proofs.OntoStops.{head-shut, shut-unready, stops-after, stops-at_end, written-synced}
use Rattle.dealer.proofs.onto_writing.write_reference.Goals as goal

pub returns-in_err-write_leaves_onto-clause-stops : goal.returns-in_err-write_leaves_onto-clause-stops
returns-in_err-write_leaves_onto-clause-stops g c =
    let p = g.D.Pages in
    let d = dealing_with c.args.material.now in
    let behind = c.in_err-write_leaves_onto.ensures.stops in
    on-fault _ c.from_residual-in_err-write_leaves_onto.result
    (inr (
      behind.0,
      stops-after p g.P.Progress.told d (p.reads c.write_shut.new.disk) behind.0 c.args.disk.now c.write_shut.new.disk c.write_leaves_onto.new.disk c.args.progress.now c.write_leaves_onto.new.progress
          c.write_shut.ensures.stays.told (λ told. c.in_ok-write_shut.ensures.bytes told ∙ c.head_of_reference.ensures) behind.1,
    ))

pub returns-clause-written : goal.returns-clause-written
returns-clause-written g c =
    let p = g.D.Pages in
    let d = dealing_with c.args.material.now in
    let first = c.write_shut.ensures.stays in
    let second = c.write_leaves_onto.ensures.stays in
    let reads : IsTrue (p.told c.args.disk.now) → p.reads c.sync.new.self ≡ shut_head d ++ reference d = λ told.
    c.sync.ensures.same (second.told ∙ first.told ∙ told) ∙ c.in_ok-write_leaves_onto.ensures.bytes (first.told ∙ told)
    ∙ ap (λ (l : List ℕ). l ++ reference d) (c.in_ok-write_shut.ensures.bytes told ∙ c.head_of_reference.ensures) in
    written-synced p g.P.Progress.told d c.sync.result c.args.disk.now c.sync.new.self c.args.progress.now c.write_leaves_onto.new.progress c.in_ok-write_leaves_onto.ensures.told reads
    (λ told honest. on_ok_weaker c.sync.result (λ (only : Only (p.reads c.write_leaves_onto.new.disk) (p.may_leave c.sync.new.self)) image leaves. only image leaves ∙ sym (c.sync.ensures.same (second.told ∙ first.told ∙ told)))
    (c.sync.ensures.stable (second.honest ∙ first.honest ∙ honest) (second.told ∙ first.told ∙ told)))

pub returns-clause-stops : goal.returns-clause-stops
returns-clause-stops g c =
    let p = g.D.Pages in
    let d = dealing_with c.args.material.now in
    let first = c.write_shut.ensures.stays in
    let second = c.write_leaves_onto.ensures.stays in
    on-fault _ c.sync.result
    (stops-at_end p g.P.Progress.told d c.args.disk.now c.sync.new.self c.args.progress.now c.write_leaves_onto.new.progress c.in_ok-write_leaves_onto.ensures.told
    (λ told. c.sync.ensures.same (second.told ∙ first.told ∙ told) ∙ c.in_ok-write_leaves_onto.ensures.bytes (first.told ∙ told)
    ∙ ap (λ (l : List ℕ). l ++ reference d) (c.in_ok-write_shut.ensures.bytes told ∙ c.head_of_reference.ensures)))

pub returns-clause-unready : goal.returns-clause-unready
returns-clause-unready g c =
    let p = g.D.Pages in
    let d = dealing_with c.args.material.now in
    let first = c.write_shut.ensures.stays in
    let second = c.write_leaves_onto.ensures.stays in
    let shut = c.write_leaves_onto.ensures.shut in
    record {
      reads = λ told.
          shut-unready _ (subst IsShut (sym (c.sync.ensures.same (second.told ∙ first.told ∙ told)))
          (shut.reads (first.told ∙ told) (head-shut d _ (c.in_ok-write_shut.ensures.bytes told ∙ c.head_of_reference.ensures))));
      images = λ told honest image leaves.
          shut-unready image (shut.images (first.honest ∙ honest) (c.in_ok-write_shut.ensures.shut told honest) image (c.sync.ensures.images (second.honest ∙ first.honest ∙ honest) image leaves));
    }
