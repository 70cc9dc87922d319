use Rattle.std.proofs.Common.{◌∙◌, arith}
use Rattle.std.proofs.lemmas.Result.{on_ok_weaker}
use Rattle.disk_trait.proofs.SameDisk.{same-kind}
use Rattle.disk_trait.proofs.Gates.{appended, torn-either, torn-shut}
use Rattle.disk_trait.proofs.gate.append.Goals as goal

pub returns-clause-bytes : goal.returns-clause-bytes
returns-clause-bytes g c = λ told. on_ok_weaker c.write_at.result (λ is. is ∙ appended (g.D.Pages.reads c.args.disk.now) c.args.bytes.now c.args.at (c.requires.end told)) (c.write_at.ensures.bytes told)

pub returns-clause-torn : goal.returns-clause-torn
returns-clause-torn g c = λ told.
    let p = g.D.Pages in
    torn-either c.write_at.result c.args.at c.args.bytes.now (p.reads c.args.disk.now) (p.reads c.write_at.new.self) (c.write_at.ensures.within told) (c.write_at.ensures.bytes told) (c.write_at.ensures.torn told)

pub returns-clause-shut : goal.returns-clause-shut
returns-clause-shut g c =
    let p = g.D.Pages in
    let bytes = c.args.bytes.now in
    let old = c.args.disk.now in
    let call = c.write_at.ensures in
    record {
      reads = λ told shut. torn-shut c.args.at _ (p.reads old) (p.reads c.write_at.new.self) c.requires.behind
          (torn-either c.write_at.result c.args.at bytes (p.reads old) (p.reads c.write_at.new.self) (call.within told) (call.bytes told) (call.torn told)) shut;
      images = λ honest all image leaves. (let from = call.images honest image leaves in torn-shut c.args.at _ from.0 image c.requires.behind from.2 (all from.0 from.1));
    }

pub returns-clause-succeeds : goal.returns-clause-succeeds
returns-clause-succeeds g c = λ steady told fits. c.write_at.ensures.succeeds steady told (omega (arith, c.requires.end told)) fits

pub returns-clause-cause : goal.returns-clause-cause
returns-clause-cause g c = c.write_at.ensures.cause

pub returns-clause-stays : goal.returns-clause-stays
returns-clause-stays g c = same-kind g.D.Pages g.D.Faults c.args.disk.now c.write_at.new.self c.write_at.ensures.stays c.write_at.ensures.cause.later
