use Rattle.std.proofs.Common.{refl}
use Rattle.dealer.specs.Material.{dealing_with}
use Rattle.dealer.specs.Onto.{no_memory, refused}
use Rattle.dealer.proofs.OntoEnds.{fails-onto}
use Rattle.dealer.proofs.onto.deal_onto.Goals as goal

pub returns-in-Err-clause-cause : goal.returns-in-Err-clause-cause
returns-in-Err-clause-cause g c = refused c.in-Err.fault c.in-Err.ensures.cause refl refl

pub returns-in-Err-take_room-clause-cause : goal.returns-in-Err-take_room-clause-cause
returns-in-Err-take_room-clause-cause g c = no_memory c.in_default.ensures.dealable refl refl

pub returns-in-Ok-clause-cause : goal.returns-in-Ok-clause-cause
returns-in-Ok-clause-cause g c =
    fails-onto g.D.Pages g.P.Progress.told (dealing_with c.in-Ok.material) c.args.params.now c.args.plan.now c.args.entropy.now c.args.reference.now c.build_onto.new.reference
    c.args.progress.now c.build_onto.new.progress c.build_onto.result c.in_default.ensures.dealable c.in-Ok.ensures.dealing c.build_onto.ensures.fails
