use Rattle.std.proofs.Common.{refl}
use Rattle.slot_file.proofs.CachedLooks.{none-some, settled-not}
use Rattle.disk_trait.proofs.FaultLaws.{rises-fine}
use Rattle.disk_trait.proofs.SameDisk.{same-none}
use Rattle.slot_file.proofs.cache.CachedSlots.settle.Goals as goal

pub returns-in-Some-clause-event : goal.returns-in-Some-clause-event
returns-in-Some-clause-event g c = c.settle_put.ensures.event

pub returns-in-Some-clause-unwritten : goal.returns-in-Some-clause-unwritten
returns-in-Some-clause-unwritten g c = c.settle_put.ensures.unwritten

pub returns-in-Some-clause-told : goal.returns-in-Some-clause-told
returns-in-Some-clause-told g c = c.settle_put.ensures.told

pub returns-in-Some-clause-succeeds : goal.returns-in-Some-clause-succeeds
returns-in-Some-clause-succeeds g c = c.settle_put.ensures.succeeds

pub returns-in-Some-clause-cause : goal.returns-in-Some-clause-cause
returns-in-Some-clause-cause g c = c.settle_put.ensures.cause

pub returns-in-Some-clause-stays : goal.returns-in-Some-clause-stays
returns-in-Some-clause-stays g c = c.settle_put.ensures.stays

pub returns-in-Some-clause-idle : goal.returns-in-Some-clause-idle
returns-in-Some-clause-idle g c = λ none. absurd (none-some _ _ c.in-Some.is none)

pub returns-in-None-clause-event : goal.returns-in-None-clause-event
returns-in-None-clause-event g c = (c.in-None.is, refl)

pub returns-in-None-clause-idle : goal.returns-in-None-clause-idle
returns-in-None-clause-idle g c = λ none. refl

pub returns-in-None-clause-unwritten : goal.returns-in-None-clause-unwritten
returns-in-None-clause-unwritten g c = record { same = λ told. refl; images = λ honest image leaves. leaves; stays = same-none g.D.Pages g.D.Faults c.args.self.now.slots.disk }

pub returns-in-None-clause-told : goal.returns-in-None-clause-told
returns-in-None-clause-told g c = λ told slot a b. settled-not _ _

pub returns-in-None-clause-succeeds : goal.returns-in-None-clause-succeeds
returns-in-None-clause-succeeds g c = λ steady told. settled-not _ _

pub returns-in-None-clause-cause : goal.returns-in-None-clause-cause
returns-in-None-clause-cause g c = rises-fine _ _ _ _ (settled-not _ _) refl

pub returns-in-None-clause-stays : goal.returns-in-None-clause-stays
returns-in-None-clause-stays g c = record { header = refl; count = refl; disk = same-none g.D.Pages g.D.Faults c.args.self.now.slots.disk }
