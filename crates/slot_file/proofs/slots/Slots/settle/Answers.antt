use Rattle.std.proofs.Common.{refl}
use Rattle.disk_trait.proofs.SameDisk.{same-kind}
use Rattle.slot_file.proofs.SlotsLooks.{kept-images, kept-room, kept-stable, kept-whole, sure-settled, synced-stable}
use Rattle.slot_file.proofs.Unwritten.{unwritten-call}
use Rattle.slot_file.proofs.slots.Slots.settle.Goals as goal

pub invariant_of-self : goal.invariant_of-self
invariant_of-self g c =
    let slots = c.args.self.now in
    let r = c.sync-done.ensures in
    let new = c.sync-done.new.self in
    let unwritten = unwritten-call g.D.Pages g.D.Faults slots.disk new r.stays r.cause.later r.same r.images in
    record {
      whole = kept-whole slots new unwritten;
      has_room = kept-room slots new unwritten;
      images_whole = kept-images slots new unwritten;
      stable = sure-settled c.sync-done.result slots.doubt _ _ c.after_settle-self.ensures (kept-stable slots new unwritten) (synced-stable slots new unwritten c.sync-done.result r.stable);
    }

pub returns-clause-stable : goal.returns-clause-stable
returns-clause-stable g c =
    let slots = c.args.self.now in
    let r = c.sync-done.ensures in
    let new = c.sync-done.new.self in
    synced-stable slots new (unwritten-call g.D.Pages g.D.Faults slots.disk new r.stays r.cause.later r.same r.images) c.sync-done.result r.stable

pub returns-clause-unwritten : goal.returns-clause-unwritten
returns-clause-unwritten g c = (let r = c.sync-done.ensures in unwritten-call g.D.Pages g.D.Faults c.args.self.now.disk c.sync-done.new.self r.stays r.cause.later r.same r.images)

pub returns-clause-doubt : goal.returns-clause-doubt
returns-clause-doubt g c = c.after_settle-self.ensures

pub returns-clause-succeeds : goal.returns-clause-succeeds
returns-clause-succeeds g c = c.sync-done.ensures.succeeds

pub returns-clause-cause : goal.returns-clause-cause
returns-clause-cause g c = c.sync-done.ensures.cause

pub returns-clause-stays : goal.returns-clause-stays
returns-clause-stays g c = (let r = c.sync-done.ensures in record { header = refl; count = refl; disk = same-kind g.D.Pages g.D.Faults c.args.self.now.disk c.sync-done.new.self r.stays r.cause.later })
