use Rattle.std.proofs.Common.{length, refl}
use Rattle.disk_trait.specs.MemDisk.{write_fails, sync_fails}
use Rattle.disk_trait.proofs.Calls.{write-bytes, write-torn, write-cause, write-within, write-fits, write-succeeds, write-steady, write-room, sync-stable, sync-images, sync-cause, sync-bytes, sync-succeeds, sync-steady, sync-room}
use Rattle.disk_trait.proofs.mem_disk.MemDiskDisk.TheImpl.Goals as goal

pub write_at-tells : goal.write_at-tells
write_at-tells c =
    let disk = c.args.self.now in
    let bytes = c.args.bytes.now in
    let fails = write_fails disk c.args.at (length bytes) in
    record {
      bytes = λ told. rw (c.ensures.outcome, c.ensures.after) (write-bytes disk c.args.at bytes fails);
      torn = λ told. rw (c.ensures.outcome, c.ensures.after) (write-torn disk c.args.at bytes fails);
      images = λ honest. c.ensures.images;
      within = λ told. rw c.ensures.outcome (write-within disk c.args.at (length bytes));
      fits = λ told. rw c.ensures.outcome (write-fits disk c.args.at (length bytes));
      succeeds = λ steady told begins ends. rw c.ensures.outcome (write-succeeds disk c.args.at (length bytes) steady begins ends);
      cause = rw (c.ensures.outcome, c.ensures.after) (write-cause disk c.args.at bytes fails);
      stays = record {
        told = refl;
        honest = refl;
        steady = rw c.ensures.after (write-steady disk c.args.at bytes fails);
        room = rw c.ensures.after (write-room disk c.args.at bytes fails);
      };
    }

pub sync-tells : goal.sync-tells
sync-tells c =
    let disk = c.args.self.now in
    let fails = sync_fails disk in
    record {
      stable = λ honest told. rw (c.ensures.outcome, c.ensures.after) (sync-stable disk fails);
      images = λ honest. rw c.ensures.after (sync-images disk fails);
      same = λ told. rw c.ensures.after (sync-bytes disk fails);
      has_room = λ told. c.ensures.has_room;
      succeeds = λ steady. rw c.ensures.outcome (sync-succeeds disk steady);
      cause = rw (c.ensures.outcome, c.ensures.after) (sync-cause disk fails);
      stays = record {
        told = refl;
        honest = refl;
        steady = rw c.ensures.after (sync-steady disk fails);
        room = rw c.ensures.after (sync-room disk fails);
      };
    }
