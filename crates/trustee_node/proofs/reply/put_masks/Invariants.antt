use Rattle.std.proofs.Common.{◌≡◌, ◌≤◌, ◌++◌, length, take}
use Rattle.lms_bytes.specs.Bytes.{joined}
use Rattle.trustee_core.specs.Grants.{ask_in, granted_by, mask_of}
use Rattle.trustee_node.proofs.reply.put_masks.Given as goal

-- the masks from `from` up to `i` are in the room
abbrev pub invariant-loop-i : goal.invariant-loop-i
invariant-loop-i l =
    record {
      later : l.from ≤ l.i;
      within : l.i ≤ l.count;
      first : l.i ≡ l.from → l.length ≡ 0;
      size : length l.room ≡ length l.initial.room;
      small : l.length ≤ length l.initial.room;
      bytes : joined (mask_of (granted_by l.masks) (ask_in l.masks)) l.from ++ take l.length l.room ≡ joined (mask_of (granted_by l.masks) (ask_in l.masks)) l.i;
    }
