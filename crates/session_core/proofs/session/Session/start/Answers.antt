use Rattle.std.proofs.Common.{◌∙◌, refl, arith}
use Rattle.session_core.proofs.Starting.{members-empty, each-empty, nothing-kept}
use Rattle.session_core.proofs.session.Session.start.Goals as goal

pub invariant_of-result : goal.invariant_of-result
invariant_of-result c =
    let members = c.members_of-members.ensures.members in
    let room = c.body_room.ensures in
    let room-2 = c.body_room-2.ensures in
    record {
      height = c.requires.height;
      leaf = c.requires.leaf;
      ascending = rw (← members) c.members_of-members.ensures.subset.ascending;
      first = record {
        theirs = rw c.in_ok-empty_seats.ensures (members-empty _ _ ∙ members);
        each = rw c.in_ok-empty_seats.ensures (each-empty _ 1 _ _ (omega arith));
      };
      second = record {
        theirs = rw c.in_ok-empty_seats-2.ensures (members-empty _ _ ∙ members);
        each = rw c.in_ok-empty_seats-2.ensures (each-empty _ 2 _ _ (omega arith));
      };
      waiting = λ _. rw c.in_ok-empty_seats-2.ensures (nothing-kept _ _);
      c = tt;
    }
