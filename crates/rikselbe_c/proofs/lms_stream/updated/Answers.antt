use Rattle.std.proofs.Common.{subst}
use Rattle.rikselbe_c.specs.LmsStream.{HasTakenPart, IsHashing}
use Rattle.rikselbe_c.specs.declared.lms_stream.LmsStream.{LmsStream}
use Rattle.rikselbe_c.proofs.lms_stream.updated.Goals as goal

pub returns-in-Hashing : goal.returns-in-Hashing
returns-in-Hashing c = λ key signature message had.
    let was : IsHashing c.in-Hashing.key c.in-Hashing.hash key signature message =
    subst (λ (s : LmsStream). HasTakenPart s key signature message) c.in-Hashing.is had in
    record {
      q = was.q;
      c = was.c;
      y = was.y;
      path = was.path;
      key_is = was.key_is;
      layout = was.layout;
      taken = c.update.ensures _ _ was.q was.c message was.taken;
    }
