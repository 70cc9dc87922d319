use Rattle.std.proofs.Common.{subst}
use Rattle.rikselbe_c.specs.HssStream.{HasTakenPart, IsHashing}
use Rattle.rikselbe_c.specs.declared.hss_stream.HssStream.{HssStream}
use Rattle.rikselbe_c.proofs.hss_stream.updated.Goals as goal

pub returns-in-Hashing : goal.returns-in-Hashing
returns-in-Hashing c = λ key signature message had.
    let was : IsHashing c.in-Hashing.level c.in-Hashing.place c.in-Hashing.key c.in-Hashing.hash key signature message =
    subst (λ (s : HssStream). HasTakenPart s key signature message) c.in-Hashing.is had in
    record {
      top = was.top;
      key_is = was.key_is;
      levels = was.levels;
      level_is = was.level_is;
      place_fits = was.place_fits;
      last_is = was.last_is;
      public_is = was.public_is;
      q = was.q;
      c = was.c;
      y = was.y;
      path = was.path;
      layout = was.layout;
      taken = c.update.ensures _ _ was.q was.c message was.taken;
    }
