-- States in memory that the caller gives.
use Rattle.std.specs.Prelude.{ℕ, List}
use Rattle.std.specs.Borrow.{full_share}
use Rattle.std.specs.Ptr.{Ptr, lies_at, room_at}
use base.Fml.{Fml, fsep, fex, ftrue}
use Rattle.rikselbe_c.specs.HssStream as hss
use Rattle.rikselbe_c.specs.LmsStream as lms
use Rattle.rikselbe_c.specs.contracts.hss_stream.HssStream as hss_row
use Rattle.rikselbe_c.specs.contracts.lms_stream.LmsStream as lms_row
use Rattle.rikselbe_c.specs.declared.hss_stream.HssStream.{HssStream}
use Rattle.rikselbe_c.specs.declared.lms_stream.LmsStream.{LmsStream}

-- what a state was begun with, and how much of the message it has taken
pub record Taken : Type 0 where
  pub key : List ℕ
  pub signature : List ℕ
  pub message : List ℕ

-- room for a state under an LMS key, and for one under an HSS key, whatever lies there
abbrev pub lms_room : Ptr → Fml
lms_room place = room_at lms_row.the_row place

abbrev pub hss_room : Ptr → Fml
hss_room place = room_at hss_row.the_row place

-- at the pointer lies a state that was begun with this key and this signature, and that has taken this much of the
-- message
abbrev pub LmsStateAt : Ptr → List ℕ → List ℕ → List ℕ → Fml
LmsStateAt place key signature message =
    fex LmsStream (λ state. fsep (lies_at lms_row.the_row full_share place state)
    (fex (lms.HasTakenPart state key signature message) (λ _. ftrue)))

-- the same under an HSS key
abbrev pub HssStateAt : Ptr → List ℕ → List ℕ → List ℕ → Fml
HssStateAt place key signature message =
    fex HssStream (λ state. fsep (lies_at hss_row.the_row full_share place state)
    (fex (hss.HasTakenPart state key signature message) (λ _. ftrue)))
