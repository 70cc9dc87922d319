-- States of a verification in memory that the caller gives, of either kind.
use Rattle.std.proofs.Common.{ℕ, List, [], ◌∷◌, subst}
use base.Fraction.{full_share}
use base.Fml.{Fml, ftrue, fsep, fex}
use lib.Dec.{T}
use mir.Syntax.{Ty, imm, named, ty_int, ty_ref, w8}
use mir.Val.{Val, WT, has_ty}
use types.Logic.{Logic}
use seplogic.Ra.Ura.{Ura}
use denote.RattleType.{RattleType}
use denote.Laws.{Is, Typed}
use denote.Param.{layout}
use denote.Param.Laws.{Laws}
use denote.RawPtr.{Ptr, lies_at}
use denote.Slice.{slice_ty}
use Rattle.rikselbe_c.specs.HssStream as hss_spec
use Rattle.rikselbe_c.specs.LmsStream as lms_spec
use Rattle.rikselbe_c.specs.contracts.hss_stream.HssStream as hss_row
use Rattle.rikselbe_c.specs.contracts.lms_stream.LmsStream as lms_row
use Rattle.rikselbe_c.proofs.hss_stream.HssStream.TheLaws as hss_laws
use Rattle.rikselbe_c.proofs.lms_stream.LmsStream.TheLaws as lms_laws

-- a `&[u8]` of the named lifetime, as the code has it
abbrev pub slice_of : ℕ → Ty
slice_of n = slice_ty (ty_ref (named n) imm (ty_int w8))

-- a kind of state: its type with the laws, and the key, the signature and the message that it says were taken
pub record Kind : Type 2 where
  pub row : RattleType
  pub laws : Laws row
  pub Has : row.Denot → List ℕ → List ℕ → List ℕ → Type 0

-- under an LMS key, and under an HSS key
abbrev pub lms : Kind
lms = record { row = lms_row.the_row; laws = lms_laws.the_row_laws; Has = lms_spec.HasTakenPart }

abbrev pub hss : Kind
hss = record { row = hss_row.the_row; laws = hss_laws.the_row_laws; Has = hss_spec.HasTakenPart }

module _ (K : Kind) where
  abbrev pub State : Type 0
  State = K.row.Denot

  -- a state that says this
  abbrev pub Says : (State → Type 0) → State → Fml
  Says Has state = fex (Has state) (λ _. ftrue)

  -- a state of this kind lies there
  abbrev pub LiesAt : Ptr → (State → Type 0) → Fml
  LiesAt place Has = fex State (λ state. fsep (lies_at K.row full_share place state) (Says Has state))

  -- its one machine value is of its type
  pub typed : {M : Type 1} {𝓤 : Ura M} (𝓛 : Logic 𝓤) (state : State) (v : Val) → Is K.row state (v ∷ []) → T (has_ty (layout K.row) v) × WT v
  typed 𝓛 state v is = (subst (λ (τs : List Ty). Typed τs (v ∷ [])) K.laws.one ((K.laws.lawful 𝓛).typed state (v ∷ []) is)).0
