-- What a verdict says.
use Rattle.std.specs.Prelude.{◌≡◌, ◌+◌, ℕ, List, [], ◌∷◌, ◌++◌, length, drop}
use Rattle.std.specs.List.{AllByRecursion}
use Rattle.lms_bytes.specs.Bytes.{u32str}
use Rattle.lms_verify.specs.Verdict.{IsVerdict}
use Rattle.lms_verify.specs.declared.verification.Verdict.TheVariants as lms
use Rattle.hss_levels.specs.HssAccepts.{HssAccepts, hss_signature_bytes}
use Rattle.hss_levels.specs.HssKey.{hss_key_bytes}
use Rattle.hss_levels.specs.Levels.{IsSigned, Level, SignedKey, levels_of}
use Rattle.hss_levels.specs.Parts.{AllRead, IsHssFault}
use Rattle.hss_levels.specs.declared.hss_key.HssKey.{HssKey}
use Rattle.hss_levels.specs.declared.verification.HssVerdict.{HssVerdict}
use Rattle.hss_levels.specs.declared.verification.HssVerdict.TheVariants.{Accepted, Malformed, OtherRoot}

-- the signatures of the levels above this one are accepted, and its own leads to another root than its key's
pub record LeadsElsewhere (levels : List Level) (level : ℕ) (got want : List ℕ) : Type 0 where
  pub above : List Level
  pub at : Level
  pub below : List Level
  pub levels_are : levels ≡ above ++ (at ∷ below)
  pub number : length above ≡ level
  pub signed : AllByRecursion IsSigned above
  pub other : IsVerdict at.key at.message at.signature (lms.OtherRoot got want)

-- the string is a signature of as many levels as the key has, all parts of which read, and one level leads elsewhere
pub record IsOtherRoot (key : HssKey) (message signature : List ℕ) (level : ℕ) (got want : List ℕ) : Type 0 where
  pub keys : List SignedKey
  pub last : List ℕ
  pub count : length keys + 1 ≡ key.levels
  pub signature_is : signature ≡ hss_signature_bytes keys last
  pub read : AllRead key.top keys last
  pub elsewhere : LeadsElsewhere (levels_of key.top keys message last) level got want

-- the verdict is true of the key and the two strings: accepted, or no signature by the first test that fails, or one
-- whose first levels are signed, up to one that leads to another root than its key's
abbrev pub IsHssVerdict : HssKey → List ℕ → List ℕ → HssVerdict → Type 0
IsHssVerdict key message signature (Accepted levels) =
    (levels ≡ key.levels) × HssAccepts (hss_key_bytes key) message signature
IsHssVerdict key message signature (Malformed fault) = IsHssFault key signature fault
IsHssVerdict key message signature (OtherRoot level got want) = IsOtherRoot key message signature level got want

-- internal: the verdict is true of these levels, the first of which has this number
abbrev pub IsLevelsVerdict : ℕ → List Level → HssVerdict → Type 0
IsLevelsVerdict level levels (Accepted count) = (count ≡ level + length levels) × AllByRecursion IsSigned levels
IsLevelsVerdict level levels (Malformed fault) = ⊥
IsLevelsVerdict level levels (OtherRoot at got want) =
    (above : ℕ) × (at ≡ level + above) × LeadsElsewhere levels above got want
