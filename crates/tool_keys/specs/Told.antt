-- What is told of a dealing that words ask for.
use Rattle.std.specs.Prelude.{◌≡◌, ◌≢◌, ◌⊎◌, ◌*◌, ◌^◌, ◌≤◌, ℕ, true, Result, MatchResult, if◌then◌else◌}
use Rattle.dealer.specs.Onto.{part_leaves, told_all, told_first}
use Rattle.dealer.specs.Told.{told_of}
use Rattle.lms_bytes.specs.declared.params.Params.{Params}
use Rattle.tool_base.specs.Ending.{status_of}
use Rattle.tool_base.specs.Endings.{ending}
use Rattle.tool_base.specs.declared.ending.Ending.{Ending}
use Rattle.tool_keys.specs.Deal.{IsSet}
use Rattle.tool_words.specs.Words.{DealWords}

-- all of a dealing of the typecode that the words name was told
pub record IsToldAll {P : Type 0} (told : P → ℕ → ℕ → P) (words : DealWords) (old new : P) : Type 0 where
  pub params : Params
  pub set : IsSet words params
  pub all : new ≡ (if words.large then told_all told params old else told_of told params.h old)

-- the first parts of a large dealing were told
pub record IsToldSome {P : Type 0} (told : P → ℕ → ℕ → P) (words : DealWords) (old new : P) : Type 0 where
  pub large : words.large ≡ true
  pub params : Params
  pub set : IsSet words params
  pub k : ℕ
  pub most : k * part_leaves params ≤ 2 ^ params.h
  pub first : new ≡ told_first told params k old

-- Nothing was told, or all of the dealing: all at status 0, if it was dealt, and nothing at status 5, if it was
-- refused.
-- At status 10, if the disk of a large dealing failed, or at 14, if there was no memory for the line then, the parts
-- that were written were told.
pub data ToldBy {P : Type 0} (told : P → ℕ → ℕ → P) (words : DealWords) (status : ℕ) (old new : P) : Type 0 where
  nothing_told : status ≢ 0 → new ≡ old → ToldBy told words status old new
  all_told : status ≢ 5 → IsToldAll told words old new → ToldBy told words status old new
  some_told : (status ≡ 10) ⊎ (status ≡ 14) → IsToldSome told words old new → ToldBy told words status old new

-- internal: all was told if there is a dealing, and otherwise what the status of the end says
abbrev pub TellsBy : {P A : Type 0} → (P → ℕ → ℕ → P) → DealWords → Result A Ending → P → P → Type 0
TellsBy told words result old new = MatchResult result
    (λ _. IsToldAll told words old new)
    (λ end. ToldBy told words (status_of (ending end)) old new)

-- internal: the same of a dealing onto a disk
abbrev pub TellsParts : {P A : Type 0} → (P → ℕ → ℕ → P) → Params → Result A Ending → P → P → Type 0
TellsParts told params result old new = MatchResult result
    (λ _. new ≡ told_all told params old)
    (λ end. (new ≡ old) ⊎ (new ≡ told_all told params old) ⊎ ((status_of (ending end) ≡ 10)
    × ((k : ℕ) × (k * part_leaves params ≤ 2 ^ params.h) × (new ≡ told_first told params k old))))
