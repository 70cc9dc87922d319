-- What a call of the tool tells of its progress.
use Rattle.std.specs.Prelude.{◌≡◌, ℕ, Option, Some}
use Rattle.tool_keys.specs.Told.{ToldBy}
use Rattle.tool_words.specs.Words.{Row, Deal}

-- What words tell that ended with this status: a dealing tells how many of its leaves are built, and other words tell
-- nothing.
abbrev pub WordsTell : {P : Type 0} → (P → ℕ → ℕ → P) → Option Row → ℕ → P → P → Type 0
WordsTell told (Some (Deal words)) status old new = ToldBy told words status old new
WordsTell told row status old new = new ≡ old
