-- The slot that is in doubt: a put on it was refused, and since then it was not looked at after a settle.
use Rattle.std.specs.Prelude.{◌==◌, ◌+◌, ◌&&◌, nat_le, nat_lt, if◌then◌else◌, ℕ}
use Rattle.slot_file.specs.declared.slots.Doubt.{Doubt}
use Rattle.slot_file.specs.declared.slots.Doubt.TheVariants.{Nowhere, Refused, Settled}

-- no put was refused since the last settle
abbrev pub IsSure : Doubt → Type 0
IsSure (Refused doubted) = ⊥
IsSure doubt = Unit {0}

-- the doubt after a settle, and after a look at a slot
abbrev pub settled : Doubt → Doubt
settled (Refused doubted) = Settled doubted
settled doubt = doubt

abbrev pub looked : ℕ → Doubt → Doubt
looked slot (Settled doubted) = if doubted == slot then Nowhere else Settled doubted
looked slot doubt = doubt

-- the doubt after a look at that many slots from one on
abbrev pub looked_run : ℕ → ℕ → Doubt → Doubt
looked_run first count (Settled doubted) =
    if nat_le first doubted && nat_lt doubted (first + count) then Nowhere else Settled doubted
looked_run first count doubt = doubt
