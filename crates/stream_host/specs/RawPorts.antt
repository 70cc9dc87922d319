-- How the next link is taken from a raw port: what is passed over, what is waited for, and when that ends.
use Rattle.std.specs.Prelude.{◌≡◌, ◌<◌, ◌+◌, ℕ, Bool, true, false, Result, Ok, Err, Option, Some, None}
use Rattle.std.specs.declared.ops.ControlFlow.{ControlFlow}
use Rattle.std.specs.declared.ops.ControlFlow.TheVariants.{Break, Continue}
use Rattle.stream_host.specs.declared.raw_port.News.{News}
use Rattle.stream_host.specs.declared.refused.Refused.{Refused}

-- a raw port by what its calls make of it: a call that accepts, a pause, and news that are told
module _ {P L : Type 0} (accepts : P → Result L Refused → P → Type 0) (pauses : P → P → Type 0)
    (tells : P → News → P → Type 0) where
  -- What comes after a call that met a shortage: a pause. Before the first one in a row this is told.
  pub data Waits : Bool → P → P → Type 0 where
    first : (old mid new : P) → tells old News.Waits mid → pauses mid new → Waits false old new
    later : (old new : P) → pauses old new → Waits true old new

  -- calls in a row that gave no link, how many, and whether one of them met a shortage
  pub data Tries : ℕ → Bool → P → P → Type 0 where
    none : (port : P) → Tries 0 false port port
    passed_over : (count : ℕ) (short : Bool) (old mid new : P) → Tries count short old mid
        → accepts mid (Err Refused.Once) new → Tries (count + 1) short old new
    waited : (count : ℕ) (short : Bool) (old mid late new : P) → Tries count short old mid
        → accepts mid (Err Refused.Short) late → Waits short late new → Tries (count + 1) true old new

  -- internal: one call, and what came after it
  pub data Tried (old : P) (short : Bool) : ControlFlow (Option L) (Unit {0}) → P → Bool → Type 0 where
    link : (given : L) (new : P) → accepts old (Ok given) new → Tried old short (Break (Some given)) new short
    again : (new : P) → accepts old (Err Refused.Once) new → Tried old short (Continue tt) new short
    late : (mid new : P) → accepts old (Err Refused.Short) mid → Waits short mid new
        → Tried old short (Continue tt) new true
    ended : (mid new : P) → accepts old (Err Refused.Broken) mid → tells mid News.Ended new
        → Tried old short (Break None) new short

  -- the first link that came, within 65,536 calls
  pub record GivesLink (old new : P) (link : L) : Type 0 where
    pub count : ℕ
    pub short : Bool
    pub before : P
    pub few : count < 65536
    pub tries : Tries count short old before
    pub given : accepts before (Ok link) new

  -- no link: within 65,536 calls one met an error that stays, or none of so many gave a link; and this was told
  pub data GivesUp (old new : P) : Type 0 where
    broken : (count : ℕ) (short : Bool) (before after : P) → count < 65536 → Tries count short old before
        → accepts before (Err Refused.Broken) after → tells after News.Ended new → GivesUp old new
    worn : (short : Bool) (after : P) → Tries 65536 short old after → tells after News.Ended new → GivesUp old new
