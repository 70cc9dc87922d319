-- How calls in a row end, by the last of them.
use Rattle.std.proofs.Common.{◌≡◌, ◌+◌, ◌<◌, ℕ, Bool, List, Option, Some, None, Result, IfSome, sym}
use Rattle.std.proofs.lemmas.Option.{none-some}
use Rattle.std.specs.declared.ops.ControlFlow.TheVariants.{Break, Continue}
use Rattle.stream_host.specs.RawPorts.{GivesLink, GivesUp, Tried, Tries, broken, passed_over, waited, link, again, late, ended}
use Rattle.stream_host.specs.declared.raw_port.News.{News}
use Rattle.stream_host.specs.declared.refused.Refused.{Refused}

module _ {P L : Type 0} (accepts : P → Result L Refused → P → Type 0) (pauses : P → P → Type 0)
    (tells : P → News → P → Type 0) where
  pub one-more : (count : ℕ) (short later : Bool) (old mid new : P) → Tries accepts pauses tells count short old mid
      → Tried accepts pauses tells mid short (Continue tt) new later → Tries accepts pauses tells (count + 1) later old new
  one-more count short later old mid new tries (again _ call) = passed_over count short old mid new tries call
  one-more count short later old mid new tries (late between _ call waits) = waited count short old mid between new tries call waits

  pub gives-link : (count : ℕ) (short later : Bool) (old mid new : P) (outcome : Option L) → count < 65536
      → Tries accepts pauses tells count short old mid → Tried accepts pauses tells mid short (Break outcome) new later
      → IfSome outcome (λ it. GivesLink accepts pauses tells old new it)
  gives-link count short later old mid new outcome few tries (link given _ call) =
      record { count = count; short = short; before = mid; few = few; tries = tries; given = call }
  gives-link count short later old mid new outcome few tries (ended _ _ call told) = tt

  pub gives-up : (count : ℕ) (short later : Bool) (old mid new : P) (outcome : Option L) → count < 65536
      → Tries accepts pauses tells count short old mid → Tried accepts pauses tells mid short (Break outcome) new later
      → outcome ≡ None → GivesUp accepts pauses tells old new
  gives-up count short later old mid new outcome few tries (ended between _ call told) is = broken count short mid between few tries call told
  gives-up count short later old mid new outcome few tries (link given _ call) is = absurd (none-some given (sym is))
