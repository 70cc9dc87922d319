-- Steps of a rule: one that was taken or that refused, and two files that are read one after the other.
use Rattle.std.proofs.Common.{◌≡◌, ℕ, List, [], Result, Ok, Err, IfOk, IfErr, sym, subst}
use Rattle.tool_base.specs.Ending.{Ending}
use Rattle.tool_base.specs.Outputs.{Output}
use Rattle.tool_base.specs.World.{StoreRun}
use Rattle.tool_keys.specs.Steps.{AreRead, FailsToReadTwo, StepThen, TextThen, first_fails, given, refused, second_fails}

-- a step gave a value, and the rest is as it says of this one; or it refused, and that is the end
pub step_then : {A B : Type 0} (Fails : Ending → Type 0) (Gives Rests : A → Type 0) (Rest : A → Ending → List Output → Type 0) (told : B → Ending) (step : Result A B) (end : Ending)
    → IfErr step (λ fault. Fails (told fault)) → IfOk step Gives → IfErr step (λ fault. end ≡ told fault) → IfOk step Rests
    → ((value : A) → Rests value → Rest value end []) → StepThen Fails Gives Rest end []
step_then Fails Gives Rests Rest told (Ok value) end fails gives is rests rest = given value end [] gives (rest value rests)
step_then Fails Gives Rests Rest told (Err fault) end fails gives is rests rest = subst (λ e. StepThen Fails Gives Rest e []) (sym is) (refused (told fault) fails)

module _ (store : StoreRun) (one two : List ℕ) (Rest : List ℕ → List ℕ → Ending → List Output → Type 0) where
  abbrev Both : Ending → List Output → Type 0
  Both = TextThen store one (λ a. TextThen store two (λ b. Rest a b))

  pub two_refused : (end : Ending) → FailsToReadTwo store one two end → Both end []
  two_refused _ (first_fails end fails) = refused end fails
  two_refused _ (second_fails text end read fails) = given text end [] read (refused end fails)

  pub two_given : (a b : List ℕ) (end : Ending) (written : List Output) → AreRead store one two a b → Rest a b end written → Both end written
  two_given a b end written read rest = given a end written read.first (given b end written read.second rest)
