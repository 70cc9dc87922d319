-- One more draw.
use Rattle.std.proofs.Common.{◌≡◌, ℕ, ◌+◌, ◌%◌, [], ◌∷◌, ◌++◌, refl, sym, ◌∙◌, ap, add-one}
use Rattle.disk_trait.specs.Generator.{state_after}
use Rattle.drill_schedule.specs.Draws.{bytes_of, draw_at, state_at}

pub state-none : (number : ℕ) → state_at number 0 ≡ number
unfolding state_at
state-none number = refl

pub state-more : (number i : ℕ) → state_at number (i + 1) ≡ state_after (state_at number i)
unfolding state_at
state-more number i = rw (add-one i) refl

pub state-next : (number i state after : ℕ) → state ≡ state_at number i → after ≡ state_after state → after ≡ state_at number (i + 1)
state-next number i state after is next = next ∙ ap state_after is ∙ sym (state-more number i)

pub bytes-none : (number : ℕ) → bytes_of number 0 ≡ []
unfolding bytes_of
bytes-none number = refl

pub bytes-more : (number i : ℕ) → bytes_of number (i + 1) ≡ bytes_of number i ++ (draw_at number i % 256) ∷ []
unfolding bytes_of
bytes-more number i = rw (add-one i) refl
