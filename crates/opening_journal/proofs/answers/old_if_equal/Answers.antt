use Rattle.std.proofs.Common.{◌≡◌, ◌≢◌, ℕ, List, true, false, not, inl, inr, ◌∙◌, ap}
use Rattle.std.proofs.lemmas.Slice.Eq.{bytes_eq-Decides}
use Rattle.std.specs.Str.{bytes_eq}
use Rattle.opening_journal.proofs.answers.old_if_equal.Goals as goal
use Rattle.opening_journal.proofs.answers.old_if_equal.Goals.{then-ne-via-then-ne, then-ne-via-else-ne+then-ne-2}

differ : (xs ys : List ℕ) → true ≡ not (bytes_eq xs ys) → xs ≢ ys
differ xs ys tested same = let no : true ≡ false = tested ∙ ap not ((bytes_eq-Decides xs ys).1 same) in absurd (cc)

pub returns-then-ne : goal.returns-then-ne
returns-then-ne c = elim c.then-ne.branch [
  | then-ne-via-then-ne w ↦ (c.value_at-kept_c.ensures, c.value_at-kept_digest.ensures, inl (differ _ _ w.if-ne.ensures))
  | then-ne-via-else-ne+then-ne-2 w ↦ (c.value_at-kept_c.ensures, c.value_at-kept_digest.ensures, inr (differ _ _ w.if-ne-2.ensures))
]
