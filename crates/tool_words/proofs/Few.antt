-- Words of a command that are too few.
use Rattle.std.proofs.Common.{◌≡◌, ◌<◌, ℕ, List, [], ◌∷◌, None, length, map, arith, refl}
use Rattle.tool_words.specs.Words.{aggregate_of, deal_of, hss_sign_of, sign_words_of, trustee_of}

module _ {A : Type 0} (f : A → List ℕ) where
  pub few-sign_words : (words : List A) → length words < 4 → None ≡ sign_words_of (map f words)
  few-sign_words [] few = refl
  few-sign_words (a ∷ []) few = refl
  few-sign_words (a ∷ b ∷ []) few = refl
  few-sign_words (a ∷ b ∷ c ∷ []) few = refl
  few-sign_words (a ∷ b ∷ c ∷ d ∷ more) few = absurd (omega arith)

  pub few-aggregate : (words : List A) → length words < 5 → None ≡ aggregate_of (map f words)
  few-aggregate [] few = refl
  few-aggregate (a ∷ []) few = refl
  few-aggregate (a ∷ b ∷ []) few = refl
  few-aggregate (a ∷ b ∷ c ∷ []) few = refl
  few-aggregate (a ∷ b ∷ c ∷ d ∷ []) few = refl
  few-aggregate (a ∷ b ∷ c ∷ d ∷ e ∷ more) few = absurd (omega arith)

  pub few-trustee : (words : List A) → length words < 5 → None ≡ trustee_of (map f words)
  few-trustee [] few = refl
  few-trustee (a ∷ []) few = refl
  few-trustee (a ∷ b ∷ []) few = refl
  few-trustee (a ∷ b ∷ c ∷ []) few = refl
  few-trustee (a ∷ b ∷ c ∷ d ∷ []) few = refl
  few-trustee (a ∷ b ∷ c ∷ d ∷ e ∷ more) few = absurd (omega arith)

  pub few-deal : (words : List A) → length words < 6 → None ≡ deal_of (map f words)
  few-deal [] few = refl
  few-deal (a ∷ []) few = refl
  few-deal (a ∷ b ∷ []) few = refl
  few-deal (a ∷ b ∷ c ∷ []) few = refl
  few-deal (a ∷ b ∷ c ∷ d ∷ []) few = refl
  few-deal (a ∷ b ∷ c ∷ d ∷ e ∷ []) few = refl
  few-deal (a ∷ b ∷ c ∷ d ∷ e ∷ f ∷ more) few = absurd (omega arith)

  pub few-hss_sign : (words : List A) → length words < 7 → None ≡ hss_sign_of (map f words)
  few-hss_sign [] few = refl
  few-hss_sign (a ∷ []) few = refl
  few-hss_sign (a ∷ b ∷ []) few = refl
  few-hss_sign (a ∷ b ∷ c ∷ []) few = refl
  few-hss_sign (a ∷ b ∷ c ∷ d ∷ []) few = refl
  few-hss_sign (a ∷ b ∷ c ∷ d ∷ e ∷ []) few = refl
  few-hss_sign (a ∷ b ∷ c ∷ d ∷ e ∷ f ∷ []) few = refl
  few-hss_sign (a ∷ b ∷ c ∷ d ∷ e ∷ f ∷ g ∷ more) few = absurd (omega arith)
