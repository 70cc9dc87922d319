-- Whether two slots are the same.
use Rattle.std.proofs.Common.{◌≡◌, ◌≢◌, ◌⊎◌, ℕ, List, Bool, true, false, Decides, inl, inr, refl}
use Rattle.std.specs.Str.{bytes_eq}
use Rattle.std.proofs.lemmas.Bool.{cases_eq}
use Rattle.std.proofs.lemmas.Slice.Eq.{bytes_eq-Decides}
use Rattle.slot_file.specs.declared.slot.Slot.{Slot}
use Rattle.slot_file.specs.declared.slot.Slot.TheVariants.{Free, Half, Full, Damaged}

decided : {P : Type 0} (r : Bool) → Decides r P → P ⊎ (P → ⊥)
decided true d = inl (d.0 refl)
decided false d = inr (λ holds. let no : false ≡ true = d.1 holds in absurd (cc))

list_cases : (xs ys : List ℕ) → (xs ≡ ys) ⊎ (xs ≢ ys)
list_cases xs ys = decided (bytes_eq xs ys) (bytes_eq-Decides xs ys)

pub slot_cases : (x y : Slot) → (x ≡ y) ⊎ (x ≢ y)
slot_cases Free Free = inl refl
slot_cases Free (Half b) = inr (λ is. cc)
slot_cases Free (Full b d n) = inr (λ is. cc)
slot_cases Free (Damaged b d) = inr (λ is. cc)
slot_cases (Half a) Free = inr (λ is. cc)
slot_cases (Half a) (Half b) = elim (list_cases a b) [ inl same ↦ inl (λ i. Half (same i)) | inr differs ↦ inr (λ is. let same : a ≡ b = cc in differs same) ]
slot_cases (Half a) (Full b d n) = inr (λ is. cc)
slot_cases (Half a) (Damaged b d) = inr (λ is. cc)
slot_cases (Full a c m) Free = inr (λ is. cc)
slot_cases (Full a c m) (Half b) = inr (λ is. cc)
slot_cases (Full a c m) (Full b d n) = elim (list_cases a b) [
  | inl front ↦ elim (list_cases c d) [
    | inl back ↦ elim (cases_eq m n) [
      | inl then ↦ inl (λ i. Full (front i) (back i) (then i))
      | inr differs ↦ inr (λ is. let same : m ≡ n = cc in differs same)
    ]
    | inr differs ↦ inr (λ is. let same : c ≡ d = cc in differs same)
  ]
  | inr differs ↦ inr (λ is. let same : a ≡ b = cc in differs same)
]
slot_cases (Full a c m) (Damaged b d) = inr (λ is. cc)
slot_cases (Damaged a c) Free = inr (λ is. cc)
slot_cases (Damaged a c) (Half b) = inr (λ is. cc)
slot_cases (Damaged a c) (Full b d n) = inr (λ is. cc)
slot_cases (Damaged a c) (Damaged b d) = elim (cases_eq a b) [
  | inl front ↦ elim (cases_eq c d) [
    | inl back ↦ inl (λ i. Damaged (front i) (back i))
    | inr differs ↦ inr (λ is. let same : c ≡ d = cc in differs same)
  ]
  | inr differs ↦ inr (λ is. let same : a ≡ b = cc in differs same)
]
