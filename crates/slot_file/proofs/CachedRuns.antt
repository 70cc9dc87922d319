-- A list of slots of which a run was read.
use Rattle.std.proofs.Common.{◌≡◌, ◌<◌, ◌+◌, ◌-◌, ℕ, List, length, inl, inr, sym, subst, arith}
use Rattle.std.proofs.lemmas.Bool.{cases_lt}
use Rattle.slot_file.specs.State.{slot_in}
use Rattle.slot_file.specs.declared.slot.Slot.{Slot}

-- what holds of the slots before the run and of those in it
pub each-slot : (first end : ℕ) (old new run : List Slot) → first + length run ≡ end → ((k : ℕ) → k < first → slot_in new k ≡ slot_in old k)
    → ((k : ℕ) → k < length run → slot_in new (first + k) ≡ slot_in run k) → (P : ℕ → Slot → Type 0) → ((k : ℕ) → k < first → P k (slot_in old k))
    → ((k : ℕ) → k < length run → P (first + k) (slot_in run k)) → (k : ℕ) → k < end → P k (slot_in new k)
each-slot first end old new run size same put P before run_has k below = elim (cases_lt k first) [
  | inl small ↦ subst (P k) (sym (same k small)) (before k small)
  | inr behind ↦
      let j = k - first in
      let at : first + j ≡ k = omega arith in
      let inside : j < length run = omega arith in
      subst (λ (n : ℕ). P n (slot_in new n)) at (subst (P (first + j)) (sym (put j inside)) (run_has j inside))
]
