-- Slots that stand one after another.
use Rattle.std.proofs.Common.{◌≡◌, ◌<◌, ◌≤◌, ◌+◌, ◌*◌, ◌-◌, ℕ, List, length, get_or, set, take, drop, inl, inr, ap, sym, ◌∙◌, arith}
use Rattle.std.proofs.lemmas.Bool.{cases_eq}
use Rattle.std.proofs.Math.Nat.{mul-add, mul-le-mul_left, mul-le-mul_right}
use Rattle.std.proofs.lemmas.List.{drop-drop, drop-take, get_or-set_same, get_or-set_other, take-take}
use Rattle.slot_file.specs.Layout.{part, slot_of, slot_size, slot_start}
use Rattle.slot_file.proofs.Puts.{most_size}
use Rattle.slot_file.specs.Runs.{IsInBlock, IsRun}
use Rattle.slot_file.specs.declared.slot.Slot.{Slot}
use Rattle.slot_file.specs.declared.slot.Slot.TheVariants.{Free}

-- one more slot of a block
pub in-block-more : (version : ℕ) (block : List ℕ) (slots : List Slot) (place : ℕ) (found : Slot) → place < length slots
    → found ≡ slot_of version (part (slot_size version * place) (slot_size version) block)
    → ((k : ℕ) → k < place → get_or slots k Free ≡ slot_of version (part (slot_size version * k) (slot_size version) block))
    → (k : ℕ) → k < place + 1 → get_or (set slots place found) k Free ≡ slot_of version (part (slot_size version * k) (slot_size version) block)
in-block-more version block slots place found within is before k below = elim (cases_eq k place) [
  | inl same ↦
      ap (λ (j : ℕ). get_or (set slots place found) j Free) same ∙ get_or-set_same slots place found Free within ∙ is
      ∙ ap (λ (j : ℕ). slot_of version (part (slot_size version * j) (slot_size version) block)) (sym same)
  | inr differs ↦ get_or-set_other slots place k found Free differs ∙ before k (omega arith)
]

-- a part of a part
part-in : (size n at k : ℕ) (file : List ℕ) → k < n → part (size * k) size (take (size * n) (drop at file)) ≡ part (at + size * k) size file
part-in size n at k file below =
    let rest = n - k in
    let all : k + rest ≡ n = omega arith in
    let split : size * n ≡ size * k + size * rest = ap (λ (m : ℕ). size * m) (sym all) ∙ mul-add size k rest in
    let some : 1 ≤ rest = omega arith in
    let long : size ≤ size * rest = omega (arith, mul-le-mul_left size some) in
    ap (λ (m : ℕ). take size (drop (size * k) (take m (drop at file)))) split
    ∙ ap (λ (l : List ℕ). take size l) (drop-take (size * k) (size * rest) (drop at file))
    ∙ take-take size (size * rest) (drop (size * k) (drop at file)) long
    ∙ ap (λ (l : List ℕ). take size l) (drop-drop (size * k) at file)

-- the slots of a block that a read gave
pub run-read : (version first n : ℕ) (file block : List ℕ) (slots : List Slot)
    → block ≡ take (slot_size version * n) (drop (slot_start version first) file) → length slots ≡ n
    → IsInBlock version block slots → IsRun version first file slots
run-read version first n file block slots is size stand k below =
    let place : slot_start version first + slot_size version * k ≡ slot_start version (first + k) = omega (arith, mul-add (slot_size version) first k) in
    stand k below
    ∙ ap (λ (l : List ℕ). slot_of version (part (slot_size version * k) (slot_size version) l)) is
    ∙ ap (slot_of version) (part-in (slot_size version) n (slot_start version first) k file (omega arith))
    ∙ ap (λ (at : ℕ). slot_of version (part at (slot_size version) file)) place

-- the bytes of a run
pub run-size : (version size n : ℕ) → size ≡ slot_size version → n ≤ 32 → size * n ≤ 5120
run-size version size n is few =
    let most : size ≤ 160 = omega (arith, is, most_size version) in
    omega (arith, few, mul-le-mul_right n most)
