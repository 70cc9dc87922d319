-- Lists of slots of which only the first are in memory.
use Rattle.std.proofs.Common.{◌≡◌, ℕ, ◌+◌, ◌-◌, ◌<◌, ◌≤◌, List, ◌++◌, length, replicate, take, set, inl, inr, refl, sym, ◌∙◌, ap, arith, length-append, append_assoc}
use Rattle.std.proofs.lemmas.Bool.{cases_eq, cases_lt}
use Rattle.std.proofs.lemmas.List.{get_or_append_left, get_or-append_right, get_or-replicate, get_or-set_other, get_or-set_same, get_or_past, length-replicate, length-set, replicate-append-replicate, set-append_left, set-get_or}
use Rattle.slot_file.specs.Copies.{is_free}
use Rattle.slot_file.specs.Lists.{filled}
use Rattle.slot_file.specs.State.{slot_in}
use Rattle.slot_file.specs.declared.slot.Slot.{Slot}
use Rattle.slot_file.specs.declared.slot.Slot.TheVariants.{Free, Half, Full, Damaged}
use Rattle.std.proofs.Common.{true, take_all}

pub length-filled : (count : ℕ) (front : List Slot) → length front ≤ count → length (filled count front) ≡ count
length-filled count front within = omega (arith, length-append front (replicate (count - length front) Free), length-replicate (count - length front) Free)

-- any number of free slots
free-in : (n k : ℕ) → slot_in (replicate n Free) k ≡ Free
free-in n k = elim (cases_lt k n) [
  | inl within ↦ get_or-replicate n k Free Free within
  | inr behind ↦ get_or_past (replicate n Free) k Free (omega (arith, behind, length-replicate n Free))
]

pub slot-filled : (count : ℕ) (front : List Slot) (k : ℕ) → slot_in (filled count front) k ≡ slot_in front k
slot-filled count front k = elim (cases_lt k (length front)) [
  | inl within ↦ get_or_append_left front (replicate (count - length front) Free) Free k within
  | inr behind ↦
      get_or-append_right front (replicate (count - length front) Free) (length front) k Free refl behind
      ∙ free-in (count - length front) (k - length front) ∙ sym (get_or_past front k Free behind)
]

-- a longer front
pub filled-more : (count n : ℕ) (front : List Slot) → length front ≤ n → n ≤ count
    → filled count (take n front ++ replicate (n - length front) Free) ≡ filled count front
filled-more count n front longer within =
    let some = n - length front in
    let size : length (take n front ++ replicate some Free) ≡ n =
    omega (arith, ap length (take_all n front longer), length-append (take n front) (replicate some Free), length-replicate some Free) in
    let rest : count - length (take n front ++ replicate some Free) ≡ count - n = omega (arith, size) in
    let all : some + (count - n) ≡ count - length front = omega arith in
    rw rest (
    append_assoc (take n front) (replicate some Free) (replicate (count - n) Free)
    ∙ ap (λ (l : List Slot). l ++ (replicate some Free ++ replicate (count - n) Free)) (take_all n front longer)
    ∙ ap (λ (l : List Slot). front ++ l) (replicate-append-replicate some (count - n) Free ∙ ap (λ (m : ℕ). replicate m Free) all)
    )

-- a slot of the front
pub filled-set : (count k : ℕ) (front : List Slot) (value : Slot) → k < length front → filled count (set front k value) ≡ set (filled count front) k value
filled-set count k front value within =
    rw (length-set front k value) (sym (set-append_left front (replicate (count - length front) Free) k value within))

free-only : (value : Slot) → is_free value ≡ true → value ≡ Free
free-only Free is = refl
free-only (Half a) is = cc
free-only (Full a b moment) is = cc
free-only (Damaged a b) is = cc

-- a slot behind the front that stays free
pub stays-free : (count k : ℕ) (slots front : List Slot) (value : Slot) → slots ≡ filled count front → length front ≤ k → is_free value ≡ true
    → slots ≡ set slots k value
stays-free count k slots front value is behind free =
    let here : value ≡ slot_in slots k =
    free-only value free ∙ sym (ap (λ (l : List Slot). slot_in l k) is ∙ slot-filled count front k ∙ get_or_past front k Free behind) in
    sym (ap (λ (s : Slot). set slots k s) here ∙ set-get_or slots k Free)

-- a front of these slots that has this one
pub record Reaches (slots : List Slot) (count : ℕ) (front : List Slot) (k : ℕ) : Type 0 where
  pub is : slots ≡ filled count front
  pub within : k < length front

pub set-reached : {slots front : List Slot} {count k : ℕ} (value : Slot) → Reaches slots count front k → filled count (set front k value) ≡ set slots k value
set-reached {front = front} {count = count} {k = k} value reached =
    filled-set count k front value reached.within ∙ ap (λ (l : List Slot). set l k value) (sym reached.is)

pub longer-reaches : (slots front longer : List Slot) (count k len : ℕ) → slots ≡ filled count front → longer ≡ take (k + 1) front ++ replicate (k + 1 - len) Free
    → len ≡ length front → len ≤ k → k < count → Reaches slots count longer k
longer-reaches slots front longer count k len is grown size behind within =
    let same : longer ≡ take (k + 1) front ++ replicate (k + 1 - length front) Free = rw (← size) grown in
    let all : length front ≤ k + 1 = omega arith in
    let most : k + 1 ≤ count = omega arith in
    record {
      is = is ∙ (sym (filled-more count (k + 1) front all most) ∙ ap (filled count) (sym same));
      within = omega (arith, ap length same, length-append (take (k + 1) front) (replicate (k + 1 - length front) Free), ap length (take_all (k + 1) front all), length-replicate (k + 1 - length front) Free);
    }

-- the other slots after one was set
pub set-before : (old new : List Slot) (k other : ℕ) (value : Slot) → new ≡ set old k value → other < k → slot_in new other ≡ slot_in old other
set-before old new k other value is below = ap (λ (l : List Slot). slot_in l other) is ∙ get_or-set_other old k other value Free (λ same. absurd (omega (arith, same, below)))

-- one more slot of a run
pub set-run : (old new run : List Slot) (first place : ℕ) (value : Slot) → new ≡ set old (first + place) value → first + place < length old
    → value ≡ slot_in run place → ((k : ℕ) → k < place → slot_in old (first + k) ≡ slot_in run k)
    → (k : ℕ) → k < place + 1 → slot_in new (first + k) ≡ slot_in run k
set-run old new run first place value is within here before k below = elim (cases_eq k place) [
  | inl same ↦
      ap (λ (l : List Slot). slot_in l (first + k)) is ∙ ap (λ (j : ℕ). slot_in (set old (first + place) value) (first + j)) same
      ∙ get_or-set_same old (first + place) value Free within ∙ here ∙ ap (slot_in run) (sym same)
  | inr differs ↦
      ap (λ (l : List Slot). slot_in l (first + k)) is
      ∙ get_or-set_other old (first + place) (first + k) value Free (λ same. differs (omega (arith, same))) ∙ before k (omega arith)
]
