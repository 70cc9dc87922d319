-- Parts of a file that a write leaves as they were.
use Rattle.std.proofs.Common.{◌≡◌, ◌⊎◌, ℕ, ◌+◌, ◌-◌, ◌<◌, ◌≤◌, List, length, [], ◌∷◌, get_or, drop, sym, ◌∙◌, ap, arith, inl, inr, length-take, length-drop, get_or-take, get_or-drop}
use Rattle.std.proofs.lemmas.Bool.{cases_lt}
use Rattle.std.proofs.lemmas.List.{places, same_lists, get_or_past, get_or_default}
use Rattle.disk_trait.specs.Images.{written, Torn}
use Rattle.slot_file.specs.Layout.{part}

-- no byte differs except in a range
pub record Outside (at n : ℕ) (old new : List ℕ) : Type 0 where
  pub size : length new ≡ length old
  pub same : (k : ℕ) → (k < at) ⊎ (at + n ≤ k) → get_or new k 0 ≡ get_or old k 0

pub outside_torn : (at n : ℕ) (old new : List ℕ) → at + n ≤ length old → Torn at n old new → Outside at n old new
outside_torn at n old new fits torn =
    let size : length new ≡ length old = omega (arith, torn.no_shorter, torn.no_longer) in
    record {
      size = size;
      same = λ k place.
          elim place [
            | inl before ↦ sym (get_or-take at new k 0 before) ∙ ap (λ (l : List ℕ). get_or l k 0) torn.before ∙ get_or-take at old k 0 before
            | inr after ↦
                let i = k - (at + n) in
                let is : at + n + i ≡ k = omega arith in
                ap (λ (j : ℕ). get_or new j 0) (sym is) ∙ sym (get_or-drop (at + n) new i 0) ∙ ap (λ (l : List ℕ). get_or l i 0) torn.after ∙ get_or-drop (at + n) old i 0 ∙ ap (λ (j : ℕ). get_or old j 0) is
          ];
    }

pub outside_written : (at n : ℕ) (ys old : List ℕ) → length ys ≡ n → at + n ≤ length old → Outside at n old (written old at ys)
outside_written at n ys old is_n fits = record {
  size = grind (arith, places);
  same = λ k place. elim place [ inl before ↦ grind (arith, places) | inr after ↦ grind (arith, places) ];
}

-- one range within another
pub outside_wider : (at n from m : ℕ) (old new : List ℕ) → from ≤ at → at + n ≤ from + m → Outside at n old new → Outside from m old new
outside_wider at n from m old new low high out = record {
  size = out.size;
  same = λ k place. out.same k (elim place [ inl before ↦ inl (omega arith) | inr after ↦ inr (omega arith) ]);
}

pub outside_both : (at n : ℕ) (old mid new : List ℕ) → Outside at n old mid → Outside at n mid new → Outside at n old new
outside_both at n old mid new one two = record { size = two.size ∙ one.size; same = λ k place. two.same k place ∙ one.same k place }

-- a part that lies before or after the range
pub part-outside : (at n from m : ℕ) (old new : List ℕ) → Outside at n old new → (from + m ≤ at) ⊎ (at + n ≤ from) → part from m new ≡ part from m old
part-outside at n from m old new out place =
    same_lists _ _ (omega (arith, out.size, length-take m (drop from new), length-take m (drop from old), length-drop from new, length-drop from old))
    (λ k d below.
    let small : k < m = omega (arith, length-take m (drop from new)) in
    let there : from + k < length new = omega (arith, length-take m (drop from new), length-drop from new) in
    let apart : (from + k < at) ⊎ (at + n ≤ from + k) = elim place [ inl before ↦ inl (omega arith) | inr after ↦ inr (omega arith) ] in
    get_or-take m (drop from new) k d small ∙ get_or-drop from new k d ∙ get_or_default new (from + k) d 0 there
    ∙ out.same (from + k) apart
    ∙ get_or_default old (from + k) 0 d (omega (arith, out.size)) ∙ sym (get_or-drop from old k d) ∙ sym (get_or-take m (drop from old) k d small))

-- a range within a part, from the part's beginning
pub outside_part : (at n from m : ℕ) (old new : List ℕ) → at + n ≤ m → from + m ≤ length old → Outside (from + at) n old new → Outside at n (part from m old) (part from m new)
outside_part at n from m old new fits within out = record {
  size = omega (arith, out.size, length-take m (drop from new), length-take m (drop from old), length-drop from new, length-drop from old);
  same = λ k place. elim (cases_lt k m) [
    | inl small ↦
        let apart : (from + k < from + at) ⊎ (from + at + n ≤ from + k) = elim place [ inl before ↦ inl (omega arith) | inr after ↦ inr (omega arith) ] in
        get_or-take m (drop from new) k 0 small ∙ get_or-drop from new k 0 ∙ out.same (from + k) apart ∙ sym (get_or-drop from old k 0) ∙ sym (get_or-take m (drop from old) k 0 small)
    | inr past ↦ get_or_past (part from m new) k 0 (omega (arith, length-take m (drop from new))) ∙ sym (get_or_past (part from m old) k 0 (omega (arith, length-take m (drop from old))))
  ];
}

-- what was written
pub part-written : (at n : ℕ) (ys old : List ℕ) → at ≤ length old → length ys ≡ n → part at n (written old at ys) ≡ ys
part-written at n ys old within size = same_lists _ _ (grind (arith, places)) (λ k d below. grind (arith, places))

pub get_or-written : (at y : ℕ) (old : List ℕ) → at < length old → get_or (written old at (y ∷ [])) at 0 ≡ y
get_or-written at y old within = grind (arith, places)

-- a part of a part
pub part-part : (from m start size : ℕ) (file : List ℕ) → from + m ≤ size → part from m (part start size file) ≡ part (start + from) m file
part-part from m start size file fits = same_lists _ _ (grind (arith, places)) (λ k d below. grind (arith, places))

-- a byte of a part
pub get_or-part : (from m k at d : ℕ) (file : List ℕ) → k < m → from + k ≡ at → get_or (part from m file) k d ≡ get_or file at d
get_or-part from m k at d file small is = get_or-take m (drop from file) k d small ∙ get_or-drop from file k d ∙ ap (λ (j : ℕ). get_or file j d) is
