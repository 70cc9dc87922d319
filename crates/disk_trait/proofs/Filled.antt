-- Bytes whose pending ones are drawn, and the images of picks.
use Rattle.std.proofs.Common.{◌≡◌, ℕ, zero, suc, ◌+◌, ◌<◌, ◌%◌, Bool, true, false, List, [], ◌∷◌, ◌++◌, length, get_or, set, take, drop, inl, inr, length-take, refl, sym, ◌∙◌, ap, arith, append_assoc}
use Rattle.std.proofs.lemmas.Bool.{cases_eq}
use Rattle.std.proofs.lemmas.Bool.Decides.{nat_tests}
use Rattle.std.proofs.lemmas.List.{drop_more, take_more, take_more_set, drop-set-lt, get_or-take}
use Rattle.disk_trait.specs.Generator.{state_after, draw_of}
use Rattle.disk_trait.specs.MemDisk.{MayLeave, filled, crash_image}
use Rattle.disk_trait.specs.MemDiskFields.{state_of, IsWhole}
use Rattle.disk_trait.specs.MemDiskLaws.{leaves_bytes}
use Rattle.disk_trait.specs.declared.mem_disk.MemDisk.TheInside.{Inside}

filled_named : (xs : List ℕ) (ps : List Bool) (b s : ℕ) (p : Bool) → p ≡ true → filled (b ∷ xs) (p ∷ ps) s ≡ (draw_of s % 256) ∷ filled xs ps (state_after s)
filled_named xs ps b s p is = ap (λ (q : Bool). filled (b ∷ xs) (q ∷ ps) s) is

filled_kept : (xs : List ℕ) (ps : List Bool) (b s : ℕ) (p : Bool) → p ≡ false → filled (b ∷ xs) (p ∷ ps) s ≡ b ∷ filled xs ps s
filled_kept xs ps b s p is = ap (λ (q : Bool). filled (b ∷ xs) (q ∷ ps) s) is

module _ (xs : List ℕ) (ps : List Bool) (i s : ℕ) (below : i < length xs) (size : length ps ≡ length xs) where
  opened : filled (drop i xs) (drop i ps) s ≡ filled (get_or xs i 0 ∷ drop (i + 1) xs) (get_or ps i false ∷ drop (i + 1) ps) s
  opened = ap (λ (l : List ℕ). filled l (drop i ps) s) (drop_more xs i 0 below) ∙ ap (λ (l : List Bool). filled (get_or xs i 0 ∷ drop (i + 1) xs) l s) (drop_more ps i false (omega arith))

  -- one turn over a byte that is pending
  pub fills_named : get_or ps i false ≡ true → take (i + 1) (set xs i (draw_of s % 256)) ++ filled (drop (i + 1) (set xs i (draw_of s % 256))) (drop (i + 1) ps) (state_after s) ≡ take i xs ++ filled (drop i xs) (drop i ps) s
  fills_named is =
      let y = draw_of s % 256 in
      let rest = filled (drop (i + 1) xs) (drop (i + 1) ps) (state_after s) in
      ap (λ (l : List ℕ). l ++ filled (drop (i + 1) (set xs i y)) (drop (i + 1) ps) (state_after s)) (take_more_set xs i y below)
      ∙ ap (λ (l : List ℕ). (take i xs ++ y ∷ []) ++ filled l (drop (i + 1) ps) (state_after s)) (drop-set-lt (i + 1) xs i y (omega arith))
      ∙ append_assoc (take i xs) (y ∷ []) rest
      ∙ sym (ap (λ (l : List ℕ). take i xs ++ l) (opened ∙ filled_named (drop (i + 1) xs) (drop (i + 1) ps) (get_or xs i 0) s (get_or ps i false) is))

  -- and over one that is not
  pub fills_kept : get_or ps i false ≡ false → take (i + 1) xs ++ filled (drop (i + 1) xs) (drop (i + 1) ps) s ≡ take i xs ++ filled (drop i xs) (drop i ps) s
  fills_kept is =
      let b = get_or xs i 0 in
      let rest = filled (drop (i + 1) xs) (drop (i + 1) ps) s in
      ap (λ (l : List ℕ). l ++ rest) (take_more xs i 0 below)
      ∙ append_assoc (take i xs) (b ∷ []) rest
      ∙ sym (ap (λ (l : List ℕ). take i xs ++ l) (opened ∙ filled_kept (drop (i + 1) xs) (drop (i + 1) ps) b s (get_or ps i false) is))

pub length-filled : (xs : List ℕ) (ps : List Bool) (s : ℕ) → length (filled xs ps s) ≡ length xs
length-filled [] ps s = refl
length-filled (x ∷ xs) [] s = refl
length-filled (x ∷ xs) (false ∷ ps) s = ap suc (length-filled xs ps s)
length-filled (x ∷ xs) (true ∷ ps) s = ap suc (length-filled xs ps (state_after s))

pub filled_unmarked : (xs : List ℕ) (ps : List Bool) (s k : ℕ) → get_or ps k true ≡ false → get_or (filled xs ps s) k 0 ≡ get_or xs k 0
filled_unmarked [] ps s k is = refl
filled_unmarked (x ∷ xs) [] s k is = refl
filled_unmarked (x ∷ xs) (false ∷ ps) s zero is = refl
filled_unmarked (x ∷ xs) (false ∷ ps) s (suc k) is = filled_unmarked xs ps s k is
filled_unmarked (x ∷ xs) (true ∷ ps) s zero is = cc
filled_unmarked (x ∷ xs) (true ∷ ps) s (suc k) is = filled_unmarked xs ps (state_after s) k is

-- each pick gives an image
module _ (inside : Inside) (whole : IsWhole inside) (pick : ℕ) where
  was_stable : MayLeave (state_of inside) (take inside.stable_len inside.stable.items)
  was_stable =
      let stable = inside.stable.items in
      let bytes = inside.bytes.items in
      let stable_size = length-take inside.stable_len stable in
      let size = length-take inside.len bytes in
      record {
        no_shorter = omega arith;
        no_longer = omega (arith, whole.stable_within, whole.within);
        others = λ k below is.
            let small : k < inside.stable_len = omega arith in
            let there : k < inside.len = omega (arith, whole.stable_within) in
            let unmarked : get_or inside.pending.items k true ≡ false = sym (get_or-take inside.len inside.pending.items k true there) ∙ is in
            get_or-take inside.stable_len stable k 0 small ∙ sym (whole.agree.same k there unmarked) ∙ sym (get_or-take inside.len bytes k 0 there);
      }

  was_drawn : MayLeave (state_of inside) (filled (state_of inside).bytes (state_of inside).pending pick)
  was_drawn =
      let disk = state_of inside in
      let size = length-filled disk.bytes disk.pending pick in
      record {
        no_shorter = omega arith;
        no_longer = omega arith;
        others = λ k below is. filled_unmarked disk.bytes disk.pending pick k is;
      }

  pub allowed : MayLeave (state_of inside) (crash_image (state_of inside) pick)
  allowed =
      let disk = state_of inside in
      elim (cases_eq pick 0) [
        | inl zeroth ↦ let is : crash_image disk pick ≡ disk.stable = grind (arith, nat_tests) in rw is was_stable
        | inr more ↦ elim (cases_eq pick 1) [
          | inl first ↦ let is : crash_image disk pick ≡ disk.bytes = grind (arith, nat_tests) in rw is (leaves_bytes disk refl refl)
          | inr others ↦ let is : crash_image disk pick ≡ filled disk.bytes disk.pending pick = grind (arith, nat_tests) in rw is was_drawn
        ]
      ]
