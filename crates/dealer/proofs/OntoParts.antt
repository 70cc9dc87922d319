-- Parts of a reference that are written onto a disk.
use Rattle.std.proofs.Common.{◌≡◌, ◌==◌, ℕ, Bool, true, false, if◌then◌else◌, ◌+◌, ◌*◌, ◌/◌, ◌^◌, ◌≤◌, IsTrue, Result, Ok, Err, OnErr, List, ◌++◌, length, take, drop, min, sym, ap, ◌∙◌, arith, append-nil, append_assoc, length-append, length-drop, suc-mul, add-one, take_all, zero-mul}
use Rattle.std.proofs.lemmas.List.{take-append-drop}
use Rattle.coalition_map.specs.Coalitions.{IsPlan}
use Rattle.disk_trait.specs.Images.{Torn}
use Rattle.disk_trait.specs.declared.disk.Pages as pages
use Rattle.lms_bytes.specs.Bytes.{joined}
use Rattle.lms_bytes.specs.declared.params.Params.{Params}
use Rattle.lms_bytes.proofs.Joined.{joined-none, length-joined}
use Rattle.mask_prf.specs.Lengths.{leaf_length}
use Rattle.reference_value.specs.Dealing.{Dealing, leaf_part, reference}
use Rattle.reference_value.proofs.Reference.{length-leaf_part}
use Rattle.dealer.specs.Onto.{BeginsWith, StopsBehind, part_leaves, told_all}
use Rattle.dealer.specs.Told.{told_parts}
use Rattle.dealer.proofs.Parts.{AreCut, cut-of, joined-behind}

-- what was written at the end, even in part
pub torn-more : (at n most : ℕ) (old new : List ℕ) → length old ≡ at → n ≡ most → Torn at n old new → BeginsWith old most new
torn-more at n most old new end size torn =
    let front : take at new ≡ old = torn.before ∙ take_all at old (omega (arith, end)) in
    (drop at new, sym (take-append-drop at new) ∙ ap (λ (l : List ℕ). l ++ drop at new) front, omega (arith, length-drop at new, torn.no_longer, end, size))

-- how a tree is cut into parts
onto-cut : (wide : Bool) {h all part : ℕ} → all ≡ 2 ^ h → part ≡ min (if wide then 32 else 512) (2 ^ h) → AreCut h all part
onto-cut true whole size = cut-of 5 whole (size ∙ ap (min 32) (sym whole))
onto-cut false whole size = cut-of 9 whole (size ∙ ap (min 512) (sym whole))

pub parts-cut-onto : (params : Params) {all part : ℕ} → all ≡ 2 ^ params.h → part ≡ part_leaves params → AreCut params.h all part
parts-cut-onto params whole size = onto-cut (params.w == 8) whole size

-- no part is written yet
pub bytes-none : (f : ℕ → List ℕ) (part : ℕ) (front : List ℕ) → front ≡ front ++ joined f (0 * part)
bytes-none f part front = sym (ap (λ (n : ℕ). front ++ joined f n) (zero-mul part) ∙ ap (λ (l : List ℕ). front ++ l) (joined-none f) ∙ append-nil front)

-- one more part is
pub bytes-more : (f : ℕ → List ℕ) (i part : ℕ) (front old new : List ℕ) → old ≡ front ++ joined f (i * part) → new ≡ old ++ joined (λ j. f (i * part + j)) part
    → new ≡ front ++ joined f ((i + 1) * part)
bytes-more f i part front old new before is =
    let next : i * part + part ≡ (i + 1) * part = omega (arith, ap (λ (k : ℕ). k * part) (add-one i), suc-mul i part) in
    is ∙ ap (λ (l : List ℕ). l ++ joined (λ j. f (i * part + j)) part) before
    ∙ append_assoc front (joined f (i * part)) (joined (λ j. f (i * part + j)) part)
    ∙ ap (λ (l : List ℕ). front ++ l) (joined-behind f (i * part) part ((i + 1) * part) next)

-- all parts are
pub bytes-all : {all part : ℕ} (d : Dealing) (i : ℕ) (front file : List ℕ) → AreCut d.params.h all part → all / part ≤ i → i ≤ all / part
    → file ≡ front ++ joined (leaf_part d) (i * part) → file ≡ front ++ reference d
unfolding reference
bytes-all {all} {part} d i front file cut last most is =
    let end : i ≡ all / part = omega arith in
    is ∙ ap (λ (n : ℕ). front ++ joined (leaf_part d) n) (ap (λ (k : ℕ). k * part) end ∙ cut.even ∙ cut.whole)

-- how long the file is behind so many leaves
pub bytes-length : (d : Dealing) (n head : ℕ) (front file : List ℕ) → IsPlan d.plan → length front ≡ head → file ≡ front ++ joined (leaf_part d) n
    → length file ≡ head + leaf_length d.params d.plan.k * n
bytes-length d n head front file plan size is =
    omega (arith, ap length is, length-append front (joined (leaf_part d) n), length-joined (leaf_part d) (leaf_length d.params d.plan.k) n (λ q _. length-leaf_part d q plan), size)

-- all parts were told of
pub told-all-onto : {P : Type 0} {all part : ℕ} (told : P → ℕ → ℕ → P) (params : Params) (i : ℕ) (it new : P) → all ≡ 2 ^ params.h → part ≡ part_leaves params
    → all / part ≤ i → i ≤ all / part → new ≡ told_parts told part all i it → new ≡ told_all told params it
told-all-onto {P} {all} {part} told params i it new whole size last most is =
    let end : i ≡ all / part = omega arith in
    is ∙ ap (λ (k : ℕ). told_parts told part all k it) end
    ∙ ap (λ (n : ℕ). told_parts told part n (n / part) it) whole
    ∙ ap (λ (n : ℕ). told_parts told n (2 ^ params.h) (2 ^ params.h / n) it) size

-- what holds anyway holds of a refusal
pub on-fault : {T X : Type 0} (P : Type 0) (answer : Result T X) → P → OnErr answer P
on-fault P (Ok value) holds = tt
on-fault P (Err fault) holds = holds

-- the disk failed behind so many parts
pub stops-behind : {D P : Type 0} {all part : ℕ} (p : pages.Ghosts D) (told : P → ℕ → ℕ → P) (d : Dealing) (i : ℕ) (front : List ℕ) (old mid new : D) (before after : P)
    → all ≡ 2 ^ d.params.h → part ≡ part_leaves d.params → i * part ≤ 2 ^ d.params.h → after ≡ told_parts told part all i before
    → (IsTrue (p.told old) → p.reads mid ≡ front ++ joined (leaf_part d) (i * part))
    → (IsTrue (p.told old) → BeginsWith (p.reads mid) (leaf_length d.params d.plan.k * part) (p.reads new))
    → StopsBehind p told d front i old new before after
stops-behind {D} {P} {all} {part} p told d i front old mid new before after whole size within is bytes more = record {
  most = omega (arith, ap (λ (n : ℕ). i * n) size, within);
  told_of = is ∙ ap (λ (n : ℕ). told_parts told part n i before) whole ∙ ap (λ (n : ℕ). told_parts told n (2 ^ d.params.h) i before) size;
  reads = λ reads_told.
      let rest = more reads_told in
      let front_is = bytes reads_told ∙ ap (λ (n : ℕ). front ++ joined (leaf_part d) (i * n)) size in
      (rest.0, rest.1 ∙ ap (λ (l : List ℕ). l ++ rest.0) front_is, omega (arith, rest.2, ap (λ (n : ℕ). leaf_length d.params d.plan.k * n) size));
}
