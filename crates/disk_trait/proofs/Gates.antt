-- Files whose gate is shut.
use Rattle.std.proofs.Common.{◌≡◌, ◌≢◌, ◌≤◌, ◌<◌, ℕ, ◌+◌, List, [], ◌∷◌, ◌++◌, Result, Ok, Err, OnOk, OnErr, length, take, drop, get_or, refl, sym, ap, ◌∙◌, subst, arith, inr, get_or-take}
use Rattle.std.proofs.lemmas.List.{append-nil, drop_all, places, same_lists, take_all}
use Rattle.disk_trait.specs.Gate.{IsShut, IsUnready}
use Rattle.disk_trait.specs.Images.{Torn, written}

-- a write that was made whole is one that may be torn
pub torn-written : (at n : ℕ) (ys old : List ℕ) → length ys ≡ n → at ≤ length old → Torn at n old (written old at ys)
torn-written at n ys old is_n within = record {
  before = same_lists _ _ (grind (arith, places)) (λ k d below. grind (arith, places));
  after = same_lists _ _ (grind (arith, places)) (λ k d below. grind (arith, places));
  no_shorter = grind (arith, places);
  no_longer = grind (arith, places);
}

pub shut_unready : (gate head : ℕ) (file : List ℕ) → gate ≢ 0 → IsShut file → IsUnready gate head file
shut_unready gate head file some shut = inr (λ e. some (sym e ∙ shut))

-- a head after its first byte
pub rest-appended : (head : List ℕ) (m : ℕ) → length head ≡ m + 1 → IsShut head → (0 ∷ []) ++ take m (drop 1 head) ≡ head
rest-appended [] m size shut = absurd (omega arith)
rest-appended (b ∷ head) m size shut = λ i. sym shut i ∷ take_all m head (omega arith) i

-- a write after the first byte leaves a shut gate shut
pub torn-shut : (at n : ℕ) (old new : List ℕ) → 1 ≤ at → Torn at n old new → IsShut old → IsShut new
torn-shut at n old new behind torn shut =
    let first : 0 < at = omega arith in
    sym (get_or-take at new 0 0 first) ∙ ap (λ (l : List ℕ). get_or l 0 0) torn.before ∙ get_or-take at old 0 0 first ∙ shut

-- a write that was made or that may be torn
pub torn-either : {T E : Type 0} (answer : Result T E) (at : ℕ) (bytes old new : List ℕ) → OnOk answer (at ≤ length old) → OnOk answer (new ≡ written old at bytes)
    → OnErr answer (Torn at (length bytes) old new) → Torn at (length bytes) old new
torn-either (Ok value) at bytes old new within is torn = subst (Torn at (length bytes) old) (sym is) (torn-written at (length bytes) bytes old refl within)
torn-either (Err fault) at bytes old new within is torn = torn

-- bytes that are written at the end
pub appended : (file bytes : List ℕ) (at : ℕ) → length file ≡ at → written file at bytes ≡ file ++ bytes
appended file bytes at is =
    ap (λ (l : List ℕ). l ++ bytes ++ drop (at + length bytes) file) (take_all at file (omega (arith, is)))
    ∙ ap (λ (l : List ℕ). file ++ bytes ++ l) (drop_all (at + length bytes) file (omega (arith, is)))
    ∙ append-nil (file ++ bytes)
