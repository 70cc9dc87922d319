-- Logs of a lock, and the tickets of its passes.
use Rattle.std.proofs.Common.{◌≡◌, ◌+◌, ◌^◌, ◌≤◌, ◌<◌, ◌⊎◌, ℕ, Bool, true, false, cond, nat_lt, List, length, inl, inr, refl, sym, ap, ◌∙◌, arith, length-append}
use mathlib.Core.List.{IsPrefix}
use mathlib.Core.Logic.{dite}
use native.Mathlib.Decide.{dec_le}
use Rattle.turn_lock.specs.Lock.{Lock}
use Rattle.turn_lock.specs.Pass.{IsWhole, Seen, longer_of}
use Rattle.turn_lock.proofs.Prefixes.{prefix_all, prefix_whole}

pub begins-length : {A : Type 0} (xs ys : List A) → IsPrefix xs ys → length xs ≤ length ys
begins-length xs ys p = let e : length xs + length p.0 ≡ length ys = sym (length-append xs p.0) ∙ ap length p.1 in omega (arith, e)

-- each of two logs that met begins the longer one
pub begins-left : {A : Type 0} (xs ys : List A) → IsPrefix xs ys ⊎ IsPrefix ys xs → IsPrefix xs (longer_of xs ys)
begins-left xs ys one =
    let Is : Bool → Type 0 = λ b. (nat_lt (length xs) (length ys) ≡ b) → IsPrefix xs (cond b ys xs) in
    let all = elim (nat_lt (length xs) (length ys)) as Is [
      | true ↦ λ is. elim one [ inl p ↦ p | inr q ↦ absurd (let le = begins-length ys xs q in let lt : length xs < length ys = grind (arith, is) in omega arith) ]
      | false ↦ λ is. prefix_all xs xs refl
    ] in all refl

pub begins-right : {A : Type 0} (xs ys : List A) → IsPrefix xs ys ⊎ IsPrefix ys xs → IsPrefix ys (longer_of xs ys)
begins-right xs ys one =
    let Is : Bool → Type 0 = λ b. (nat_lt (length xs) (length ys) ≡ b) → IsPrefix ys (cond b ys xs) in
    let all = elim (nat_lt (length xs) (length ys)) as Is [
      | true ↦ λ is. prefix_all ys ys refl
      | false ↦ λ is. elim one [ inl p ↦ prefix_all ys xs (sym (prefix_whole xs ys p (let le : length ys ≤ length xs = grind (arith, is) in omega arith))) | inr q ↦ q ]
    ] in all refl

-- a pass that drew that few tickets drew no worn one
pub small-ticket : {E N : Type 0} (lock : Lock E N) (pass : Seen E N) (most : ℕ) → IsWhole lock pass → lock.first_ticket ≡ 0 → pass.draws ≤ most → most ≤ 2 ^ 60
    → pass.greatest < 2 ^ 62
small-ticket lock pass most whole start few bound =
    dite (dec_le 1 pass.draws)
    (λ drawn. let is = whole.tickets drawn in omega (arith, is, start, few, bound))
    (λ never. let zero : pass.draws ≡ 0 = omega arith in let is = whole.no_ticket zero in omega (arith, is))
