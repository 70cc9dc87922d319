use Rattle.std.proofs.Common.{◌≡◌, ◌≤◌, ◌+◌, ℕ, get_or, inl, inr, refl, sym, ◌∙◌, ap, subst, arith, add-one}
use Rattle.std.proofs.lemmas.Bool.{cases_eq}
use Rattle.drill.specs.Counts.{signs, sum_below}
use Rattle.drill.specs.Courses.{HasEnded, HasSigned}
use Rattle.drill.specs.declared.seat.Seat.{Seat as Place}
use Rattle.drill.specs.declared.seat.Seat.TheVariants.{Refused, Running, Signed, Waiting}
use Rattle.drill.proofs.Seated.{get_or-any}
use Rattle.drill.proofs.Sums.{sum-more, sum-none}
use Rattle.drill.proofs.run.count_ends.Goals as goal
use Rattle.drill.proofs.run.count_ends.Goals.{in-Signed, in-Refused, in-Waiting, in-Running}

pub seats-init : goal.seats-init
seats-init c = record {
  within = omega arith;
  signed_so = sym (sum-none (λ k. signs (get_or c.args.seats.now k Refused)));
  all = λ ended. refl;
  none = λ unsigned. refl;
  some = λ k none inside has. absurd (omega arith);
}

-- 1 for a session that was refused
abbrev refuses : Place → ℕ
refuses Waiting = 0
refuses (Running s) = 0
refuses (Signed leaf) = 0
refuses Refused = 1

ended-one : (seat : Place) → HasEnded seat → signs seat + refuses seat ≡ 1
ended-one Waiting ended = absurd ended
ended-one (Running s) ended = absurd ended
ended-one (Signed leaf) ended = refl
ended-one Refused ended = refl

at-most-one : (seat : Place) → signs seat + refuses seat ≤ 1
at-most-one Waiting = omega arith
at-most-one (Running s) = omega arith
at-most-one (Signed leaf) = omega arith
at-most-one Refused = omega arith

unsigned-none : (seat : Place) → (HasSigned seat → ⊥) → signs seat ≡ 0
unsigned-none Waiting never = refl
unsigned-none (Running s) never = refl
unsigned-none (Signed leaf) never = absurd (never tt)
unsigned-none Refused never = refl

signed-one : (seat : Place) → HasSigned seat → signs seat ≡ 1
signed-one Waiting has = absurd has
signed-one (Running s) has = absurd has
signed-one (Signed leaf) has = refl
signed-one Refused has = absurd has

pub seats-preserved : goal.seats-preserved
seats-preserved c =
    let seats = c.args.seats.now in
    let i = c.seats.i in
    let seat = c.index-seats-i.result in
    let is = c.index-seats-i.is in
    let before = c.seats.invariant in
    let more : c.match-seats-i.signed ≡ c.seats.signed + signs seat = elim c.match-seats-i.branch [
      | in-Signed w ↦ w.signed-is ∙ ap (λ (x : Place). c.seats.signed + signs x) (sym w.in-Signed.is)
      | in-Refused w ↦ let e = ap (λ (x : Place). signs x) w.in-Refused.is in let s = w.signed-is in omega arith
      | in-Waiting w ↦ let e = ap (λ (x : Place). signs x) w.in-Waiting.is in let s = w.signed-is in omega arith
      | in-Running w ↦ let e = ap (λ (x : Place). signs x) w.in-Running.is in let s = w.signed-is in omega arith
    ] in
    let less : c.match-seats-i.refused ≡ c.seats.refused + refuses seat = elim c.match-seats-i.branch [
      | in-Signed w ↦ let e = ap (λ (x : Place). refuses x) w.in-Signed.is in let s = w.refused-is in omega arith
      | in-Refused w ↦ w.refused-is ∙ ap (λ (x : Place). c.seats.refused + refuses x) (sym w.in-Refused.is)
      | in-Waiting w ↦ let e = ap (λ (x : Place). refuses x) w.in-Waiting.is in let s = w.refused-is in omega arith
      | in-Running w ↦ let e = ap (λ (x : Place). refuses x) w.in-Running.is in let s = w.refused-is in omega arith
    ] in
    let inside = c.seats-test.true in
    let few = at-most-one seat in
    let sum = sum-more (λ k. signs (get_or seats k Refused)) i in
    let here : signs (get_or seats i Refused) ≡ signs seat = ap (λ (x : Place). signs x) (get_or-any seats i Refused seat inside ∙ sym is) in
    record {
      within = omega arith;
      signed_so = let was = before.signed_so in let e = add-one i in subst (λ (n : ℕ). c.match-seats-i.signed ≡ sum_below (λ k. signs (get_or seats k Refused)) n) (sym e) (omega arith);
      all = λ ended. let was = before.all ended in let one = ended-one seat (subst HasEnded (sym is) (ended i seat inside)) in omega arith;
      none = λ unsigned. let was = before.none unsigned in let no_more = unsigned-none seat (λ has. unsigned i seat inside (subst HasSigned is has)) in omega arith;
      some = λ k none within has. elim (cases_eq k i) [
        | inl e ↦
            let at = subst (λ (n : ℕ). HasSigned (get_or seats n none)) e has in
            let one = signed-one seat (subst HasSigned (get_or-any seats i none seat inside ∙ sym is) at) in
            omega arith
        | inr e ↦ let was = before.some k none (omega arith) has in omega arith
      ];
    }
