-- A seat that is taken out and put back, and seats that wait.
use Rattle.std.proofs.Common.{◌<◌, ◌+◌, ◌++◌, [], ◌∷◌, refl, ap, length-append, ℕ, List, length, ◌≡◌, get_or, set, sym, ◌∙◌, subst, inl, inr, arith}
use Rattle.std.proofs.lemmas.Bool.{cases_eq}
use Rattle.std.proofs.lemmas.List.{get_or-set_other, get_or-set_same, length-set}
use Rattle.std.proofs.lemmas.List.Elements.{All-append, All-cons, All-nil}
use Rattle.coalition_map.specs.Coalitions.{PlanNumbers}
use Rattle.lms_bytes.specs.declared.public_key.PublicKey.{PublicKey}
use Rattle.drill.specs.Seats.{AllFit, AreWaiting, Fits}
use Rattle.drill.specs.Drills.{IsFor}
use Rattle.drill.specs.declared.desk.Desk.{Desk}
use Rattle.drill.specs.declared.seat.Seat.{Seat}
use Rattle.drill.specs.declared.seat.Seat.TheVariants.{Waiting}
use Rattle.drill.specs.declared.state.Drill.{Drill}

-- each seat of a drill for a desk belongs to the session of its number
pub fits-here : (desk : Desk) (drill : Drill) (i : ℕ) (seat : Seat) → IsFor desk drill → i < length drill.seats.items → seat ≡ get_or drill.seats.items i seat → Fits desk.dealt.public desk.plan i seat
fits-here desk drill i seat is_for within was = subst (λ (s : Seat). Fits desk.dealt.public desk.plan i s) (sym was) (is_for.seats i seat within)

-- the seat of a session that waits fits any session
pub waiting-fit : (key : PublicKey) (plan : PlanNumbers) (seats : List Seat) → AreWaiting seats → AllFit key plan seats
waiting-fit key plan seats waiting i none inside = subst (λ (s : Seat). Fits key plan i s) (sym (waiting i none inside)) tt

-- `many` sessions wait
pub record Wait (seats : List Seat) (many : ℕ) : Type 0 where
  pub count : length seats ≡ many
  pub waiting : AreWaiting seats

abbrev waits : Seat → Type 0
waits seat = seat ≡ Waiting

pub waiting-none : (seats : List Seat) → seats ≡ [] → Wait seats 0
waiting-none seats none = record { count = ap (λ (l : List Seat). length l) none; waiting = subst AreWaiting (sym none) (All-nil waits) }

pub waiting-more : (old new : List Seat) (many : ℕ) → new ≡ old ++ Waiting ∷ [] → length old ≡ many → AreWaiting old → Wait new (many + 1)
waiting-more old new many more count waiting = record {
  count = (let both = length-append old (Waiting ∷ []) in let now = ap (λ (l : List Seat). length l) more in omega (arith, both, now, count));
  waiting = subst AreWaiting (sym more) (All-append waits old (Waiting ∷ []) waiting (All-cons waits Waiting [] refl (All-nil waits)));
}

pub set-fits : (key : PublicKey) (plan : PlanNumbers) (xs : List Seat) (i : ℕ) (d s : Seat) → AllFit key plan xs → i < length xs → Fits key plan i s
    → AllFit key plan (set (set xs i d) i s)
set-fits key plan xs i d s all inside fits k none within =
    let one = length-set xs i d in
    let both = length-set (set xs i d) i s in
    elim (cases_eq k i) [
      | inl same ↦
          subst (λ (j : ℕ). Fits key plan j (get_or (set (set xs i d) i s) j none)) (sym same)
          (subst (λ (x : Seat). Fits key plan i x) (sym (get_or-set_same (set xs i d) i s none (omega arith))) fits)
      | inr differs ↦
          subst (λ (x : Seat). Fits key plan k x) (sym (get_or-set_other (set xs i d) i k s none differs ∙ get_or-set_other xs i k d none differs))
          (all k none (omega arith))
    ]
