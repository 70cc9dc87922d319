-- Where a session goes at the ends of its rounds.
use Rattle.std.proofs.Common.{◌≡◌, ◌≢◌, ◌+◌, ℕ, suc, Bool, true, false, List, [], ◌∷◌, Contains, Option, None, Some, is_some, Result, Ok, Err, IfErr, IfNone, IfOk, IfSome, IsErr, IsSome, MatchResult, OnOk, inl, inr, refl, sym, ◌∙◌, ap, subst, arith}
use Rattle.coalition_map.specs.Coalitions.{leaf_members}
use Rattle.leaf_table.specs.Entries.{LeafUse}
use Rattle.opening_journal.specs.Entries.{LeafState}
use Rattle.reference_value.specs.Dealing.{leaf_randomizer}
use Rattle.session_core.specs.Asks.{kept_masks}
use Rattle.session_core.specs.Seats.{Seat}
use Rattle.session_core.specs.State.{State, round_of, seats_of, turned}
use Rattle.session_core.specs.Verdicts.{JoinFails}
use Rattle.session_core.specs.declared.faults.SessionFault.{SessionFault}
use Rattle.session_core.specs.declared.faults.SessionFault.TheVariants.{NoMemory, Reference}
use Rattle.drill.specs.Courses.{AllKept, Awaits, GoesTo, IsOnCourse, count_filled, steps_in}
use Rattle.drill.specs.Keys.{HasDealing}
use Rattle.drill.specs.declared.desk.Desk.{Desk}
use Rattle.drill.specs.declared.seat.Seat.{Seat as Place}
use Rattle.drill.specs.declared.seat.Seat.TheVariants.{Running, Signed}
use Rattle.drill.proofs.Turning.{keeps-x, keeps-y, p, signed, turns}

first-steps : (s : State) → s.c ≡ None → steps_in s ≡ 1 + count_filled (seats_of s)
first-steps s none = rw none refl

second-steps : (s : State) (c : List ℕ) → s.c ≡ Some c → steps_in s ≡ 3 + count_filled (seats_of s)
second-steps s c some = rw some refl

two-filled : (x y : Seat) → x.code ≡ Some 0 → y.code ≡ Some 0 → count_filled (x ∷ y ∷ []) ≡ 2
unfolding count_filled
two-filled x y fx fy = rw (fx, fy) refl

-- if the reference is read, joining fails only for want of memory
pub memory-alone : (before now : ℕ) (fault : SessionFault) → JoinFails before now fault → fault ≢ Reference → fault ≡ NoMemory
memory-alone before now fault (inl memory) unread = memory
memory-alone before now fault (inr reference) unread = absurd (unread reference.0)

-- what the least member that is awaited says
pub awaited-of : (s : State) (o : Option ℕ) (b : Bool) → b ≡ is_some o → b ≡ true → IfSome o (Contains (leaf_members s.plan s.leaf)) → IfSome o (λ t. kept_masks s (round_of s) t ≡ None)
    → (t : ℕ) × Awaits s t
awaited-of s None b is so member none = absurd (cc)
awaited-of s (Some t) b is so member none = (t, (member, none))

pub all-of : (s : State) (o : Option ℕ) (b : Bool) → b ≡ is_some o → b ≡ false → IfNone o (AllKept s) → AllKept s
all-of s None b is not_so all = all
all-of s (Some t) b is not_so all = absurd (cc)

-- one more reply is one more step
pub took-steps : (s s' : State) → s'.c ≡ s.c → count_filled (seats_of s') ≡ suc (count_filled (seats_of s)) → steps_in s' ≡ suc (steps_in s)
took-steps s s' same filled =
    let base : Option (List ℕ) → ℕ = λ o. elim o [ None ↦ 1 | Some c ↦ 3 ] in
    let both : steps_in s' ≡ base s.c + suc (count_filled (seats_of s)) = λ j. base (same j) + filled j in
    both ∙ omega arith

pub some-of : (o : Option (List ℕ)) → IsSome o → (c : List ℕ) × (o ≡ Some c)
some-of None is = absurd (cc)
some-of (Some c) is = (c, refl)

no-ok : {A E : Type 0} (P : A → Type 0) → (r : Result A E) → IsErr r → IfOk r P
no-ok P (Ok a) is = absurd (cc)
no-ok P (Err e) is = tt

-- a session whose signature can fail for want of memory alone ends signed
pub ends : {B M : Type 0} (P : B → Type 0) → (G : Place → Type 0) → (before now leaf : ℕ) (result : Result B SessionFault) (place : Result Place M)
    → OnOk result (place ≡ Ok (Signed leaf)) → IfErr result (λ fault. fault ≡ NoMemory → IsErr place) → MatchResult result P (JoinFails before now)
    → IfErr result (λ fault. fault ≢ Reference) → G (Signed leaf) → IfOk place G
ends P G before now leaf (Ok bytes) place is memory joins read goes = rw is goes
ends P G before now leaf (Err fault) place is memory joins read goes = no-ok G place (memory (memory-alone before now fault joins read))

module _ (desk : Desk) (own : HasDealing desk.plan desk.dealt) (i : ℕ) (map : ℕ → LeafUse) (leaves : ℕ → ℕ → LeafState) (s : State) (c : IsOnCourse desk own.dealing i map leaves s) where
  pub runs-on : ((t : ℕ) × Awaits s t) → GoesTo desk own.dealing i map leaves (steps_in s) (Running s)
  runs-on awaited = record { going = (c, awaited); steps_are = refl }

  filled-all : AllKept s → count_filled (seats_of s) ≡ 2
  filled-all all =
      let q = p desk own i map leaves s c all in
      ap count_filled q.seats ∙ two-filled q.x q.y (keeps-x desk own i map leaves s c all).0 (keeps-y desk own i map leaves s c all).0

  pub turn-goes : AllKept s → s.c ≡ None → (after : State) → after ≡ turned s (leaf_randomizer own.dealing s.leaf) → GoesTo desk own.dealing i map leaves (steps_in s) (Running after)
  turn-goes all none after is =
      let t = turns desk own i map leaves s c all none in
      let steps : steps_in (turned s (leaf_randomizer own.dealing s.leaf)) ≡ steps_in s =
      second-steps (turned s (leaf_randomizer own.dealing s.leaf)) (leaf_randomizer own.dealing s.leaf) refl
      ∙ (ap (λ (n : ℕ). 3 + n) t.filled ∙ sym (first-steps s none ∙ ap (λ (n : ℕ). 1 + n) (filled-all all))) in
      subst (λ (z : State). GoesTo desk own.dealing i map leaves (steps_in s) (Running z)) (sym is) (record { going = (t.course, t.awaited); steps_are = steps })

  pub finish-goes : AllKept s → (random : List ℕ) → s.c ≡ Some random → GoesTo desk own.dealing i map leaves (steps_in s) (Signed s.leaf)
  finish-goes all random some = record {
    going = signed desk own i map leaves s c all random some;
    steps_are = sym (second-steps s random some ∙ ap (λ (n : ℕ). 3 + n) (filled-all all));
  }
