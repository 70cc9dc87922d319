-- How many sessions of a coalition have a leaf, and how many leaves of it are free.
use Rattle.std.proofs.Common.{◌≡◌, ◌≢◌, ◌<◌, ◌≤◌, ◌+◌, ◌%◌, ◌==◌, ℕ, min, if◌then◌else◌, List, All, length, get_or, inl, inr, refl, sym, ◌∙◌, ap, subst, arith}
use Rattle.std.proofs.lemmas.Bool.{cases_eq}
use Rattle.leaf_table.specs.Entries.{IsBurnt, IsFree, IsLeased, IsTorn, LeafUse}
use Rattle.lms_bytes.specs.declared.public_key.PublicKey.{PublicKey}
use Rattle.opening_journal.specs.Entries.{LeafState}
use Rattle.reference_value.specs.Dealing.{Dealing}
use Rattle.session_core.specs.State.{State}
use Rattle.drill.specs.Counts.{free_of, held_by, holds, is_open, signed_in, signs, sum_below, sum_in}
use Rattle.drill.specs.Courses.{Grows, HasEnded, IsBare, IsGoing, IsOnCourse}
use Rattle.drill.specs.Ids.{id_of}
use Rattle.drill.specs.Schedules.{leaves_of, sessions_of, signed_of}
use Rattle.drill.specs.Seats.{AreWaiting}
use Rattle.drill.specs.declared.desk.Desk.{Desk}
use Rattle.drill.specs.declared.seat.Seat.{Seat as Place}
use Rattle.drill.specs.declared.seat.Seat.TheVariants.{Refused, Running, Signed, Waiting}
use Rattle.drill.proofs.Sums.{no-value, none-value, own-value, sum-change, sum-most, sum-or-less, sum-parts, sum-same, sum-sessions, sum-zero}

-- ---- a session has a leaf if one is leased for it

module _ (desk : Desk) (d : Dealing) (i : ℕ) (map : ℕ → LeafUse) (leaves : ℕ → ℕ → LeafState) where
  small : (s : State) → IsOnCourse desk d i map leaves s → s.leaf < 32
  small s c = let h : s.key.params.h ≡ 5 = ap (λ (k : PublicKey). k.params.h) c.of.key_is ∙ desk.height in rw h at c.session.leaf

  pub leased-holds : (q : ℕ) → q < 32 → map q ≡ IsLeased (id_of i) → (place : Place) → IsGoing desk d i map leaves place → holds place ≡ 1
  leased-holds q within leased Waiting going = absurd (going q within leased)
  leased-holds q within leased (Running s) going = refl
  leased-holds q within leased (Signed leaf) going = refl
  leased-holds q within leased Refused going = absurd (going.1 q within leased)

  pub bare-holds : IsBare i map → (place : Place) → IsGoing desk d i map leaves place → holds place ≡ 0
  bare-holds bare Waiting going = refl
  bare-holds bare (Running s) going = absurd (bare s.leaf (small s going.0) going.0.leased)
  bare-holds bare (Signed leaf) going = absurd (bare leaf going.within going.leased)
  bare-holds bare Refused going = refl

pub same-holds : (desk : Desk) (d : Dealing) (i : ℕ) (map after : ℕ → LeafUse) (old new : ℕ → ℕ → LeafState) → ((q : ℕ) → q < 32 → after q ≡ map q)
    → (seat place : Place) → IsGoing desk d i map old seat → IsGoing desk d i after new place → holds place ≡ holds seat
same-holds desk d i map after old new same Waiting place was going = bare-holds desk d i after new (λ q within leased. was q within (sym (same q within) ∙ leased)) place going
same-holds desk d i map after old new same (Running s) place was going =
    let inside = small desk d i map old s was.0 in
    leased-holds desk d i after new s.leaf inside (same s.leaf inside ∙ was.0.leased) place going
same-holds desk d i map after old new same (Signed leaf) place was going = leased-holds desk d i after new leaf was.within (same leaf was.within ∙ was.leased) place going
same-holds desk d i map after old new same Refused place was going = bare-holds desk d i after new (λ q within leased. was.1 q within (sym (same q within) ∙ leased)) place going

-- ---- a step of one session

-- how a change of one seat changes a sum over the seats of a coalition
pub held-change : (i : ℕ) (seats after : List Place) (c : ℕ) → i < length seats → length after ≡ length seats → ((j : ℕ) (none : Place) → j ≢ i → get_or after j none ≡ get_or seats j none)
    → held_by c after + (if i % 3 == c then holds (get_or seats i Refused) else 0) ≡ held_by c seats + (if i % 3 == c then holds (get_or after i Refused) else 0)
held-change i seats after c inside size others =
    let f : ℕ → ℕ = λ k. if k % 3 == c then holds (get_or seats k Refused) else 0 in
    let g : ℕ → ℕ = λ k. if k % 3 == c then holds (get_or after k Refused) else 0 in
    subst (λ (n : ℕ). sum_below g n + f i ≡ held_by c seats + g i) (sym size)
    (sum-change f g (length seats) i inside (λ k below other. ap (λ (x : Place). if k % 3 == c then holds x else 0) (others k Refused other)))

pub same-free : (c : ℕ) (map after : ℕ → LeafUse) → ((q : ℕ) → q < 32 → after q ≡ map q) → free_of c after ≡ free_of c map
same-free c map after same = sum-same (λ (q : ℕ). if q % 3 == c then is_open (map q) else 0) (λ (q : ℕ). if q % 3 == c then is_open (after q) else 0) 32
    (λ q within. ap (λ (x : LeafUse). if q % 3 == c then is_open x else 0) (same q within))

pub free-change : (c leaf : ℕ) (map after : ℕ → LeafUse) → leaf < 32 → ((q : ℕ) → q ≢ leaf → after q ≡ map q)
    → free_of c after + (if leaf % 3 == c then is_open (map leaf) else 0) ≡ free_of c map + (if leaf % 3 == c then is_open (after leaf) else 0)
free-change c leaf map after inside others = sum-change (λ (q : ℕ). if q % 3 == c then is_open (map q) else 0) (λ (q : ℕ). if q % 3 == c then is_open (after q) else 0) 32 leaf inside
    (λ q within other. ap (λ (x : LeafUse). if q % 3 == c then is_open x else 0) (others q other))

-- one more has a leaf, and one leaf fewer is free
one-each : (c i leaf held held' free free' had has was is all : ℕ) → leaf % 3 ≡ i % 3 → had ≡ 0 → has ≡ 1 → was ≡ 1 → is ≡ 0
    → held' + (if i % 3 == c then had else 0) ≡ held + (if i % 3 == c then has else 0)
    → free' + (if leaf % 3 == c then was else 0) ≡ free + (if leaf % 3 == c then is else 0) → held + free ≡ all → held' + free' ≡ all
one-each c i leaf held held' free free' had has was is all own had_none has_one one none more less sum = elim (cases_eq (i % 3) c) [
  | inl e ↦
      let a = own-value c i had e in
      let b = own-value c i has e in
      let x = own-value c leaf was (own ∙ e) in
      let y = own-value c leaf is (own ∙ e) in
      omega arith
  | inr e ↦
      let a = no-value c i had e in
      let b = no-value c i has e in
      let x = no-value c leaf was (λ same. e (sym own ∙ same)) in
      let y = no-value c leaf is (λ same. e (sym own ∙ same)) in
      omega arith
]

pub leaves-stay : (desk : Desk) (d : Dealing) (i : ℕ) (map after : ℕ → LeafUse) (old new : ℕ → ℕ → LeafState) (seats now : List Place) (c : ℕ) → i < length seats → length now ≡ length seats
    → ((j : ℕ) (none : Place) → j ≢ i → get_or now j none ≡ get_or seats j none) → Grows i map after
    → IsGoing desk d i map old (get_or seats i Refused) → IsGoing desk d i after new (get_or now i Refused)
    → held_by c seats + free_of c map ≡ leaves_of c → held_by c now + free_of c after ≡ leaves_of c
leaves-stay desk d i map after old new seats now c inside size others (inl same) was going sum =
    let held = held-change i seats now c inside size others in
    let free = same-free c map after same in
    let e = ap (λ (x : ℕ). if i % 3 == c then x else 0) (same-holds desk d i map after old new same (get_or seats i Refused) (get_or now i Refused) was going) in
    omega arith
leaves-stay desk d i map after old new seats now c inside size others (inr takes) was going sum =
    one-each c i takes.leaf (held_by c seats) (held_by c now) (free_of c map) (free_of c after) (holds (get_or seats i Refused)) (holds (get_or now i Refused))
    (is_open (map takes.leaf)) (is_open (after takes.leaf)) (leaves_of c) takes.coalition
    (bare-holds desk d i map old takes.bare (get_or seats i Refused) was) (leased-holds desk d i after new takes.leaf takes.within takes.leased (get_or now i Refused) going)
    (ap is_open takes.free) (ap is_open takes.leased) (held-change i seats now c inside size others) (free-change c takes.leaf map after takes.within takes.others) sum

-- ---- the beginning

open-leaves : (c : ℕ) → c < 3 → sum_in c (λ q. 1) 32 ≡ leaves_of c
open-leaves c few = elim (cases_eq c 2) [
  | inl e ↦ subst (λ (k : ℕ). sum_in k (λ q. 1) 32 ≡ leaves_of k) (sym e) (sum-sessions 2 32 (omega arith))
  | inr other ↦ elim (cases_eq c 1) [
    | inl e ↦ subst (λ (k : ℕ). sum_in k (λ q. 1) 32 ≡ leaves_of k) (sym e) (sum-sessions 1 32 (omega arith))
    | inr more ↦ let e : c ≡ 0 = omega arith in subst (λ (k : ℕ). sum_in k (λ q. 1) 32 ≡ leaves_of k) (sym e) (sum-sessions 0 32 (omega arith))
  ]
]

pub all-free : (c : ℕ) (map : ℕ → LeafUse) (seats : List Place) → c < 3 → ((q : ℕ) → q < 32 → map q ≡ IsFree) → AreWaiting seats → held_by c seats + free_of c map ≡ leaves_of c
all-free c map seats few free waiting =
    let none : held_by c seats ≡ 0 =
    sum-zero (λ (k : ℕ). if k % 3 == c then holds (get_or seats k Refused) else 0) (length seats)
    (λ k inside. none-value c k (holds (get_or seats k Refused)) (ap holds (waiting k Refused inside))) in
    let open_is : free_of c map ≡ sum_in c (λ q. 1) 32 =
    sum-same (λ (q : ℕ). if q % 3 == c then 1 else 0) (λ (q : ℕ). if q % 3 == c then is_open (map q) else 0) 32
    (λ q within. ap (λ (x : LeafUse). if q % 3 == c then is_open x else 0) (free q within)) in
    let all = open-leaves c few in
    omega arith

-- ---- the end

at-most-one : (place : Place) → holds place ≤ 1
at-most-one Waiting = omega arith
at-most-one (Running s) = omega arith
at-most-one (Signed leaf) = omega arith
at-most-one Refused = omega arith

not-open : (leaf : LeafUse) → leaf ≢ IsFree → is_open leaf ≡ 0
not-open IsFree other = absurd (other refl)
not-open (IsLeased message) other = refl
not-open IsBurnt other = refl
not-open IsTorn other = refl

-- if no leaf of a coalition is free
pub full-none : (i c : ℕ) (map : ℕ → LeafUse) → i % 3 ≡ c → ((q : ℕ) → q < 32 → q % 3 ≡ i % 3 → map q ≢ IsFree) → free_of c map ≡ 0
full-none i c map own full = sum-zero (λ (q : ℕ). if q % 3 == c then is_open (map q) else 0) 32
    (λ q within. elim (cases_eq (q % 3) c) [
      | inl e ↦ own-value c q (is_open (map q)) e ∙ not-open (map q) (full q within (e ∙ sym own))
      | inr e ↦ no-value c q (is_open (map q)) e
    ])

-- a session that ended without a leaf left none of its coalition free
ended-full : (desk : Desk) (d : Dealing) (i c : ℕ) (map : ℕ → LeafUse) (leaves : ℕ → ℕ → LeafState) → i % 3 ≡ c → (place : Place) → IsGoing desk d i map leaves place → HasEnded place → holds place < 1
    → free_of c map ≡ 0
ended-full desk d i c map leaves own Waiting going ended less = absurd ended
ended-full desk d i c map leaves own (Running s) going ended less = absurd ended
ended-full desk d i c map leaves own (Signed leaf) going ended less = absurd (omega arith)
ended-full desk d i c map leaves own Refused going ended less = full-none i c map own going.0

weigh : (c i x y : ℕ) → x ≤ y → (if i % 3 == c then x else 0) ≤ (if i % 3 == c then y else 0)
weigh c i x y low = elim (cases_eq (i % 3) c) [
  | inl e ↦ let a = own-value c i x e in let b = own-value c i y e in omega arith
  | inr e ↦ let a = no-value c i x e in let b = no-value c i y e in omega arith
]

-- two values that differ within a coalition
pub record Own (c i x y : ℕ) : Type 0 where
  pub own : i % 3 ≡ c
  pub less : x < y

weighed : (c i x y : ℕ) → (if i % 3 == c then x else 0) < (if i % 3 == c then y else 0) → Own c i x y
weighed c i x y less = elim (cases_eq (i % 3) c) [
  | inl e ↦ let a = own-value c i x e in let b = own-value c i y e in record { own = e; less = omega arith }
  | inr e ↦ let a = no-value c i x e in let b = no-value c i y e in absurd (omega arith)
]

-- in each coalition all sessions have a leaf, or as many as it has leaves
pub held-all : (desk : Desk) (d : Dealing) (map : ℕ → LeafUse) (leaves : ℕ → ℕ → LeafState) (seats : List Place) (c : ℕ) → c < 3
    → ((i : ℕ) (none : Place) → i < length seats → IsGoing desk d i map leaves (get_or seats i none)) → All HasEnded seats → held_by c seats + free_of c map ≡ leaves_of c
    → held_by c seats ≡ min (sessions_of c (length seats)) (leaves_of c)
held-all desk d map leaves seats c few going ended sum =
    let f : ℕ → ℕ = λ k. if k % 3 == c then holds (get_or seats k Refused) else 0 in
    let g : ℕ → ℕ = λ k. if k % 3 == c then 1 else 0 in
    let n = length seats in
    let low : (k : ℕ) → k < n → f k ≤ g k = λ k inside. weigh c k (holds (get_or seats k Refused)) 1 (at-most-one (get_or seats k Refused)) in
    let most = sum-most f g n low in
    let all = sum-sessions c n few in
    elim (sum-or-less f g n low) [
      | inl same ↦ omega arith
      | inr by ↦
          let own = weighed c by.place (holds (get_or seats by.place Refused)) 1 by.less in
          let full = ended-full desk d by.place c map leaves own.own (get_or seats by.place Refused) (going by.place Refused by.within) (ended by.place Refused by.within) own.less in
          omega arith
    ]

ended-signs : (place : Place) → HasEnded place → signs place ≡ holds place
ended-signs Waiting ended = absurd ended
ended-signs (Running s) ended = absurd ended
ended-signs (Signed leaf) ended = refl
ended-signs Refused ended = refl

pub signed-are : (seats : List Place) → All HasEnded seats → ((c : ℕ) → c < 3 → held_by c seats ≡ min (sessions_of c (length seats)) (leaves_of c)) → signed_in seats ≡ signed_of (length seats)
signed-are seats ended each =
    let same = sum-same (λ (k : ℕ). holds (get_or seats k Refused)) (λ (k : ℕ). signs (get_or seats k Refused)) (length seats)
    (λ k inside. ended-signs (get_or seats k Refused) (ended k Refused inside)) in
    let parts = sum-parts (λ (k : ℕ). holds (get_or seats k Refused)) (length seats) in
    let a : held_by 0 seats ≡ min (sessions_of 0 (length seats)) 11 = each 0 (omega arith) in
    let b : held_by 1 seats ≡ min (sessions_of 1 (length seats)) 11 = each 1 (omega arith) in
    let e : held_by 2 seats ≡ min (sessions_of 2 (length seats)) 10 = each 2 (omega arith) in
    omega arith

-- the sessions that have signed and the leaves that are free add up to the 32 leaves
pub signed-and-free : (seats : List Place) (map : ℕ → LeafUse) → All HasEnded seats → ((c : ℕ) → c < 3 → held_by c seats + free_of c map ≡ leaves_of c)
    → signed_in seats + sum_below (λ q. is_open (map q)) 32 ≡ 32
signed-and-free seats map ended each =
    let same = sum-same (λ (k : ℕ). holds (get_or seats k Refused)) (λ (k : ℕ). signs (get_or seats k Refused)) (length seats)
    (λ k inside. ended-signs (get_or seats k Refused) (ended k Refused inside)) in
    let parts = sum-parts (λ (k : ℕ). holds (get_or seats k Refused)) (length seats) in
    let free = sum-parts (λ (q : ℕ). is_open (map q)) 32 in
    let a : held_by 0 seats + free_of 0 map ≡ 11 = each 0 (omega arith) in
    let b : held_by 1 seats + free_of 1 map ≡ 11 = each 1 (omega arith) in
    let e : held_by 2 seats + free_of 2 map ≡ 10 = each 2 (omega arith) in
    omega arith
