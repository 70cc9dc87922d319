-- The round of a session whose coalition has two members.
use Rattle.std.proofs.Common.{◌≡◌, ◌⊎◌, ◌<◌, ◌≤◌, ◌%◌, ◌==◌, ℕ, suc, true, false, List, [], ◌∷◌, Contains, Option, None, Some, length, map, get_or, inl, inr, refl, sym, ◌∙◌, ap, subst, arith}
use Rattle.std.specs.Str.{bytes_eq}
use Rattle.std.proofs.lemmas.Bool.{eq-eqb}
use Rattle.std.proofs.lemmas.Slice.Eq.{bytes_eq-Decides}
use Rattle.coalition_map.specs.Coalitions.{PlanNumbers, count_of, leaf_members}
use Rattle.coalition_map.specs.Members.{IsAscendingIn}
use Rattle.coalition_map.proofs.CoalitionLaws.{IsSubset-coalition, count_of-pos}
use Rattle.coalition_map.proofs.MemberLaws.{Contains-cases, Contains-first, Contains-later, Contains-nil}
use Rattle.lms_bytes.specs.declared.ask.ReplyHead.{ReplyHead}
use Rattle.lms_bytes.specs.declared.message.MessageId.{MessageId}
use Rattle.lms_bytes.specs.declared.public_key.PublicKey.{PublicKey}
use Rattle.session_core.specs.Asks.{kept_masks, masks_at}
use Rattle.session_core.specs.Replies.{answers, names_ask, with_delivery}
use Rattle.session_core.specs.Seats.{Seat, empty_seat, filled_seat, has_seat, is_filled, place_of, seat_of, with_reply}
use Rattle.session_core.specs.State.{AreSeats, IsSession, State, asked_c, body_length, round_of, seats_of, with_seats}
use Rattle.session_core.proofs.Places.{place-here, place-later}
use Rattle.drill.proofs.Desks.{is-plan, three}

-- every session is in round one or in round two
abbrev pub one : PublicKey → PlanNumbers → ℕ → MessageId → List Seat → List Seat → State
one key plan leaf id first second = record { key = key; plan = plan; leaf = leaf; message = id; c = None; first = first; second = second }

abbrev pub two : PublicKey → PlanNumbers → ℕ → MessageId → List ℕ → List Seat → List Seat → State
two key plan leaf id c first second = record { key = key; plan = plan; leaf = leaf; message = id; c = Some c; first = first; second = second }

pub by-round : (P : State → Type 0)
    → ((key : PublicKey) (plan : PlanNumbers) (leaf : ℕ) (id : MessageId) (first second : List Seat) → P (one key plan leaf id first second))
    → ((key : PublicKey) (plan : PlanNumbers) (leaf : ℕ) (id : MessageId) (c : List ℕ) (first second : List Seat) → P (two key plan leaf id c first second))
    → (s : State) → P s
by-round P f g s = at s.c refl
  where
    at : (c : Option (List ℕ)) → s.c ≡ c → P s
    at None is =
        let same : s ≡ one s.key s.plan s.leaf s.message s.first s.second = λ j. record { key = s.key; plan = s.plan; leaf = s.leaf; message = s.message; c = is j; first = s.first; second = s.second } in
        subst P (sym same) (f s.key s.plan s.leaf s.message s.first s.second)
    at (Some c) is =
        let same : s ≡ two s.key s.plan s.leaf s.message c s.first s.second = λ j. record { key = s.key; plan = s.plan; leaf = s.leaf; message = s.message; c = is j; first = s.first; second = s.second } in
        subst P (sym same) (g s.key s.plan s.leaf s.message c s.first s.second)

pub kept-is : (t : ℕ) (s : State) → kept_masks s (round_of s) t ≡ masks_at (seat_of (seats_of s) t)
kept-is t = by-round (λ s. kept_masks s (round_of s) t ≡ masks_at (seat_of (seats_of s) t)) (λ key plan leaf id first second. refl) (λ key plan leaf id c first second. refl)

pub round-seats : (s : State) → IsSession s → AreSeats s.key.params (leaf_members s.plan s.leaf) (round_of s) (seats_of s)
round-seats = by-round (λ s. IsSession s → AreSeats s.key.params (leaf_members s.plan s.leaf) (round_of s) (seats_of s))
    (λ key plan leaf id first second session. session.first) (λ key plan leaf id c first second session. session.second)

pub seats-with : (seats : List Seat) (s : State) → seats_of (with_seats s seats) ≡ seats
seats-with seats = by-round (λ s. seats_of (with_seats s seats) ≡ seats) (λ key plan leaf id first second. refl) (λ key plan leaf id c first second. refl)

-- the head of a grant: the present ask of a session, and code 0
abbrev pub grant_head : State → ℕ → ReplyHead
grant_head s t = record { key = s.key.id; leaf = s.leaf; member = t; message = s.message; round = round_of s; c = asked_c s; code = 0 }

same-bytes : (xs : List ℕ) → bytes_eq xs xs ≡ true
same-bytes xs = (bytes_eq-Decides xs xs).1 refl

same-number : (n : ℕ) → (n == n) ≡ true
same-number n = eq-eqb n n refl

names-it : (s : State) (t : ℕ) → names_ask s (grant_head s t) ≡ true
names-it s t = rw (same-bytes s.key.id, same-number s.leaf, same-number s.message.length, same-bytes s.message.hash, same-number (round_of s), same-bytes (asked_c s)) refl

answers-it : (s : State) (t : ℕ) (masks : List ℕ) → has_seat (seats_of s) t ≡ true → length masks ≡ body_length s.key.params (round_of s) 0
    → answers s (grant_head s t) masks ≡ true
answers-it s t masks there size =
    let whole : (length masks == body_length s.key.params (round_of s) 0) ≡ true = eq-eqb _ _ size in
    rw (names-it s t, there, whole) refl

-- a grant's masks are kept where nothing is kept yet
pub grant-kept : (s : State) (t : ℕ) (masks : List ℕ) → has_seat (seats_of s) t ≡ true → is_filled (seat_of (seats_of s) t) ≡ false
    → length masks ≡ body_length s.key.params (round_of s) 0
    → seats_of (with_delivery s (grant_head s t) masks) ≡ with_reply (seats_of s) t 0 masks
grant-kept s t masks there empty size =
    let is = answers-it s t masks there size in
    let goes : with_delivery s (grant_head s t) masks ≡ with_seats s (with_reply (seats_of s) t 0 masks) = rw (is, empty) refl in
    ap seats_of goes ∙ seats-with (with_reply (seats_of s) t 0 masks) s

-- the two members, and what is kept for them in the present round
pub record Pair (s : State) : Type 0 where
  pub x : Seat
  pub y : Seat
  pub seats : seats_of s ≡ x ∷ y ∷ []
  pub members : leaf_members s.plan s.leaf ≡ x.member ∷ y.member ∷ []
  pub low : 1 ≤ x.member
  pub order : x.member < y.member
  pub high : y.member ≤ 3

abbrev number : Seat → ℕ
number seat = seat.member

two-seats : (seats : List Seat) (l : List ℕ) → map number seats ≡ l → length l ≡ 2 → IsAscendingIn 1 4 l
    → (x : Seat) × (y : Seat) × (seats ≡ x ∷ y ∷ []) × (l ≡ x.member ∷ y.member ∷ []) × (1 ≤ x.member) × (x.member < y.member) × (y.member ≤ 3)
two-seats [] l is size ascending = absurd (let e = ap length is in omega arith)
two-seats (x ∷ []) l is size ascending = absurd (let e = ap length is in omega arith)
two-seats (x ∷ y ∷ []) l is size ascending =
    let a = subst (λ (m : List ℕ). IsAscendingIn 1 4 m) (sym is) ascending in
    let low = a.0 in
    let order = a.2.0 in
    let high = a.2.1 in
    (x, y, refl, sym is, omega arith, omega arith, omega arith)
two-seats (x ∷ y ∷ z ∷ rest) l is size ascending = absurd (let e = ap length is in omega arith)

pub pair-of : (s : State) → IsSession s → s.plan ≡ three → Pair s
pair-of s session plan =
    let are = round-seats s session in
    let some = count_of-pos three is-plan in
    let inside : s.leaf % count_of three < count_of three = omega arith in
    let subset = IsSubset-coalition three (s.leaf % count_of three) inside in
    let all : leaf_members s.plan s.leaf ≡ leaf_members three s.leaf = ap (λ (p : PlanNumbers). leaf_members p s.leaf) plan in
    let it = two-seats (seats_of s) (leaf_members three s.leaf) (are.theirs ∙ all) subset.size subset.ascending in
    record { x = it.0; y = it.1; seats = it.2; members = all ∙ it.3; low = it.4; order = it.5; high = it.6 }

-- a member is one of the two
pub which : (s : State) (p : Pair s) (t : ℕ) → Contains (leaf_members s.plan s.leaf) t → (t ≡ p.x.member) ⊎ (t ≡ p.y.member)
which s p t member =
    let there = subst (λ (l : List ℕ). Contains l t) p.members member in
    elim (Contains-cases p.x.member (p.y.member ∷ []) t there) [
      | inl same ↦ inl (sym same)
      | inr later ↦ elim (Contains-cases p.y.member [] t later) [ inl same ↦ inr (sym same) | inr none ↦ absurd (Contains-nil t none) ]
    ]

pub first-member : (s : State) (p : Pair s) → Contains (leaf_members s.plan s.leaf) p.x.member
first-member s p = subst (λ (l : List ℕ). Contains l p.x.member) (sym p.members) (Contains-first p.x.member (p.y.member ∷ []))

pub second-member : (s : State) (p : Pair s) → Contains (leaf_members s.plan s.leaf) p.y.member
second-member s p = subst (λ (l : List ℕ). Contains l p.y.member) (sym p.members) (Contains-later p.x.member (p.y.member ∷ []) p.y.member (Contains-first p.y.member []))

-- at which of two places a member's seat stands
pub place-one : (x y : Seat) → place_of (x ∷ y ∷ []) x.member ≡ 0
place-one x y = place-here x (y ∷ []) x.member refl

pub place-two : (x y : Seat) → x.member < y.member → place_of (x ∷ y ∷ []) y.member ≡ 1
place-two x y order = place-later x (y ∷ []) y.member (λ same. absurd (omega arith)) ∙ ap suc (place-here y [] y.member refl)

pub seat-one : (x y : Seat) → seat_of (x ∷ y ∷ []) x.member ≡ x
seat-one x y = ap (λ (k : ℕ). get_or (x ∷ y ∷ []) k (empty_seat 0 0)) (place-one x y)

pub seat-two : (x y : Seat) → x.member < y.member → seat_of (x ∷ y ∷ []) y.member ≡ y
seat-two x y order = ap (λ (k : ℕ). get_or (x ∷ y ∷ []) k (empty_seat 0 0)) (place-two x y order)

pub reply-one : (x y : Seat) (body : List ℕ) → with_reply (x ∷ y ∷ []) x.member 0 body ≡ filled_seat x 0 body ∷ y ∷ []
reply-one x y body = rw (place-one x y) refl

pub reply-two : (x y : Seat) (body : List ℕ) → x.member < y.member → with_reply (x ∷ y ∷ []) y.member 0 body ≡ x ∷ filled_seat y 0 body ∷ []
reply-two x y body order = rw (place-two x y order) refl

pub has-one : (x y : Seat) → has_seat (x ∷ y ∷ []) x.member ≡ true
has-one x y = rw (place-one x y) refl

pub has-two : (x y : Seat) → x.member < y.member → has_seat (x ∷ y ∷ []) y.member ≡ true
has-two x y order = rw (place-two x y order) refl

-- what is kept for each
pub kept-one : (s : State) (p : Pair s) → kept_masks s (round_of s) p.x.member ≡ masks_at p.x
kept-one s p = kept-is p.x.member s ∙ ap (λ (l : List Seat). masks_at (seat_of l p.x.member)) p.seats ∙ ap masks_at (seat-one p.x p.y)

pub kept-two : (s : State) (p : Pair s) → kept_masks s (round_of s) p.y.member ≡ masks_at p.y
kept-two s p = kept-is p.y.member s ∙ ap (λ (l : List Seat). masks_at (seat_of l p.y.member)) p.seats ∙ ap masks_at (seat-two p.x p.y p.order)
