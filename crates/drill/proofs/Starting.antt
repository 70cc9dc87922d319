-- A session that starts, and one that puts its next ask.
use Rattle.std.proofs.Common.{◌≡◌, ◌≢◌, ◌⊎◌, ◌<◌, ◌%◌, ◌+◌, ℕ, suc, List, [], ◌∷◌, All, Contains, Option, IfSome, IsSome, None, map, inl, inr, refl, sym, ◌∙◌, ap, subst, arith}
use Rattle.std.proofs.lemmas.Bool.{cases_eq}
use Rattle.std.proofs.lemmas.List.Elements.{All-cons, All-head, All-nil, All-tail}
use Rattle.coalition_map.specs.Coalitions.{PlanNumbers, leaf_members}
use Rattle.drill_schedule.specs.Draws.{message_bytes}
use Rattle.drill_trustees.specs.Members.{MayAsk, state_after, state_before}
use Rattle.drill_trustees.specs.Trustees.{IsTrustee, SameShares, SetsAt, leaf_at, share_at}
use Rattle.drill_trustees.specs.declared.trustees.Trustees.{Trustees}
use Rattle.leaf_table.specs.Entries.{IsLeased, LeafUse}
use Rattle.lms_bytes.specs.MessageId.{message_id}
use Rattle.lms_bytes.specs.declared.ask.Ask.{Ask}
use Rattle.opening_journal.specs.Entries as journals
use Rattle.opening_journal.specs.Entries.{LeafState}
use Rattle.reference_value.specs.Dealing.{Dealing}
use Rattle.session_core.specs.Asks.{ask_with}
use Rattle.session_core.specs.Seats.{Seat, empty_seat}
use Rattle.session_core.specs.State.{IsSession, State, seats_of, started}
use Rattle.session_core.specs.Verdicts.{digest_of}
use Rattle.share_files.specs.declared.share.Share.{Share}
use Rattle.trustee_core.specs.Grants.{ask_of}
use Rattle.trustee_core.specs.declared.grant.Grant.{Grant}
use Rattle.drill.specs.Courses.{AllKept, AreFree, Awaits, GoesTo, Grows, HaveShares, IsGoing, IsGranted, IsNext, IsOnCourse, IsOnly, IsOut, IsShareOf, asked, count_filled, steps_in, HasEnded, Steps, world}
use Rattle.drill.specs.Ids.{id_of}
use Rattle.drill.specs.Keys.{HasDealing}
use Rattle.drill.specs.declared.asks.NextAsk.{NextAsk}
use Rattle.drill.specs.declared.desk.Desk.{Desk}
use Rattle.drill.specs.declared.seat.Seat.{Seat as Place}
use Rattle.drill.specs.declared.state.Asks.{Asks}
use Rattle.drill.specs.declared.seat.Seat.TheVariants.{Refused, Running, Signed, Waiting}
use Rattle.drill.proofs.Going.{StandsAt, after-any, course, may-ask, trustee-of}
use Rattle.drill.proofs.Desks.{three}
use Rattle.drill.proofs.Leasing.{IsNew}
use Rattle.drill.proofs.Rounds.{by-round, first-member, kept-one, pair-of, second-member}
use Rattle.drill.proofs.Turning.{no-reply, none-filled}

all-empty : (room : ℕ) (members : List ℕ) → All (λ (seat : Seat). seat.code ≡ None) (map (empty_seat room) members)
all-empty room [] = All-nil (λ (seat : Seat). seat.code ≡ None)
all-empty room (t ∷ members) = All-cons (λ (seat : Seat). seat.code ≡ None) (empty_seat room t) (map (empty_seat room) members) refl (all-empty room members)

before-first : (tag digest : List ℕ) (s : State) → s.c ≡ None → state_before (ask_with s tag digest) ≡ journals.IsFree
before-first tag digest = by-round (λ s. s.c ≡ None → state_before (ask_with s tag digest) ≡ journals.IsFree)
    (λ key plan leaf id first second none. refl) (λ key plan leaf id c first second none. absurd (cc))

first-steps : (s : State) → s.c ≡ None → steps_in s ≡ 1 + count_filled (seats_of s)
first-steps s none = rw none refl

-- a session that was just started
pub record Starts (desk : Desk) (d : Dealing) (i : ℕ) (uses : ℕ → LeafUse) (leaves : ℕ → ℕ → LeafState) (s : State) : Type 0 where
  pub going : IsGoing desk d i uses leaves (Running s)
  pub steps : steps_in s ≡ 1

pub starts : (desk : Desk) (d : Dealing) (i : ℕ) (uses : ℕ → LeafUse) (leaves : ℕ → ℕ → LeafState) (leaf : ℕ) → IsSession (started desk.dealt.public desk.plan leaf (message_id (message_bytes i)))
    → leaf % 3 ≡ i % 3 → uses leaf ≡ IsLeased (id_of i) → IsOnly i uses leaf → ((t : ℕ) → IsTrustee t → leaves t leaf ≡ journals.IsFree)
    → Starts desk d i uses leaves (started desk.dealt.public desk.plan leaf (message_id (message_bytes i)))
starts desk d i uses leaves leaf session own leased only free =
    let s = started desk.dealt.public desk.plan leaf (message_id (message_bytes i)) in
    let m = message_bytes i in
    let q = pair-of s session desk.plan_is in
    let N = λ (seat : Seat). seat.code ≡ None in
    let empty : All N (q.x ∷ q.y ∷ []) = subst (λ (l : List Seat). All N l) q.seats (all-empty _ (leaf_members desk.plan leaf)) in
    let ex : q.x.code ≡ None = All-head N q.x (q.y ∷ []) empty in
    let ey : q.y.code ≡ None = All-head N q.y [] (All-tail N q.x (q.y ∷ []) empty) in
    let before = sym (before-first [] (digest_of s m) s refl) in
    let sx : StandsAt leaves s m q.x = record { may = inl (free q.x.member (trustee-of s q q.x.member (first-member s q)) ∙ before); kept = λ some. absurd (some (no-reply q.x ex)) } in
    let sy : StandsAt leaves s m q.y = record { may = inl (free q.y.member (trustee-of s q q.y.member (second-member s q)) ∙ before); kept = λ some. absurd (some (no-reply q.y ey)) } in
    record {
      going = (
        course desk d i uses leaves s q session (record { key_is = refl; plan_is = refl; message_is = refl }) own leased only tt (inl ex) (inl ey) sx sy,
        (q.x.member, (first-member s q, kept-one s q ∙ no-reply q.x ex)),
      );
      steps = first-steps s refl ∙ ap (λ (n : ℕ). 1 + n) (ap count_filled q.seats ∙ none-filled q.x q.y ex ey);
    }

pub same-shares : (d : Dealing) (old new : Trustees) → HaveShares d old → SameShares old new → HaveShares d new
same-shares d old new shares same t trustee = subst (λ (x : Share). IsShareOf d t x) (sym (same t trustee)) (shares t trustee)

-- what an ask sets, in terms of the session
pub sets-for : (desk : Desk) (s : State) (m : List ℕ) (next : NextAsk) (old new : Trustees) → IsNext desk s m next
    → SetsAt old new next.member next.ask.leaf (state_after next.ask) → SetsAt old new next.member s.leaf (state_after (asked s m))
sets-for desk s m next old new is sets =
    let leaf : next.ask.leaf ≡ s.leaf = ap (λ (a : Ask). a.leaf) is.ask in
    let state : state_after next.ask ≡ state_after (asked s m) = ap state_after is.ask ∙ after-any _ [] (digest_of s m) s in
    subst (λ (q : ℕ). SetsAt old new next.member q (state_after (asked s m))) leaf (subst (λ (x : LeafState). SetsAt old new next.member next.ask.leaf x) state sets)

-- no leaf but the session's changes, and that one with a member alone
pub others-stay : (old new : Trustees) (member leaf i : ℕ) (state : LeafState) (uses : ℕ → LeafUse) → SetsAt old new member leaf state → uses leaf ≡ IsLeased (id_of i)
    → Contains (leaf_members three leaf) member → (t q : ℕ) → IsTrustee t → q < 32 → (uses q ≢ IsLeased (id_of i)) ⊎ IsOut t q → leaf_at new t q ≡ leaf_at old t q
others-stay old new member leaf i state uses sets leased theirs t q own within other = elim (cases_eq t member) [
  | inl e ↦
      subst (λ (u : ℕ). leaf_at new u q ≡ leaf_at old u q) (sym e)
      (sets.leaves q within (λ same. elim other [
        | inl differs ↦ differs (ap uses same ∙ leased)
        | inr out ↦ out (subst (λ (r : ℕ). Contains (leaf_members three r) t) (sym same) (subst (λ (u : ℕ). Contains (leaf_members three leaf) u) (sym e) theirs))
      ]))
  | inr e ↦ sets.others t q own e
]

pub lease-moves : (desk : Desk) (d : Dealing) (i : ℕ) (uses after : ℕ → LeafUse) (old : Trustees) (leaf : ℕ) (s : State) → HaveShares d old → AreFree uses (leaf_at old)
    → Grows i uses after → IsNew i uses after leaf → s ≡ started desk.dealt.public desk.plan leaf (message_id (message_bytes i)) → IsSession s
    → Steps desk d i (world uses old) (world after old) Waiting (Running s) (record { put = 0; granted = 0; cut = 0 })
lease-moves desk d i uses after old leaf s shares free grows new same session =
    let st = starts desk d i after (leaf_at old) leaf (subst (λ (z : State). IsSession z) same session) new.own new.leased new.only (λ t own. free t leaf own new.within (inl new.was)) in
    let steps : steps_in s ≡ 1 = ap steps_in same ∙ st.steps in
    record {
      moves = record {
        grows = grows;
        going = subst (λ (z : State). IsGoing desk d i after (leaf_at old) (Running z)) (sym same) st.going;
        shares = shares;
        stays = λ t q own within other. refl;
        parts = refl;
      };
      advances = record { least = omega arith; exact = λ has. steps; put = refl };
    }

-- if a member is awaited, there is a next ask
pub not-all : (s : State) → IsSession s → s.plan ≡ three → ((t : ℕ) × Awaits s t) → AllKept s → ⊥
not-all s session plan awaited all =
    let t = trustee-of s (pair-of s session plan) awaited.0 awaited.1.0 in
    all awaited.0 t.low t.high awaited.1.0 awaited.1.1

-- a session's next ask was put by a call that grants what may be granted, so it was granted
pub put-granted : (desk : Desk) (own : HasDealing desk.plan desk.dealt) (i : ℕ) (map : ℕ → LeafUse) (old new : Trustees) (s : State) (m : List ℕ) (next : NextAsk) (grant : Option Grant)
    → IsOnCourse desk own.dealing i map (leaf_at old) s → HaveShares own.dealing old → m ≡ message_bytes i → IsNext desk s m next → SameShares old new
    → IfSome grant (λ g. ask_of g ≡ next.ask) → (MayAsk (share_at old next.member) (leaf_at old next.member) next.ask → IsSome grant)
    → (MayAsk (share_at old next.member) (leaf_at old next.member) next.ask → SetsAt old new next.member next.ask.leaf (state_after next.ask))
    → IsGranted desk own.dealing i (world map old) new s next grant
put-granted desk own i map old new s m next grant course shares message next_is same ask granted sets =
    let is = subst (λ (l : List ℕ). IsNext desk s l next) message next_is in
    let may = may-ask desk own i map (leaf_at old) s next (share_at old next.member) course is (shares next.member is.trustee) in
    record {
      course = course;
      next_is = is;
      shares = same-shares own.dealing old new shares same;
      sets = sets-for desk s (message_bytes i) next old new is (sets may);
      granted = granted may;
      ask = ask;
    }

-- a session's next ask, granted and taken
pub ask-moves : (desk : Desk) (d : Dealing) (i : ℕ) (uses : ℕ → LeafUse) (old new : Trustees) (s : State) (next : NextAsk) (place : Place) (asks : Asks)
    → IsOnCourse desk d i uses (leaf_at old) s → IsNext desk s (message_bytes i) next → HaveShares d new → SetsAt old new next.member s.leaf (state_after (asked s (message_bytes i)))
    → GoesTo desk d i uses (leaf_at new) (suc (steps_in s)) place → asks.granted + asks.cut ≡ asks.put → asks.put ≡ 1
    → Steps desk d i (world uses old) (world uses new) (Running s) place asks
ask-moves desk d i uses old new s next place asks course is shares sets goes parts one =
    let steps = goes.steps_are in
    record {
      moves = record {
        grows = inl (λ q within. refl);
        going = goes.going;
        shares = shares;
        stays = others-stay old new next.member s.leaf i (state_after (asked s (message_bytes i))) uses sets course.leased
            (subst (λ (p : PlanNumbers). Contains (leaf_members p s.leaf) next.member) (course.of.plan_is ∙ desk.plan_is) is.awaits.0);
        parts = parts;
      };
      advances = record { least = omega arith; exact = λ has. steps; put = one };
    }

-- a session that has ended stays where it is
pub ended-stays : (desk : Desk) (d : Dealing) (i : ℕ) (uses : ℕ → LeafUse) (old : Trustees) (place : Place) → HasEnded place → IsGoing desk d i uses (leaf_at old) place → HaveShares d old
    → Steps desk d i (world uses old) (world uses old) place place (record { put = 0; granted = 0; cut = 0 })
ended-stays desk d i uses old Waiting ended going shares = absurd ended
ended-stays desk d i uses old (Running s) ended going shares = absurd ended
ended-stays desk d i uses old (Signed leaf) ended going shares = record {
  moves = record { grows = inl (λ q within. refl); going = going; shares = shares; stays = λ t q own within other. refl; parts = refl };
  advances = record { least = omega arith; exact = λ has. refl; put = refl };
}
ended-stays desk d i uses old Refused ended going shares = record {
  moves = record { grows = inl (λ q within. refl); going = going; shares = shares; stays = λ t q own within other. refl; parts = refl };
  advances = record { least = omega arith; exact = λ has. refl; put = refl };
}

-- the same, if the session's seat is known to be at this place
pub has-ended : (desk : Desk) (d : Dealing) (i : ℕ) (uses : ℕ → LeafUse) (old : Trustees) (seat place : Place) → seat ≡ place → HasEnded place → IsGoing desk d i uses (leaf_at old) seat
    → HaveShares d old → Steps desk d i (world uses old) (world uses old) seat place (record { put = 0; granted = 0; cut = 0 })
has-ended desk d i uses old seat place is ended going shares =
    let on = subst (λ (x : Place). IsGoing desk d i uses (leaf_at old) x) is going in
    subst (λ (x : Place). Steps desk d i (world uses old) (world uses old) x place (record { put = 0; granted = 0; cut = 0 })) (sym is) (ended-stays desk d i uses old place ended on shares)
