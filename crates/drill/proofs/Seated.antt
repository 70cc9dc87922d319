-- A drill in which all is well, once a session has moved.
use Rattle.std.proofs.Common.{◌≡◌, ◌≢◌, ◌⊎◌, ◌<◌, ◌≤◌, ◌%◌, ◌+◌, ℕ, zero, suc, List, [], ◌∷◌, length, get_or, set, Contains, inl, inr, refl, sym, ◌∙◌, ap, subst, arith}
use Rattle.std.proofs.lemmas.Bool.{cases_eq}
use Rattle.std.proofs.lemmas.List.{get_or-set_other, get_or-set_same, length-set}
use Rattle.std.proofs.lemmas.List.Elements.{All-contains}
use Rattle.coalition_map.specs.Coalitions.{PlanNumbers, count_of, leaf_members}
use Rattle.coalition_map.proofs.CoalitionLaws.{IsSubset-coalition, count_of-pos}
use Rattle.coalition_map.proofs.MemberLaws.{All-from_IsAscendingIn}
use Rattle.drill_schedule.specs.Draws.{message_bytes}
use Rattle.drill_trustees.specs.Members.{MayAsk, state_after, state_before}
use Rattle.drill_trustees.specs.Trustees.{CutAt, IsTrustee, SameAt, SameShares, SetsAt, leaf_at, share_at}
use Rattle.drill_trustees.specs.declared.member.Answer.{Answer}
use Rattle.drill_trustees.specs.declared.member.Answer.TheVariants as answers
use Rattle.lms_bytes.specs.declared.ask.Ask.{Ask}
use Rattle.session_core.specs.Verdicts.{digest_of}
use Rattle.drill.specs.declared.asks.NextAsk.{NextAsk}
use Rattle.drill.specs.declared.openings.Openings.{Openings}
use Rattle.drill_trustees.specs.declared.trustees.Trustees.{Trustees}
use Rattle.leaf_table.specs.Entries.{IsFree, IsLeased, LeafUse}
use Rattle.lms_bytes.specs.declared.public_key.PublicKey.{PublicKey}
use Rattle.opening_journal.specs.Entries.{LeafState}
use Rattle.reference_value.specs.Dealing.{Dealing}
use Rattle.session_core.specs.State.{State}
use Rattle.drill.specs.Courses.{AreFree, AreTaken, Grows, HaveShares, IsGoing, HasSigned, IsBare, IsGood, IsNextOf, IsOut, Opens, IsOnCourse, IsSettled, Moves, StaysGood, Stepped, asked, next_step, steps_of, uses_of, Steps, replies_of, world}
use Rattle.drill.specs.Ids.{DifferentIds, id_of}
use Rattle.drill.specs.Keys.{HasDealing}
use Rattle.drill.specs.Openings.{AreOwn}
use Rattle.drill.specs.declared.desk.Desk.{Desk}
use Rattle.drill.specs.declared.seat.Seat.{Seat as Place}
use Rattle.drill.specs.declared.seat.Seat.TheVariants.{Refused, Running, Signed, Waiting}
use Rattle.drill.specs.declared.state.Asks.{Asks}
use Rattle.drill.specs.declared.state.Drill.{Drill}
use Rattle.drill.proofs.Counted.{leaves-stay}
use Rattle.drill.proofs.Desks.{is-plan, three}
use Rattle.drill.proofs.Following.{all-replies, follow-step, replies-more}
use Rattle.drill.proofs.Going.{after-any, before-any, may-ask, put-on, trustee-of}
use Rattle.drill.proofs.Noting.{at-leaf, free-not, leased-same, still-own}
use Rattle.drill.proofs.Starting.{others-stay, same-shares}
use Rattle.drill.proofs.Rounds.{pair-of}

module _ (desk : Desk) (own : HasDealing desk.plan desk.dealt) (i : ℕ) (uses after : ℕ → LeafUse) (old new : Trustees) (grows : Grows i uses after)
    (stays : (t q : ℕ) → IsTrustee t → q < 32 → (after q ≢ IsLeased (id_of i)) ⊎ IsOut t q → leaf_at new t q ≡ leaf_at old t q) where
  abbrev d : Dealing
  d = own.dealing

  -- a leaf that is leased for another session stays as it is
  module _ (j : ℕ) (other : id_of j ≡ id_of i → ⊥) where
    same-use : (q : ℕ) → q < 32 → uses q ≡ IsLeased (id_of j) → after q ≡ uses q
    same-use q within leased = elim (at-leaf i uses after grows q within) [ inl same ↦ same | inr fresh ↦ absurd (free-not (id_of j) (sym fresh.0 ∙ leased)) ]

    same-leaf : (t q : ℕ) → IsTrustee t → q < 32 → uses q ≡ IsLeased (id_of j) → leaf_at new t q ≡ leaf_at old t q
    same-leaf t q trustee within leased =
        stays t q trustee within (inl (λ is. other (leased-same (id_of j) (id_of i) (sym (same-use q within leased ∙ leased) ∙ is))))

    -- and was leased for it before
    was-leased : (q : ℕ) → q < 32 → after q ≡ IsLeased (id_of j) → uses q ≡ IsLeased (id_of j)
    was-leased q within is = elim (at-leaf i uses after grows q within) [
      | inl same ↦ sym same ∙ is
      | inr fresh ↦ absurd (other (leased-same (id_of j) (id_of i) (sym is ∙ fresh.1.1)))
    ]

    small : (s : State) → IsOnCourse desk d j uses (leaf_at old) s → s.leaf < 32
    small s c = let h : s.key.params.h ≡ 5 = ap (λ (k : PublicKey). k.params.h) c.of.key_is ∙ desk.height in rw h at c.session.leaf

    on-course : (s : State) → IsOnCourse desk d j uses (leaf_at old) s → IsOnCourse desk d j after (leaf_at new) s
    on-course s c =
        let within = small s c in
        let p = pair-of s c.session (c.of.plan_is ∙ desk.plan_is) in
        record {
          session = c.session;
          of = c.of;
          coalition = c.coalition;
          leased = same-use s.leaf within c.leased ∙ c.leased;
          only = λ q small is. c.only q small (was-leased q small is);
          c = c.c;
          seats = c.seats;
          members = λ t member.
              let e = same-leaf t s.leaf (trustee-of s p t member) within c.leased in
              let st = c.members t member in
              record { may = elim st.may [ inl b ↦ inl (e ∙ b) | inr a ↦ inr (e ∙ a) ]; kept = λ some. e ∙ st.kept some };
        }

    still-bare : IsBare j uses → IsBare j after
    still-bare bare q within is = bare q within (was-leased q within is)

    pub other-going : (trustee : (t q : ℕ) → Contains (leaf_members d.plan q) t → IsTrustee t) (place : Place) → IsGoing desk d j uses (leaf_at old) place → IsGoing desk d j after (leaf_at new) place
    other-going trustee Waiting bare = still-bare bare
    other-going trustee (Running s) going = (on-course s going.0, going.1)
    other-going trustee (Signed leaf) going = record {
      within = going.within;
      coalition = going.coalition;
      leased = same-use leaf going.within going.leased ∙ going.leased;
      only = λ q small is. going.only q small (was-leased q small is);
      opened = λ t member. same-leaf t leaf (trustee t leaf member) going.within going.leased ∙ going.opened t member;
    }
    other-going trustee Refused going = (
      λ q within own_is is. elim (at-leaf i uses after grows q within) [ inl same ↦ going.0 q within own_is (sym same ∙ is) | inr fresh ↦ free-not (id_of i) (sym is ∙ fresh.1.1) ],
      still-bare going.1,
    )

  pub still-free : AreFree uses (leaf_at old) → AreFree after (leaf_at new)
  still-free free t q trustee within (inl is) =
      let was : uses q ≡ IsFree = elim (at-leaf i uses after grows q within) [ inl same ↦ sym same ∙ is | inr fresh ↦ fresh.0 ] in
      stays t q trustee within (inl (λ leased. free-not (id_of i) (sym is ∙ leased))) ∙ free t q trustee within (inl was)
  still-free free t q trustee within (inr out) = stays t q trustee within (inr out) ∙ free t q trustee within (inr out)

  pub seats-going : (trustee : (t q : ℕ) → Contains (leaf_members d.plan q) t → IsTrustee t) (seats : List Place) (put place : Place) → DifferentIds (length seats) → i < length seats
      → ((j : ℕ) (none : Place) → j < length seats → IsGoing desk d j uses (leaf_at old) (get_or seats j none)) → IsGoing desk d i after (leaf_at new) place
      → (j : ℕ) (none : Place) → j < length (set (set seats i put) i place) → IsGoing desk d j after (leaf_at new) (get_or (set (set seats i put) i place) j none)
  seats-going trustee seats put place different inside all going j none within =
      let first = length-set seats i put in
      let both = length-set (set seats i put) i place in
      elim (cases_eq j i) [
        | inl e ↦
            subst (λ (k : ℕ). IsGoing desk d k after (leaf_at new) (get_or (set (set seats i put) i place) k none)) (sym e)
            (subst (λ (x : Place). IsGoing desk d i after (leaf_at new) x) (sym (get_or-set_same (set seats i put) i place none (omega arith))) going)
        | inr e ↦
            subst (λ (x : Place). IsGoing desk d j after (leaf_at new) x) (sym (get_or-set_other (set seats i put) i j place none e ∙ get_or-set_other seats i j put none e))
            (other-going j (λ is. e (different j i (omega arith) inside is)) trustee (get_or seats j none) (all j none (omega arith)))
      ]

pub member-trustee : (plan : PlanNumbers) → plan ≡ three → (t q : ℕ) → Contains (leaf_members plan q) t → IsTrustee t
member-trustee plan is t q member =
    let some = count_of-pos three is-plan in
    let inside : q % count_of three < count_of three = omega arith in
    let subset = IsSubset-coalition three (q % count_of three) inside in
    let there = subst (λ (p : PlanNumbers). Contains (leaf_members p q) t) is member in
    let low = All-contains (λ x. (1 ≤ x) × (x < 4)) (leaf_members three q) t (All-from_IsAscendingIn 1 4 (leaf_members three q) subset.ascending) there in
    let a = low.0 in
    let b = low.1 in
    record { low = omega arith; high = omega arith }

pub get_or-any : {X : Type 0} (xs : List X) (i : ℕ) (a b : X) → i < length xs → get_or xs i a ≡ get_or xs i b
get_or-any [] i a b within = absurd (omega arith)
get_or-any (x ∷ xs) zero a b within = refl
get_or-any (x ∷ xs) (suc i) a b within = get_or-any xs i a b (omega arith)

-- once a leaf is leased, each is still free or leased for a session
still-taken : (i count : ℕ) (uses after : ℕ → LeafUse) → i < count → Grows i uses after → AreTaken count uses → AreTaken count after
still-taken i count uses after inside grows taken q within = elim (at-leaf i uses after grows q within) [
  | inl same ↦ elim (taken q within) [
    | inl is ↦ inl (same ∙ is)
    | inr by ↦ inr (record { session = by.session; within = by.within; coalition = by.coalition; leased = same ∙ by.leased })
  ]
  | inr fresh ↦ inr (record { session = i; within = inside; coalition = fresh.1.0; leased = fresh.1.1 })
]

-- if a session has signed, something is noted
signed-some : (seats : List Place) (put place : Place) (i n m : ℕ) → n ≤ m → (HasSigned place → 0 < m) → i < length seats
    → ((j : ℕ) (none : Place) → j < length seats → HasSigned (get_or seats j none) → 0 < n)
    → (j : ℕ) (none : Place) → j < length (set (set seats i put) i place) → HasSigned (get_or (set (set seats i put) i place) j none) → 0 < m
signed-some seats put place i n m more signed inside all j none within has =
    let first = length-set seats i put in
    let both = length-set (set seats i put) i place in
    elim (cases_eq j i) [
      | inl e ↦
          signed
          (subst HasSigned (get_or-set_same (set seats i put) i place none (omega arith)) (subst (λ (k : ℕ). HasSigned (get_or (set (set seats i put) i place) k none)) e has))
      | inr e ↦
          let was = all j none (omega arith) (subst HasSigned (get_or-set_other (set seats i put) i j place none e ∙ get_or-set_other seats i j put none e) has) in
          omega arith
    ]

-- the drill once session i has moved to this place
pub stepped : (desk : Desk) (own : HasDealing desk.plan desk.dealt) (i : ℕ) (drill after : Drill) (seat put place : Place) (asks : Asks) → IsGood desk own.dealing drill
    → i < length drill.seats.items → seat ≡ get_or drill.seats.items i seat → IsSettled after.table
    → Steps desk own.dealing i (world (uses_of drill.table) drill.trustees) (world (uses_of after.table) after.trustees) seat place asks
    → after.seats.items ≡ set (set drill.seats.items i put) i place → Opens desk own.dealing (length drill.seats.items) (uses_of drill.table) drill.openings.list.items after.openings.list.items place
    → Stepped desk own.dealing i drill after asks
stepped desk own i drill after seat put place asks good within was settled steps seats opens =
    let moves = steps.moves in
    let size : length after.seats.items ≡ length drill.seats.items =
    ap (λ (l : List Place). length l) seats ∙ (length-set (set drill.seats.items i put) i place ∙ length-set drill.seats.items i put) in
    let first = length-set drill.seats.items i put in
    let plan = own.plan_is ∙ desk.plan_is in
    let all = seats-going desk own i (uses_of drill.table) (uses_of after.table) drill.trustees after.trustees moves.grows moves.stays (member-trustee own.dealing.plan plan)
    drill.seats.items put place good.different within good.seats moves.going in
    let both = length-set (set drill.seats.items i put) i place in
    let others : (j : ℕ) (none : Place) → j ≢ i → get_or after.seats.items j none ≡ get_or drill.seats.items j none =
    λ j none e. ap (λ (l : List Place). get_or l j none) seats ∙ get_or-set_other (set drill.seats.items i put) i j place none e ∙ get_or-set_other drill.seats.items i j put none e in
    let before : seat ≡ get_or drill.seats.items i Refused = was ∙ get_or-any drill.seats.items i seat Refused within in
    let now : place ≡ get_or after.seats.items i Refused = sym (ap (λ (l : List Place). get_or l i Refused) seats ∙ get_or-set_same (set drill.seats.items i put) i place Refused (omega arith)) in
    let going = subst (λ (x : Place). IsGoing desk own.dealing i (uses_of drill.table) (leaf_at drill.trustees) x) (sym before) (good.seats i Refused within) in
    let more = replies-more desk own.dealing i (uses_of drill.table) (uses_of after.table) (leaf_at drill.trustees) (leaf_at after.trustees) moves.grows seat place asks going moves.going steps.advances in
    record {
      stays = record {
        good = record {
          different = subst (λ (n : ℕ). DifferentIds n) (sym size) good.different;
          shares = moves.shares;
          table = settled;
          free = still-free desk own i (uses_of drill.table) (uses_of after.table) drill.trustees after.trustees moves.grows moves.stays good.free;
          seats = λ j none inside.
              subst (λ (l : List Place). IsGoing desk own.dealing j (uses_of after.table) (leaf_at after.trustees) (get_or l j none)) (sym seats)
              (all j none (subst (λ (l : List Place). j < length l) seats inside));
          taken = subst (λ (n : ℕ). AreTaken n (uses_of after.table)) (sym size)
              (still-taken i (length drill.seats.items) (uses_of drill.table) (uses_of after.table) within moves.grows good.taken);
          leaves = λ coalition few.
              leaves-stay desk own.dealing i (uses_of drill.table) (uses_of after.table) (leaf_at drill.trustees) (leaf_at after.trustees) drill.seats.items after.seats.items coalition
              within size others moves.grows (good.seats i Refused within)
              (subst (λ (l : List Place). IsGoing desk own.dealing i (uses_of after.table) (leaf_at after.trustees) (get_or l i Refused)) (sym seats) (all i Refused (omega arith)))
              (good.leaves coalition few);
          openings = subst (λ (n : ℕ). AreOwn desk own.dealing n (uses_of after.table) after.openings.list.items) (sym size)
              (still-own desk own.dealing (length drill.seats.items) i (uses_of drill.table) (uses_of after.table) after.openings.list.items moves.grows opens.own);
          some = λ j none inside has.
              signed-some drill.seats.items put place i (length drill.openings.list.items) (length after.openings.list.items) opens.keeps opens.some within good.some j none
              (subst (λ (l : List Place). j < length l) seats inside) (subst (λ (l : List Place). HasSigned (get_or l j none)) seats has);
        };
        parts = moves.parts;
      };
      goes_on = λ none.
          let old : get_or drill.seats.items i none ≡ seat = get_or-any drill.seats.items i none seat within ∙ sym was in
          let new : get_or after.seats.items i none ≡ place = ap (λ (l : List Place). get_or l i none) seats ∙ get_or-set_same (set drill.seats.items i put) i place none (omega arith) in
          subst (λ (x : Place). next_step x ≤ steps_of (get_or after.seats.items i none)) (sym old) (subst (λ (x : Place). next_step seat ≤ steps_of x) (sym new) steps.advances.least);
      others = others;
      taken = all-replies desk own.dealing i (uses_of drill.table) (uses_of after.table) (leaf_at drill.trustees) (leaf_at after.trustees) drill.seats.items after.seats.items within size others asks
          (subst (λ (x : Place). asks.put + replies_of x ≡ replies_of (get_or after.seats.items i Refused)) before (subst (λ (x : Place). asks.put + replies_of seat ≡ replies_of x) now more));
      follows = λ p f.
          follow-step desk own.dealing i (uses_of drill.table) (uses_of after.table) (leaf_at drill.trustees) (leaf_at after.trustees) drill.seats.items after.seats.items within size others moves.grows
          (good.leaves (i % 3) (omega arith)) p f seat place asks now before going moves.going steps.advances;
    }

-- what may be asked if session i stands at this place
pub may-of : (desk : Desk) (own : HasDealing desk.plan desk.dealt) (i : ℕ) (uses : ℕ → LeafUse) (old : Trustees) (place : Place) (next : NextAsk) → IsGoing desk own.dealing i uses (leaf_at old) place
    → HaveShares own.dealing old → IsNextOf desk i next place → MayAsk (share_at old next.member) (leaf_at old next.member) next.ask
may-of desk own i uses old Waiting next going shares is = absurd is
may-of desk own i uses old (Running s) next going shares is = may-ask desk own i uses (leaf_at old) s next (share_at old next.member) going.0 is (shares next.member is.trustee)
may-of desk own i uses old (Signed leaf) next going shares is = absurd is
may-of desk own i uses old Refused next going shares is = absurd is

-- a session whose next ask was put, and that did not take the answer
pub drops : (desk : Desk) (own : HasDealing desk.plan desk.dealt) (i : ℕ) (uses : ℕ → LeafUse) (old new : Trustees) (place : Place) (next : NextAsk) (state : LeafState) (asks : Asks)
    → IsGoing desk own.dealing i uses (leaf_at old) place → HaveShares own.dealing old → SameShares old new → IsNextOf desk i next place → SetsAt old new next.member next.ask.leaf state
    → ((state ≡ state_before next.ask) ⊎ (state ≡ state_after next.ask)) → asks.granted + asks.cut ≡ asks.put → Moves desk own.dealing i (world uses old) (world uses new) place asks
drops desk own i uses old new Waiting next state asks going shares same is sets known parts = absurd is
drops desk own i uses old new (Running s) next state asks going shares same is sets known parts =
    let m = message_bytes i in
    let leaf : next.ask.leaf ≡ s.leaf = ap (λ (a : Ask). a.leaf) is.ask in
    let here = subst (λ (q : ℕ). SetsAt old new next.member q state) leaf sets in
    let stands : (state ≡ state_before (asked s m)) ⊎ (state ≡ state_after (asked s m)) = elim known [
      | inl b ↦ inl (b ∙ ap state_before is.ask ∙ before-any _ [] (digest_of s m) s)
      | inr a ↦ inr (a ∙ ap state_after is.ask ∙ after-any _ [] (digest_of s m) s)
    ] in
    let p = pair-of s going.0.session (going.0.of.plan_is ∙ desk.plan_is) in
    record {
      grows = inl (λ q within. refl);
      going = (put-on desk own.dealing i uses old new s next.member state going.0 p is.awaits here stands, going.1);
      shares = same-shares own.dealing old new shares same;
      stays = others-stay old new next.member s.leaf i state uses here going.0.leased
          (subst (λ (p : PlanNumbers). Contains (leaf_members p s.leaf) next.member) (going.0.of.plan_is ∙ desk.plan_is) is.awaits.0);
      parts = parts;
    }
drops desk own i uses old new (Signed leaf) next state asks going shares same is sets known parts = absurd is
drops desk own i uses old new Refused next state asks going shares same is sets known parts = absurd is

pub dropped : (desk : Desk) (own : HasDealing desk.plan desk.dealt) (i : ℕ) (drill : Drill) (new : Trustees) (openings : Openings) (seat : Place) (asks : Asks) → IsGood desk own.dealing drill
    → i < length drill.seats.items → seat ≡ get_or drill.seats.items i seat
    → Moves desk own.dealing i (world (uses_of drill.table) drill.trustees) (world (uses_of drill.table) new) seat asks
    → AreOwn desk own.dealing (length drill.seats.items) (uses_of drill.table) openings.list.items → length drill.openings.list.items ≤ length openings.list.items
    → StaysGood desk own.dealing (record { trustees = new; table = drill.table; seats = drill.seats; openings = openings }) asks
dropped desk own i drill new openings seat asks good within was moves noted more = record {
  good = record {
    different = good.different;
    shares = moves.shares;
    table = good.table;
    free = still-free desk own i (uses_of drill.table) (uses_of drill.table) drill.trustees new moves.grows moves.stays good.free;
    seats = λ j none inside. elim (cases_eq j i) [
      | inl e ↦
          subst (λ (k : ℕ). IsGoing desk own.dealing k (uses_of drill.table) (leaf_at new) (get_or drill.seats.items k none)) (sym e)
          (subst (λ (x : Place). IsGoing desk own.dealing i (uses_of drill.table) (leaf_at new) x) (was ∙ get_or-any drill.seats.items i seat none within) moves.going)
      | inr e ↦
          other-going desk own i (uses_of drill.table) (uses_of drill.table) drill.trustees new moves.grows moves.stays j (λ is. e (good.different j i inside within is))
          (member-trustee own.dealing.plan (own.plan_is ∙ desk.plan_is)) (get_or drill.seats.items j none) (good.seats j none inside)
    ];
    taken = good.taken;
    leaves = good.leaves;
    openings = noted;
    some = λ j none inside has. let low = good.some j none inside has in omega arith;
  };
  parts = moves.parts;
}

-- what an ask whose disk may stop sets
pub record CutSome (old new : Trustees) (next : NextAsk) (answer : Answer) : Type 0 where
  pub state : LeafState
  pub sets : SetsAt old new next.member next.ask.leaf state
  pub known : (state ≡ state_before next.ask) ⊎ (state ≡ state_after next.ask)
  pub answered : answer ≢ answers.Refused

pub cut-some : (old new : Trustees) (next : NextAsk) (answer : Answer) → CutAt old new next.member next.ask answer → CutSome old new next answer
cut-some old new next (answers.Granted grant) is = record { state = state_after next.ask; sets = is.1; known = inr refl; answered = λ e. absurd (cc) }
cut-some old new next answers.Refused is = absurd is
cut-some old new next answers.Stopped (inl before) = record { state = state_before next.ask; sets = before; known = inl refl; answered = λ e. absurd (cc) }
cut-some old new next answers.Stopped (inr after) = record { state = state_after next.ask; sets = after; known = inr refl; answered = λ e. absurd (cc) }

-- a drill whose trustees keep all leaves
pub loaded : (desk : Desk) (own : HasDealing desk.plan desk.dealt) (drill : Drill) (new : Trustees) → IsGood desk own.dealing drill → SameShares drill.trustees new → SameAt drill.trustees new
    → IsGood desk own.dealing (record { trustees = new; table = drill.table; seats = drill.seats; openings = drill.openings })
loaded desk own drill new good shares same = record {
  different = good.different;
  shares = same-shares own.dealing drill.trustees new good.shares shares;
  table = good.table;
  free = λ t q trustee within is. same t q trustee within ∙ good.free t q trustee within is;
  seats = λ j none inside.
      let number = suc (length drill.seats.items) in
      loaded-seat desk own j (uses_of drill.table) drill.trustees new same (get_or drill.seats.items j none) (good.seats j none inside);
  taken = good.taken;
  leaves = good.leaves;
  openings = good.openings;
  some = good.some;
}
  where
    loaded-seat : (desk : Desk) (own : HasDealing desk.plan desk.dealt) (j : ℕ) (uses : ℕ → LeafUse) (old new : Trustees) → SameAt old new → (place : Place)
        → IsGoing desk own.dealing j uses (leaf_at old) place → IsGoing desk own.dealing j uses (leaf_at new) place
    loaded-seat desk own j uses old new same Waiting going = going
    loaded-seat desk own j uses old new same (Running s) going =
        let c = going.0 in
        let within : s.leaf < 32 = (let h : s.key.params.h ≡ 5 = ap (λ (k : PublicKey). k.params.h) c.of.key_is ∙ desk.height in rw h at c.session.leaf) in
        let p = pair-of s c.session (c.of.plan_is ∙ desk.plan_is) in (
          record {
            session = c.session;
            of = c.of;
            coalition = c.coalition;
            leased = c.leased;
            only = c.only;
            c = c.c;
            seats = c.seats;
            members = λ t member.
                let e = same t s.leaf (trustee-of s p t member) within in
                let st = c.members t member in
                record { may = elim st.may [ inl b ↦ inl (e ∙ b) | inr a ↦ inr (e ∙ a) ]; kept = λ some. e ∙ st.kept some };
          },
          going.1,
        )
    loaded-seat desk own j uses old new same (Signed leaf) going = record {
      within = going.within;
      coalition = going.coalition;
      leased = going.leased;
      only = going.only;
      opened = λ t member. same t leaf (member-trustee own.dealing.plan (own.plan_is ∙ desk.plan_is) t leaf member) going.within ∙ going.opened t member;
    }
    loaded-seat desk own j uses old new same Refused going = going
