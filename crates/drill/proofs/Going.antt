-- A session that is on its course: what it may ask, and what the answers do to it.
use Rattle.std.proofs.Common.{◌≡◌, ◌≢◌, ◌⊎◌, ◌<◌, ◌≤◌, ◌%◌, ◌^◌, ℕ, false, suc, List, [], ◌∷◌, All, Contains, IfSome, None, Some, inl, inr, refl, sym, ◌∙◌, ap, subst, arith}
use Rattle.std.proofs.lemmas.Bool.{cases_eq}
use Rattle.std.proofs.lemmas.List.Elements.{All-cons, All-head, All-nil, All-tail}
use Rattle.coalition_map.specs.Coalitions.{IsPlan, PlanNumbers, leaf_members}
use Rattle.drill_schedule.specs.Draws.{message_bytes}
use Rattle.drill_trustees.specs.Members.{MayAsk, state_after, state_before}
use Rattle.drill_trustees.specs.Trustees.{IsTrustee, SetsAt, leaf_at}
use Rattle.drill_trustees.specs.declared.trustees.Trustees.{Trustees}
use Rattle.leaf_table.specs.Entries.{IsLeased, LeafUse}
use Rattle.lms_bytes.specs.declared.ask.Ask.{Ask}
use Rattle.mask_prf.specs.Masks.{check_tag_of}
use Rattle.lms_bytes.specs.declared.ask.Second.{Second}
use Rattle.lms_bytes.specs.declared.params.Params.{Params}
use Rattle.lms_bytes.specs.declared.public_key.PublicKey.{PublicKey}
use Rattle.opening_journal.specs.Entries.{LeafState}
use Rattle.reference_value.specs.Dealing.{Dealing, check_tag, leaf_randomizer, reference}
use Rattle.reference_value.specs.Places.{tag_in}
use Rattle.reference_value.proofs.Reference.{tag_in-reference}
use Rattle.session_core.specs.Asks.{ask_with, kept_masks, masks_at}
use Rattle.session_core.specs.Seats.{Seat, filled_seat, is_filled, with_reply}
use Rattle.session_core.specs.State.{IsSession, SameAsk, State, round_of, seats_of}
use Rattle.session_core.specs.Verdicts.{digest_of}
use Rattle.share_files.specs.declared.share.Share.{Share}
use Rattle.trustee_core.specs.Decisions.{HasTag, longest_message}
use Rattle.drill.specs.Courses.{Awaits, count_filled, IsHonest, IsNext, IsOnCourse, IsOnly, IsShareOf, Stands, asked, own_masks}
use Rattle.drill.specs.Ids.{id_of}
use Rattle.drill.specs.Keys.{HasDealing}
use Rattle.drill.specs.Seats.{IsOf}
use Rattle.drill.specs.declared.asks.NextAsk.{NextAsk}
use Rattle.drill.specs.declared.desk.Desk.{Desk}
use Rattle.drill.proofs.Desks.{is-plan, three}
use Rattle.drill.proofs.Rounds.{Pair, by-round, kept-one, kept-two, first-member, reply-one, reply-two, second-member, which}

-- ---- what may be asked

tagged : (d : Dealing) (share : Share) (t : ℕ) (tag digest : List ℕ) → IsShareOf d t share → (s : State) → tag ≡ check_tag d s.leaf t → IfSome s.c (λ c. c ≡ leaf_randomizer d s.leaf)
    → (second : Second) → (ask_with s tag digest).second ≡ Some second → HasTag share (ask_with s tag digest) second
tagged d share t tag digest own = by-round (λ s. tag ≡ check_tag d s.leaf t → IfSome s.c (λ c. c ≡ leaf_randomizer d s.leaf)
    → (second : Second) → (ask_with s tag digest).second ≡ Some second → HasTag share (ask_with s tag digest) second)
    (λ key plan leaf id first after is c second same. absurd (cc))
    (λ key plan leaf id c first after is c_is second same.
    let parts : record { c = c; tag = tag; digest = digest } ≡ second = cc in
    subst (λ (x : Second). x.tag ≡ check_tag_of share.key share.id leaf x.c) parts (rw (own.key, own.id, c_is) is))

pub before-any : (tag tag' digest : List ℕ) (s : State) → state_before (ask_with s tag digest) ≡ state_before (ask_with s tag' digest)
before-any tag tag' digest = by-round (λ s. state_before (ask_with s tag digest) ≡ state_before (ask_with s tag' digest))
    (λ key plan leaf id first after. refl) (λ key plan leaf id c first after. refl)

pub after-any : (tag tag' digest : List ℕ) (s : State) → state_after (ask_with s tag digest) ≡ state_after (ask_with s tag' digest)
after-any tag tag' digest = by-round (λ s. state_after (ask_with s tag digest) ≡ state_after (ask_with s tag' digest))
    (λ key plan leaf id first after. refl) (λ key plan leaf id c first after. refl)

tag-is : (d : Dealing) (params : Params) (plan : PlanNumbers) (leaves : List ℕ) (q t : ℕ) → params ≡ d.params → plan ≡ d.plan → leaves ≡ reference d → IsPlan d.plan
    → q < 2 ^ d.params.h → Contains (leaf_members d.plan q) t → tag_in params plan leaves q t ≡ check_tag d q t
tag-is d params plan leaves q t set plan_is leaves_is sound leaf member =
    ap (λ (p : Params). tag_in p plan leaves q t) set
    ∙ (ap (λ (p : PlanNumbers). tag_in d.params p leaves q t) plan_is
    ∙ (ap (λ (l : List ℕ). tag_in d.params d.plan l q t) leaves_is ∙ tag_in-reference d q t sound leaf member))

module _ (desk : Desk) (own : HasDealing desk.plan desk.dealt) where
  abbrev d : Dealing
  d = own.dealing

  pub of-plan : d.plan ≡ three
  of-plan = own.plan_is ∙ desk.plan_is

  pub may-ask : (i : ℕ) (map : ℕ → LeafUse) (leaves : ℕ → ℕ → LeafState) (s : State) (next : NextAsk) (share : Share) → IsOnCourse desk d i map leaves s
      → IsNext desk s (message_bytes i) next → IsShareOf d next.member share → MayAsk share (leaves next.member) next.ask
  may-ask i map leaves s next share course is of =
      let m = message_bytes i in
      let t = next.member in
      let digest = digest_of s m in
      let tag = tag_in s.key.params s.plan desk.dealt.reference.items s.leaf t in
      let params : s.key.params ≡ d.params = ap (λ (k : PublicKey). k.params) course.of.key_is ∙ own.dealt_is.params in
      let plan : s.plan ≡ d.plan = course.of.plan_is ∙ sym own.plan_is in
      let sound = subst (λ (p : PlanNumbers). IsPlan p) (sym of-plan) is-plan in
      let leaf : s.leaf < 2 ^ d.params.h = subst (λ (p : Params). s.leaf < 2 ^ p.h) params course.session.leaf in
      let member : Contains (leaf_members d.plan s.leaf) t = subst (λ (p : PlanNumbers). Contains (leaf_members p s.leaf) t) plan is.awaits.0 in
      let tagged_is : tag ≡ check_tag d s.leaf t = tag-is d s.key.params s.plan desk.dealt.reference.items s.leaf t params plan own.dealt_is.reference_is sound leaf member in
      let stands = course.members t is.awaits.0 in
      let small : s.message.length ≤ longest_message = rw course.of.message_is (omega arith) in
      let may : MayAsk share (leaves t) (ask_with s tag digest) = record {
        for_leaf = record {
          key = ap (λ (k : PublicKey). k.id) course.of.key_is ∙ own.dealt_is.id ∙ sym of.id;
          leaf = subst (λ (p : Params). s.leaf < 2 ^ p.h) (sym of.params) leaf;
          member = rw (of.plan, of.member) member;
          length = small;
        };
        tag = tagged d share t tag digest of s tagged_is course.c;
        state = elim stands.may [ inl before ↦ inl (before ∙ before-any [] tag digest s) | inr after ↦ inr (after ∙ after-any [] tag digest s) ];
      } in
      subst (λ (a : Ask). MayAsk share (leaves t) a) (sym is.ask) may

-- ---- what an answer does to a session

-- the same for a seat
pub record StandsAt (leaves : ℕ → ℕ → LeafState) (s : State) (message : List ℕ) (seat : Seat) : Type 0 where
  pub may : (leaves seat.member s.leaf ≡ state_before (asked s message)) ⊎ (leaves seat.member s.leaf ≡ state_after (asked s message))
  pub kept : masks_at seat ≢ None → leaves seat.member s.leaf ≡ state_after (asked s message)

pub trustee-of : (s : State) (p : Pair s) (t : ℕ) → Contains (leaf_members s.plan s.leaf) t → IsTrustee t
trustee-of s p t member =
    let low = p.low in
    let order = p.order in
    let high = p.high in
    elim (which s p t member) [
      | inl same ↦ record { low = omega arith; high = omega arith }
      | inr same ↦ record { low = omega arith; high = omega arith }
    ]

count-more : (x y : Seat) (masks : List ℕ) → is_filled x ≡ false → count_filled (filled_seat x 0 masks ∷ y ∷ []) ≡ suc (count_filled (x ∷ y ∷ []))
unfolding count_filled
count-more x y masks empty = rw empty (omega arith)

count-last : (x y : Seat) (masks : List ℕ) → is_filled y ≡ false → count_filled (x ∷ filled_seat y 0 masks ∷ []) ≡ suc (count_filled (x ∷ y ∷ []))
unfolding count_filled
count-last x y masks empty = rw empty (omega arith)

no-masks : (seat : Seat) → seat.code ≡ Some 0 → masks_at seat ≢ None
no-masks seat is none = let some : masks_at seat ≡ Some seat.body = rw is refl in absurd (cc)

not-filled : (seat : Seat) → seat.code ≡ None → is_filled seat ≡ false
not-filled seat is = rw is refl

empty-seat : (d : Dealing) (s : State) (digest : List ℕ) (seat : Seat) → IsHonest d s digest seat → masks_at seat ≡ None → is_filled seat ≡ false
empty-seat d s digest seat (inl none) is = not-filled seat none
empty-seat d s digest seat (inr own) is = absurd (no-masks seat own.0 is)

module _ (desk : Desk) (d : Dealing) (i : ℕ) (map : ℕ → LeafUse) where
  abbrev m : List ℕ
  m = message_bytes i

  abbrev Honest : State → Seat → Type 0
  Honest s = IsHonest d s (digest_of s m)

  pub course : (leaves : ℕ → ℕ → LeafState) (s : State) (p : Pair s) → IsSession s → IsOf desk.dealt.public desk.plan i s → s.leaf % 3 ≡ i % 3 → map s.leaf ≡ IsLeased (id_of i)
      → IsOnly i map s.leaf → IfSome s.c (λ c. c ≡ leaf_randomizer d s.leaf) → Honest s p.x → Honest s p.y → StandsAt leaves s m p.x → StandsAt leaves s m p.y → IsOnCourse desk d i map leaves s
  course leaves s p session of coalition leased only c hx hy sx sy = record {
    session = session;
    of = of;
    coalition = coalition;
    leased = leased;
    only = only;
    c = c;
    seats = subst (λ (l : List Seat). All (Honest s) l) (sym p.seats) (All-cons (Honest s) p.x (p.y ∷ []) hx (All-cons (Honest s) p.y [] hy (All-nil (Honest s))));
    members = λ t member. elim (which s p t member) [
      | inl same ↦ subst (λ (u : ℕ). Stands leaves s m u) (sym same) (record { may = sx.may; kept = λ some. sx.kept (λ none. some (kept-one s p ∙ none)) })
      | inr same ↦ subst (λ (u : ℕ). Stands leaves s m u) (sym same) (record { may = sy.may; kept = λ some. sy.kept (λ none. some (kept-two s p ∙ none)) })
    ];
  }

  pub honest-x : (leaves : ℕ → ℕ → LeafState) (s : State) (p : Pair s) → IsOnCourse desk d i map leaves s → Honest s p.x
  honest-x leaves s p c = All-head (Honest s) p.x (p.y ∷ []) (subst (λ (l : List Seat). All (Honest s) l) p.seats c.seats)

  pub honest-y : (leaves : ℕ → ℕ → LeafState) (s : State) (p : Pair s) → IsOnCourse desk d i map leaves s → Honest s p.y
  honest-y leaves s p c = All-head (Honest s) p.y [] (All-tail (Honest s) p.x (p.y ∷ []) (subst (λ (l : List Seat). All (Honest s) l) p.seats c.seats))

  stands-x : (leaves : ℕ → ℕ → LeafState) (s : State) (p : Pair s) → IsOnCourse desk d i map leaves s → StandsAt leaves s m p.x
  stands-x leaves s p c =
      let st = c.members p.x.member (first-member s p) in
      record { may = st.may; kept = λ some. st.kept (λ none. some (sym (kept-one s p) ∙ none)) }

  stands-y : (leaves : ℕ → ℕ → LeafState) (s : State) (p : Pair s) → IsOnCourse desk d i map leaves s → StandsAt leaves s m p.y
  stands-y leaves s p c =
      let st = c.members p.y.member (second-member s p) in
      record { may = st.may; kept = λ some. st.kept (λ none. some (sym (kept-two s p) ∙ none)) }

  -- an ask that is put, and whose answer is dropped
  pub put-on : (old new : Trustees) (s : State) (t : ℕ) (state : LeafState) → IsOnCourse desk d i map (leaf_at old) s → Pair s → Awaits s t → SetsAt old new t s.leaf state
      → ((state ≡ state_before (asked s m)) ⊎ (state ≡ state_after (asked s m))) → IsOnCourse desk d i map (leaf_at new) s
  put-on old new s t state c p awaits sets is = record {
    session = c.session;
    of = c.of;
    coalition = c.coalition;
    leased = c.leased;
    only = c.only;
    c = c.c;
    seats = c.seats;
    members = λ u member. elim (cases_eq u t) [
      | inl same ↦ subst (λ (v : ℕ). Stands (leaf_at new) s m v) (sym same) (record {
        may = elim is [ inl b ↦ inl (sets.here ∙ b) | inr a ↦ inr (sets.here ∙ a) ];
        kept = λ some. absurd (some awaits.1);
      })
      | inr other ↦
          let e = sets.others u s.leaf (trustee-of s p u member) other in
          let st = c.members u member in
          record {
            may = elim st.may [ inl b ↦ inl (e ∙ b) | inr a ↦ inr (e ∙ a) ];
            kept = λ some. e ∙ st.kept some;
          }
    ];
  }

  same-masks : (s s' : State) (t : ℕ) → SameAsk s s' → own_masks d s' (digest_of s' m) t ≡ own_masks d s (digest_of s m) t
  same-masks s s' t same = λ j. let z : State = record { key = same.key j; plan = same.plan j; leaf = same.leaf j; message = same.message j; c = same.c j; first = s.first; second = s.second } in own_masks d z (digest_of z m) t

  same-asked : (s s' : State) → SameAsk s s' → asked s' m ≡ asked s m
  same-asked s s' same = λ j. let z : State = record { key = same.key j; plan = same.plan j; leaf = same.leaf j; message = same.message j; c = same.c j; first = s.first; second = s.second } in asked z m

  move-honest : (s s' : State) (seat : Seat) → SameAsk s s' → Honest s seat → Honest s' seat
  move-honest s s' seat same (inl none) = inl none
  move-honest s s' seat same (inr own) = inr (own.0, own.1 ∙ sym (same-masks s s' seat.member same))

  move-stands : (old new : Trustees) (s s' : State) (seat : Seat) → leaf_at new seat.member s.leaf ≡ leaf_at old seat.member s.leaf → SameAsk s s'
      → StandsAt (leaf_at old) s m seat → StandsAt (leaf_at new) s' m seat
  move-stands old new s s' seat e same st =
      let at : leaf_at new seat.member s'.leaf ≡ leaf_at old seat.member s.leaf = ap (λ (q : ℕ). leaf_at new seat.member q) same.leaf ∙ e in
      let a = sym (same-asked s s' same) in
      record {
        may = elim st.may [ inl b ↦ inl (at ∙ b ∙ ap state_before a) | inr b ↦ inr (at ∙ b ∙ ap state_after a) ];
        kept = λ some. at ∙ st.kept some ∙ ap state_after a;
      }

  here-stands : (old new : Trustees) (s s' : State) (seat : Seat) (t : ℕ) → seat.member ≡ t → SetsAt old new t s.leaf (state_after (asked s m)) → SameAsk s s' → StandsAt (leaf_at new) s' m seat
  here-stands old new s s' seat t is sets same =
      let at : leaf_at new seat.member s'.leaf ≡ state_after (asked s' m) =
      ap (λ (q : ℕ). leaf_at new seat.member q) same.leaf ∙ (ap (λ (u : ℕ). leaf_at new u s.leaf) is ∙ (sets.here ∙ ap state_after (sym (same-asked s s' same)))) in
      record { may = inr at; kept = λ some. at }

  -- an answer that is taken
  pub record Took (leaves : ℕ → ℕ → LeafState) (s s' : State) : Type 0 where
    pub course : IsOnCourse desk d i map leaves s'
    pub filled : count_filled (seats_of s') ≡ suc (count_filled (seats_of s))

  took-x : (old new : Trustees) (s s' : State) (masks : List ℕ) (p : Pair s) → IsOnCourse desk d i map (leaf_at old) s → is_filled p.x ≡ false
      → SetsAt old new p.x.member s.leaf (state_after (asked s m)) → SameAsk s s' → IsSession s' → IsOf desk.dealt.public desk.plan i s' → seats_of s' ≡ with_reply (seats_of s) p.x.member 0 masks
      → masks ≡ own_masks d s (digest_of s m) p.x.member → Took (leaf_at new) s s'
  took-x old new s s' masks p c empty sets same session of seats is =
      let x = filled_seat p.x 0 masks in
      let now : seats_of s' ≡ x ∷ p.y ∷ [] = seats ∙ (ap (λ (l : List Seat). with_reply l p.x.member 0 masks) p.seats ∙ reply-one p.x p.y masks) in
      let all : leaf_members s'.plan s'.leaf ≡ leaf_members s.plan s.leaf = ap (λ (pl : PlanNumbers). leaf_members pl s'.leaf) same.plan ∙ ap (λ (q : ℕ). leaf_members s.plan q) same.leaf in
      let p' : Pair s' = record { x = x; y = p.y; seats = now; members = all ∙ p.members; low = p.low; order = p.order; high = p.high } in
      let other = sets.others p.y.member s.leaf (trustee-of s p p.y.member (second-member s p)) (λ e. absurd (let o = p.order in omega arith)) in
      record {
        course =
            course (leaf_at new) s' p' session of (ap (λ (q : ℕ). q % 3) same.leaf ∙ c.coalition) (ap map same.leaf ∙ c.leased) (λ q within is. c.only q within is ∙ sym same.leaf) (rw (same.c, same.leaf) c.c)
            (inr (refl, is ∙ sym (same-masks s s' p.x.member same))) (move-honest s s' p.y same (honest-y (leaf_at old) s p c))
            (here-stands old new s s' x p.x.member refl sets same) (move-stands old new s s' p.y other same (stands-y (leaf_at old) s p c));
        filled = ap count_filled now ∙ (count-more p.x p.y masks empty ∙ ap (λ (l : List Seat). suc (count_filled l)) (sym p.seats));
      }

  took-y : (old new : Trustees) (s s' : State) (masks : List ℕ) (p : Pair s) → IsOnCourse desk d i map (leaf_at old) s → is_filled p.y ≡ false
      → SetsAt old new p.y.member s.leaf (state_after (asked s m)) → SameAsk s s' → IsSession s' → IsOf desk.dealt.public desk.plan i s' → seats_of s' ≡ with_reply (seats_of s) p.y.member 0 masks
      → masks ≡ own_masks d s (digest_of s m) p.y.member → Took (leaf_at new) s s'
  took-y old new s s' masks p c empty sets same session of seats is =
      let y = filled_seat p.y 0 masks in
      let now : seats_of s' ≡ p.x ∷ y ∷ [] = seats ∙ (ap (λ (l : List Seat). with_reply l p.y.member 0 masks) p.seats ∙ reply-two p.x p.y masks p.order) in
      let all : leaf_members s'.plan s'.leaf ≡ leaf_members s.plan s.leaf = ap (λ (pl : PlanNumbers). leaf_members pl s'.leaf) same.plan ∙ ap (λ (q : ℕ). leaf_members s.plan q) same.leaf in
      let p' : Pair s' = record { x = p.x; y = y; seats = now; members = all ∙ p.members; low = p.low; order = p.order; high = p.high } in
      let other = sets.others p.x.member s.leaf (trustee-of s p p.x.member (first-member s p)) (λ e. absurd (let o = p.order in omega arith)) in
      record {
        course =
            course (leaf_at new) s' p' session of (ap (λ (q : ℕ). q % 3) same.leaf ∙ c.coalition) (ap map same.leaf ∙ c.leased) (λ q within is. c.only q within is ∙ sym same.leaf) (rw (same.c, same.leaf) c.c)
            (move-honest s s' p.x same (honest-x (leaf_at old) s p c)) (inr (refl, is ∙ sym (same-masks s s' p.y.member same)))
            (move-stands old new s s' p.x other same (stands-x (leaf_at old) s p c)) (here-stands old new s s' y p.y.member refl sets same);
        filled = ap count_filled now ∙ (count-last p.x p.y masks empty ∙ ap (λ (l : List Seat). suc (count_filled l)) (sym p.seats));
      }

  -- nothing from a member that is awaited is kept
  pub empty-x : (leaves : ℕ → ℕ → LeafState) (s : State) (p : Pair s) → IsOnCourse desk d i map leaves s → kept_masks s (round_of s) p.x.member ≡ None → is_filled p.x ≡ false
  empty-x leaves s p c none = empty-seat d s (digest_of s m) p.x (honest-x leaves s p c) (sym (kept-one s p) ∙ none)

  pub empty-y : (leaves : ℕ → ℕ → LeafState) (s : State) (p : Pair s) → IsOnCourse desk d i map leaves s → kept_masks s (round_of s) p.y.member ≡ None → is_filled p.y ≡ false
  empty-y leaves s p c none = empty-seat d s (digest_of s m) p.y (honest-y leaves s p c) (sym (kept-two s p) ∙ none)

  pub took : (old new : Trustees) (s s' : State) (t : ℕ) (masks : List ℕ) → IsOnCourse desk d i map (leaf_at old) s → Pair s → Awaits s t
      → SetsAt old new t s.leaf (state_after (asked s m)) → SameAsk s s' → IsSession s' → IsOf desk.dealt.public desk.plan i s' → seats_of s' ≡ with_reply (seats_of s) t 0 masks
      → masks ≡ own_masks d s (digest_of s m) t → Took (leaf_at new) s s'
  took old new s s' t masks c p awaits sets same session of seats is = elim (which s p t awaits.0) [
    | inl e ↦
        took-x old new s s' masks p c (empty-x (leaf_at old) s p c (subst (λ (u : ℕ). kept_masks s (round_of s) u ≡ None) e awaits.1))
        (subst (λ (u : ℕ). SetsAt old new u s.leaf (state_after (asked s m))) e sets) same session of (subst (λ (u : ℕ). seats_of s' ≡ with_reply (seats_of s) u 0 masks) e seats)
        (subst (λ (u : ℕ). masks ≡ own_masks d s (digest_of s m) u) e is)
    | inr e ↦
        took-y old new s s' masks p c (empty-y (leaf_at old) s p c (subst (λ (u : ℕ). kept_masks s (round_of s) u ≡ None) e awaits.1))
        (subst (λ (u : ℕ). SetsAt old new u s.leaf (state_after (asked s m))) e sets) same session of (subst (λ (u : ℕ). seats_of s' ≡ with_reply (seats_of s) u 0 masks) e seats)
        (subst (λ (u : ℕ). masks ≡ own_masks d s (digest_of s m) u) e is)
  ]
