-- The reply to a session's next ask: a grant's masks are the member's own.
use Rattle.std.proofs.Common.{◌≡◌, ◌*◌, ℕ, true, false, List, ◌++◌, None, Some, length, inl, inr, refl, sym, ◌∙◌, ap, subst}
use Rattle.drill_schedule.specs.Draws.{message_bytes}
use Rattle.drill_trustees.specs.Trustees.{leaf_at, share_at}
use Rattle.drill_trustees.specs.declared.trustees.Trustees.{Trustees}
use Rattle.leaf_table.specs.Entries.{LeafUse}
use Rattle.lms_bytes.specs.Bytes.{joined}
use Rattle.lms_bytes.specs.Digits.{digit_of}
use Rattle.lms_bytes.specs.declared.params.Params.{Params}
use Rattle.lms_bytes.specs.declared.public_key.PublicKey.{PublicKey}
use Rattle.lms_bytes.proofs.Joined.{joined-more, joined-none, length-joined}
use Rattle.mask_prf.specs.Masks.{chain_mask_of, random_mask_of}
use Rattle.mask_prf.proofs.Lengths.{length-chain_mask_of, length-random_mask_of}
use Rattle.opening_journal.specs.Entries.{LeafState}
use Rattle.reference_value.specs.Dealing.{Dealing, chain_mask, key_of}
use Rattle.session_core.specs.Asks.{ask_with, kept_masks}
use Rattle.session_core.specs.Replies.{with_delivery}
use Rattle.session_core.specs.Seats.{Seat, has_seat, is_filled, seat_of, with_reply}
use Rattle.session_core.specs.State.{IsSession, SameAsk, State, body_length, round_of, seats_of}
use Rattle.session_core.specs.Verdicts.{digest_of}
use Rattle.share_files.specs.declared.share.Share.{Share}
use Rattle.trustee_core.specs.Grants.{ask_of}
use Rattle.trustee_core.specs.declared.grant.Grant.{Grant}
use Rattle.drill.specs.Courses.{Awaits, IsGranted, IsOnCourse, IsShareOf, World, head_with, masks_joined, own_masks}
use Rattle.drill.specs.Keys.{HasDealing}
use Rattle.drill.specs.Seats.{IsOf}
use Rattle.drill.specs.declared.asks.NextAsk.{NextAsk}
use Rattle.drill.specs.declared.desk.Desk.{Desk}
use Rattle.drill.proofs.Going.{Took, empty-x, empty-y, took}
use Rattle.drill.proofs.Rounds.{Pair, by-round, grant-kept, grant_head, has-one, has-two, pair-of, seat-one, seat-two, which}

joined-one : (f : ℕ → List ℕ) → joined f 1 ≡ f 0
joined-one f = joined-more f 0 ∙ ap (λ (l : List ℕ). l ++ f 0) (joined-none f)

masks-are : (d : Dealing) (share : Share) (t : ℕ) (tag digest : List ℕ) → IsShareOf d t share → (s : State) → masks_joined share (ask_with s tag digest) ≡ own_masks d s digest t
masks-are d share t tag digest own = by-round (λ s. masks_joined share (ask_with s tag digest) ≡ own_masks d s digest t)
    (λ key plan leaf id first second. joined-one (λ i. random_mask_of share.params share.key share.id leaf) ∙ (λ j. random_mask_of (own.params j) (own.key j) (own.id j) leaf))
    (λ key plan leaf id c first second. λ j. joined (λ i. chain_mask_of (own.params j) (own.key j) (own.id j) leaf i (digit_of (own.params j) digest i)) ((own.params j).p))

masks-size : (d : Dealing) (digest : List ℕ) (t : ℕ) (s : State) → s.key.params ≡ d.params → length (own_masks d s digest t) ≡ body_length s.key.params (round_of s) 0
masks-size d digest t = by-round (λ s. s.key.params ≡ d.params → length (own_masks d s digest t) ≡ body_length s.key.params (round_of s) 0)
    (λ key plan leaf id first second is. length-random_mask_of d.params (key_of d t) d.id leaf ∙ sym (ap (λ (p : Params). p.n) is))
    (λ key plan leaf id c first second is.
    length-joined (λ i. chain_mask d leaf i (digit_of d.params digest i) t) d.params.n d.params.p (λ i _. length-chain_mask_of d.params (key_of d t) d.id leaf i (digit_of d.params digest i))
    ∙ sym (ap (λ (p : Params). p.n * p.p) is))

head-is : (t : ℕ) (tag digest : List ℕ) (s : State) → head_with s.key.params t (ask_with s tag digest) ≡ grant_head s t
head-is t tag digest = by-round (λ s. head_with s.key.params t (ask_with s tag digest) ≡ grant_head s t) (λ key plan leaf id first second. refl) (λ key plan leaf id c first second. refl)

-- its member has a seat, in which nothing is kept
record HasSeat (s : State) (t : ℕ) : Type 0 where
  there : has_seat (seats_of s) t ≡ true
  empty : is_filled (seat_of (seats_of s) t) ≡ false

has-seat : (desk : Desk) (d : Dealing) (i : ℕ) (map : ℕ → LeafUse) (leaves : ℕ → ℕ → LeafState) (s : State) (t : ℕ) (p : Pair s) → IsOnCourse desk d i map leaves s → Awaits s t → HasSeat s t
has-seat desk d i map leaves s t p c awaits = elim (which s p t awaits.0) [
  | inl e ↦ subst (λ (u : ℕ). HasSeat s u) (sym e) (record {
    there = ap (λ (l : List Seat). has_seat l p.x.member) p.seats ∙ has-one p.x p.y;
    empty =
        ap (λ (l : List Seat). is_filled (seat_of l p.x.member)) p.seats
        ∙ (ap is_filled (seat-one p.x p.y) ∙ empty-x desk d i map leaves s p c (subst (λ (u : ℕ). kept_masks s (round_of s) u ≡ None) e awaits.1));
  })
  | inr e ↦ subst (λ (u : ℕ). HasSeat s u) (sym e) (record {
    there = ap (λ (l : List Seat). has_seat l p.y.member) p.seats ∙ has-two p.x p.y p.order;
    empty =
        ap (λ (l : List Seat). is_filled (seat_of l p.y.member)) p.seats
        ∙ (ap is_filled (seat-two p.x p.y p.order) ∙ empty-y desk d i map leaves s p c (subst (λ (u : ℕ). kept_masks s (round_of s) u ≡ None) e awaits.1));
  })
]

module _ (desk : Desk) (own : HasDealing desk.plan desk.dealt) (i : ℕ) (old : World) (new : Trustees) (s s' : State) (next : NextAsk) (grant : Grant)
    (g : IsGranted desk own.dealing i old new s next (Some grant)) where
  abbrev d : Dealing
  d = own.dealing

  abbrev m : List ℕ
  m = message_bytes i

  abbrev t : ℕ
  t = next.member

  -- the session that has taken the grant's masks
  pub reply-taken : SameAsk s s' → IsSession s' → IsOf desk.dealt.public desk.plan i s'
      → s' ≡ with_delivery s (head_with desk.dealt.public.params t next.ask) (masks_joined (share_at new t) (ask_of grant)) → Took desk d i old.uses (leaf_at new) s s'
  reply-taken same session of is =
      let p = pair-of s g.course.session (g.course.of.plan_is ∙ desk.plan_is) in
      let seat = has-seat desk d i old.uses (leaf_at old.trustees) s t p g.course g.next_is.awaits in
      let share = g.shares t g.next_is.trustee in
      let masks = own_masks d s (digest_of s m) t in
      let params : s.key.params ≡ desk.dealt.public.params = ap (λ (k : PublicKey). k.params) g.course.of.key_is in
      let given : masks_joined (share_at new t) (ask_of grant) ≡ masks = ap (masks_joined (share_at new t)) (g.ask ∙ g.next_is.ask) ∙ masks-are d (share_at new t) t _ (digest_of s m) share s in
      let head : head_with desk.dealt.public.params t next.ask ≡ grant_head s t = (λ j. head_with (sym params j) t (g.next_is.ask j)) ∙ head-is t _ (digest_of s m) s in
      let goes : s' ≡ with_delivery s (grant_head s t) masks = is ∙ (λ j. with_delivery s (head j) (given j)) in
      let seats : seats_of s' ≡ with_reply (seats_of s) t 0 masks = ap seats_of goes ∙ grant-kept s t masks seat.there seat.empty (masks-size d (digest_of s m) t s (params ∙ own.dealt_is.params)) in
      took desk d i old.uses old.trustees new s s' t masks g.course p g.next_is.awaits g.sets same session of seats refl
