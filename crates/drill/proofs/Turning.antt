-- The ends of a session's rounds, if every member's own masks are kept.
use Rattle.std.proofs.Common.{◌≡◌, ◌≢◌, ℕ, List, [], ◌∷◌, All, Contains, IfSome, Option, None, Some, map, inl, inr, refl, sym, ◌∙◌, ap, subst}
use Rattle.std.proofs.lemmas.List.Elements.{All-cons, All-head, All-nil, All-tail}
use Rattle.coalition_map.specs.Coalitions.{IsPlan, PlanNumbers, leaf_members}
use Rattle.drill_schedule.specs.Draws.{message_bytes}
use Rattle.drill_trustees.specs.Members.{state_after}
use Rattle.leaf_table.specs.Entries.{LeafUse}
use Rattle.lms_bytes.specs.MessageId.{message_id_bytes}
use Rattle.lms_bytes.specs.declared.params.Params.{Params}
use Rattle.lms_bytes.specs.declared.public_key.PublicKey.{PublicKey}
use Rattle.lms_verify.specs.UndividedKey.{seed_root}
use Rattle.mask_prf.proofs.Lengths.{length-randomizer_of}
use Rattle.merkle_path.specs.Tree.{tree_of}
use Rattle.opening_journal.specs.Entries.{IsBound, IsOpened, LeafState}
use Rattle.ots_chain.specs.LeafKey.{seed_leaf_key}
use Rattle.ots_chain.specs.MessageHash.{message_digest}
use Rattle.reference_value.specs.Dealing.{Dealing, leaf_randomizer, random_mask}
use Rattle.session_core.specs.Asks.{ask_with, masks_at}
use Rattle.session_core.specs.Dealing.{FirstMasks, IsAnswered, IsOfDealing, digit_masks}
use Rattle.session_core.specs.Judging.{first_fault, round_fault, seat_fault}
use Rattle.session_core.specs.Seats.{Seat}
use Rattle.session_core.specs.State.{IsSession, State, seats_of, turned}
use Rattle.session_core.specs.Verdicts.{digest_of}
use Rattle.session_core.specs.declared.faults.SessionFault.{SessionFault}
use Rattle.drill.specs.Courses.{AllKept, Awaits, IsHonest, IsOnCourse, IsSigned, asked, count_filled, own_masks}
use Rattle.drill.specs.Disks.{opened_for}
use Rattle.drill.specs.Keys.{HasDealing}
use Rattle.drill.specs.Seats.{IsOf}
use Rattle.drill.specs.declared.desk.Desk.{Desk}
use Rattle.drill.proofs.Desks.{is-plan, three}
use Rattle.drill.proofs.Going.{StandsAt, course, honest-x, honest-y, trustee-of}
use Rattle.drill.proofs.Rounds.{Pair, by-round, first-member, kept-one, kept-two, pair-of, second-member}

first-none : first_fault [] ≡ None
unfolding first_fault
first-none = refl

first-masks : (s : State) (digest : List ℕ) (seat : Seat) (rest : List (Option SessionFault)) → seat.code ≡ Some 0 → first_fault (seat_fault s digest seat ∷ rest) ≡ first_fault rest
unfolding first_fault
first-masks s digest seat rest is = rw is refl

-- nothing is wrong with masks
pub faultless : (s : State) (digest : List ℕ) (p : Pair s) → p.x.code ≡ Some 0 → p.y.code ≡ Some 0 → round_fault s digest ≡ None
faultless s digest p x y =
    ap (λ (l : List Seat). first_fault (map (seat_fault s digest) l)) p.seats
    ∙ (first-masks s digest p.x (seat_fault s digest p.y ∷ []) x ∙ (first-masks s digest p.y [] y ∙ first-none))

seats-first : (s : State) → s.c ≡ None → seats_of s ≡ s.first
seats-first s none = rw none refl

seats-second : (s : State) (c : List ℕ) → s.c ≡ Some c → seats_of s ≡ s.second
seats-second s c some = rw some refl

masks-first : (d : Dealing) (s : State) (digest : List ℕ) (t : ℕ) → s.c ≡ None → own_masks d s digest t ≡ random_mask d s.leaf t
masks-first d s digest t none = rw none refl

masks-second : (d : Dealing) (s : State) (digest : List ℕ) (c : List ℕ) (t : ℕ) → s.c ≡ Some c → own_masks d s digest t ≡ digit_masks d s.leaf digest t
masks-second d s digest c t some = rw some refl

after-first : (tag digest : List ℕ) (s : State) → s.c ≡ None → state_after (ask_with s tag digest) ≡ IsBound (message_id_bytes s.message)
after-first tag digest = by-round (λ s. s.c ≡ None → state_after (ask_with s tag digest) ≡ IsBound (message_id_bytes s.message))
    (λ key plan leaf id first second none. refl) (λ key plan leaf id c first second none. absurd (cc))

after-second : (m tag : List ℕ) (s : State) (random : List ℕ) → s.c ≡ Some random
    → state_after (ask_with s tag (digest_of s m)) ≡ IsOpened (message_id_bytes s.message) random (message_digest s.key.params s.key.id s.leaf random m) 0
after-second m tag = by-round
    (λ s. (random : List ℕ) → s.c ≡ Some random → state_after (ask_with s tag (digest_of s m)) ≡ IsOpened (message_id_bytes s.message) random (message_digest s.key.params s.key.id s.leaf random m) 0)
    (λ key plan leaf id first second random some. absurd (cc))
    (λ key plan leaf id c first second random some. let same : c ≡ random = cc in ap (λ (x : List ℕ). IsOpened (message_id_bytes id) x (message_digest key.params key.id leaf x m) 0) same)

kept-code : (d : Dealing) (s : State) (digest : List ℕ) (seat : Seat) → IsHonest d s digest seat → masks_at seat ≢ None → (seat.code ≡ Some 0) × (seat.body ≡ own_masks d s digest seat.member)
kept-code d s digest seat (inl none) some = absurd (some (rw none refl))
kept-code d s digest seat (inr own) some = own

pub no-reply : (seat : Seat) → seat.code ≡ None → masks_at seat ≡ None
no-reply seat is = rw is refl

pub none-filled : (x y : Seat) → x.code ≡ None → y.code ≡ None → count_filled (x ∷ y ∷ []) ≡ 0
unfolding count_filled
none-filled x y nx ny = rw (nx, ny) refl

module _ (desk : Desk) (own : HasDealing desk.plan desk.dealt) (i : ℕ) (map : ℕ → LeafUse) (leaves : ℕ → ℕ → LeafState) (s : State) (c : IsOnCourse desk own.dealing i map leaves s) (all : AllKept s) where
  abbrev d : Dealing
  d = own.dealing

  abbrev m : List ℕ
  m = message_bytes i

  pub plan-is : s.plan ≡ three
  plan-is = c.of.plan_is ∙ desk.plan_is

  abbrev pub p : Pair s
  p = pair-of s c.session plan-is

  pub keeps-x : (p.x.code ≡ Some 0) × (p.x.body ≡ own_masks d s (digest_of s m) p.x.member)
  keeps-x =
      let t = trustee-of s p p.x.member (first-member s p) in
      kept-code d s (digest_of s m) p.x (honest-x desk d i map leaves s p c) (λ none. all p.x.member t.low t.high (first-member s p) (kept-one s p ∙ none))

  pub keeps-y : (p.y.code ≡ Some 0) × (p.y.body ≡ own_masks d s (digest_of s m) p.y.member)
  keeps-y =
      let t = trustee-of s p p.y.member (second-member s p) in
      kept-code d s (digest_of s m) p.y (honest-y desk d i map leaves s p c) (λ none. all p.y.member t.low t.high (second-member s p) (kept-two s p ∙ none))

  pub no-fault : (digest : List ℕ) → round_fault s digest ≡ None
  no-fault digest = faultless s digest p keeps-x.0 keeps-y.0

  pub of-dealing : IsOfDealing d own.key s
  of-dealing = record {
    plan_is = subst (λ (q : PlanNumbers). IsPlan q) (sym (own.plan_is ∙ desk.plan_is)) is-plan;
    plan = c.of.plan_is ∙ sym own.plan_is;
    params = ap (λ (k : PublicKey). k.params) c.of.key_is ∙ own.dealt_is.params;
    id = ap (λ (k : PublicKey). k.id) c.of.key_is ∙ own.dealt_is.id;
    root_is = ap (λ (k : PublicKey). k.root) c.of.key_is ∙ (own.dealt_is.root_is ∙ sym (λ j. seed_root (own.key_is.params j) (own.key_is.id j) (own.key_is.seed j)));
    key_params = own.key_is.params;
    key_id = own.key_is.id;
    key_seed = own.key_is.seed;
  }

  pub first-masks-kept : s.c ≡ None → FirstMasks d s
  first-masks-kept none =
      let P = λ (seat : Seat). (seat.code ≡ Some 0) × (seat.body ≡ random_mask d s.leaf seat.member) in
      let x : P p.x = (keeps-x.0, keeps-x.1 ∙ masks-first d s (digest_of s m) p.x.member none) in
      let y : P p.y = (keeps-y.0, keeps-y.1 ∙ masks-first d s (digest_of s m) p.y.member none) in
      subst (λ (l : List Seat). All P l) (sym p.seats ∙ seats-first s none) (All-cons P p.x (p.y ∷ []) x (All-cons P p.y [] y (All-nil P)))

  pub answered : (random : List ℕ) → s.c ≡ Some random → IsAnswered d own.key s (digest_of s m) desk.dealt.reference.items desk.dealt.tree
  answered random some =
      let P = λ (seat : Seat). (seat.code ≡ Some 0) × (seat.body ≡ digit_masks d s.leaf (digest_of s m) seat.member) in
      let x : P p.x = (keeps-x.0, keeps-x.1 ∙ masks-second d s (digest_of s m) random p.x.member some) in
      let y : P p.y = (keeps-y.0, keeps-y.1 ∙ masks-second d s (digest_of s m) random p.y.member some) in
      let known : IfSome (Some random) (λ r. r ≡ leaf_randomizer d s.leaf) = subst (λ (o : Option (List ℕ)). IfSome o (λ r. r ≡ leaf_randomizer d s.leaf)) some c.c in
      record {
        dealing = of-dealing;
        leaves_are = own.dealt_is.reference_is;
        tree_is = own.dealt_is.tree ∙ sym (λ j. tree_of (own.key_is.params j) (own.key_is.id j) (λ q. seed_leaf_key (own.key_is.params j) (own.key_is.id j) q (own.key_is.seed j)));
        c = some ∙ ap Some known;
        masks = subst (λ (l : List Seat). All P l) (sym p.seats ∙ seats-second s random some) (All-cons P p.x (p.y ∷ []) x (All-cons P p.y [] y (All-nil P)));
      }

  -- all members have the leaf as it is after the asks of this round
  after-all : (t : ℕ) → Contains (leaf_members s.plan s.leaf) t → leaves t s.leaf ≡ state_after (asked s m)
  after-all t member = let u = trustee-of s p t member in (c.members t member).kept (all t u.low u.high member)

  pub signed : (random : List ℕ) → s.c ≡ Some random → IsSigned d i map leaves s.leaf
  signed random some =
      let params : s.key.params ≡ desk.dealt.public.params = ap (λ (k : PublicKey). k.params) c.of.key_is in
      let known : IfSome (Some random) (λ r. r ≡ leaf_randomizer d s.leaf) = subst (λ (o : Option (List ℕ)). IfSome o (λ r. r ≡ leaf_randomizer d s.leaf)) some c.c in
      let is = of-dealing in
      let plan : d.plan ≡ s.plan = sym is.plan in
      let state : state_after (asked s m) ≡ opened_for d i s.leaf = after-second m [] s random some
      ∙ (λ j. IsOpened (message_id_bytes (c.of.message_is j)) (known j) (message_digest (is.params j) (is.id j) s.leaf (known j) m) 0) in
      record {
        within = (let h : s.key.params.h ≡ 5 = ap (λ (q : Params). q.h) params ∙ desk.height in rw h at c.session.leaf);
        coalition = c.coalition;
        leased = c.leased;
        only = c.only;
        opened = λ t member. after-all t (subst (λ (q : PlanNumbers). Contains (leaf_members q s.leaf) t) plan member) ∙ state;
      }

  -- the session in round two
  pub record Turns (after : State) : Type 0 where
    pub course : IsOnCourse desk own.dealing i map leaves after
    pub awaited : (t : ℕ) × Awaits after t
    pub filled : count_filled (seats_of after) ≡ 0

  pub turns : s.c ≡ None → Turns (turned s (leaf_randomizer d s.leaf))
  turns none =
      let random = leaf_randomizer d s.leaf in
      let after = turned s random in
      let n : s.key.params.n ≡ d.params.n = ap (λ (q : Params). q.n) of-dealing.params in
      let session : IsSession after = record {
        height = c.session.height;
        leaf = c.session.leaf;
        ascending = c.session.ascending;
        first = c.session.first;
        second = c.session.second;
        waiting = λ is. absurd (cc);
        c = length-randomizer_of d.params d.random_key d.id s.leaf ∙ sym n;
      } in
      let q = pair-of after session plan-is in
      let N = λ (seat : Seat). seat.code ≡ None in
      let empty : All N (q.x ∷ q.y ∷ []) = subst (λ (l : List Seat). All N l) q.seats (c.session.waiting none) in
      let ex : q.x.code ≡ None = All-head N q.x (q.y ∷ []) empty in
      let ey : q.y.code ≡ None = All-head N q.y [] (All-tail N q.x (q.y ∷ []) empty) in
      let mx = no-reply q.x ex in
      let my = no-reply q.y ey in
      let sx : StandsAt leaves after m q.x = record { may = inl (after-all q.x.member (first-member after q) ∙ after-first [] (digest_of s m) s none); kept = λ some. absurd (some mx) } in
      let sy : StandsAt leaves after m q.y = record { may = inl (after-all q.y.member (second-member after q) ∙ after-first [] (digest_of s m) s none); kept = λ some. absurd (some my) } in
      let of : IsOf desk.dealt.public desk.plan i after = record { key_is = c.of.key_is; plan_is = c.of.plan_is; message_is = c.of.message_is } in
      record {
        course = course desk d i map leaves after q session of c.coalition c.leased c.only refl (inl ex) (inl ey) sx sy;
        awaited = (q.x.member, (first-member after q, kept-one after q ∙ mx));
        filled = ap count_filled q.seats ∙ none-filled q.x q.y ex ey;
      }
