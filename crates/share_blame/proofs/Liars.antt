-- A member that gave masks other than those of the dealing is named.
use Rattle.std.proofs.Common.{All, ◌≡◌, ◌≢◌, ◌⊎◌, ℕ, zero, suc, ◌+◌, ◌*◌, ◌<◌, ◌≤◌, ◌^◌, List, [], ◌∷◌, Some, inl, inr, ap, arith, length, map, take_all, zero-add, refl, sym, ◌∙◌}
use Rattle.std.proofs.lemmas.Bool.{cases_eq}
use Rattle.std.proofs.lemmas.List.Elements.{All-contains, All-cons, All-head, All-nil, All-tail}
use Rattle.std.proofs.lemmas.Nat.{pow_pos}
use Rattle.std.proofs.Math.Nat.{mod-lt}
use Rattle.std.proofs.lemmas.Slice.Eq.{bytes_eq-Decides}
use Rattle.std.specs.Prelude.{Bool, true, false}
use Rattle.std.specs.Str.{bytes_eq}
use Rattle.sha2.specs.Sha256.{sha256}
use Rattle.coalition_map.specs.Members.{IsAscendingIn}
use Rattle.coalition_map.proofs.MemberLaws.{All-from_IsAscendingIn}
use Rattle.lms_bytes.specs.Bytes.{bytes_at, joined}
use Rattle.lms_bytes.specs.Digits.{digit_of}
use Rattle.lms_bytes.specs.declared.params.Params.{Params}
use Rattle.lms_bytes.proofs.Joined.{joined-at, joined-parts}
use Rattle.lms_verify.specs.UndividedKey.{UndividedKey}
use Rattle.mask_prf.proofs.Lengths.{length-chain_mask_of}
use Rattle.merkle_path.specs.Tree.{TreeNodes}
use Rattle.reference_value.specs.Commitments.{cell_commitment_in, commitments, random_commitment_in}
use Rattle.reference_value.specs.Dealing.{Dealing, key_of, leaf_randomizer, random_mask, reference}
use Rattle.session_core.specs.Asks.{kept_masks, masks_at}
use Rattle.session_core.specs.Dealing.{digit_masks}
use Rattle.session_core.specs.Seats.{Seat, seat_of}
use Rattle.session_core.specs.State.{IsSeat, State}
use Rattle.session_core.specs.Verdicts.{AreMasks, digest_of}
use Rattle.session_core.proofs.Dealt.{Keeps, randomizer-is, signature-accepted}
use Rattle.share_blame.specs.Blamed.{IsBlamed, by_first, by_second}
use Rattle.share_blame.specs.Liars.{EndsAstray, GaveOther, IsNamed, IsOver, LiedAlone, NamedAlone, gave_first, gave_second, mask_at, passes_first, passes_second}
use Rattle.share_blame.proofs.Committed.{cell-committed, random-committed}
use Rattle.share_blame.proofs.Kept.{kept-among, kept-first, kept-second, seat-here, seat-later}

-- strings are equal or differ
pub same_or_other : (a b : List ℕ) → (a ≡ b) ⊎ (a ≢ b)
same_or_other a b = decided (bytes_eq a b) refl
  where
    decided : (test : Bool) → bytes_eq a b ≡ test → (a ≡ b) ⊎ (a ≢ b)
    decided true e = inl ((bytes_eq-Decides a b).0 e)
    decided false e = inr (λ same. let yes = (bytes_eq-Decides a b).1 same in absurd (cc))

-- masks of n bytes each are those of f, or one of them differs
record IsOtherAt (f : ℕ → List ℕ) (n count : ℕ) (s : List ℕ) : Type 0 where
  i : ℕ
  inside : i < count
  other : bytes_at s (n * i) n ≢ f i

first-other : (f : ℕ → List ℕ) (n count : ℕ) (s : List ℕ) → ((i : ℕ) → i < count → bytes_at s (n * i) n ≡ f i) ⊎ IsOtherAt f n count s
first-other f n zero s = inl (λ i h. absurd (omega arith))
first-other f n (suc count) s =
    elim (first-other f n count s) [
      | inr found ↦ inr (record { i = found.i; inside = omega (arith, found.inside); other = found.other })
      | inl before ↦ elim (same_or_other (bytes_at s (n * count) n) (f count)) [
        | inr other ↦ inr (record { i = count; inside = omega arith; other = other })
        | inl last ↦ inl (λ i h. elim (cases_eq i count) [
          | inl here ↦ rw here last
          | inr there ↦ before i (omega arith)
        ])
      ]
    ]

other-at : (f : ℕ → List ℕ) (n count : ℕ) (s : List ℕ) → length s ≡ n * count → s ≢ joined f count → IsOtherAt f n count s
other-at f n count s size other = elim (first-other f n count s) [
  | inr found ↦ found
  | inl all ↦
      let whole : bytes_at s 0 (n * count) ≡ joined f count = joined-parts f n 0 count s (λ i inside. rw (zero-add (n * i)) (all i inside)) in
      let same : s ≡ joined f count = sym (take_all (n * count) s (omega arith)) ∙ whole in
      absurd (other same)
]

-- the masks at the digits of a digest lie one after another
digit-mask : (d : Dealing) (s : State) (digest : List ℕ) (t i : ℕ) → i < d.params.p
    → bytes_at (digit_masks d s.leaf digest t) (d.params.n * i) d.params.n ≡ mask_at d s digest i t
digit-mask d s digest t i inside =
    joined-at (λ i. mask_at d s digest i t) d.params.n d.params.p i (λ k _. length-chain_mask_of d.params (key_of d t) d.id s.leaf k (digit_of d.params digest k)) inside

-- the commitments of a session's dealing
random-of : (d : Dealing) (s : State) (digest mask : List ℕ) (t : ℕ) → IsOver d s digest → kept_masks s 1 t ≡ Some mask
    → random_commitment_in s.key.params s.plan (commitments d) s.leaf t ≡ sha256 (random_mask d s.leaf t)
random-of d s digest mask t over kept =
    let member = (kept-first s t mask over.session kept).member in
    rw (over.params, over.plan) (random-committed d s.leaf t over.plan_is (rw over.params at over.session.leaf) (rw over.plan at member))

cell-of : (d : Dealing) (s : State) (digest masks : List ℕ) (t i : ℕ) → IsOver d s digest → kept_masks s 2 t ≡ Some masks → i < d.params.p
    → cell_commitment_in s.key.params s.plan (commitments d) s.leaf i (digit_of s.key.params digest i) t ≡ sha256 (mask_at d s digest i t)
cell-of d s digest masks t i over kept chain =
    let member = (kept-second s t masks over.session kept).member in
    let step : digit_of d.params digest i < 2 ^ d.params.w = mod-lt _ (pow_pos d.params.w) in
    rw (over.params, over.plan) (cell-committed d s.leaf i (digit_of d.params digest i) t over.plan_is (rw over.params at over.session.leaf) chain step (rw over.plan at member))

pub accused : (d : Dealing) (s : State) (digest : List ℕ) (t : ℕ) → IsOver d s digest → IsBlamed (commitments d) s digest t → GaveOther d s digest t
accused d s digest t over (by_first f) =
    let is = random-of d s digest f.mask t over f.kept in
    gave_first f.mask f.kept (λ same. f.other (ap sha256 same ∙ sym is))
accused d s digest t over (by_second f) =
    let i = f.differs.i in
    let chain : i < d.params.p = rw over.params at f.differs.differs.chain in
    let is = cell-of d s digest f.masks t i over f.kept chain in
    let here = digit-mask d s digest t i chain in
    gave_second f.masks f.kept (λ same. f.differs.differs.other (rw over.params (ap (λ m. sha256 (bytes_at m (d.params.n * i) d.params.n)) same ∙ ap sha256 here) ∙ sym is))

pub named : (d : Dealing) (s : State) (digest : List ℕ) (t : ℕ) → IsOver d s digest → GaveOther d s digest t → IsNamed d s digest t
named d s digest t over (gave_first mask kept other) =
    let is = random-of d s digest mask t over kept in
    elim (same_or_other (sha256 mask) (sha256 (random_mask d s.leaf t))) [
      | inl hash ↦ inr (passes_first mask kept (record { differ = other; hash = hash }))
      | inr differ ↦ inl (by_first (record { mask = mask; kept = kept; other = λ same. differ (same ∙ is) }))
    ]
named d s digest t over (gave_second masks kept other) =
    let size : length masks ≡ d.params.n * d.params.p = rw over.params at (kept-second s t masks over.session kept).size_is in
    let bytes : s.key.params.n ≡ d.params.n = ap (λ (p : Params). p.n) over.params in
    let chains : s.key.params.p ≡ d.params.p = ap (λ (p : Params). p.p) over.params in
    let found = other-at (λ i. mask_at d s digest i t) d.params.n d.params.p masks size other in
    let is = cell-of d s digest masks t found.i over kept found.inside in
    elim (same_or_other (sha256 (bytes_at masks (d.params.n * found.i) d.params.n)) (sha256 (mask_at d s digest found.i t))) [
      | inl hash ↦ inr (passes_second masks found.i kept found.inside (record { differ = found.other; hash = hash }))
      | inr differ ↦ inl (by_second (record {
        masks = masks;
        kept = kept;
        differs = record {
          i = found.i;
          differs = record {
            chain = omega (arith, found.inside, chains);
            other = λ same. differ (ap (λ (n : ℕ). sha256 (bytes_at masks (n * found.i) n)) (sym bytes) ∙ (same ∙ is));
          };
        };
      }))
    ]

pub named-alone : (d : Dealing) (s : State) (digest : List ℕ) (t : ℕ) → IsOver d s digest → LiedAlone d s digest t → NamedAlone d s digest t
named-alone d s digest t over lied = record {
  named = named d s digest t over lied.lied;
  alone = λ u is. lied.alone u (accused d s digest u over is);
}

-- a seat that keeps a mask other than its member's
record IsOtherAmong (mask : ℕ → List ℕ) (seats : List Seat) : Type 0 where
  t : ℕ
  body : List ℕ
  kept : masks_at (seat_of seats t) ≡ Some body
  other : body ≢ mask t

masks-kept : (seat : Seat) → seat.code ≡ Some 0 → masks_at seat ≡ Some seat.body
masks-kept seat is = rw is refl

-- all seats keep their members' masks, or one keeps a different one
found-among : (a e : ℕ) (params : _) (round : ℕ) (mask : ℕ → List ℕ) (seats : List Seat) → IsAscendingIn a e (map (λ (seat : Seat). seat.member) seats)
    → All (IsSeat params round) seats → AreMasks seats → All (Keeps mask) seats ⊎ IsOtherAmong mask seats
found-among a e params round mask [] ascending each masks = inl (All-nil (Keeps mask))
found-among a e params round mask (seat ∷ seats) ascending each masks =
    let code = All-head (λ (seat : Seat). seat.code ≡ Some 0) seat seats masks in
    elim (same_or_other seat.body (mask seat.member)) [
      | inr other ↦ inr (record { t = seat.member; body = seat.body; kept = rw (seat-here seat seats seat.member refl) (masks-kept seat code); other = other })
      | inl same ↦
          let later = All-tail (IsSeat params round) seat seats each in
          elim (found-among (seat.member + 1) e params round mask seats ascending.2 later (All-tail (λ (seat : Seat). seat.code ≡ Some 0) seat seats masks)) [
            | inl all ↦ inl (All-cons (Keeps mask) seat seats (code, same) all)
            | inr found ↦
                let member = (kept-among params round seats found.t found.body later found.kept).member in
                let above = All-contains (λ x. (seat.member + 1 ≤ x) × (x < e)) (map (λ (seat : Seat). seat.member) seats) found.t (All-from_IsAscendingIn (seat.member + 1) e _ ascending.2) member in
                let apart : seat.member ≡ found.t → ⊥ = λ same. omega (arith, above.0) in
                inr (record { t = found.t; body = found.body; kept = rw (seat-later seat seats found.t apart) found.kept; other = found.other })
          ]
    ]

pub astray : (d : Dealing) (key : UndividedKey) (s : State) (tree : TreeNodes) (message : List ℕ) → IsOver d s (digest_of s message) → EndsAstray d key s tree message
    → (t : ℕ) × IsNamed d s (digest_of s message) t
astray d key s tree message over ends =
    let digest = digest_of s message in
    let session = over.session in
    let ascending = session.ascending in
    let first-in = rw (← session.first.theirs) at ascending in
    let second-in = rw (← session.second.theirs) at ascending in
    elim (found-among 1 (s.plan.n + 1) s.key.params 1 (random_mask d s.leaf) s.first first-in session.first.each ends.first) [
      | inr found ↦ (found.t, named d s digest found.t over (gave_first found.body found.kept found.other))
      | inl firsts ↦ elim (found-among 1 (s.plan.n + 1) s.key.params 2 (digit_masks d s.leaf digest) s.second second-in session.second.each ends.second) [
        | inr found ↦ (found.t, named d s digest found.t over (gave_second found.body found.kept found.other))
        | inl seconds ↦
            let c : s.c ≡ Some (leaf_randomizer d s.leaf) = ends.c ∙ ap Some (randomizer-is d key s session ends.dealing firsts) in
            absurd (ends.refused (signature-accepted d key s (reference d) tree message session (record {
              dealing = ends.dealing;
              leaves_are = refl;
              tree_is = ends.tree_is;
              c = c;
              masks = seconds;
            })))
      ]
    ]
