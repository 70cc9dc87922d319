-- The dealing of a drill: its plan, what it gives, and that it is never refused.
use Rattle.std.proofs.Common.{◌≡◌, ℕ, false, zero, suc, ◌+◌, ◌*◌, ◌-◌, ◌%◌, ◌≤◌, ◌<◌, List, [], ◌∷◌, length, map, drop, get_or, set, refl, sym, ◌∙◌, ap, subst, All, arith, length-append}
use Rattle.std.proofs.lemmas.List.{get_or-drop, get_or-set_other, get_or-set_same, get_or-take, length-map, length-set}
use Rattle.std.specs.List.{range_with_len}
use Rattle.coalition_map.specs.Coalitions.{IsPlan, PlanNumbers, count_of, subsets}
use Rattle.lms_bytes.specs.declared.params.Params.{Params}
use Rattle.reference_value.proofs.Reference.{length-reference}
use Rattle.mask_prf.specs.Lengths.{leaves_length}
use Rattle.share_files.specs.declared.share.Share.{Share}
use Rattle.dealer.specs.Dealt.{IsDealt}
use Rattle.dealer.specs.Entropy.{dealing_of, id_in, seed_in, trustee_key}
use Rattle.dealer.specs.Faults.{HasFault, bad_entropy, same_keys, too_high, too_wide}
use Rattle.dealer.specs.declared.dealing.Dealt.{Dealt}
use Rattle.dealer.specs.declared.faults.DealFault.{DealFault}
use Rattle.drill_schedule.specs.Draws.{bytes_of, draw_at, entropy_of}
use Rattle.lms_bytes.proofs.Parts.{length-bytes_at}
use Rattle.drill.specs.Disks.{IsDealing}
use Rattle.drill.specs.Keys.{HasDealing}
use Rattle.drill.specs.declared.desk.Desk.{Desk}

-- the plan of a drill
abbrev pub three : PlanNumbers
three = record { n = 3; k = 2; h = 5 }

pub is-plan : IsPlan three
unfolding subsets
is-plan = record {
  threshold = record { two_or_more = omega arith; k_within = omega arith; n_within = omega arith };
  h_within = omega arith;
  each_has_a_leaf = omega arith;
}

length-bytes : (number n : ℕ) → length (bytes_of number n) ≡ n
unfolding bytes_of
length-bytes number zero = refl
length-bytes number (suc n) = let rest = length-bytes number n in let parts = length-append (bytes_of number n) ((draw_at number n % 256) ∷ []) in omega arith

pub length-entropy : (number : ℕ) → length (entropy_of number) ≡ 176
unfolding entropy_of
length-entropy number =
    let b = bytes_of number 176 in
    length-set (set (set b 80 1) 112 2) 144 3 ∙ length-set (set b 80 1) 112 2 ∙ length-set b 80 1 ∙ length-bytes number 176

key-begins : (number t : ℕ) (place : ℕ) → get_or (trustee_key (entropy_of number) t) 0 0 ≡ get_or (entropy_of number) (80 + 32 * (t - 1)) 0
key-begins number t place =
    let k = 80 + 32 * (t - 1) in
    get_or-take 32 (drop k (entropy_of number)) 0 0 (omega arith) ∙ get_or-drop k (entropy_of number) 0 0 ∙ ap (λ (j : ℕ). get_or (entropy_of number) j 0) (omega arith)

one-at : (number : ℕ) → get_or (entropy_of number) 80 0 ≡ 1
unfolding entropy_of
one-at number =
    let b = bytes_of number 176 in
    let size = length-bytes number 176 in
    get_or-set_other (set (set b 80 1) 112 2) 144 80 3 0 (λ e. omega arith) ∙ get_or-set_other (set b 80 1) 112 80 2 0 (λ e. omega arith) ∙ get_or-set_same b 80 1 0 (omega arith)

two-at : (number : ℕ) → get_or (entropy_of number) 112 0 ≡ 2
unfolding entropy_of
two-at number =
    let b = bytes_of number 176 in
    let size = length-bytes number 176 ∙ refl in
    let sized = length-set b 80 1 in
    get_or-set_other (set (set b 80 1) 112 2) 144 112 3 0 (λ e. omega arith) ∙ get_or-set_same (set b 80 1) 112 2 0 (omega arith)

three-at : (number : ℕ) → get_or (entropy_of number) 144 0 ≡ 3
unfolding entropy_of
three-at number =
    let b = bytes_of number 176 in
    let size = length-bytes number 176 in
    let one = length-set b 80 1 in
    let both = length-set (set b 80 1) 112 2 in
    get_or-set_same (set (set b 80 1) 112 2) 144 3 0 (omega arith)

first-key : (number : ℕ) → get_or (trustee_key (entropy_of number) 1) 0 0 ≡ 1
first-key number = key-begins number 1 0 ∙ one-at number

second-key : (number : ℕ) → get_or (trustee_key (entropy_of number) 2) 0 0 ≡ 2
second-key number = key-begins number 2 0 ∙ two-at number

third-key : (number : ℕ) → get_or (trustee_key (entropy_of number) 3) 0 0 ≡ 3
third-key number = key-begins number 3 0 ∙ three-at number

key-number : (number t : ℕ) → 1 ≤ t → t ≤ 3 → get_or (trustee_key (entropy_of number) t) 0 0 ≡ t
key-number number zero low high = absurd (omega arith)
key-number number (suc zero) low high = first-key number
key-number number (suc (suc zero)) low high = second-key number
key-number number (suc (suc (suc zero))) low high = third-key number
key-number number (suc (suc (suc (suc t)))) low high = absurd (omega arith)

is-no-fault : (params : Params) (number : ℕ) (fault : DealFault) → params.h ≡ 5 → HasFault false params three (entropy_of number) fault → ⊥
is-no-fault params number fault h (too_high high) = omega arith
is-no-fault params number fault h (too_wide small height width) = omega arith
is-no-fault params number fault h (bad_entropy set other) = other (length-entropy number)
is-no-fault params number fault h (same_keys t u set size pair) =
    let low = pair.two.first in
    let order = pair.two.order in
    let last = pair.two.last in
    let one = key-number number t low (omega arith) in
    let other = key-number number u (omega arith) last in
    let same = ap (λ (k : List ℕ). get_or k 0 0) pair.alike in
    omega arith

pub no-fault : (params : Params) (plan : PlanNumbers) (entropy : List ℕ) (number : ℕ) (fault : DealFault) → params.h ≡ 5 → plan ≡ three → entropy ≡ entropy_of number
    → HasFault false params plan entropy fault → ⊥
no-fault params plan entropy number fault h is drawn has = is-no-fault params number fault h (rw (is, drawn) at has)

-- what was dealt, as a desk keeps it
pub record IsDesk (plan : PlanNumbers) (dealt : Dealt) : Type 0 where
  pub lms : dealt.public.params.lms ≡ 5
  pub ots : dealt.public.params.ots ≡ 3
  pub hash_length : dealt.public.params.n ≡ 32
  pub chains : dealt.public.params.p ≡ 67
  pub height : dealt.public.params.h ≡ 5
  pub exact : length dealt.reference.items ≡ leaves_length dealt.public.params plan
  pub nodes : dealt.tree.n ≡ 32
  pub levels : dealt.tree.h ≡ 5
  pub count : length dealt.shares.items ≡ 3
  pub shares : All (λ (share : Share). share.params ≡ dealt.public.params) dealt.shares.items

shares-count : (xs : List Share) → map (λ (share : Share). share.member) xs ≡ range_with_len 1 3 → length xs ≡ 3
shares-count xs is = sym (length-map xs (λ (share : Share). share.member)) ∙ ap length is

pub desk-of : (params : Params) (plan : PlanNumbers) (entropy : List ℕ) (dealt : Dealt) → params.lms ≡ 5 → params.ots ≡ 3 → params.n ≡ 32 → params.p ≡ 67 → params.h ≡ 5 → plan ≡ three
    → IsDealt (dealing_of params plan entropy) dealt → IsDesk plan dealt
desk-of params plan entropy dealt lms ots n p h is dealt_is =
    let sound : IsPlan plan = rw is is-plan in
    let same = dealt_is.params in
    record {
      lms = rw same lms;
      ots = rw same ots;
      hash_length = rw same n;
      chains = rw same p;
      height = rw same h;
      exact = rw (dealt_is.reference_is, same) (length-reference (dealing_of params plan entropy) sound);
      nodes = rw dealt_is.tree n;
      levels = rw dealt_is.tree h;
      count = shares-count dealt.shares.items (rw is at dealt_is.shares.members);
      shares = rw same dealt_is.shares.params;
    }

-- the dealing that a desk's key comes from
pub own-dealing : (params : Params) (plan : PlanNumbers) (entropy : List ℕ) (number : ℕ) (dealt : Dealt) → params.n ≡ 32 → entropy ≡ entropy_of number
    → IsDealt (dealing_of params plan entropy) dealt → HasDealing plan dealt
own-dealing params plan entropy number dealt n drawn is =
    let size : length entropy ≡ 176 = ap length drawn ∙ length-entropy number in
    record {
      dealing = dealing_of params plan entropy;
      key = record {
        params = params;
        id = id_in entropy;
        seed = seed_in params.n entropy;
        id_length = length-bytes_at entropy 0 16 (omega arith);
        seed_length = length-bytes_at entropy 16 params.n (omega arith);
      };
      plan_is = refl;
      dealt_is = is;
      key_is = record { params = refl; id = refl; seed = refl };
    }

-- it is the drill's
pub own-drawn : (params : Params) (plan : PlanNumbers) (entropy : List ℕ) (number : ℕ) (dealt : Dealt) (n : params.n ≡ 32) (drawn : entropy ≡ entropy_of number)
    → (is : IsDealt (dealing_of params plan entropy) dealt) → params.lms ≡ 5 → params.ots ≡ 3 → plan ≡ three → IsDealing number (own-dealing params plan entropy number dealt n drawn is).dealing
unfolding own-dealing
own-drawn params plan entropy number dealt n drawn is lms ots plan_is = record { lms = lms; ots = ots; drawn = λ j. dealing_of params (plan_is j) (drawn j) }

-- the shares of a desk are for hash values of 32 bytes and a tree of height 5
pub shares-n : (desk : Desk) (given : List Share) → given ≡ desk.dealt.shares.items → All (λ (share : Share). share.params.n ≡ 32) given
shares-n desk given is =
    subst (λ (l : List Share). All (λ (share : Share). share.params.n ≡ 32) l) (sym is)
    (λ i none inside. ap (λ (p : Params). p.n) (desk.shares i none inside) ∙ desk.hash_length)

pub shares-h : (desk : Desk) (given : List Share) → given ≡ desk.dealt.shares.items → All (λ (share : Share). share.params.h ≡ 5) given
shares-h desk given is =
    subst (λ (l : List Share). All (λ (share : Share). share.params.h ≡ 5) l) (sym is)
    (λ i none inside. ap (λ (p : Params). p.h) (desk.shares i none inside) ∙ desk.height)

pub coalition-below : (i : ℕ) → i % 3 < count_of three
unfolding subsets
coalition-below i = omega arith
