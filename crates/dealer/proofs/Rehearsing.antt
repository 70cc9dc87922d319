-- A rehearsal: its plan, what it gives, and its faults.
use Rattle.std.proofs.Common.{◌≡◌, ℕ, false, ◌<◌, ◌^◌, List, [], ◌∷◌, length, map, refl, sym, ◌∙◌, ap, inr, arith}
use Rattle.coalition_map.specs.Coalitions.{IsPlan, PlanNumbers, leaf_members, subsets}
use Rattle.lms_bytes.specs.Bytes.{bytes_at}
use Rattle.lms_bytes.specs.declared.params.Params.{Params}
use Rattle.mask_prf.proofs.Lengths.{length-randomizer_of}
use Rattle.reference_value.proofs.Reference.{length-reference}
use Rattle.share_files.specs.Sets.{IsSmall}
use Rattle.dealer.specs.Dealt.{IsDealt}
use Rattle.dealer.specs.Entropy.{dealing_of, entropy_length, trustee_key}
use Rattle.dealer.specs.Faults.{AreFirstAlike, HasFault, IsDealable, too_high, too_wide}
use Rattle.dealer.specs.Faults as dealing
use Rattle.dealer.specs.declared.dealing.Dealt.{Dealt}
use Rattle.dealer.specs.declared.faults.DealFault.{DealFault}
use Rattle.dealer.specs.Rehearsal.{CanRehearse, IsRehearsed, RehearsalFault, bad_entropy, same_keys}
use Rattle.dealer.specs.Signing.{FitsPlan, signed_leaf}
use Rattle.dealer.specs.declared.masks.Keys.{Keys}
use Rattle.dealer.proofs.Undivided.{accepted_is, inside, public_is}
use Rattle.reference_value.specs.Dealing.{leaf_randomizer}
use Rattle.dealer.proofs.Signers.{AreSigners, dealt_key, signature-is}

-- the plan of two trustees
abbrev pub two : PlanNumbers
two = record { n = 2; k = 2; h = 5 }

is-plan : IsPlan two
unfolding subsets
is-plan = record {
  threshold = record { two_or_more = omega arith; k_within = omega arith; n_within = omega arith };
  h_within = omega arith;
  each_has_a_leaf = omega arith;
}

both-members : leaf_members two 0 ≡ 1 ∷ 2 ∷ []
unfolding subsets
both-members = refl

pub fits : (params : Params) (plan : PlanNumbers) (entropy : List ℕ) (dealt : Dealt) → params.h ≡ 5 → plan ≡ two → IsDealt (dealing_of params plan entropy) dealt → FitsPlan plan dealt
fits params plan entropy dealt height is dealt_is =
    let sound : IsPlan plan = rw is is-plan in
    record {
      height = rw (is, dealt_is.params, height) refl;
      reference = rw (dealt_is.reference_is, dealt_is.params) (length-reference (dealing_of params plan entropy) sound);
      hash_length = rw (dealt_is.tree, dealt_is.params) refl;
      levels = rw (dealt_is.tree, dealt_is.params) refl;
    }

-- the members of two equal pairs
firsts : (a b c d : List ℕ) → a ∷ b ∷ [] ≡ c ∷ d ∷ [] → a ≡ c
firsts a b c d e = cc

seconds : (a b c d : List ℕ) → a ∷ b ∷ [] ≡ c ∷ d ∷ [] → b ≡ d
seconds a b c d e = cc

gives : (params : Params) (entropy message : List ℕ) (dealt : Dealt) (keys : Keys) → params.lms ≡ 5 → params.ots ≡ 3 → params.n ≡ 32 → params.h ≡ 5
    → length entropy ≡ entropy_length 2 → IsDealt (dealing_of params two entropy) dealt
    → map (λ share. share.key) dealt.shares.items ≡ keys.first ∷ keys.second ∷ []
    → IsRehearsed entropy message dealt.public (signed_leaf two dealt keys 0 message)
gives params entropy message dealt keys lms ots n h size dealt_is shares =
    let d = dealing_of params two entropy in
    let id_length = inside entropy 0 16 (omega arith) in
    let seed_length = inside entropy 16 params.n (omega arith) in
    let pair = sym shares ∙ dealt_is.shares.keys in
    let leaf : 0 < 2 ^ params.h = rw h (omega arith) in
    let signers : AreSigners d dealt keys 0 = record {
      dealing = dealt_is;
      plan = is-plan;
      leaf = leaf;
      members = both-members;
      first = firsts _ _ _ _ pair;
      second = seconds _ _ _ _ pair;
    } in
    let is = signature-is d dealt keys 0 message id_length seed_length signers in
    let key = dealt_key d id_length seed_length in
    let size : length (leaf_randomizer d 0) ≡ params.n = length-randomizer_of params d.random_key d.id 0 in
    record {
      key = key;
      lms = lms;
      ots = ots;
      id = refl;
      seed = ap (bytes_at entropy 16) n;
      public_is = public_is d dealt key (record { params = refl; id = refl; seed = refl }) dealt_is;
      signature_is = is;
      accepted = rw is (accepted_is d dealt key 0 (leaf_randomizer d 0) message (record { params = refl; id = refl; seed = refl }) dealt_is leaf size);
    }

pub is-rehearsed : (params : Params) (plan : PlanNumbers) (entropy message : List ℕ) (dealt : Dealt) (keys : Keys) (signature : List ℕ)
    → params.lms ≡ 5 → params.ots ≡ 3 → params.n ≡ 32 → params.h ≡ 5 → plan ≡ two → IsDealable false params plan entropy → IsDealt (dealing_of params plan entropy) dealt
    → map (λ share. share.key) dealt.shares.items ≡ keys.first ∷ keys.second ∷ [] → signature ≡ signed_leaf plan dealt keys 0 message
    → IsRehearsed entropy message dealt.public signature
is-rehearsed params plan entropy message dealt keys signature lms ots n h is dealable dealt_is shares signed =
    let size : length entropy ≡ entropy_length 2 = rw is at dealable.size in
    rw (signed, is) (gives params entropy message dealt keys lms ots n h size (rw is at dealt_is) shares)

pub can-rehearse : (params : Params) (plan : PlanNumbers) (entropy : List ℕ) → plan ≡ two → IsDealable false params plan entropy → CanRehearse entropy
can-rehearse params plan entropy is dealable =
    let keys = rw is at dealable.keys in
    record { size = rw is at dealable.size; keys = keys 1 2 (record { first = omega arith; order = omega arith; last = omega arith }) }

is-small : (params : Params) → params.h ≡ 5 → IsSmall params
is-small params h = record { height = omega arith; width = λ ten. absurd (omega arith) }

first-alike : (entropy : List ℕ) → trustee_key entropy 1 ≡ trustee_key entropy 2 → AreFirstAlike 2 entropy 1 2
first-alike entropy alike = record {
  two = record { first = omega arith; order = omega arith; last = omega arith };
  alike = alike;
  first = λ other another pair _. let low = pair.first in let order = pair.order in let last = pair.last in inr (omega arith, omega arith);
}

has-fault : (params : Params) (entropy : List ℕ) (fault : DealFault) → params.h ≡ 5 → RehearsalFault entropy fault → HasFault false params two entropy fault
has-fault params entropy fault h (bad_entropy other) = dealing.bad_entropy (is-small params h) other
has-fault params entropy fault h (same_keys size alike) = dealing.same_keys 1 2 (is-small params h) size (first-alike entropy alike)

pub deal-fault : (params : Params) (plan : PlanNumbers) (entropy : List ℕ) (fault : DealFault) → params.h ≡ 5 → plan ≡ two → RehearsalFault entropy fault
    → HasFault false params plan entropy fault
deal-fault params plan entropy fault h is has = rw is (has-fault params entropy fault h has)

is-fault : (params : Params) (entropy : List ℕ) (fault : DealFault) → params.h ≡ 5 → HasFault false params two entropy fault → RehearsalFault entropy fault
is-fault params entropy fault h (too_high high) = absurd (omega arith)
is-fault params entropy fault h (too_wide small height width) = absurd (omega arith)
is-fault params entropy fault h (dealing.bad_entropy set other) = bad_entropy other
is-fault params entropy fault h (dealing.same_keys t u set size pair) =
    let low = pair.two.first in
    let order = pair.two.order in
    let last = pair.two.last in
    let one : t ≡ 1 = omega arith in
    let second : u ≡ 2 = omega arith in
    rw (one, second) (same_keys size (rw (one, second) at pair.alike))

pub rehearsal-fault : (params : Params) (plan : PlanNumbers) (entropy : List ℕ) (fault : DealFault) → params.h ≡ 5 → plan ≡ two → HasFault false params plan entropy fault
    → RehearsalFault entropy fault
rehearsal-fault params plan entropy fault h is has = is-fault params entropy fault h (rw is at has)
