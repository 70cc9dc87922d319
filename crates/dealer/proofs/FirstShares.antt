-- The shares of the first trustees.
use Rattle.std.proofs.Common.{◌≡◌, ℕ, ◌+◌, ◌<◌, List, [], ◌∷◌, ◌++◌, length, map, take, get_or, refl, sym, ap, ◌∙◌, add-one, arith, take_all}
use Rattle.std.specs.Prelude.{All}
use Rattle.std.specs.List.{range_with_len}
use Rattle.std.proofs.Math.Seq.{take-suc}
use Rattle.std.proofs.lemmas.List.{length-map, map-append}
use Rattle.std.proofs.lemmas.List.Elements.{All-nil}
use Rattle.std.proofs.lemmas.List.FromFn.{length-range_with_len}
use Rattle.reference_value.specs.Dealing.{Dealing}
use Rattle.share_files.specs.declared.share.Share.{Share}
use Rattle.dealer.specs.Dealt.{AreShares}
use Rattle.dealer.proofs.Mapped.{all_more, range_push}

pub record HasShares (d : Dealing) (count : ℕ) (shares : List Share) : Type 0 where
  pub members : map (λ share. share.member) shares ≡ range_with_len 1 count
  pub keys : map (λ share. share.key) shares ≡ take count d.keys
  pub params : All (λ share. share.params ≡ d.params) shares
  pub plan : All (λ share. share.plan ≡ d.plan) shares
  pub id : All (λ share. share.id ≡ d.id) shares

-- the share of the next trustee
pub record IsNext (d : Dealing) (count : ℕ) (share : Share) : Type 0 where
  pub within : count < length d.keys
  pub member : share.member ≡ 1 + count
  pub key : share.key ≡ get_or d.keys count share.key
  pub params : share.params ≡ d.params
  pub plan : share.plan ≡ d.plan
  pub id : share.id ≡ d.id

pub more_shares : (d : Dealing) (count : ℕ) (old new : List Share) (share : Share) → HasShares d count old → IsNext d count share
    → new ≡ old ++ share ∷ [] → HasShares d (count + 1) new
more_shares d count old new share before next pushed =
    let within = next.within in
    let member : Share → ℕ = λ share. share.member in
    let key : Share → List ℕ = λ share. share.key in
    record {
      members = rw (pushed, map-append member old (share ∷ []), before.members, next.member, add-one count) (sym (range_push 1 count));
      keys = rw (pushed, map-append key old (share ∷ []), before.keys, add-one count, take-suc d.keys count share.key within) (ap (λ (k : List ℕ). take count d.keys ++ k ∷ []) next.key);
      params = all_more (λ share. share.params ≡ d.params) old new share before.params next.params pushed;
      plan = all_more (λ share. share.plan ≡ d.plan) old new share before.plan next.plan pushed;
      id = all_more (λ share. share.id ≡ d.id) old new share before.id next.id pushed;
    }

-- before the first
pub no_shares : (d : Dealing) (shares : List Share) → shares ≡ [] → HasShares d 0 shares
no_shares d shares none = rw none (record {
  members = refl;
  keys = refl;
  params = All-nil (λ share. share.params ≡ d.params);
  plan = All-nil (λ share. share.plan ≡ d.plan);
  id = All-nil (λ share. share.id ≡ d.id);
})

-- after the last
pub all_shares : (d : Dealing) (count : ℕ) (shares : List Share) → HasShares d count shares → count ≡ d.plan.n → length d.keys ≡ d.plan.n → AreShares d shares
all_shares d count shares h all keys = record {
  members = rw all at h.members;
  keys = h.keys ∙ take_all count d.keys (omega (arith, all, keys));
  params = h.params;
  plan = h.plan;
  id = h.id;
}

pub some_shares : (d : Dealing) (count : ℕ) (shares : List Share) → HasShares d count shares → 0 < count → 0 < length shares
some_shares d count shares h some =
    let member : Share → ℕ = λ share. share.member in
    let size : length shares ≡ count = sym (length-map shares member) ∙ (ap length h.members ∙ length-range_with_len 1 count) in
    rw size some
