-- A drill in which nothing has happened yet.
use Rattle.std.proofs.Common.{◌≡◌, ◌<◌, ◌-◌, ℕ, List, [], length, get_or, inl, sym, ◌∙◌, ap, subst, arith}
use Rattle.std.proofs.lemmas.List.{get_or-map}
use Rattle.std.proofs.lemmas.List.Elements.{All-nil}
use Rattle.std.proofs.lemmas.List.FromFn.{get_or-range_with_len}
use Rattle.coalition_map.specs.Coalitions.{PlanNumbers}
use Rattle.dealer.specs.Dealt.{AreShares}
use Rattle.drill_trustees.specs.Trustees.{AreNew, IsTrustee, leaf_at, share_at}
use Rattle.leaf_table.specs.Entries.{IsFree, IsLeased}
use Rattle.reference_value.specs.Dealing.{Dealing}
use Rattle.share_files.specs.declared.share.Share.{Share}
use Rattle.drill.proofs.Counted.{all-free}
use Rattle.drill.specs.Courses.{HasSigned, IsGoing, IsGood, IsSettled, IsShareOf, uses_of}
use Rattle.drill.specs.Ids.{DifferentIds, id_of}
use Rattle.drill.specs.Keys.{HasDealing}
use Rattle.drill.specs.Openings.{AreOwn, IsOwn}
use Rattle.drill.specs.Seats.{AreWaiting}
use Rattle.drill.specs.declared.desk.Desk.{Desk}
use Rattle.drill.specs.declared.openings.Opening.{Opening}
use Rattle.drill.specs.declared.seat.Seat.{Seat as Place}
use Rattle.drill.specs.declared.state.Drill.{Drill}

none-leased : (a : List ℕ) → IsFree ≡ IsLeased a → ⊥
none-leased a is = absurd (cc)

-- the share of a trustee is that of the dealing
own-share : (d : Dealing) (given : List Share) (t : ℕ) (share : Share) → AreShares d given → d.plan.n ≡ 3 → length given ≡ 3 → IsTrustee t → share ≡ get_or given (t - 1) share → IsShareOf d t share
own-share d given t share are three count own is =
    let low = own.low in
    let high = own.high in
    let inside : t - 1 < length given = omega arith in
    let few : t - 1 < d.plan.n = omega arith in
    let key = sym (get_or-map (λ (s : Share). s.key) given (t - 1) share [] inside) ∙ ap (λ (l : List (List ℕ)). get_or l (t - 1) []) are.keys in
    let member : (get_or given (t - 1) share).member ≡ t =
    sym (get_or-map (λ (s : Share). s.member) given (t - 1) share 0 inside)
    ∙ (ap (λ (l : List ℕ). get_or l (t - 1) 0) are.members ∙ (get_or-range_with_len 1 d.plan.n (t - 1) 0 few ∙ omega arith)) in
    record {
      params = ap (λ (s : Share). s.params) is ∙ are.params (t - 1) share inside;
      plan = ap (λ (s : Share). s.plan) is ∙ are.plan (t - 1) share inside;
      id = ap (λ (s : Share). s.id) is ∙ are.id (t - 1) share inside;
      key = ap (λ (s : Share). s.key) is ∙ key;
      member = ap (λ (s : Share). s.member) is ∙ member;
    }

pub begins : (desk : Desk) (own : HasDealing desk.plan desk.dealt) (drill : Drill) → DifferentIds (length drill.seats.items) → AreNew desk.dealt.shares.items drill.trustees → IsSettled drill.table
    → ((q : ℕ) → q < 32 → uses_of drill.table q ≡ IsFree) → AreWaiting drill.seats.items → drill.openings.list.items ≡ [] → IsGood desk own.dealing drill
begins desk own drill different new settled free waiting none =
    let n : own.dealing.plan.n ≡ 3 = ap (λ (p : PlanNumbers). p.n) (own.plan_is ∙ desk.plan_is) in
    record {
      different = different;
      shares = λ t trustee. own-share own.dealing desk.dealt.shares.items t (share_at drill.trustees t) own.dealt_is.shares n desk.count trustee (new.shares t (share_at drill.trustees t) trustee);
      table = settled;
      free = λ t q trustee within is. new.free t q trustee within;
      seats = λ i none inside.
          subst (λ (x : Place). IsGoing desk own.dealing i (uses_of drill.table) (leaf_at drill.trustees) x) (sym (waiting i none inside))
          (λ q within is. none-leased (id_of i) (sym (free q within) ∙ is));
      taken = λ q within. inl (free q within);
      leaves = λ c few. all-free c (uses_of drill.table) drill.seats.items few free waiting;
      openings = subst (λ (l : List Opening). AreOwn desk own.dealing (length drill.seats.items) (uses_of drill.table) l) (sym none) (record {
        each = All-nil (IsOwn desk own.dealing (length drill.seats.items) (uses_of drill.table));
        single = λ member leaf. omega arith;
      });
      some = λ i none inside has. absurd (subst HasSigned (waiting i none inside) has);
    }
