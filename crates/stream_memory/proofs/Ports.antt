-- What ports that come back have counted, and for which nets a port is new.
use Rattle.std.proofs.Common.{◌≡◌, ◌≤◌, ℕ, Bool, true, false, List, [], ◌∷◌, map, get_or, nat_lt, All, Option, Some, None, refl, sym, ap, ◌∙◌, arith}
use Rattle.std.proofs.lemmas.List.Folds.{Any-from_list_any, list_any_at}
use Rattle.std.specs.List.{list_any}
use Rattle.stream_memory.specs.Nets.{is_admitted, is_listed, net_state}
use Rattle.stream_memory.specs.declared.mem_net.MemNet.{MemNet}
use Rattle.disk_trait.specs.Faults.{Rose}
use Rattle.stream_io.specs.Store.{RisesWhere}
use Rattle.stream_io.specs.Net.{IsNewPort, IsOffered, NetState, PortState}
use borrow.Author.Tests.{ltb-false, ltb-true}

any-mapped : {P : Type 0} (st : P → PortState) (count : PortState → ℕ) (ports : List P)
    → list_any (λ port. nat_lt 0 (count (st port))) ports ≡ list_any (λ port. nat_lt 0 (count port)) (map st ports)
any-mapped st count [] = refl
any-mapped st count (port ∷ ports) = rw (any-mapped st count ports) refl

-- if none has counted, each count is 0
none-counted : (count : PortState → ℕ) (ports : List PortState) → list_any (λ port. nat_lt 0 (count port)) ports ≡ false → All (λ port. count port ≡ 0) ports
none-counted count ports none k d lt = go (nat_lt 0 (count (get_or ports k d))) refl where
  go : (b : Bool) → nat_lt 0 (count (get_or ports k d)) ≡ b → count (get_or ports k d) ≡ 0
  go false e = let h = ltb-false _ _ e in omega arith
  go true e = let some = list_any_at (λ port. nat_lt 0 (count port)) ports k d lt e in cc

-- if one has, not all counts are 0
some-counted : (count : PortState → ℕ) (ports : List PortState) → list_any (λ port. nat_lt 0 (count port)) ports ≡ true → All (λ port. count port ≡ 0) ports → ⊥
some-counted count ports some all =
    let found = Any-from_list_any (λ port. nat_lt 0 (count port)) ports some in
    let zero : count (get_or ports found.0 found.1) ≡ 0 = all found.0 found.1 found.2 in
    let own : count found.1 ≡ 0 = ap count (sym found.3) ∙ zero in
    let more = ltb-true _ _ found.4 in
    omega arith

-- a count that rises if one of the ports has counted
pub rises : {P : Type 0} (st : P → PortState) (count : PortState → ℕ) (ports : List P) (before now : ℕ) → list_any (λ port. nat_lt 0 (count (st port))) ports ≡ true
    → before ≤ now → Rose before now → RisesWhere (All (λ port. count port ≡ 0) (map st ports) → ⊥) before now
rises st count ports before now some later rose = record {
  later = later;
  rose = λ _. rose;
  same = λ none. absurd (none (some-counted count (map st ports) (sym (any-mapped st count ports) ∙ some)));
}

pub stays : {P : Type 0} (st : P → PortState) (count : PortState → ℕ) (ports : List P) (now : ℕ) → list_any (λ port. nat_lt 0 (count (st port))) ports ≡ false
    → RisesWhere (All (λ port. count port ≡ 0) (map st ports) → ⊥) now now
stays st count ports now none = record {
  later = omega arith;
  rose = λ some. absurd (some (none-counted count (map st ports) (sym (any-mapped st count ports) ∙ none)));
  same = λ _. refl;
}

-- the net has the place if it admits it
pub admitted : (net : MemNet) (place : Option (List ℕ)) → is_admitted (is_listed net.places.items) place ≡ true → IsOffered (net_state net) place
admitted net None there = tt
admitted net (Some place) there = there

-- a port that is new for a net is also new for a net that is as steady
pub new-one : (a b : NetState) (place : Option (List ℕ)) (port : PortState) → a.told ≡ b.told → a.steady ≡ b.steady → b.room ≤ a.room → IsNewPort a place port → IsNewPort b place port
new-one a b place port told steady room new = record {
  told = λ t. new.told (told ∙ t);
  steady = λ t. new.steady (steady ∙ t);
  place = new.place;
  count = new.count;
  accept_count = new.accept_count;
  talks = new.talks;
  room = let its = new.room in omega arith;
}

pub new-for : (a b : NetState) (place : Option (List ℕ)) (ports : List PortState) → a.told ≡ b.told → a.steady ≡ b.steady → b.room ≤ a.room → All (IsNewPort a place) ports → All (IsNewPort b place) ports
new-for a b place ports told steady room new k d lt = new-one a b place (get_or ports k d) told steady room (new k d lt)
