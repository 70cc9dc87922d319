-- What a net says of its ports follows from what each of them says.
use Rattle.std.proofs.Common.{arith, ◌≡◌, ℕ, ◌<◌, Bool, true, false, List, [], ◌∷◌, MatchBool, Option, Result, Ok, Err, IfOk, length, map, All, IsTrue, IsFalse}
use Rattle.std.proofs.Common.{refl, sym, ◌∙◌, subst}
use Rattle.std.specs.List.{AllWithin, HoldsAt}
use Rattle.std.proofs.lemmas.Bool.{false≢true}
use Rattle.std.proofs.lemmas.List.{get_or-map, length-map}
use Rattle.std.proofs.lemmas.List.Elements.{All-map}
use Rattle.stream_host.specs.Untold.{untold_net, untold_port}
use Rattle.stream_io.specs.Net.{Gathers, IsNewPort, MakesPorts, PortState}
use Rattle.stream_io.specs.Store.{RisesWhere}

All-unmap : {X Y : Type 0} (P : Y → Type 0) (f : X → Y) (xs : List X) → All P (map f xs) → All (λ x. P (f x)) xs
All-unmap P f xs all k d below =
    subst P (get_or-map f xs k d (f d) below) (all k (f d) (subst (λ n. k < n) (sym (length-map xs f)) below))

-- a count that rises if a test says so rises if one of the values does not have P
rises_where : {X Y : Type 0} (P : Y → Type 0) (f : X → Y) (xs : List X) (test : Bool) (before now : ℕ)
    → (IsTrue test → All (λ x. P (f x)) xs → ⊥) → (IsFalse test → All (λ x. P (f x)) xs)
    → RisesWhere (IsTrue test) before now → RisesWhere (All P (map f xs) → ⊥) before now
rises_where P f xs true before now some none rises = record {
  later = rises.later;
  rose = λ _. rises.rose refl;
  same = λ whole. absurd (whole (λ all. some refl (All-unmap P f xs all)));
}
rises_where P f xs false before now some none rises = record {
  later = rises.later;
  rose = λ failed. absurd (failed (All-map P f xs (none refl)));
  same = λ _. rises.same false≢true;
}

module _ {X : Type 0} (state : X → PortState) (faults port_faults : ℕ) where
  new_port : (place : Option (List ℕ)) → IsNewPort (untold_net faults port_faults) place (untold_port place 0 0)
  new_port place = record {
    told = λ told. absurd (false≢true told);
    steady = λ steady. absurd (false≢true steady);
    place = refl;
    count = refl;
    accept_count = refl;
    talks = refl;
    room = omega arith;
  }

  makes_ports : (now port_now count : ℕ) (place : Option (List ℕ)) (ports : List X) → length ports ≡ count
      → All (λ port. state port ≡ untold_port place 0 0) ports
      → MakesPorts (untold_net faults port_faults) place count (map state ports) (untold_net now port_now)
  makes_ports now port_now count place ports many fresh = record {
    many = length-map ports state ∙ many;
    new_ports = All-map (IsNewPort (untold_net faults port_faults) place) state ports
        (λ k d below. subst (IsNewPort (untold_net faults port_faults) place) (sym (fresh k d below)) (new_port place));
    offered = λ told. absurd (false≢true told);
    out = λ told. absurd (false≢true told);
    kept = refl;
  }

  -- the same of what a call gives, if it gives ports
  pub if_makes_ports : {V E : Type 0} (items : V → List X) (made : Result V E) (now port_now count : ℕ)
      (place : Option (List ℕ)) → IfOk made (λ ports. length (items ports) ≡ count)
      → IfOk made (λ ports. All (λ port. state port ≡ untold_port place 0 0) (items ports))
      → IfOk made (λ ports. MakesPorts (untold_net faults port_faults) place count (map state (items ports))
      (untold_net now port_now))
  if_makes_ports items (Ok ports) now port_now count place many fresh =
      makes_ports now port_now count place (items ports) many fresh
  if_makes_ports items (Err fault) now port_now count place many fresh = tt

  pub gathers : (now port_now : ℕ) (ports : List X) (failed unaccepted : Bool)
      → (IsTrue failed → All (λ port. (state port).count ≡ 0) ports → ⊥)
      → (IsFalse failed → All (λ port. (state port).count ≡ 0) ports)
      → (IsTrue unaccepted → All (λ port. (state port).accept_count ≡ 0) ports → ⊥)
      → (IsFalse unaccepted → All (λ port. (state port).accept_count ≡ 0) ports)
      → RisesWhere (IsTrue failed) faults now → RisesWhere (IsTrue unaccepted) port_faults port_now
      → Gathers (untold_net faults port_faults) (map state ports) (untold_net now port_now)
  gathers now port_now ports failed unaccepted some none some_un none_un rises rises_un = record {
    count = rises_where (λ port. port.count ≡ 0) state ports failed faults now some none rises;
    port_count = rises_where (λ port. port.accept_count ≡ 0) state ports unaccepted port_faults port_now
        some_un none_un rises_un;
    out = λ told. absurd (false≢true told);
    kept = λ told. absurd (false≢true told);
  }

-- what a search over ports says of all of them
module _ {X : Type 0} (P : X → Type 0) where
  pub found-not-all : (found : Bool) (xs : List X)
      → MatchBool found ((k : ℕ) × (k < length xs) × HoldsAt (λ x. P x → ⊥) xs k) (AllWithin P xs 0 (length xs))
      → IsTrue found → All P xs → ⊥
  found-not-all true [] h is all = absurd (omega (arith, h.1))
  found-not-all true (x ∷ xs) h is all = h.2 x (all h.0 x h.1)
  found-not-all false xs h is all = false≢true is

  pub none-found : (found : Bool) (xs : List X)
      → MatchBool found ((k : ℕ) × (k < length xs) × HoldsAt (λ x. P x → ⊥) xs k) (AllWithin P xs 0 (length xs))
      → IsFalse found → All P xs
  none-found false xs h is = λ k d below. h k d (omega arith) below
  none-found true xs h is = absurd (false≢true (sym is))
