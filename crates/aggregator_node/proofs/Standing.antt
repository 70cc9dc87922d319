-- Ports and cells as places.
use Rattle.std.proofs.Common.{◌≡◌, List, [], ◌∷◌, ◌++◌, length, map, refl, ap, ◌∙◌, arith}
use Rattle.std.specs.List.{zip}
use Rattle.aggregator_node.specs.Ports.{Place, places_of, reference_state}
use Rattle.disk_trait.specs.declared.faults.Faults as faults
use Rattle.reference_value.specs.declared.cells.Cells as cells
use Rattle.stream_io.specs.Net.{PortState}

-- one more of each of two lists
zip-push : {A B : Type 0} (xs : List A) (ys : List B) (x : A) (y : B) → length xs ≡ length ys → zip (xs ++ x ∷ []) (ys ++ y ∷ []) ≡ zip xs ys ++ (x, y) ∷ []
zip-push [] [] x y same = refl
zip-push [] (b ∷ ys) x y same = absurd (omega (arith, same))
zip-push (a ∷ xs) [] x y same = absurd (omega (arith, same))
zip-push (a ∷ xs) (b ∷ ys) x y same = ap (λ (l : List _). (a, b) ∷ l) (zip-push xs ys x y (omega (arith, same)))

map-push : {A B : Type 0} (f : A → B) (xs : List A) (x : A) → map f (xs ++ x ∷ []) ≡ map f xs ++ f x ∷ []
map-push f [] x = refl
map-push f (a ∷ xs) x = ap (λ (l : List _). f a ∷ l) (map-push f xs x)

length-zip : {A B : Type 0} (xs : List A) (ys : List B) → length xs ≡ length ys → length (zip xs ys) ≡ length xs
length-zip [] ys same = refl
length-zip (a ∷ xs) [] same = absurd (omega (arith, same))
length-zip (a ∷ xs) (b ∷ ys) same = (let rest = length-zip xs ys (omega (arith, same)) in omega (arith, rest))

length-map-same : {A B : Type 0} (f : A → B) (xs : List A) → length (map f xs) ≡ length xs
length-map-same f [] = refl
length-map-same f (a ∷ xs) = (let rest = length-map-same f xs in omega (arith, rest))

module _ {X P : Type 0} (c : cells.Ghosts X) (f : faults.Ghosts X) (state : P → PortState) where
  -- one port and its cells as a place
  abbrev pub place_of : P → X → Place
  place_of port own = record { port = state port; reference = reference_state c f own; faults = f.count own }

  pub places-push : (ports : List P) (own : List X) (port : P) (more : X) → length ports ≡ length own
      → places_of c f state (ports ++ port ∷ []) (own ++ more ∷ []) ≡ places_of c f state ports own ++ place_of port more ∷ []
  places-push ports own port more same =
      ap (map (λ both. place_of both.0 both.1)) (zip-push ports own port more same) ∙ map-push (λ both. place_of both.0 both.1) (zip ports own) (port, more)

  pub places-many : (ports : List P) (own : List X) → length ports ≡ length own → length (places_of c f state ports own) ≡ length ports
  places-many ports own same = length-map-same (λ both. place_of both.0 both.1) (zip ports own) ∙ length-zip ports own same
