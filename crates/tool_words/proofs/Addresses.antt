-- Address words, and the places that they name.
use Rattle.std.proofs.Common.{◌≡◌, ◌≤◌, ◌<◌, ◌-◌, ◌+◌, ◌==◌, ◌&&◌, nat_le, leb-true, le-leb, ℕ, Bool, true, false, List, [], ◌∷◌, length, map, drop, get_or, set, replicate, Option, None, Some, is_some, if◌then◌else◌, refl, sym, ◌∙◌, ap, arith, add-one, subst}
use Rattle.std.specs.List.{All, after_first, before_first, list_any, position_or_len}
use Rattle.std.specs.Option.{ForSome, option_and_then, option_map, unwrap_or}
use Rattle.std.proofs.lemmas.List.Elements.{All-replicate, All-set}
use Rattle.std.proofs.lemmas.List.Folds.{list_any_at}
use Rattle.std.proofs.lemmas.List.{get_or-set_same, length-set, map-set}
use Rattle.std.proofs.Math.ListN.{drop_of_length-le, get_or-map}
use Rattle.std.proofs.Math.Seq.{drop-cons}
use Rattle.tool_words.specs.Words.{HasPlaces, address_of, is_equals, number_of, number_within, places_named, places_of, with_address, with_addresses, with_place}

-- no place, if nothing stands after the first `=`
pub placeless : (word : List ℕ) → (length (after_first is_equals word) == 0) ≡ true → None ≡ address_of word
unfolding address_of
placeless word nothing = rw nothing refl

pub placeless_at : (word after : List ℕ) → after ≡ after_first is_equals word → (length after == 0) ≡ true → None ≡ address_of word
placeless_at word after back nothing = placeless word (rw (← back) nothing)

-- no address, if there is no `=`
pub without_equals : (word : List ℕ) → position_or_len is_equals word ≡ length word → None ≡ address_of word
without_equals word none =
    placeless word (rw (drop_of_length-le word {i = position_or_len is_equals word + 1} (omega (arith, none))) refl)

-- a place, and a number or none before it
pub address_is : (word before after : List ℕ) (number : Option ℕ) → before ≡ before_first is_equals word → after ≡ after_first is_equals word
    → (length after == 0) ≡ false → number ≡ number_within 1 12 before → option_map (λ n. (n, after)) number ≡ address_of word
unfolding address_of
address_is word before after number front back some is =
    rw (← back, some) (rw (← front) (rw is refl))

-- a place that a list of places has, read through a map
is_some-map : {X Y : Type 0} (g : X → Y) (o : Option X) → is_some (option_map g o) ≡ is_some o
is_some-map g None = refl
is_some-map g (Some x) = refl

there : {X Y : Type 0} (g : X → Y) (places : List (Option X)) (i : ℕ)
    → is_some (get_or (map (option_map g) places) i None) ≡ is_some (get_or places i None)
there g places i = ap is_some (get_or-map (option_map g) places i None) ∙ is_some-map g (get_or places i None)

pub with_none : {X : Type 0} (g : X → List ℕ) (places : List (Option X)) (word : List ℕ) → None ≡ address_of word
    → with_address (map (option_map g) places) word ≡ None
unfolding with_address
with_none g places word none = rw (← none) refl

pub with_taken : {X : Type 0} (g : X → List ℕ) (places : List (Option X)) (word : List ℕ) (n : ℕ) (place : List ℕ) → Some (n, place) ≡ address_of word
    → is_some (get_or places (n - 1) None) ≡ true → with_address (map (option_map g) places) word ≡ None
unfolding with_address
with_taken g places word n place is taken = rw (← is) (rw (there g places (n - 1), taken) refl)

pub with_free : {X : Type 0} (g : X → List ℕ) (places : List (Option X)) (word : List ℕ) (n : ℕ) (x : X) → Some (n, g x) ≡ address_of word
    → is_some (get_or places (n - 1) None) ≡ false
    → with_address (map (option_map g) places) word ≡ Some (map (option_map g) (set places (n - 1) (Some x)))
unfolding with_address
with_free g places word n x is free =
    rw (← is) (rw (there g places (n - 1), free) (ap Some (sym (map-set (option_map g) places (n - 1) (Some x)))))

-- the words from i on have a first
first_left : (places : List (Option (List ℕ))) {S : Type 0} (f : S → List ℕ) (words : List S) (i : ℕ) (x : S) → i < length words → x ≡ get_or words i x
    → with_addresses places (map f (drop i words))
    ≡ option_and_then (λ places. with_addresses places (map f (drop (i + 1) words))) (with_address places (f x))
first_left places f words i x more is = rw (drop-cons words i x more, ← is) (rw add-one refl)

pub stopped : (places : List (Option (List ℕ))) {S : Type 0} (f : S → List ℕ) (words : List S) (i : ℕ) (x : S) → i < length words → x ≡ get_or words i x
    → with_address places (f x) ≡ None → with_addresses places (map f (drop i words)) ≡ None
stopped places f words i x more is none = first_left places f words i x more is ∙ rw none refl

pub went_on : (places next : List (Option (List ℕ))) {S : Type 0} (f : S → List ℕ) (words : List S) (i : ℕ) (x : S) → i < length words → x ≡ get_or words i x
    → with_address places (f x) ≡ Some next → with_addresses places (map f (drop i words)) ≡ with_addresses next (map f (drop (i + 1) words))
went_on places next f words i x more is some = first_left places f words i x more is ∙ rw some refl

pub ended : (places : List (Option (List ℕ))) {S : Type 0} (f : S → List ℕ) (words : List S) (i : ℕ) → length words ≤ i
    → with_addresses places (map f (drop i words)) ≡ Some places
ended places f words i all = rw (drop_of_length-le words {i = i} all) refl

-- of too few words or too many no places are made
unless_both : (some few : Bool) (places : Option (List (Option (List ℕ)))) → (some ≡ true → few ≡ true → ⊥) → None ≡ (if some && few then places else None)
unless_both false few places never = refl
unless_both true false places never = refl
unless_both true true places never = absurd (never refl refl)

pub none_named : (words : List (List ℕ)) → length words ≡ 0 → None ≡ places_of words
unfolding places_of
none_named words none = rw none refl

pub too_many_named : (words : List (List ℕ)) → 12 < length words → None ≡ places_of words
unfolding places_of
too_many_named words many =
    unless_both (nat_le 1 (length words)) (nat_le (length words) 12) (with_addresses (replicate 12 None) words)
    (λ _ few. let fits = leb-true (length words) 12 few in omega arith)

-- of one to twelve words they are those that are added to none
pub counted : (words : List (List ℕ)) → 1 ≤ length words → length words ≤ 12 → with_addresses (replicate 12 None) words ≡ places_of words
unfolding places_of
counted words some few = rw (le-leb 1 (length words) some, le-leb (length words) 12 few) refl

-- an address has a number of a trustee and a place
record IsAddress (address : ℕ × List ℕ) : Type 0 where
  least : 1 ≤ address.0
  most : address.0 ≤ 12
  some : 1 ≤ length address.1

abbrev Full : Option (List ℕ) → Type 0
Full place = ForSome place (λ name. 1 ≤ length name)

within_both : (least most number : ℕ) (at_least at_most : Bool) → nat_le least number ≡ at_least → nat_le number most ≡ at_most → (n : ℕ)
    → (if at_least && at_most then Some number else None) ≡ Some n → (least ≤ n) × (n ≤ most)
within_both least most number false at_most low high n is = absurd (cc)
within_both least most number true false low high n is = absurd (cc)
within_both least most number true true low high n is =
    let same : number ≡ n = cc in
    subst (λ n. (least ≤ n) × (n ≤ most)) same (leb-true least number low, leb-true number most high)

within_numbers : (least most : ℕ) (number : Option ℕ) (n : ℕ)
    → elim number [ None ↦ None | Some number ↦ if nat_le least number && nat_le number most then Some number else None ] ≡ Some n
    → (least ≤ n) × (n ≤ most)
within_numbers least most None n is = absurd (cc)
within_numbers least most (Some number) n is = within_both least most number (nat_le least number) (nat_le number most) refl refl n is

addressed : (nothing : Bool) (place : List ℕ) (number : Option ℕ) (address : ℕ × List ℕ) → (length place == 0) ≡ nothing
    → ((n : ℕ) → number ≡ Some n → (1 ≤ n) × (n ≤ 12))
    → (if nothing then None else option_map (λ n. (n, place)) number) ≡ Some address → IsAddress address
addressed true place number address empty within is = absurd (cc)
addressed false place None address empty within is = absurd (cc)
addressed false place (Some n) address empty within is =
    let same : (n, place) ≡ address = cc in
    subst IsAddress same (record { least = (within n refl).0; most = (within n refl).1; some = grind (arith, empty) })

is_address : (word : List ℕ) (address : ℕ × List ℕ) → address_of word ≡ Some address → IsAddress address
unfolding address_of
is_address word address is =
    addressed _ (after_first is_equals word) (number_within 1 12 (before_first is_equals word)) address refl
    (within_numbers 1 12 (number_of (before_first is_equals word))) is

-- places with one more
record Grown (places : List (Option (List ℕ))) : Type 0 where
  count : length places ≡ 12
  some : list_any is_some places ≡ true
  full : All Full places

grown_at : (taken : Bool) (places next : List (Option (List ℕ))) (address : ℕ × List ℕ) → IsAddress address → length places ≡ 12 → All Full places
    → (if taken then None else Some (set places (address.0 - 1) (Some address.1))) ≡ Some next → Grown next
grown_at true places next address known count full is = absurd (cc)
grown_at false places next address known count full is =
    let same : set places (address.0 - 1) (Some address.1) ≡ next = cc in
    let near : address.0 - 1 < length places = omega (arith, count, known.least, known.most) in
    let length_is : length (set places (address.0 - 1) (Some address.1)) ≡ 12 = length-set places (address.0 - 1) (Some address.1) ∙ count in
    let holds : is_some (get_or (set places (address.0 - 1) (Some address.1)) (address.0 - 1) None) ≡ true =
    ap is_some (get_or-set_same places (address.0 - 1) (Some address.1) None near) in
    subst Grown same (record {
      count = length_is;
      some = list_any_at is_some (set places (address.0 - 1) (Some address.1)) (address.0 - 1) None (omega (arith, near, length_is, count)) holds;
      full = All-set Full places (address.0 - 1) (Some address.1) (λ name is. let same : address.1 ≡ name = cc in subst (λ name. 1 ≤ length name) same known.some) full;
    })

grown_by : (places next : List (Option (List ℕ))) (address : Option (ℕ × List ℕ)) → ((a : ℕ × List ℕ) → address ≡ Some a → IsAddress a)
    → length places ≡ 12 → All Full places → option_and_then (with_place places) address ≡ Some next → Grown next
grown_by places next None known count full is = absurd (cc)
grown_by places next (Some address) known count full is =
    grown_at (is_some (get_or places (address.0 - 1) None)) places next address (known address refl) count full is

grown : (places next : List (Option (List ℕ))) (word : List ℕ) → length places ≡ 12 → All Full places → with_address places word ≡ Some next → Grown next
unfolding with_address
grown places next word count full is = grown_by places next (address_of word) (is_address word) count full is

through : (next : Option (List (Option (List ℕ)))) (more : List (Option (List ℕ)) → Option (List (Option (List ℕ)))) (last : List (Option (List ℕ)))
    → ((n : List (Option (List ℕ))) → next ≡ Some n → Grown n) → ((n : List (Option (List ℕ))) → Grown n → more n ≡ Some last → Grown last)
    → option_and_then more next ≡ Some last → Grown last
through None more last one rest is = absurd (cc)
through (Some next) more last one rest is = rest next (one next refl) is

-- whatever is added, the places stay full
grown_all : (places last : List (Option (List ℕ))) (words : List (List ℕ)) → Grown places → with_addresses places words ≡ Some last → Grown last
grown_all places last [] begun is = let same : places ≡ last = cc in subst Grown same begun
grown_all places last (word ∷ words) begun is =
    through (with_address places word) (λ next. with_addresses next words) last (λ next. grown places next word begun.count begun.full)
    (λ next grown. grown_all next last words grown) is

grown_first : (last : List (Option (List ℕ))) (words : List (List ℕ)) → 1 ≤ length words → with_addresses (replicate 12 None) words ≡ Some last → Grown last
grown_first last [] some is = absurd (omega (arith, some))
grown_first last (word ∷ words) some is =
    through (with_address (replicate 12 None) word) (λ next. with_addresses next words) last
    (λ next. grown (replicate 12 None) next word refl (All-replicate Full 12 None (λ name is. absurd (cc))))
    (λ next grown. grown_all next last words grown) is

-- what one to twelve address words name
pub has_places : (words : List (List ℕ)) (places : List (Option (List ℕ))) → 1 ≤ length words → with_addresses (replicate 12 None) words ≡ Some places
    → HasPlaces places
has_places words places some is =
    let last = grown_first places words some is in
    record { count = last.count; some = last.some; full = last.full }

-- words that name places name those that are added to none
named_so : (words : List (List ℕ)) (few : Bool) → HasPlaces (unwrap_or (if few then with_addresses (replicate 12 None) words else None) [])
    → (places : Option (List (Option (List ℕ)))) → with_addresses (replicate 12 None) words ≡ places
    → unwrap_or places [] ≡ unwrap_or (if few then with_addresses (replicate 12 None) words else None) []
named_so words true has places is = ap (λ p. unwrap_or p []) (sym is)
named_so words false has places is = let count = has.count in absurd (omega arith)

pub listed : (words : List (List ℕ)) (places : List (Option (List ℕ))) (full : Bool) → HasPlaces (places_named words)
    → with_addresses (replicate 12 None) words ≡ (if full then Some places else None) → places ≡ places_named words
unfolding places_of
listed words places true has is = named_so words (nat_le 1 (length words) && nat_le (length words) 12) has (Some places) is
listed words places false has is =
    let none = named_so words (nat_le 1 (length words) && nat_le (length words) 12) has None is in
    let count = has.count in
    let empty : length (places_named words) ≡ 0 = ap length (sym none) in
    absurd (omega (arith, count, empty))

-- one to twelve words with which all places were made name them
pub named : (words : List (List ℕ)) (places : List (Option (List ℕ))) → 1 ≤ length words → length words ≤ 12
    → with_addresses (replicate 12 None) words ≡ Some places → HasPlaces (places_named words) × (Some (places_named words) ≡ places_of words)
named words places some few is =
    let all : places_of words ≡ Some places = sym (counted words some few) ∙ is in
    let same : places ≡ places_named words = ap (λ p. unwrap_or p []) (sym all) in
    (subst HasPlaces same (has_places words places some is), ap Some (sym same) ∙ sym all)
