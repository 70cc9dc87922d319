-- Logs of entries, and the files that keep them.
use Rattle.std.proofs.Common.{◌≡◌, ◌≢◌, ℕ, zero, suc, ◌+◌, ◌*◌, ◌<◌, ◌≤◌, List, [], ◌∷◌, ◌++◌, fold, get_or, length, take, sum_by, refl, inl, inr, sym, ◌∙◌, ap, subst, arith, add-one, length-append}
use Rattle.std.proofs.Math.Seq.{get_or-append_seam}
use Rattle.std.proofs.lemmas.Bool.{cases_eq, cases_lt}
use Rattle.std.proofs.lemmas.Bool.Decides.{nat_tests}
use Rattle.std.proofs.lemmas.List.{flat_map_more, get_or_append_left, length-set, map-id, take-append-le, take_at, take_more}
use Rattle.std.proofs.lemmas.List.FromFn.{map-range_with_len_more}
use Rattle.std.proofs.lemmas.List.Sums.{sum_by-append}
use Rattle.std.specs.List.{flat_map, range_with_len}
use Rattle.slot_file.specs.Copies.{is_damaged}
use Rattle.slot_file.specs.Layout.{slot_at}
use Rattle.slot_file.specs.Logs.{IsLegal, IsWhole, entries_in, room_of, with_entry}
use Rattle.slot_file.specs.State.{CacheState, HasSlots, StandsFor, slot_in, with_made}
use Rattle.slot_file.specs.declared.header.Header.{Header}
use Rattle.slot_file.specs.declared.slot.Slot.{Slot}
use Rattle.slot_file.specs.declared.slot.Slot.TheVariants.{Free}

fold-push : {X Y : Type 0} (f : Y → X → Y) (y : Y) (xs : List X) (x : X) → fold f y (xs ++ x ∷ []) ≡ f (fold f y xs) x
fold-push f y [] x = refl
fold-push f y (z ∷ xs) x = fold-push f (f y z) xs x

module _ {E S : Type 0} (place : E → ℕ) (after : E → S) (first : ℕ → S) where
  entry-same : (map : ℕ → S) (entry : E) (slot : ℕ) → slot ≡ place entry → with_entry place after map entry slot ≡ after entry
  entry-same map entry slot is = grind (arith, nat_tests)

  entry-other : (map : ℕ → S) (entry : E) (slot : ℕ) → slot ≢ place entry → with_entry place after map entry slot ≡ map slot
  entry-other map entry slot differs = grind (arith, nat_tests)

  push : (entries : List E) (entry : E) (slot : ℕ)
      → fold (with_entry place after) first (entries ++ entry ∷ []) slot ≡ with_entry place after (fold (with_entry place after) first entries) entry slot
  push entries entry slot = ap (λ (map : ℕ → S). map slot) (fold-push (with_entry place after) first entries entry)

  -- the slot of one more entry is what it makes of it, and each other is as before
  pub log-same : (entries : List E) (entry : E) (slot : ℕ) → slot ≡ place entry
      → fold (with_entry place after) first (entries ++ entry ∷ []) slot ≡ after entry
  log-same entries entry slot is = push entries entry slot ∙ entry-same (fold (with_entry place after) first entries) entry slot is

  pub log-other : (entries : List E) (entry : E) (slot : ℕ) → slot ≢ place entry
      → fold (with_entry place after) first (entries ++ entry ∷ []) slot ≡ fold (with_entry place after) first entries slot
  log-other entries entry slot differs = push entries entry slot ∙ entry-other (fold (with_entry place after) first entries) entry slot differs

-- a file with slots is whole
pub has-whole : (version : ℕ) (header : Header) (slots : List Slot) (file : List ℕ) → header.version ≡ version → HasSlots header slots file
    → IsWhole version header (length slots) file
has-whole version header slots file is has = record {
  opens = has.opens;
  whole = λ slot below. ap (λ (v : ℕ). is_damaged (slot_at v slot file)) (sym is) ∙ has.sound slot below;
}

-- a file that stands for slots is whole, with what is in doubt or without it
pub stands-whole : (version : ℕ) (header : Header) (cache : CacheState) (file : List ℕ) → header.version ≡ version
    → StandsFor header cache file → IsWhole version header (length cache.slots) file
stands-whole version header cache file is stands_for = elim stands_for [
  | inl has ↦ has-whole version header cache.slots file is has
  | inr put ↦
      subst (λ (count : ℕ). IsWhole version header count file) (length-set cache.slots put.0.slot put.0.after)
      (has-whole version header (with_made cache.slots put.0) file is put.2)
]

-- logs of which each entry may follow those before it
module _ {E : Type 0} (follows : List E → E → Type 0) where
  pub legal-none : IsLegal follows []
  legal-none place none below = absurd (omega (arith, below))

  follows-at : (before was : List E) (entry then : E) → before ≡ was → entry ≡ then → follows was then → follows before entry
  follows-at before was entry then same is may = subst (λ (b : List E). follows b entry) (sym same) (subst (λ (e : E). follows was e) (sym is) may)

  pub legal-more : (entries : List E) (entry : E) → IsLegal follows entries → follows entries entry → IsLegal follows (entries ++ entry ∷ [])
  legal-more entries entry legal may place none below = elim (cases_lt place (length entries)) [
    | inl before ↦
        follows-at (take place (entries ++ entry ∷ [])) (take place entries) (get_or (entries ++ entry ∷ []) place none) (get_or entries place none)
        (take-append-le place entries (entry ∷ []) (omega (arith, before))) (get_or_append_left entries (entry ∷ []) none place before) (legal place none before)
    | inr past ↦
        let last : place ≡ length entries = omega (arith, past, below, length-append entries (entry ∷ [])) in
        follows-at (take place (entries ++ entry ∷ [])) entries (get_or (entries ++ entry ∷ []) place none) entry
        (ap (λ (n : ℕ). take n (entries ++ entry ∷ [])) last ∙ take_at entries (entry ∷ []) (length entries) refl)
        (ap (λ (n : ℕ). get_or (entries ++ entry ∷ []) n none) last ∙ get_or-append_seam entries entry [] none) may
  ]

range-more : (count : ℕ) → range_with_len 0 (count + 1) ≡ range_with_len 0 count ++ count ∷ []
range-more count =
    let f : ℕ → ℕ = λ k. k in
    sym (map-id (range_with_len 0 (count + 1))) ∙ map-range_with_len_more f 0 count count (omega arith)
    ∙ ap (λ (l : List ℕ). l ++ count ∷ []) (map-id (range_with_len 0 count))

-- the entries of the first slots
module _ {E : Type 0} (of_slot : ℕ → Slot → List E) where
  pub entries-none : (slots : ℕ → Slot) → entries_in of_slot 0 slots ≡ []
  unfolding entries_in
  entries-none slots = refl

  pub entries-more : (count : ℕ) (slots : ℕ → Slot) → entries_in of_slot (count + 1) slots ≡ entries_in of_slot count slots ++ of_slot count (slots count)
  unfolding entries_in
  entries-more count slots =
      let f : ℕ → List E = λ slot. of_slot slot (slots slot) in
      ap (flat_map f) (range-more count) ∙ sym (flat_map_more f [] (range_with_len 0 count) count)

  -- equal slots have equal entries
  pub entries-same : (count : ℕ) (f g : ℕ → Slot) → ((slot : ℕ) → slot < count → f slot ≡ g slot) → entries_in of_slot count f ≡ entries_in of_slot count g
  entries-same zero f g same = entries-none f ∙ sym (entries-none g)
  entries-same (suc count) f g same =
      let one = add-one count in
      ap (λ (m : ℕ). entries_in of_slot m f) (sym one) ∙ entries-more count f
      ∙ (λ i. entries-same count f g (λ slot below. same slot (omega (arith, below))) i ++ of_slot count (same count (omega arith) i))
      ∙ sym (entries-more count g) ∙ ap (λ (m : ℕ). entries_in of_slot m g) one

  -- what the entries of a log make of each slot, and what a slot itself says
  module _ {U : Type 0} (map_of : List E → ℕ → U) (use_of : Slot → U) (free : U) (legal : List E → Type 0) where
    -- A log has the entries of the first slots, which make of each what it says, and it is legal. That many entries may
    -- still be made of the first slots.
    pub record HasFirst (slots : List Slot) (count : ℕ) (entries : List E) : Type 0 where
      pub items : entries ≡ entries_in of_slot count (slot_in slots)
      pub have : (slot : ℕ) → slot < count → use_of (slot_in slots slot) ≡ map_of entries slot
      pub untouched : (slot : ℕ) → count ≤ slot → map_of entries slot ≡ free
      pub is_legal : legal entries
      pub room : length entries + sum_by room_of (take count slots) ≡ 2 * count

    pub first-none : (slots : List Slot) (entries : List E) → entries ≡ [] → ((slot : ℕ) → map_of [] slot ≡ free) → legal [] → HasFirst slots 0 entries
    first-none slots entries none all_free legal_none = record {
      items = none ∙ sym (entries-none (slot_in slots));
      have = λ slot below. absurd (omega (arith, below));
      untouched = λ slot past. ap (λ (l : List E). map_of l slot) none ∙ all_free slot;
      is_legal = subst legal (sym none) legal_none;
      room = omega (arith, ap length none);
    }

    -- one slot more
    module _ (slots : List Slot) (place : ℕ) (entries new : List E) (slot : Slot) (below : place < length slots) (so_far : HasFirst slots place entries)
        (is : slot ≡ slot_in slots place) (items : new ≡ entries ++ of_slot place slot) where
      first-room : length (of_slot place slot) + room_of slot ≡ 2 → length new + sum_by room_of (take (place + 1) slots) ≡ 2 * (place + 1)
      first-room two =
          let sums = ap (sum_by room_of) (take_more slots place Free below) ∙ sum_by-append room_of (take place slots) (slot_in slots place ∷ []) in
          omega (arith, so_far.room, sums, ap length items, length-append entries (of_slot place slot), two, ap room_of is)

      pub first-more : length (of_slot place slot) + room_of slot ≡ 2 → map_of new place ≡ use_of slot
          → ((other : ℕ) → other ≢ place → map_of new other ≡ map_of entries other) → legal new → HasFirst slots (place + 1) new
      first-more two shown others legal_new = record {
        items = items ∙ (λ i. so_far.items i ++ of_slot place (is i)) ∙ sym (entries-more place (slot_in slots));
        have = λ other small. elim (cases_eq other place) [
          | inl same ↦ ap (λ (k : ℕ). use_of (slot_in slots k)) same ∙ ap use_of (sym is) ∙ sym shown ∙ ap (map_of new) (sym same)
          | inr differs ↦ so_far.have other (omega (arith, small, differs)) ∙ sym (others other differs)
        ];
        untouched = λ other past. others other (omega (arith, past)) ∙ so_far.untouched other (omega (arith, past));
        is_legal = legal_new;
        room = first-room two;
      }
