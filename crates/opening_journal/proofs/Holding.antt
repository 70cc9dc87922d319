-- The entries beside the slots, through puts and settling.
use Rattle.std.proofs.Common.{◌≡◌, ℕ, ◌+◌, ◌<◌, ◌≤◌, List, [], ◌∷◌, ◌++◌, Option, None, Some, length, set, refl, sym, ◌∙◌, ap, subst, inl, inr, arith}
use Rattle.std.proofs.lemmas.Bool.{cases_eq}
use Rattle.std.proofs.lemmas.List.{get_or-set_same, get_or-set_other, length-set}
use Rattle.std.proofs.lemmas.List.Sums.{sum_by-set}
use Rattle.lms_bytes.specs.HashLength.{IsHashLength}
use Rattle.lms_bytes.specs.MessageId.{message_id_bytes}
use Rattle.opening_journal.specs.Answers.{HasSizes}
use Rattle.opening_journal.specs.Entries.{Adds, Follows, HasEntries, IsLegalList, IsOpened, StandsFor, leaf_of, map_of, state_after, state_before, state_of_slot}
use Rattle.opening_journal.specs.EntrySlots.{slot_before, slot_with}
use Rattle.slot_file.specs.Logs.{room_in, room_of}
use Rattle.opening_journal.specs.Inside.{HaveEntries, IsHeld}
use Rattle.opening_journal.specs.declared.entry.Entry.{Entry}
use Rattle.opening_journal.specs.declared.entry.Entry.TheVariants.{Bound, Opened}
use Rattle.opening_journal.proofs.BodyBytes.{pair-front, pair-back}
use Rattle.slot_file.proofs.Logs.{legal-more}
use Rattle.opening_journal.proofs.Maps.{map_of-other, map_of-same}
use Rattle.slot_file.specs.State.{CacheState, HasSlots, StandsFor as CacheStandsFor, settled_with, slot_in, with_made}
use Rattle.slot_file.specs.declared.doubted.Doubted.{Doubted}
use Rattle.slot_file.specs.Layout.{slot_at}
use Rattle.slot_file.specs.declared.header.Header.{Header}
use Rattle.slot_file.specs.declared.slot.Slot.{Slot}
use Rattle.slot_file.specs.declared.slot.Slot.TheVariants.{Free, Half, Full, Damaged}

-- a slot into which an entry was put, and one before that
pub slot-after : (n : ℕ) (entry : Entry) → n ≤ 32 → HasSizes n entry → state_of_slot n (slot_with entry) ≡ state_after entry
slot-after n (Bound leaf message) small sizes = refl
slot-after n (Opened leaf message c digest moment) small sizes =
    let front = pair-front n c digest sizes.0 in
    let back = pair-back n c digest sizes.0 sizes.1 small in
    λ i. IsOpened (message_id_bytes message) (front i) (back i) moment

pub slot-before : (n : ℕ) (entry : Entry) (slot : Slot) → state_of_slot n slot ≡ state_before entry → slot ≡ slot_before entry
slot-before n (Bound leaf message) Free is = refl
slot-before n (Bound leaf message) (Half a) is = absurd (cc)
slot-before n (Bound leaf message) (Full a b moment) is = absurd (cc)
slot-before n (Bound leaf message) (Damaged a b) is = absurd (cc)
slot-before n (Opened leaf message c digest moment) Free is = absurd (cc)
slot-before n (Opened leaf message c digest moment) (Half a) is = let same : a ≡ message_id_bytes message = cc in ap Half same
slot-before n (Opened leaf message c digest moment) (Full a b then) is = absurd (cc)
slot-before n (Opened leaf message c digest moment) (Damaged a b) is = absurd (cc)

room-step : (entry : Entry) → room_of (slot_before entry) ≡ room_of (slot_with entry) + 1
room-step (Bound leaf message) = refl
room-step (Opened leaf message c digest moment) = refl

-- the put of an entry
abbrev pub put_of : Entry → Doubted
put_of entry = record { slot = leaf_of entry; after = slot_with entry }

module _ (n : ℕ) (slots : List Slot) (entries : List Entry) (entry : Entry) (within : leaf_of entry < length slots) (have : HaveEntries n slots entries) (adds : Adds entry (map_of entries (leaf_of entry))) where
  abbrev made : List Slot
  made = set slots (leaf_of entry) (slot_with entry)

  pub is-before : slot_in slots (leaf_of entry) ≡ slot_before entry
  is-before = slot-before n entry (slot_in slots (leaf_of entry)) (have (leaf_of entry) within ∙ adds)

  -- one place is taken
  pub room-made : room_in made + 1 ≡ room_in slots
  room-made = omega (arith, sum_by-set room_of slots (leaf_of entry) (slot_with entry) Free within, ap room_of is-before, room-step entry)

  module _ (after : state_of_slot n (slot_with entry) ≡ state_after entry) where
    pub have-made : HaveEntries n made (entries ++ entry ∷ [])
    have-made leaf below = elim (cases_eq leaf (leaf_of entry)) [
      | inl same ↦
          ap (λ (k : ℕ). state_of_slot n (slot_in made k)) same ∙ ap (state_of_slot n) (get_or-set_same slots (leaf_of entry) (slot_with entry) Free within)
          ∙ after ∙ sym (map_of-same entries entry leaf same)
      | inr differs ↦
          ap (state_of_slot n) (get_or-set_other slots (leaf_of entry) leaf (slot_with entry) Free differs)
          ∙ have leaf (omega (arith, below, length-set slots (leaf_of entry) (slot_with entry))) ∙ sym (map_of-other entries entry leaf differs)
    ]

    pub held-made : (new : CacheState) (doubt : Option Entry) → IsLegalList entries → new ≡ settled_with made → doubt ≡ None → IsHeld n new (entries ++ entry ∷ []) doubt
    held-made new doubt legal is none =
        subst (λ (s : CacheState). IsHeld n s (entries ++ entry ∷ []) doubt) (sym is)
        (subst (λ (d : Option Entry). IsHeld n (settled_with made) (entries ++ entry ∷ []) d) (sym none) (record {
          slots = have-made;
          legal = legal-more Follows entries entry legal adds;
          none = λ no. refl;
          some = λ other is_other. absurd (cc);
          after = λ other is_other. absurd (cc);
          adds = λ other is_other. absurd (cc);
        }))

    pub held-doubt : (new : CacheState) → IsLegalList entries → new ≡ record { slots = slots; doubt = Some (put_of entry) } → IsHeld n new entries (Some entry)
    held-doubt new legal is =
        let same : (other : Entry) → Some entry ≡ Some other → entry ≡ other = λ other is_other. cc in
        let kept : CacheState = record { slots = slots; doubt = Some (put_of entry) } in
        subst (λ (s : CacheState). IsHeld n s entries (Some entry)) (sym is) (record {
          slots = have;
          legal = legal;
          none = λ no. absurd (cc);
          some = λ other is_other. ap (λ (e : Entry). Some (put_of e)) (same other is_other);
          after = λ other is_other. subst (λ (e : Entry). state_of_slot n (slot_with e) ≡ state_after e) (same other is_other) after;
          adds = λ other is_other. subst (λ (e : Entry). Adds e (map_of entries (leaf_of e))) (same other is_other) adds;
        })

-- the put in doubt is that of the entry in doubt
pub put-is : (n : ℕ) (cache : CacheState) (entries : List Entry) (doubt : Option Entry) (entry : Entry) (doubted : Doubted) → IsHeld n cache entries doubt → doubt ≡ Some entry → cache.doubt ≡ Some doubted → doubted ≡ put_of entry
put-is n cache entries doubt entry doubted held is is_put =
    let same : Some doubted ≡ Some (put_of entry) = sym is_put ∙ held.some entry is in cc

-- no entry is in doubt if no put is
pub doubt-none : (n : ℕ) (cache : CacheState) (entries : List Entry) (doubt : Option Entry) → IsHeld n cache entries doubt → cache.doubt ≡ None → doubt ≡ None
doubt-none n cache entries None held none = refl
doubt-none n cache entries (Some entry) held none = let some = held.some entry refl in absurd (cc)

-- what stands for the cache stands for the journal
module _ (n : ℕ) (header : Header) (cache : CacheState) (entries : List Entry) (file : List ℕ) (version : header.version ≡ 2) where
  in-file : (leaf : ℕ) → slot_at 2 leaf file ≡ slot_at header.version leaf file
  in-file leaf = ap (λ (v : ℕ). slot_at v leaf file) (sym version)

  stands-none : (doubt : Option Entry) → IsHeld n cache entries doubt → HasSlots header cache.slots file → HasEntries n (length cache.slots) file entries
  stands-none doubt held has leaf below = ap (state_of_slot n) (in-file leaf ∙ has.shows leaf below) ∙ held.slots leaf below

  stands-some : (entry : Entry) (doubted : Doubted) → doubted ≡ put_of entry → leaf_of entry < length cache.slots → IsHeld n cache entries (Some entry) → HasSlots header (with_made cache.slots doubted) file → HasEntries n (length cache.slots) file (entries ++ entry ∷ [])
  stands-some entry doubted is within held has leaf below =
      let list = set cache.slots (leaf_of entry) (slot_with entry) in
      let now = subst (λ (d : Doubted). HasSlots header (with_made cache.slots d) file) is has in
      let there : leaf < length list = omega (arith, below, length-set cache.slots (leaf_of entry) (slot_with entry)) in
      ap (state_of_slot n) (in-file leaf ∙ now.shows leaf there)
      ∙ have-made n cache.slots entries entry within held.slots (held.adds entry refl) (held.after entry refl) leaf there

  pub stands : (doubt : Option Entry) → ((doubted : Doubted) → cache.doubt ≡ Some doubted → doubted.slot < length cache.slots) → IsHeld n cache entries doubt → CacheStandsFor header cache file
      → StandsFor n (length cache.slots) file (record { entries = entries; doubt = doubt })
  stands None within held stands_for = elim stands_for [
    | inl has ↦ inl (stands-none None held has)
    | inr put ↦ let no : cache.doubt ≡ None = held.none refl in let is = put.1 in absurd (cc)
  ]
  stands (Some entry) within held stands_for = elim stands_for [
    | inl has ↦ inl (stands-none (Some entry) held has)
    | inr put ↦
        let is = put-is n cache entries (Some entry) entry put.0 held refl put.1 in
        let inside : leaf_of entry < length cache.slots = subst (λ (d : Doubted). d.slot < length cache.slots) is (within put.0 put.1) in
        inr (entry, refl, stands-some entry put.0 is inside held put.2)
  ]

-- a hash has at most 32 bytes
pub most : (n : ℕ) → IsHashLength n → n ≤ 32
most n is = elim is [ inl narrow ↦ omega (arith, narrow) | inr wide ↦ omega (arith, wide) ]
