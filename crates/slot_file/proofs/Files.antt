-- What puts and settling make of the files that stand for a cache.
use Rattle.std.proofs.Common.{◌≡◌, ◌≢◌, ◌⊎◌, ◌<◌, ℕ, List, Option, length, get_or, set, None, Some, false, inl, inr, refl, sym, ◌∙◌, ap, subst, arith}
use Rattle.std.proofs.lemmas.Bool.{cases_eq}
use Rattle.std.proofs.lemmas.Bool.Decides.{nat_tests}
use Rattle.std.proofs.lemmas.List.{get_or-set_same, get_or-set_other, length-set}
use Rattle.slot_file.specs.Inside.{IsDoubt, Shows}
use Rattle.slot_file.specs.State.{HasSlots, IsWhole, StandsFor, slot_in, with_made}
use Rattle.slot_file.specs.declared.doubted.Doubted.{Doubted}
use Rattle.slot_file.specs.Copies.{is_damaged}
use Rattle.slot_file.specs.Doubts.{looked, settled}
use Rattle.slot_file.specs.Files.{IsHalf, IsPut, with_b}
use Rattle.slot_file.specs.Layout.{load_fault, slot_at}
use Rattle.slot_file.specs.declared.header.Header.{Header}
use Rattle.slot_file.specs.declared.slot.Slot.{Slot}
use Rattle.slot_file.specs.declared.slot.Slot.TheVariants.{Damaged, Free, Full, Half}
use Rattle.slot_file.proofs.Same.{slot_cases}
use Rattle.slot_file.specs.declared.slots.Doubt.{Doubt}
use Rattle.slot_file.specs.declared.slots.Doubt.TheVariants.{Nowhere, Refused}

-- another list of as many slots, which a file shows where it differs from the first
record Replaces (slots list : List Slot) (place : ℕ) : Type 0 where
  size : length list ≡ length slots
  others : (other : ℕ) → other ≢ place → get_or list other Free ≡ get_or slots other Free

replaced : (slots : List Slot) (place : ℕ) (after : Slot) → Replaces slots (set slots place after) place
replaced slots place after = record {
  size = length-set slots place after;
  others = λ other differs. get_or-set_other slots place other after Free differs;
}

module _ (header : Header) (slots : List Slot) (old : List ℕ) (has : HasSlots header slots old) (place : ℕ) (after : Slot) (new : List ℕ) (put : IsPut header.version place after old new) where
  shows-list : (list : List Slot) → Replaces slots list place → slot_at header.version place new ≡ get_or list place Free → is_damaged (get_or list place Free) ≡ false → HasSlots header list new
  shows-list list by here whole = record {
    opens = ap (λ (n : ℕ). load_fault header n new) by.size ∙ put.opens header (length slots) ∙ has.opens;
    shows = λ k below. elim (cases_eq k place) [
      | inl same ↦ ap (λ (j : ℕ). slot_at header.version j new) same ∙ here ∙ ap (λ (j : ℕ). get_or list j Free) (sym same)
      | inr differs ↦ put.others k differs ∙ has.shows k (omega (arith, below, by.size)) ∙ sym (by.others k differs)
    ];
    sound = λ k below. elim (cases_eq k place) [
      | inl same ↦ ap (λ (j : ℕ). is_damaged (slot_at header.version j new)) same ∙ ap is_damaged here ∙ whole
      | inr differs ↦ ap is_damaged (put.others k differs) ∙ has.sound k (omega (arith, below, by.size))
    ];
  }

  module _ (within : place < length slots) (whole : is_damaged after ≡ false) where
    pub put-made : slot_at header.version place new ≡ after → HasSlots header (set slots place after) new
    put-made here =
        let is = get_or-set_same slots place after Free within in
        shows-list (set slots place after) (replaced slots place after) (here ∙ sym is) (ap is_damaged is ∙ whole)

    pub put-shown : (doubted : Doubted) → doubted.slot ≡ place → doubted.after ≡ after → Shows header slots (Some doubted) new
    put-shown doubted at is = record {
      opens = put.opens header (length slots) ∙ has.opens;
      sound = λ k below. elim (cases_eq k place) [
        | inl same ↦ elim put.this [
          | inl before ↦ ap (λ (j : ℕ). is_damaged (slot_at header.version j new)) same ∙ ap is_damaged before ∙ has.sound place within
          | inr made ↦ ap (λ (j : ℕ). is_damaged (slot_at header.version j new)) same ∙ ap is_damaged made ∙ whole
        ]
        | inr differs ↦ ap is_damaged (put.others k differs) ∙ has.sound k below
      ];
      sure = λ k below no. put.others k (λ same. no doubted refl (same ∙ sym at)) ∙ has.shows k below;
      unsure = λ other is_other differs.
          let same : doubted ≡ other = cc in
          let here : slot_at header.version place new ≡ after = elim put.this [
            | inl before ↦
                let no : slot_at header.version doubted.slot new ≢ slot_in slots doubted.slot =
                subst (λ (d : Doubted). slot_at header.version d.slot new ≢ slot_in slots d.slot) (sym same) differs in
                let here : slot_at header.version place new ≢ slot_in slots place =
                subst (λ (j : ℕ). slot_at header.version j new ≢ slot_in slots j) at no in
                absurd (here (before ∙ has.shows place within))
            | inr made ↦ made
          ] in
          let there : slot_at header.version doubted.slot new ≡ doubted.after = ap (λ (j : ℕ). slot_at header.version j new) at ∙ here ∙ sym is in
          subst (λ (d : Doubted). slot_at header.version d.slot new ≡ d.after) same there;
    }

-- a file with these slots, if no put is in doubt
pub all-shown : (header : Header) (slots : List Slot) (file : List ℕ) → HasSlots header slots file → Shows header slots None file
all-shown header slots file has = record {
  opens = has.opens;
  sound = has.sound;
  sure = λ k below no. has.shows k below;
  unsure = λ put is. absurd (cc);
}

-- the same under another name of the header
pub renamed : (header was : Header) (slots : List Slot) (doubt : Option Doubted) (file : List ℕ) → header ≡ was → Shows was slots doubt file → Shows header slots doubt file
renamed header was slots doubt file names shows = subst (λ (h : Header). Shows h slots doubt file) (sym names) shows

module _ (header : Header) (slots : List Slot) (doubt : Option Doubted) (file : List ℕ) (shows : Shows header slots doubt file) where
  pub has-sure : doubt ≡ None → HasSlots header slots file
  has-sure none = record { opens = shows.opens; shows = λ k below. shows.sure k below (λ put is. absurd (cc)); sound = shows.sound }

  module _ (put : Doubted) (is : doubt ≡ Some put) where
    others : (k : ℕ) → k < length slots → k ≢ put.slot → slot_at header.version k file ≡ slot_in slots k
    others k below differs = shows.sure k below (λ other is_other at. let same : other ≡ put = cc in differs (at ∙ ap (λ (d : Doubted). d.slot) same))

    pub has-dropped : slot_at header.version put.slot file ≡ slot_in slots put.slot → HasSlots header slots file
    has-dropped here = record {
      opens = shows.opens;
      shows = λ k below. elim (cases_eq k put.slot) [
        | inl same ↦ ap (λ (j : ℕ). slot_at header.version j file) same ∙ here ∙ ap (slot_in slots) (sym same)
        | inr differs ↦ others k below differs
      ];
      sound = shows.sound;
    }

    pub has-made : put.slot < length slots → slot_at header.version put.slot file ≡ put.after → HasSlots header (with_made slots put) file
    has-made within here =
        let by = replaced slots put.slot put.after in
        record {
          opens = ap (λ (n : ℕ). load_fault header n file) by.size ∙ shows.opens;
          shows = λ k below. elim (cases_eq k put.slot) [
            | inl same ↦
                ap (λ (j : ℕ). slot_at header.version j file) same ∙ here ∙ sym (get_or-set_same slots put.slot put.after Free within)
                ∙ ap (slot_in (with_made slots put)) (sym same)
            | inr differs ↦ others k (omega (arith, below, by.size)) differs ∙ sym (by.others k differs)
          ];
          sound = λ k below. shows.sound k (omega (arith, below, by.size));
        }

    pub either : (slot_at header.version put.slot file ≡ slot_in slots put.slot) ⊎ (slot_at header.version put.slot file ≡ put.after)
    either = elim (slot_cases (slot_at header.version put.slot file) (slot_in slots put.slot)) [
      | inl same ↦ inl same
      | inr differs ↦ inr (shows.unsure put is differs)
    ]

-- a file that shows the slots stands for them
pub stands : (header : Header) (slots : List Slot) (doubt : Option Doubted) (file : List ℕ)
    → ((put : Doubted) → doubt ≡ Some put → put.slot < length slots) → Shows header slots doubt file
    → StandsFor header (record { slots = slots; doubt = doubt }) file
stands header slots None file within shows = inl (has-sure header slots None file shows refl)
stands header slots (Some put) file within shows = elim (either header slots (Some put) file shows put refl) [
  | inl before ↦ inl (has-dropped header slots (Some put) file shows put refl before)
  | inr made ↦ inr (put, refl, has-made header slots (Some put) file shows put refl (within put refl) made)
]

pub doubt-none : (count : ℕ) (doubt : Doubt) → doubt ≡ Nowhere → IsDoubt count doubt None
doubt-none count doubt nowhere = record { nowhere = λ none. nowhere; within = λ put is. absurd (cc); whole = λ put is. absurd (cc); settles = λ put is. absurd (cc) }

refused-settles : (slot : ℕ) → looked slot (settled (Refused slot)) ≡ Nowhere
refused-settles slot = grind (arith, nat_tests)

pub doubt-put : (count : ℕ) (doubt : Doubt) (put : Doubted) → doubt ≡ Refused put.slot → put.slot < count → is_damaged put.after ≡ false → IsDoubt count doubt (Some put)
doubt-put count doubt put refused within whole =
    let same : (other : Doubted) → Some put ≡ Some other → put ≡ other = λ other is. cc in
    record {
      nowhere = λ none. absurd (cc);
      within = λ other is. subst (λ (d : Doubted). d.slot < count) (same other is) within;
      whole = λ other is. subst (λ (d : Doubted). is_damaged d.after ≡ false) (same other is) whole;
      settles = λ other is.
          subst (λ (d : Doubted). looked d.slot (settled doubt) ≡ Nowhere) (same other is)
          (ap (λ (d : Doubt). looked put.slot (settled d)) refused ∙ refused-settles put.slot);
    }

pub with_b-whole : (slot : Slot) (body : List ℕ) (moment : ℕ) → IsHalf slot → is_damaged (with_b slot body moment) ≡ false
with_b-whole Free body moment half = absurd half
with_b-whole (Half a) body moment half = refl
with_b-whole (Full a b then) body moment half = absurd half
with_b-whole (Damaged a b) body moment half = absurd half

-- a list of sound slots with one that is put
pub whole-set : (slots : List Slot) (place : ℕ) (after : Slot) → IsWhole slots → is_damaged after ≡ false → IsWhole (set slots place after)
whole-set slots place after whole sound k below =
    let there : k < length slots = omega (arith, below, length-set slots place after) in
    elim (cases_eq k place) [
      | inl same ↦
          ap (λ (j : ℕ). is_damaged (slot_in (set slots place after) j)) same
          ∙ ap is_damaged (get_or-set_same slots place after Free (subst (λ (j : ℕ). j < length slots) same there)) ∙ sound
      | inr differs ↦ ap is_damaged (get_or-set_other slots place k after Free differs) ∙ whole k there
    ]
