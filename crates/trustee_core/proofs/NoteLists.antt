-- Lists of notes.
use Rattle.std.proofs.Common.{◌≡◌, ◌≢◌, ◌⊎◌, ◌+◌, ◌≤◌, ℕ, Bool, true, false, List, [], ◌∷◌, ◌++◌, Option, None, Some, All, inl, inr, refl, sym, ap, ◌∙◌, subst, arith}
use Rattle.std.specs.Prelude.{Contains, count_by}
use Rattle.std.proofs.lemmas.Grind.{flat_map-append}
use Rattle.std.proofs.lemmas.List.{append-nil}
use Rattle.std.proofs.lemmas.List.Elements.{All-cons, All-contains, All-head, All-nil, All-tail, Contains-append_cases, Contains-append_left, Contains-append_right, Contains-push}
use Rattle.std.proofs.lemmas.List.Sums.{sum_by-cons}
use Rattle.std.proofs.lemmas.Bool.Decides.{eqb_tells}
use mathlib.Core.Bool.{cond}
use lib.Dec.{eqb}
use base.Stored.{Gv, gnil, gnum, gcons}
use Rattle.opening_journal.specs.Entries.{JournalState}
use Rattle.opening_journal.specs.declared.entry.Entry.{Entry}
use Rattle.trustee_core.specs.Notes.{HasNote, doubted, entries_in, entry_in, first_notes, made}
use Rattle.trustee_core.specs.declared.note.Note.{Note}
use Rattle.trustee_core.specs.declared.note.Note.TheVariants.{Doubted}
use Rattle.trustee_core.specs.contracts.note.Note as row

pub entries-append : (xs ys : List Note) → entries_in (xs ++ ys) ≡ entries_in xs ++ entries_in ys
entries-append xs ys = flat_map-append entry_in xs ys

pub entries-made : (entries : List Entry) → entries_in (made entries) ≡ entries
entries-made [] = refl
entries-made (entry ∷ entries) = ap (λ (l : List Entry). entry ∷ l) (entries-made entries)

pub entries-doubted : (doubt : Option Entry) → entries_in (doubted doubt) ≡ []
entries-doubted None = refl
entries-doubted (Some entry) = refl

pub entries-first : (state : JournalState) → entries_in (first_notes state) ≡ state.entries
entries-first state =
    entries-append (made state.entries) (doubted state.doubt)
    ∙ (λ i. entries-made state.entries i ++ entries-doubted state.doubt i) ∙ append-nil state.entries

pub has-contained : (notes : List Note) (note : Note) → Contains notes note → HasNote notes note
has-contained notes note at all = All-contains (λ (other : Note). other ≢ note) notes note all at refl

-- equality of ghost values, and so of notes, is decided
same : Gv → Gv → Bool
same gnil gnil = true
same gnil (gnum n) = false
same gnil (gcons c d) = false
same (gnum m) gnil = false
same (gnum m) (gnum n) = eqb m n
same (gnum m) (gcons c d) = false
same (gcons a b) gnil = false
same (gcons a b) (gnum n) = false
same (gcons a b) (gcons c d) = cond (same a c) (same b d) false

both : (x y : Bool) → cond x y false ≡ true → (x ≡ true) × (y ≡ true)
both true y is = (refl, is)
both false y is = absurd (cc)

number-is : (m n : ℕ) → eqb m n ≡ true → m ≡ n
number-is m n is = elim (eqb_tells m n) [ inl alike ↦ alike.1 | inr apart ↦ (let never = apart.0 in absurd (cc)) ]

number-self : (m : ℕ) → eqb m m ≡ true
number-self m = elim (eqb_tells m m) [ inl alike ↦ alike.0 | inr apart ↦ absurd (apart.1 refl) ]

same-is : (a b : Gv) → same a b ≡ true → a ≡ b
unfolding same
same-is gnil gnil is = refl
same-is gnil (gnum n) is = absurd (cc)
same-is gnil (gcons c d) is = absurd (cc)
same-is (gnum m) gnil is = absurd (cc)
same-is (gnum m) (gnum n) is = ap gnum (number-is m n is)
same-is (gnum m) (gcons c d) is = absurd (cc)
same-is (gcons a b) gnil is = absurd (cc)
same-is (gcons a b) (gnum n) is = absurd (cc)
same-is (gcons a b) (gcons c d) is =
    let two = both (same a c) (same b d) is in
    let left = same-is a c two.0 in
    let right = same-is b d two.1 in
    λ i. gcons (left i) (right i)

same-self : (a : Gv) → same a a ≡ true
unfolding same
same-self gnil = refl
same-self (gnum m) = number-self m
same-self (gcons a b) = (λ i. cond (same-self a i) (same b b) false) ∙ same-self b

abbrev code : Note → Gv
code note = row.the_row.coded.code note

-- whether a note is this one
pub is_note : Note → Note → Bool
is_note note other = same (code other) (code note)

is-same : (note other : Note) → is_note note other ≡ true → other ≡ note
unfolding is_note
is-same note other is = row.the_row.coded.inj other note (same-is (code other) (code note) is)

is-self : (note other : Note) → other ≡ note → is_note note other ≡ true
unfolding is_note
is-self note other is = ap (λ (o : Note). same (code o) (code note)) is ∙ same-self (code note)

-- a note is contained in a list, or each is another one
pub contained-or : (note : Note) (notes : List Note) → Contains notes note ⊎ All (λ (other : Note). other ≢ note) notes
contained-or note [] = inr (All-nil (λ (other : Note). other ≢ note))
contained-or note (first ∷ notes) = by-test (is_note note first) refl (contained-or note notes)
  where
    by-test : (b : Bool) → is_note note first ≡ b → Contains notes note ⊎ All (λ (other : Note). other ≢ note) notes
        → Contains (first ∷ notes) note ⊎ All (λ (other : Note). other ≢ note) (first ∷ notes)
    by-test true is rest = inl (Contains-append_left (first ∷ []) notes note (subst (λ (n : Note). Contains (first ∷ []) n) (is-same note first is) (Contains-push [] first)))
    by-test false is (inl at) = inl (Contains-append_right (first ∷ []) notes note at)
    by-test false is (inr all) = inr (All-cons (λ (other : Note). other ≢ note) first notes (λ this. (let equal = is-self note first this in absurd (cc))) all)

pub contained : (notes : List Note) (note : Note) → HasNote notes note → Contains notes note
contained notes note has = elim (contained-or note notes) [ inl at ↦ at | inr all ↦ absurd (has all) ]

pub has-left : (notes more : List Note) (note : Note) → HasNote notes note → HasNote (notes ++ more) note
has-left notes more note has = has-contained (notes ++ more) note (Contains-append_left notes more note (contained notes note has))

pub first-doubt : (state : JournalState) (entry : Entry) → state.doubt ≡ Some entry → HasNote (first_notes state) (Doubted entry)
first-doubt state entry is =
    has-contained (first_notes state) (Doubted entry)
    (subst (λ (o : Option Entry). Contains (made state.entries ++ doubted o) (Doubted entry)) (sym is) (Contains-push (made state.entries) (Doubted entry)))

abbrev one-if : Bool → ℕ
one-if b = cond b 1 0

count-cons : (p : Note → Bool) (x : Note) (xs : List Note) → count_by p (x ∷ xs) ≡ one-if (p x) + count_by p xs
count-cons p x xs = sum_by-cons (λ (y : Note). one-if (p y)) x xs

none-counted : (note : Note) (notes : List Note) → All (λ (other : Note). other ≢ note) notes → count_by (is_note note) notes ≡ 0
none-counted note [] all = refl
none-counted note (first ∷ notes) all = by-test (is_note note first) refl (none-counted note notes (All-tail (λ (other : Note). other ≢ note) first notes all))
  where
    by-test : (b : Bool) → is_note note first ≡ b → count_by (is_note note) notes ≡ 0 → count_by (is_note note) (first ∷ notes) ≡ 0
    by-test true is rest = absurd (All-head (λ (other : Note). other ≢ note) first notes all (is-same note first is))
    by-test false is rest = count-cons (is_note note) first notes ∙ (λ i. one-if (is i) + rest i)

some-counted : (note : Note) (notes : List Note) → Contains notes note → 1 ≤ count_by (is_note note) notes
some-counted note [] at = (let lt = at.1 in absurd (omega (arith, lt)))
some-counted note (first ∷ notes) at = elim (Contains-append_cases (first ∷ []) notes note at) [
  | inl here ↦
      let Is : Note → Type 0 = λ n. n ≡ first in
      let this : note ≡ first = All-contains Is (first ∷ []) note (All-cons Is first [] refl (All-nil Is)) here in
      let one : one-if (is_note note first) ≡ 1 = ap one-if (is-self note first (sym this)) in
      let more = count-cons (is_note note) first notes in
      omega (arith, one, more)
  | inr later ↦
      let more = count-cons (is_note note) first notes in
      let some = some-counted note notes later in
      omega (arith, more, some)
]

-- if a list has each note as often as two others together, each of its notes is in one of them
pub counted-in-one : (last first own : List Note) (note : Note)
    → ((test : Note → Bool) → count_by test last ≡ count_by test first + count_by test own)
    → Contains last note → Contains first note ⊎ Contains own note
counted-in-one last first own note counts at = elim (contained-or note first) [
  | inl in_first ↦ inl in_first
  | inr not_first ↦ elim (contained-or note own) [
    | inl in_own ↦ inr in_own
    | inr not_own ↦
        let some = some-counted note last at in
        let none = none-counted note first not_first in
        let no = none-counted note own not_own in
        let all = counts (is_note note) in
        absurd (omega (arith, some, none, no, all))
  ]
]
