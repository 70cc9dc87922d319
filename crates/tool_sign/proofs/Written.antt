-- The files that are written after a session.
use Rattle.std.proofs.Common.{◌≡◌, ◌≢◌, ◌↔◌, ◌⊎◌, ◌++◌, ℕ, Bool, true, false, List, [], ◌∷◌, All, Option, Some, IsTrue, inl, inr, refl, sym, ap, ◌∙◌, subst, arith}
use Rattle.std.proofs.lemmas.List.Elements.{All-cons, All-head, All-nil, All-tail, All-weaker}
use Rattle.std.proofs.lemmas.Slice.Eq.{bytes_eq-Decides}
use Rattle.std.specs.Str.{bytes_eq}
use Rattle.disk_trait.specs.Images.{Only}
use Rattle.stream_io.specs.Store.{StoreState, added, has_name}
use Rattle.stream_io.specs.declared.store.Readers.TheVariants.{Anyone}
use Rattle.tool_base.proofs.Runs.{onward_on}
use Rattle.tool_base.specs.Ending.{Ending}
use Rattle.tool_base.specs.Outputs.{AreDifferent, IsLeft, IsNew, IsNotWritten, IsOther, Output, StopsAfter, all_added, no_memory_to_write, was_there, write_failed}
use Rattle.tool_base.specs.Touched.{IsUntouched, Keeps}
use Rattle.tool_base.specs.World.{IsBack, from_to}
use Rattle.tool_sign.specs.HssSign.{AreWritten, names_of}
use Rattle.tool_sign.proofs.Writes.{new_is_other, turned_about}
use Rattle.tool_sign.specs.Writes.{IsWritten}

true_or_false : (b : Bool) → (b ≡ true) ⊎ (b ≡ false)
true_or_false true = inl refl
true_or_false false = inr refl

same_true : (name : List ℕ) → bytes_eq name name ≡ true
same_true name = (bytes_eq-Decides name name).1 refl

other_false : (x y : List ℕ) → x ≢ y → bytes_eq x y ≡ false
other_false x y differ = elim (true_or_false (bytes_eq x y)) [
  | inl same ↦ absurd (differ ((bytes_eq-Decides x y).0 same))
  | inr other ↦ other
]

-- the first of some outputs
pub first_ones : (P : Output → Type 0) (written rest : List Output) → All P (written ++ rest) → All P written
first_ones P [] rest all = All-nil P
first_ones P (output ∷ outputs) rest all =
    All-cons P output outputs (All-head P output (outputs ++ rest) all) (first_ones P outputs rest (All-tail P output (outputs ++ rest) all))

-- names that begin with those of outputs
split_names : (P : List ℕ → Type 0) (written : List Output) (rest : List (List ℕ)) → All P (names_of written ++ rest) → All (λ (output : Output). P output.name) written × All P rest
split_names P [] rest all = (All-nil (λ (output : Output). P output.name), all)
split_names P (output ∷ outputs) rest all =
    let below = split_names P outputs rest (All-tail P output.name (names_of outputs ++ rest) all) in
    (All-cons (λ (one : Output). P one.name) output outputs (All-head P output.name (names_of outputs ++ rest) all) below.0, below.1)

abbrev differs_from : List ℕ → Output → Type 0
differs_from name output = bytes_eq name output.name ≡ false

-- a name that differs from those of outputs is none of them
others_of : (name : List ℕ) (outputs : List Output) → All (λ (other : List ℕ). name ≢ other) (names_of outputs) → IsOther outputs name
others_of name [] all = All-nil (differs_from name)
others_of name (output ∷ outputs) all =
    All-cons (differs_from name) output outputs (other_false name output.name (All-head (λ (other : List ℕ). name ≢ other) output.name (names_of outputs) all))
    (others_of name outputs (All-tail (λ (other : List ℕ). name ≢ other) output.name (names_of outputs) all))

-- a name that is none of the outputs' is read as before
added_others : (file : List ℕ → Option (List ℕ)) (outputs : List Output) (name : List ℕ) → IsOther outputs name → all_added file outputs name ≡ file name
unfolding all_added
added_others file [] name other = refl
added_others file (output ∷ outputs) name other =
    let differs : bytes_eq name output.name ≡ false = All-head (differs_from name) output outputs other in
    added_others (added file output.name output.bytes) outputs name (All-tail (differs_from name) output outputs other) ∙ rw differs refl

-- each of the outputs is read under its name
added_each : (file : List ℕ → Option (List ℕ)) (outputs : List Output) → AreDifferent (names_of outputs) → All (λ (output : Output). all_added file outputs output.name ≡ Some output.bytes) outputs
unfolding all_added
added_each file [] differ = All-nil (λ (output : Output). all_added file [] output.name ≡ Some output.bytes)
added_each file (output ∷ outputs) differ =
    let own : all_added (added file output.name output.bytes) outputs output.name ≡ Some output.bytes =
    added_others (added file output.name output.bytes) outputs output.name (others_of output.name outputs differ.0) ∙ rw (same_true output.name) refl in
    All-cons (λ (one : Output). all_added (added file output.name output.bytes) outputs one.name ≡ Some one.bytes) output outputs own
    (added_each (added file output.name output.bytes) outputs differ.1)

-- anyone may read the output
abbrev pub IsForAnyone : Output → Type 0
IsForAnyone output = output.readers ≡ Anyone

-- from the state before the session to that after it, and on to the state once these files were written
module _ (a d e : StoreState) (touched : List (List ℕ)) (keeps : Keeps touched a d) (written : List Output) (back : IsBack d e) (left : IsLeft (from_to d e) written) where
  told_d : IsTrue a.told → IsTrue d.told
  told_d told = rw keeps.back.onward.told told

  steady_d : IsTrue a.steady → IsTrue d.steady
  steady_d steady = rw keeps.back.onward.steady steady

  pub others_read : IsTrue a.told → (name : List ℕ) → IsOther written name → e.file name ≡ d.file name
  others_read told name other = left.file (told_d told) name ∙ added_others d.file written name other

  pub others_leave : IsTrue a.told → (name image : List ℕ) → IsOther written name → e.leaves name image ↔ d.leaves name image
  others_leave told name image other = left.others (told_d told) name image other

  pub keeps_written : Keeps (names_of written ++ touched) a e
  keeps_written = record {
    back = record {
      onward = onward_on a d e keeps.back.onward back.onward;
      out = λ told name. back.out (told_d told) name ∙ keeps.back.out told name;
      views = λ told. back.views (told_d told) ∙ keeps.back.views told;
    };
    file = λ told name untouched.
        let parts = split_names (λ (one : List ℕ). bytes_eq name one ≡ false) written touched untouched in
        others_read told name parts.0 ∙ keeps.file told name parts.1;
    leaves = λ told name image untouched.
        let parts = split_names (λ (one : List ℕ). bytes_eq name one ≡ false) written touched untouched in
        let x = keeps.leaves told name image parts.1 in
        let y = others_leave told name image parts.0 in
        (λ z. x.0 (y.0 z), λ z. y.1 (x.1 z));
  }

  abbrev Reads : Output → Type 0
  Reads output = e.file output.name ≡ Some output.bytes

  abbrev Stands : Output → Type 0
  Stands output = Only output.bytes (e.leaves output.name)

  abbrev ReadBy : Output → Type 0
  ReadBy output = e.readers output.name ≡ Some output.readers

  each_written : (outputs : List Output) → (IsTrue a.told → All Reads outputs) → (IsTrue a.told → All Stands outputs) → (IsTrue a.told → All ReadBy outputs)
      → All IsForAnyone outputs → AreWritten (from_to a e) outputs
  each_written [] reads stands readers anyone = All-nil (λ (output : Output). IsWritten (from_to a e) output.name output.bytes)
  each_written (output ∷ outputs) reads stands readers anyone =
      All-cons (λ (one : Output). IsWritten (from_to a e) one.name one.bytes) output outputs
      (record {
        file = λ told. All-head Reads output outputs (reads told);
        stable = λ told. All-head Stands output outputs (stands told);
        readers = λ told. All-head ReadBy output outputs (readers told) ∙ ap Some (All-head IsForAnyone output outputs anyone);
      })
      (each_written outputs (λ told. All-tail Reads output outputs (reads told)) (λ told. All-tail Stands output outputs (stands told))
      (λ told. All-tail ReadBy output outputs (readers told)) (All-tail IsForAnyone output outputs anyone))

  pub are_written : AreDifferent (names_of written) → All IsForAnyone written → AreWritten (from_to a e) written
  are_written differ anyone = each_written written
      (λ told. All-weaker (λ (output : Output). all_added d.file written output.name ≡ Some output.bytes) Reads
      (λ output is. left.file (told_d told) output.name ∙ is) written (added_each d.file written differ))
      (λ told. left.stable (told_d told))
      (λ told. left.readers (told_d told))
      anyone

  -- the end with which the writing stopped
  pub stops_later : (outputs : List Output) (end : Ending) → StopsAfter (from_to d e) outputs written end → StopsAfter (from_to a e) outputs written end
  stops_later outputs end stops = record {
    output = stops.output;
    rest = stops.rest;
    is = stops.is;
    cause = not_written stops.output.name end stops.cause;
  }
    where
      not_written : (name : List ℕ) (one : Ending) → IsNotWritten (from_to d e) written name one → IsNotWritten (from_to a e) written name one
      not_written name _ (write_failed failed) = write_failed (record {
        rose = let rose = failed.rose in let before = keeps.back.onward.count in omega (arith, rose, before);
        unsteady = λ steady. failed.unsteady (steady_d steady);
      })
      not_written name _ (was_there never) = was_there (λ told. never (told_d told))
      not_written name _ no_memory_to_write = no_memory_to_write

  -- a name that was read before the session is none of the names that were new then
  pub read_before : (name file : List ℕ) → (IsTrue a.told → a.file name ≡ Some file) → All (λ (output : Output). IsNew (from_to a e) output.name) written
      → IsTrue a.told → IsOther written name
  read_before name file reads all_new told =
      All-weaker (λ (output : Output). IsNew (from_to a e) output.name) (differs_from name)
      (λ output is_new. turned_about output.name name (new_is_other a name output.name file (reads told) (is_new told))) written all_new

-- names that were new before the session are still new, but for the table's
pub new_since : (a d : StoreState) (touched : List (List ℕ)) → Keeps touched a d → (table : List ℕ) → touched ≡ table ∷ [] → (file : List ℕ) → (IsTrue a.told → a.file table ≡ Some file)
    → (names : List (List ℕ)) → All (IsNew (from_to a d)) names → All (IsNew (from_to d d)) names
new_since a d touched keeps table touches file reads names new = All-weaker (IsNew (from_to a d)) (IsNew (from_to d d)) still names new
  where
    still : (name : List ℕ) → IsNew (from_to a d) name → IsTrue d.told → has_name d name ≡ false
    still name is_new told_later =
        let told : IsTrue a.told = rw (← keeps.back.onward.told) told_later in
        let differs = new_is_other a table name file (reads told) (is_new told) in
        let untouched = subst (λ (ones : List (List ℕ)). IsUntouched ones name) (sym touches) (All-cons (λ one. bytes_eq name one ≡ false) table [] differs (All-nil (λ one. bytes_eq name one ≡ false))) in
        rw (keeps.file told name untouched, keeps.back.out told name) (is_new told)
