-- A signature that is written after a session, or is not.
use Rattle.std.proofs.Common.{◌≡◌, ◌↔◌, ◌⊎◌, ℕ, Bool, true, false, List, [], ◌∷◌, Option, Some, Result, Ok, Err, IsTrue, inl, inr, refl, sym, ap, ◌∙◌, subst, arith}
use Rattle.std.proofs.lemmas.Bool.{false≢true}
use Rattle.std.proofs.lemmas.List.Elements.{All-cons, All-head, All-nil, All-tail}
use Rattle.std.proofs.lemmas.Slice.Eq.{bytes_eq-Decides}
use Rattle.std.specs.Str.{bytes_eq}
use Rattle.aggregator_session.specs.declared.fault.SignFault.{SignFault}
use Rattle.disk_trait.specs.Images.{Only}
use Rattle.aggregator_session.specs.Signing.{Signature}
use Rattle.stream_io.specs.Store.{StoreState, added, has_name}
use Rattle.tool_base.proofs.Runs.{onward_on}
use Rattle.tool_base.specs.Ending.{Ending}
use Rattle.tool_base.specs.Outputs.{IsLeft, IsNotWritten, IsOther, Output, StopsAfter, EndsWith, all_added, no_memory_to_write, was_there, write_failed}
use Rattle.tool_base.specs.Touched.{Keeps}
use Rattle.tool_base.specs.World.{IsBack, from_to}
use Rattle.tool_sign.specs.Ports.{NetRun, Signing, answer_of}
use Rattle.tool_sign.specs.Signs.{SignedTable, TableEnds}
use Rattle.tool_sign.specs.Signs as signs
use Rattle.tool_sign.specs.Writes.{IsWritten, one_output}

true_or_false : (b : Bool) → (b ≡ true) ⊎ (b ≡ false)
true_or_false true = inl refl
true_or_false false = inr refl

same_true : (name : List ℕ) → bytes_eq name name ≡ true
same_true name = (bytes_eq-Decides name name).1 refl

-- a new name is none that is read
pub new_is_other : (a : StoreState) (name new file : List ℕ) → a.file name ≡ Some file → has_name a new ≡ false → bytes_eq new name ≡ false
new_is_other a name new file there is_new = elim (true_or_false (bytes_eq new name)) [
  | inl same ↦
      let one : new ≡ name = (bytes_eq-Decides new name).0 same in
      absurd (false≢true (sym is_new ∙ rw (one, there) refl))
  | inr differs ↦ differs
]

pub turned_about : (x y : List ℕ) → bytes_eq x y ≡ false → bytes_eq y x ≡ false
turned_about x y differs = elim (true_or_false (bytes_eq y x)) [
  | inl same ↦ let one : y ≡ x = (bytes_eq-Decides y x).0 same in absurd (false≢true (sym differs ∙ rw one (same_true x)))
  | inr other ↦ other
]

abbrev signature_ok : Signature → Result Signature SignFault
signature_ok signature = Ok signature

-- the answer is a signature: the session was run, and signed
outcome-signed : (outcome : Result Signature SignFault) (signature : Signature) → answer_of outcome ≡ Ok signature → outcome ≡ Ok signature
outcome-signed (Ok s) signature is = let same : s ≡ signature = cc in ap signature_ok same
outcome-signed (Err fault) signature is = absurd (cc)

module _ (s : Signing) (name : List ℕ) (a d : StoreState) (net : NetRun) where
  pub as-signed : (answer : Result Signature Ending) (touched : List (List ℕ)) (signature : Signature) → TableEnds s name (from_to a d) net answer touched → answer ≡ Ok signature
      → SignedTable s name (from_to a d) net (Ok signature) × (touched ≡ name ∷ [])
  as-signed _ _ signature (signs.no_table idle read) is = absurd (cc)
  as-signed _ _ signature (signs.no_memory touched idle stays) is = absurd (cc)
  as-signed _ _ signature (signs.not_loaded end idle fails stays) is = absurd (cc)
  as-signed _ _ signature (signs.no_port entries idle reads rose never stays) is = absurd (cc)
  as-signed _ _ signature (signs.signed outcome table) is =
      (subst (SignedTable s name (from_to a d) net) (outcome-signed outcome signature is) table, refl)

added_all : (file : List ℕ → Option (List ℕ)) (name bytes other : List ℕ) → all_added file (one_output name bytes ∷ []) other ≡ added file name bytes other
unfolding all_added
added_all file name bytes other = refl

none_added : (file : List ℕ → Option (List ℕ)) (other : List ℕ) → all_added file [] other ≡ file other
unfolding all_added
none_added file other = refl

module _ (a d e : StoreState) (touched : List (List ℕ)) (keeps : Keeps touched a d) (out bytes : List ℕ) (back : IsBack d e) where
  told_d : IsTrue a.told → IsTrue d.told
  told_d told = rw keeps.back.onward.told told

  steady_d : IsTrue a.steady → IsTrue d.steady
  steady_d steady = rw keeps.back.onward.steady steady

  back_e : IsBack a e
  back_e = record {
    onward = onward_on a d e keeps.back.onward back.onward;
    out = λ told name. back.out (told_d told) name ∙ keeps.back.out told name;
    views = λ told. back.views (told_d told) ∙ keeps.back.views told;
  }

  -- the signature was written
  module _ (left : IsLeft (from_to d e) (one_output out bytes ∷ [])) where
    pub others_file : IsTrue a.told → (name : List ℕ) → bytes_eq name out ≡ false → e.file name ≡ d.file name
    others_file told name differs = left.file (told_d told) name ∙ added_all d.file out bytes name ∙ rw differs refl

    abbrev differs_from : List ℕ → Output → Type 0
    differs_from name output = bytes_eq name output.name ≡ false

    is_other : (name : List ℕ) → bytes_eq name out ≡ false → IsOther (one_output out bytes ∷ []) name
    is_other name differs = All-cons (differs_from name) (one_output out bytes) [] differs (All-nil (differs_from name))

    pub others_leave : IsTrue a.told → (name image : List ℕ) → bytes_eq name out ≡ false → e.leaves name image ↔ d.leaves name image
    others_leave told name image differs = left.others (told_d told) name image (is_other name differs)

    pub is_written : IsWritten (from_to a e) out bytes
    is_written = record {
      file = λ told. left.file (told_d told) out ∙ added_all d.file out bytes out ∙ rw (same_true out) refl;
      stable = λ told. All-head (λ (output : Output). Only output.bytes (e.leaves output.name)) (one_output out bytes) [] (left.stable (told_d told));
      readers = λ told. All-head (λ (output : Output). e.readers output.name ≡ Some output.readers) (one_output out bytes) [] (left.readers (told_d told));
    }

    pub keeps_written : Keeps (out ∷ touched) a e
    keeps_written = record {
      back = back_e;
      file = λ told name untouched.
          let differs = All-head (λ one. bytes_eq name one ≡ false) out touched untouched in
          others_file told name differs ∙ keeps.file told name (All-tail (λ one. bytes_eq name one ≡ false) out touched untouched);
      leaves = λ told name image untouched.
          let differs = All-head (λ one. bytes_eq name one ≡ false) out touched untouched in
          let x = keeps.leaves told name image (All-tail (λ one. bytes_eq name one ≡ false) out touched untouched) in
          let y = left.others (told_d told) name image (is_other name differs) in
          (λ z. x.0 (y.0 z), λ z. y.1 (x.1 z));
    }

  -- nothing was written
  module _ (left : IsLeft (from_to d e) []) where
    abbrev no_output : List ℕ → Output → Type 0
    no_output name output = bytes_eq name output.name ≡ false

    pub unwritten_file : IsTrue a.told → (name : List ℕ) → e.file name ≡ d.file name
    unwritten_file told name = left.file (told_d told) name ∙ none_added d.file name

    pub unwritten_leave : IsTrue a.told → (name image : List ℕ) → e.leaves name image ↔ d.leaves name image
    unwritten_leave told name image = left.others (told_d told) name image (All-nil (no_output name))

    pub keeps_unwritten : Keeps touched a e
    keeps_unwritten = record {
      back = back_e;
      file = λ told name untouched. left.file (told_d told) name ∙ none_added d.file name ∙ keeps.file told name untouched;
      leaves = λ told name image untouched.
          let x = keeps.leaves told name image untouched in
          let y = left.others (told_d told) name image (All-nil (no_output name)) in
          (λ z. x.0 (y.0 z), λ z. y.1 (x.1 z));
    }

  pub not_written : (end : Ending) → IsNotWritten (from_to d e) [] out end → IsNotWritten (from_to a e) [] out end
  not_written _ (write_failed failed) = write_failed (record {
    rose = let rose = failed.rose in let before = keeps.back.onward.count in omega (arith, rose, before);
    unsteady = λ steady. failed.unsteady (steady_d steady);
  })
  not_written _ (was_there never) = was_there (λ told. never (told_d told))
  not_written _ no_memory_to_write = no_memory_to_write

-- one output was to be written: nothing was
module _ (d e : StoreState) (output : Output) (end : Ending) where
  stops : (written : List Output) → StopsAfter (from_to d e) (output ∷ []) written end → IsLeft (from_to d e) written
      → IsLeft (from_to d e) [] × IsNotWritten (from_to d e) [] output.name end
  stops [] stop left =
      let is = stop.is in
      let same : stop.output ≡ output = cc in
      (left, subst (λ (one : Output). IsNotWritten (from_to d e) [] one.name end) same stop.cause)
  stops (one ∷ []) stop left = let is = stop.is in absurd (cc)
  stops (one ∷ other ∷ rest) stop left = let is = stop.is in absurd (cc)

  pub stops_first : EndsWith (λ end written. StopsAfter (from_to d e) (output ∷ []) written end) (from_to d e) end
      → IsLeft (from_to d e) [] × IsNotWritten (from_to d e) [] output.name end
  stops_first ends = stops ends.written ends.cause ends.left
