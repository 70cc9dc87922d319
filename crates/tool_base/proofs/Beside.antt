-- Files that are written while a disk is out.
use Rattle.std.proofs.Common.{◌≡◌, false, ℕ, List, [], ◌∷◌, Option, map, refl, ◌∙◌}
use Rattle.std.proofs.lemmas.List.Elements.{All-head, All-tail, All-cons, All-nil}
use Rattle.std.specs.Str.{bytes_eq}
use Rattle.stream_io.specs.Store.{StoreState, added}
use Rattle.tool_base.specs.Outputs.{IsLeft, IsOther, Output, all_added}
use Rattle.tool_base.specs.Touched.{IsUntouched, Keeps}
use Rattle.tool_base.specs.World.{IsBack, from_to}

-- a name that is none of these outputs' is read as before
pub added_others : (file : List ℕ → Option (List ℕ)) (outputs : List Output) (name : List ℕ) → IsOther outputs name → all_added file outputs name ≡ file name
unfolding all_added
added_others file [] name other = refl
added_others file (output ∷ outputs) name other =
    added_others (added file output.name output.bytes) outputs name (All-tail (λ one. bytes_eq name one.name ≡ false) output outputs other)
    ∙ rw (All-head (λ one. bytes_eq name one.name ≡ false) output outputs other) refl

-- what is added to names that are read alike
pub added_alike : (f g : List ℕ → Option (List ℕ)) (outputs : List Output) (name : List ℕ) → f name ≡ g name → all_added f outputs name ≡ all_added g outputs name
unfolding all_added
added_alike f g [] name same = same
added_alike f g (output ∷ outputs) name same =
    added_alike (added f output.name output.bytes) (added g output.name output.bytes) outputs name (rw same refl)

others_of : (outputs : List Output) (name : List ℕ) → IsUntouched (map (λ output. output.name) outputs) name → IsOther outputs name
others_of [] name untouched = All-nil (λ output. bytes_eq name output.name ≡ false)
others_of (output ∷ outputs) name untouched =
    All-cons (λ output. bytes_eq name output.name ≡ false) output outputs
    (All-head (λ one. bytes_eq name one ≡ false) output.name (map (λ output. output.name) outputs) untouched)
    (others_of outputs name (All-tail (λ one. bytes_eq name one ≡ false) output.name (map (λ output. output.name) outputs) untouched))

-- files that were written touch their names
pub keeps_left : (b c : StoreState) (written : List Output) → IsLeft (from_to b c) written → IsBack b c → Keeps (map (λ output. output.name) written) b c
keeps_left b c written left back = record {
  back = back;
  file = λ told name untouched. left.file told name ∙ added_others b.file written name (others_of written name untouched);
  leaves = λ told name image untouched. left.others told name image (others_of written name untouched);
}
