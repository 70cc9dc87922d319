-- What it means for a file to open.
use Rattle.std.proofs.Common.{◌≡◌, ◌≢◌, ◌==◌, ◌&&◌, ◌<◌, ◌≤◌, ℕ, Bool, true, false, not, List, length, take, get_or, Option, None, Some, if◌then◌else◌, nat_lt, is_some, refl, sym, ◌∙◌, ap, arith}
use Rattle.std.proofs.lemmas.Bool.{false≢true}
use Rattle.std.proofs.lemmas.Bool.Decides.{nat_tests}
use Rattle.std.specs.Cmp.Lexicographic.{same_text, bytes_decides}
use Rattle.slot_file.specs.declared.header.Header.{Header}
use Rattle.slot_file.specs.declared.header.LoadFault.{LoadFault}
use Rattle.slot_file.specs.declared.header.LoadFault.TheVariants.{Length, NotReady, Version, Foreign}
use Rattle.slot_file.specs.Layout.{header_in, file_size, same_header, header_fault, load_fault}
use Rattle.slot_file.specs.Files.{IsFile}
use Rattle.slot_file.proofs.Puts.{header_fault-front}

both : (a b : Bool) → a && b ≡ true → (a ≡ true) × (b ≡ true)
both true true is = (refl, refl)
both true false is = absurd (false≢true is)
both false b is = absurd (false≢true is)

equal : (m n : ℕ) → (m == n) ≡ true → m ≡ n
equal m n is = grind (arith, nat_tests)

same_header-true : (a b : Header) → same_header a b ≡ true → a ≡ b
unfolding same_header
same_header-true a b is =
    let one = both _ _ is in
    let two = both _ _ one.1 in
    let three = both _ _ two.1 in
    let four = both _ _ three.1 in
    let version = equal _ _ one.0 in
    let number = equal _ _ two.0 in
    let lms = equal _ _ three.0 in
    let ots = equal _ _ four.0 in
    let id = same_text a.id b.id (sym four.1) in
    (λ i. record { version = version i; number = number i; lms = lms i; ots = ots i; id = id i })

-- the header's tests all pass
record Names (header : Header) (file : List ℕ) : Type 0 where
  gate : get_or file 0 0 ≡ 0xA7
  same : header_in file ≡ header

-- by the outcomes of the tests
tests : Bool → Bool → Bool → Option LoadFault → Option LoadFault → Option LoadFault → Option LoadFault
tests gate version names x y z = if not gate then x else (if not version then y else (if not names then z else None))

tests-none : (gate version names : Bool) (x y z : LoadFault) → tests gate version names (Some x) (Some y) (Some z) ≡ None → (gate ≡ true) × (names ≡ true)
unfolding tests
tests-none false version names x y z is = absurd (cc)
tests-none true false names x y z is = absurd (cc)
tests-none true true false x y z is = absurd (cc)
tests-none true true true x y z is = (refl, refl)

header-names : (header : Header) (file : List ℕ) → header_fault header file ≡ None → Names header file
unfolding header_fault tests
header-names header file is =
    let passed = tests-none (get_or file 0 0 == 0xA7) (get_or file 4 0 == header.version) (same_header (header_in file) header) _ _ _ is in
    record { gate = equal _ _ passed.0; same = same_header-true _ _ passed.1 }

loads : Bool → Option LoadFault → Bool → Option LoadFault → Option LoadFault
loads short fault exact other = if short then other else (if is_some fault then fault else (if not exact then other else None))

loads-none : (short : Bool) (fault : Option LoadFault) (exact : Bool) (x : LoadFault) → loads short fault exact (Some x) ≡ None → (fault ≡ None) × (exact ≡ true)
unfolding loads
loads-none true fault exact x is = absurd (cc)
loads-none false (Some y) exact x is = absurd (cc)
loads-none false None false x is = absurd (cc)
loads-none false None true x is = (refl, refl)

long-test : {n : ℕ} → 128 ≤ n → nat_lt n 128 ≡ false
long-test {n} long = grind (arith, nat_tests)

other-test : (m n : ℕ) → m ≢ n → (m == n) ≡ false
other-test m n differs = grind (arith, nat_tests)

same-test : (m n : ℕ) → m ≡ n → (m == n) ≡ true
same-test m n is = grind (arith, nat_tests)

-- a file that opens has the header, the open gate and the length
pub is_file : (header : Header) (count : ℕ) (file : List ℕ) → load_fault header count file ≡ None → IsFile header count file
unfolding load_fault loads
is_file header count file is =
    let passed = loads-none (nat_lt (length file) 128) (header_fault header file) (length file == file_size header.version count) _ is in
    let names = header-names header file passed.0 in
    record { opens = is; size = equal _ _ passed.1; gate = names.gate; names = names.same }

module _ (header : Header) (count : ℕ) (file : List ℕ) where
  pub load-short : length file < 128 → load_fault header count file ≡ Some (Length (length file) (file_size header.version count))
  unfolding load_fault
  load-short short = grind (arith, nat_tests)

  pub load-header : (fault : LoadFault) → 128 ≤ length file → header_fault header (take 32 file) ≡ Some fault → load_fault header count file ≡ Some fault
  unfolding load_fault loads
  load-header fault long is =
      let same = sym (header_fault-front header file) ∙ is in
      ap (λ (b : Bool). loads b (header_fault header file) (length file == file_size header.version count) (Some (Length (length file) (file_size header.version count)))) (long-test long)
      ∙ ap (λ (f : Option LoadFault). loads false f (length file == file_size header.version count) (Some (Length (length file) (file_size header.version count)))) same

  pub load-other : 128 ≤ length file → header_fault header (take 32 file) ≡ None → length file ≢ file_size header.version count → load_fault header count file ≡ Some (Length (length file) (file_size header.version count))
  unfolding load_fault loads
  load-other long is differs =
      let same = sym (header_fault-front header file) ∙ is in
      ap (λ (b : Bool). loads b (header_fault header file) (length file == file_size header.version count) (Some (Length (length file) (file_size header.version count)))) (long-test long)
      ∙ ap (λ (f : Option LoadFault). loads false f (length file == file_size header.version count) (Some (Length (length file) (file_size header.version count)))) same
      ∙ ap (λ (b : Bool). loads false None b (Some (Length (length file) (file_size header.version count)))) (other-test _ _ differs)

  pub load-none : 128 ≤ length file → header_fault header (take 32 file) ≡ None → length file ≡ file_size header.version count → load_fault header count file ≡ None
  unfolding load_fault loads
  load-none long is exact =
      let same = sym (header_fault-front header file) ∙ is in
      ap (λ (b : Bool). loads b (header_fault header file) (length file == file_size header.version count) (Some (Length (length file) (file_size header.version count)))) (long-test long)
      ∙ ap (λ (f : Option LoadFault). loads false f (length file == file_size header.version count) (Some (Length (length file) (file_size header.version count)))) same
      ∙ ap (λ (b : Bool). loads false None b (Some (Length (length file) (file_size header.version count)))) (same-test _ _ exact)

pub same_header-own : (a : Header) → same_header a a ≡ true
unfolding same_header
same_header-own a =
    let version = same-test a.version a.version refl in
    let number = same-test a.number a.number refl in
    let lms = same-test a.lms a.lms refl in
    let ots = same-test a.ots a.ots refl in
    let id = (bytes_decides a.id a.id).1 refl in
    cc

fault-none : (header : Header) (file : List ℕ) → get_or file 0 0 ≡ 0xA7 → header_in file ≡ header → header_fault header file ≡ None
unfolding header_fault tests header_in
fault-none header file gate names =
    let x = Some (NotReady (get_or file 0 0)) in
    let y = Some (Version (get_or file 4 0)) in
    let z = Some (Foreign (header_in file)) in
    let version : get_or file 4 0 ≡ header.version = ap (λ (h : Header). h.version) names in
    let same : same_header (header_in file) header ≡ true = ap (λ (h : Header). same_header h header) names ∙ same_header-own header in
    ap (λ (b : Bool). tests b (get_or file 4 0 == header.version) (same_header (header_in file) header) x y z) (same-test _ _ gate)
    ∙ ap (λ (b : Bool). tests true b (same_header (header_in file) header) x y z) (same-test _ _ version)
    ∙ ap (λ (b : Bool). tests true true b x y z) same

-- and the other way round
pub opens_file : (header : Header) (count : ℕ) (file : List ℕ) → length file ≡ file_size header.version count → get_or file 0 0 ≡ 0xA7 → header_in file ≡ header → IsFile header count file
opens_file header count file size gate names = record {
  opens = load-none header count file (omega (arith, size)) (header_fault-front header file ∙ fault-none header file gate names) size;
  size = size;
  gate = gate;
  names = names;
}
