-- What a put on a slot does to a file.
use Rattle.std.proofs.Common.{◌≡◌, ◌≢◌, ◌⊎◌, ℕ, ◌+◌, ◌*◌, ◌≤◌, List, ◌-◌, get_or, take, drop, get_or-take, refl, ◌∙◌, ap, arith, inl, inr}
use Rattle.std.proofs.lemmas.Bool.{cases_lt}
use Rattle.std.proofs.lemmas.Bool.Decides.{nat_tests}
use Rattle.std.proofs.lemmas.List.{drop-take, take-take}
use Rattle.std.proofs.Math.Nat.{mul-le-mul_left}
use Rattle.byteorder.specs.Endian.{big_number}
use Rattle.slot_file.specs.declared.header.Header.{Header}
use Rattle.slot_file.specs.declared.slot.Slot.{Slot}
use Rattle.slot_file.specs.Layout.{part, slot_size, slot_start, slot_at, slot_of, header_in, header_fault, load_fault}
use Rattle.slot_file.specs.Files.{IsPut}
use Rattle.slot_file.proofs.Parts.{Outside, part-outside}

part-front : (at n : ℕ) (file : List ℕ) → at + n ≤ 32 → part at n (take 32 file) ≡ part at n file
part-front at n file fits =
    let all : 32 ≡ at + (32 - at) = omega arith in
    ap (λ (m : ℕ). take n (drop at (take m file))) all ∙ ap (take n) (drop-take at (32 - at) file) ∙ take-take n (32 - at) (drop at file) (omega arith)

made : ℕ → ℕ → List ℕ → List ℕ → List ℕ → Header
made version number lms ots id = record { version = version; number = number; lms = big_number 4 lms; ots = big_number 4 ots; id = id }

header-made : (file : List ℕ) → header_in file ≡ made (get_or file 4 0) (get_or file 5 0) (part 8 4 file) (part 12 4 file) (part 16 16 file)
unfolding header_in made
header-made file = refl

header-same : (old new : List ℕ) → get_or new 4 0 ≡ get_or old 4 0 → get_or new 5 0 ≡ get_or old 5 0 → part 8 4 new ≡ part 8 4 old → part 12 4 new ≡ part 12 4 old → part 16 16 new ≡ part 16 16 old → header_in new ≡ header_in old
header-same old new version number lms ots id = cc (header-made old, header-made new)

-- a write after the header leaves it as it is
pub header-outside : (at n : ℕ) (old new : List ℕ) → 32 ≤ at → Outside at n old new → header_in new ≡ header_in old
header-outside at n old new behind out =
    header-same old new (out.same 4 (inl (omega arith))) (out.same 5 (inl (omega arith)))
    (part-outside at n 8 4 old new out (inl (omega arith))) (part-outside at n 12 4 old new out (inl (omega arith))) (part-outside at n 16 16 old new out (inl (omega arith)))

header_fault-outside : (at n : ℕ) (old new : List ℕ) → 32 ≤ at → Outside at n old new → (header : Header) → header_fault header new ≡ header_fault header old
unfolding header_fault
header_fault-outside at n old new behind out header =
    let gate = out.same 0 (inl (omega arith)) in
    let version = out.same 4 (inl (omega arith)) in
    let names = header-outside at n old new behind out in
    rw (gate, version, names) refl

-- the header stands in the first 32 bytes
pub header-front : (file : List ℕ) → header_in (take 32 file) ≡ header_in file
header-front file =
    header-same file (take 32 file) (get_or-take 32 file 4 0 (omega arith)) (get_or-take 32 file 5 0 (omega arith))
    (part-front 8 4 file (omega arith)) (part-front 12 4 file (omega arith)) (part-front 16 16 file (omega arith))

pub header_fault-front : (header : Header) (file : List ℕ) → header_fault header (take 32 file) ≡ header_fault header file
unfolding header_fault
header_fault-front header file =
    let gate = get_or-take 32 file 0 0 (omega arith) in
    let version = get_or-take 32 file 4 0 (omega arith) in
    rw (gate, version, header-front file) refl

-- a file opens as before if its header and its length are as before
pub opens-outside : (at n : ℕ) (old new : List ℕ) → 32 ≤ at → Outside at n old new → (header : Header) (count : ℕ) → load_fault header count new ≡ load_fault header count old
unfolding load_fault
opens-outside at n old new behind out header count = rw (out.size, header_fault-outside at n old new behind out header) refl

pub least_size : (version : ℕ) → 128 ≤ slot_size version
least_size version = grind (arith, nat_tests)

pub most_size : (version : ℕ) → slot_size version ≤ 160
most_size version = grind (arith, nat_tests)

apart : (size slot other : ℕ) → other ≢ slot → (128 + size * other + size ≤ 128 + size * slot) ⊎ (128 + size * slot + size ≤ 128 + size * other)
apart size slot other differs = elim (cases_lt other slot) [
  | inl less ↦ let step : other + 1 ≤ slot = omega arith in inl (omega (arith, mul-le-mul_left size step))
  | inr most ↦ let step : slot + 1 ≤ other = omega arith in inr (omega (arith, mul-le-mul_left size step))
]

-- every other slot is as before
pub others-outside : (version slot : ℕ) (old new : List ℕ) → Outside (slot_start version slot) (slot_size version) old new → (other : ℕ) → other ≢ slot → slot_at version other new ≡ slot_at version other old
others-outside version slot old new out other differs =
    ap (slot_of version) (part-outside (slot_start version slot) (slot_size version) (slot_start version other) (slot_size version) old new out (apart (slot_size version) slot other differs))

-- a put that changes the bytes of its slot alone
module _ (version slot : ℕ) (old new : List ℕ) (out : Outside (slot_start version slot) (slot_size version) old new) where
  pub is_put : (after : Slot) → (slot_at version slot new ≡ slot_at version slot old) ⊎ (slot_at version slot new ≡ after) → IsPut version slot after old new
  is_put after this = record {
    opens = opens-outside (slot_start version slot) (slot_size version) old new (omega arith) out;
    others = others-outside version slot old new out;
    this = this;
  }
