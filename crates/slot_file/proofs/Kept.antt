-- A write within a slot leaves a file what it is.
use Rattle.std.proofs.Common.{ℕ, ◌+◌, ◌*◌, ◌<◌, ◌≤◌, List, length, refl, ◌∙◌, arith, inl, inr}
use Rattle.std.proofs.Math.Nat.{mul-add, mul-le-mul_left}
use Rattle.disk_trait.specs.Images.{written}
use Rattle.slot_file.specs.declared.header.Header.{Header}
use Rattle.slot_file.specs.Layout.{slot_size, slot_start, file_size}
use Rattle.slot_file.specs.Files.{IsFile}
use Rattle.slot_file.specs.Gated.{Gated}
use Rattle.slot_file.proofs.Parts.{Outside, outside_torn, outside_written, outside_both, outside_wider}
use Rattle.slot_file.proofs.Puts.{header-outside, opens-outside}

-- that many slots end within the file
pub run-within : (version first n count : ℕ) → first + n ≤ count → slot_start version first + slot_size version * n ≤ file_size version count
run-within version first n count below =
    omega (arith, mul-add (slot_size version) first n, mul-le-mul_left (slot_size version) below)

pub slot-within : (version slot count : ℕ) → slot < count → slot_start version slot + slot_size version ≤ file_size version count
slot-within version slot count below = omega (arith, run-within version slot 1 count (omega arith))

module _ (header : Header) (count at : ℕ) (body : List ℕ) (gate_at gate : ℕ) (old : List ℕ) (file : IsFile header count old) (behind : 128 ≤ at) (fits : at + length body ≤ file_size header.version count) (gate_behind : 128 ≤ gate_at) (gate_fits : gate_at < file_size header.version count) where
  stays : (from n : ℕ) (new : List ℕ) → 128 ≤ from → Outside from n old new → IsFile header count new
  stays from n new low out = record {
    opens = opens-outside from n old new (omega arith) out header count ∙ file.opens;
    size = out.size ∙ file.size;
    gate = out.same 0 (inl (omega arith)) ∙ file.gate;
    names = header-outside from n old new (omega arith) out ∙ file.names;
  }

  mid : List ℕ
  mid = written old at body

  out_mid : Outside at (length body) old mid
  unfolding mid
  out_mid = outside_written at (length body) body old refl (omega (arith, file.size))

  both : (new : List ℕ) → Outside gate_at 1 mid new → IsFile header count new
  both new out =
      let all = length old in
      stays 128 all new (omega arith)
      (outside_both 128 all old mid new
      (outside_wider at (length body) 128 all old mid behind (omega (arith, file.size)) out_mid)
      (outside_wider gate_at 1 128 all mid new gate_behind (omega (arith, file.size)) out))

  pub gated_stays : (new : List ℕ) → Gated at body gate_at old new → IsFile header count new
  unfolding mid
  gated_stays new leaves = elim leaves [
    | inl torn ↦ stays at (length body) new behind (outside_torn at (length body) old new (omega (arith, file.size)) torn)
    | inr torn ↦ both new (outside_torn gate_at 1 mid new (omega (arith, file.size, out_mid.size)) torn)
  ]
