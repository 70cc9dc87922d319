use Rattle.std.proofs.Common.{rules, ◌≡◌, ◌∙◌, ◌++◌, length, drop, take, IsTrue, List, ℕ, arith, take_at}
use Rattle.lms_bytes.specs.Bytes.{bytes_at}
use Rattle.reference_value.proofs.paged.Paged.read_piece.Goals as goal

-- the bytes that were read are those of the leaves, as they stand now
of-leaves : (out rest before now : List ℕ) (head place size count : ℕ) → length out ≡ size → size ≡ count → out ≡ bytes_at (drop head before) place size
    → now ≡ before → take count (out ++ rest) ≡ bytes_at (drop head now) place count
of-leaves out rest before now head place size count all enough read same =
    rw (same, ← enough) (take_at out rest size all ∙ read)

pub invariant_of-self-2-clause-few : goal.invariant_of-self-2-clause-few
invariant_of-self-2-clause-few g c = omega (arith, c.min-count.ensures)

pub invariant_of-self-2-clause-read : goal.invariant_of-self-2-clause-read
invariant_of-self-2-clause-read g c = λ told.
    let ok = c.in_ok-read_behind_header.ensures in
    let before : IsTrue (g.V.Pages.told c.args.self.now.pages) = rw ok.stays.told at told in
    of-leaves c.read_behind_header.new.out _ _ _ 32 c.args.place _ c.min-count.result c.read_behind_header.auto.out (search rules) (ok.bytes before) (ok.same before)
