-- Where the writing of a reference onto a disk ends.
use Rattle.std.proofs.Common.{◌≡◌, ◌≢◌, ℕ, ◌*◌, ◌/◌, ◌^◌, IsTrue, Result, Ok, Err, OnOk, List, [], ◌++◌, get_or, inr, refl, sym, ap, ◌∙◌, arith, append-nil}
use Rattle.disk_trait.proofs.Gates.{shut_unready}
use Rattle.disk_trait.specs.Gate.{IsShut}
use Rattle.disk_trait.specs.Images.{Only}
use Rattle.disk_trait.specs.declared.disk.Pages as pages
use Rattle.lms_bytes.specs.Bytes.{joined}
use Rattle.reference_value.specs.Dealing.{Dealing, leaf_part, reference}
use Rattle.dealer.specs.Onto.{IsUnready, IsWritten, Stops, StopsBehind, part_leaves, shut_head, told_all}
use Rattle.dealer.proofs.OntoParts.{parts-cut-onto}

open_not_shut : ◌≢◌ {A = ℕ} 0x54 0
open_not_shut is = absurd (omega (arith, is))

-- a file whose gate is shut is not taken for a reference
pub shut-unready : (file : List ℕ) → IsShut file → IsUnready file
shut-unready file is = shut_unready 0x54 32 file open_not_shut is

pub head-shut : (d : Dealing) (file : List ℕ) → file ≡ shut_head d → IsShut file
head-shut d file is = ap (λ (l : List ℕ). get_or l 0 0) is

module _ {D P : Type 0} (p : pages.Ghosts D) (told : P → ℕ → ℕ → P) (d : Dealing) where
  -- the head was written before
  pub stops-after : (front : List ℕ) (k : ℕ) (old mid new : D) (before after : P) → p.told mid ≡ p.told old → (IsTrue (p.told old) → front ≡ shut_head d)
      → StopsBehind p told d front k mid new before after → StopsBehind p told d (shut_head d) k old new before after
  stops-after front k old mid new before after kind is stops = record {
    most = stops.most;
    told_of = stops.told_of;
    reads = λ reads_told.
        let rest = stops.reads (kind ∙ reads_told) in
        (rest.0, rest.1 ∙ ap (λ (l : List ℕ). (l ++ joined (leaf_part d) (k * part_leaves d.params)) ++ rest.0) (is reads_told), rest.2);
  }

  -- all leaves were written
  pub stops-at_end : (old new : D) (before after : P) → after ≡ told_all told d.params before → (IsTrue (p.told old) → p.reads new ≡ shut_head d ++ reference d)
      → Stops p told d old new before after
  unfolding reference
  stops-at_end old new before after is reads =
      let all = 2 ^ d.params.h in
      let part = part_leaves d.params in
      let even = (parts-cut-onto d.params {all = all} {part = part} refl refl).even in
      inr (
        all / part,
        record {
          most = omega (arith, even);
          told_of = is;
          reads = λ reads_told.
              ([], reads reads_told ∙ ap (λ (n : ℕ). shut_head d ++ joined (leaf_part d) n) (sym even) ∙ sym (append-nil (shut_head d ++ joined (leaf_part d) (all / part * part))), omega arith);
        },
      )

  -- they were synced
  pub written-synced : {T X : Type 0} (answer : Result T X) (old new : D) (before after : P) → after ≡ told_all told d.params before
      → (IsTrue (p.told old) → p.reads new ≡ shut_head d ++ reference d)
      → (IsTrue (p.told old) → IsTrue (p.honest old) → OnOk answer (Only (p.reads new) (p.may_leave new))) → OnOk answer (IsWritten p told d old new before after)
  written-synced (Ok value) old new before after is reads only = record {
    reads = reads;
    stable = λ reads_told honest image leaves. only reads_told honest image leaves ∙ reads reads_told;
    told_of = is;
  }
  written-synced (Err fault) old new before after is reads only = tt
