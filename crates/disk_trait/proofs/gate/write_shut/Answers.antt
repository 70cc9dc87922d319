use Rattle.std.proofs.Common.{◌≡◌, ◌<◌, ◌≤◌, ◌+◌, ◌-◌, List, ℕ, [], ◌∷◌, ◌++◌, IsTrue, length, get_or, take, drop, length-take, inl, refl, sym, ◌∙◌, ap, arith}
use Rattle.std.proofs.lemmas.Bool.{false≢true}
use Rattle.std.proofs.lemmas.Result.{on_ok_weaker}
use Rattle.disk_trait.specs.Images.{Torn, written}
use Rattle.disk_trait.specs.Gate.{IsShut, IsUnready}
use Rattle.disk_trait.proofs.FaultLaws.{cause-failed, cause-then, on-any, on-err}
use Rattle.disk_trait.proofs.Gates.{rest-appended, shut_unready}
use Rattle.disk_trait.proofs.SameDisk.{same-then}
use Rattle.disk_trait.proofs.gate.write_shut.Goals as goal

emptied : (file : List ℕ) → file ≡ [] → length file ≤ 0
emptied file is = omega (arith, ap length is)

-- one byte that may be torn, on an empty file
empty-torn : (gate head : ℕ) (old new : List ℕ) → 1 < head → length old ≤ 0 → Torn 0 1 old new → IsUnready gate head new
empty-torn gate head old new longer none torn = inl (omega (arith, torn.no_longer, none, longer))

-- a closed gate on an empty file
one-gate : (old new : List ℕ) → old ≡ [] → new ≡ written old 0 (0 ∷ []) → new ≡ 0 ∷ []
one-gate old new none is = is ∙ ap (λ (l : List ℕ). written l 0 (0 ∷ [])) none

-- a file of one closed gate
gate-shut : (file : List ℕ) → file ≡ 0 ∷ [] → IsShut file
gate-shut file is = ap (λ (l : List ℕ). get_or l 0 0) is

pub append-requires-clause-end : goal.append-requires-clause-end
append-requires-clause-end g c = λ told.
    let told_0 = sym c.write_stable.ensures.stays.told ∙ told in
    ap length (one-gate _ _ (c.requires.empty told_0) (c.in_ok-write_stable.ensures.bytes told_0))

pub returns-in_err-write_stable-clause-bytes : goal.returns-in_err-write_stable-clause-bytes
returns-in_err-write_stable-clause-bytes g c = λ told. on-err _ _ c.from_residual.ensures.0

pub returns-in_err-write_stable-clause-unready : goal.returns-in_err-write_stable-clause-unready
returns-in_err-write_stable-clause-unready g c = λ gate some.
    let torn_empty = empty-torn gate (length c.args.head.now) in
    let old = c.args.disk.now in
    let none : IsTrue (g.D.Pages.told old) → length (g.D.Pages.reads old) ≤ 0 = λ told. emptied (g.D.Pages.reads old) (c.requires.empty told) in
    record {
      reads = λ told. torn_empty _ _ c.requires.longer (none told) (c.write_stable.ensures.torn told);
      images = λ told honest image leaves.
          let from = c.write_stable.ensures.images honest image leaves in
          let short = g.met.D.Disk.leaves_no_longer old from.0 honest told from.1 in
          torn_empty from.0 image c.requires.longer (omega (arith, short, none told)) from.2;
    }

pub returns-in_err-write_stable-clause-shut : goal.returns-in_err-write_stable-clause-shut
returns-in_err-write_stable-clause-shut g c = λ told honest. on-err _ _ c.from_residual.ensures.0

pub returns-in_err-write_stable-clause-succeeds : goal.returns-in_err-write_stable-clause-succeeds
returns-in_err-write_stable-clause-succeeds g c = λ steady told room. absurd (false≢true (c.in_err-write_stable.ensures.succeeds steady told (omega arith) (omega (arith, room))))

pub returns-in_err-write_stable-clause-cause : goal.returns-in_err-write_stable-clause-cause
returns-in_err-write_stable-clause-cause g c =
    cause-failed _ (g.D.Faults.count c.args.disk.now) _ _ c.from_residual.ensures.0 refl c.write_stable.ensures.cause.later c.in_err-write_stable.ensures.cause.failed

pub returns-in_err-write_stable-clause-stays : goal.returns-in_err-write_stable-clause-stays
returns-in_err-write_stable-clause-stays g c = c.write_stable.ensures.stays

pub returns-in_err-write_stable-clause-no_longer : goal.returns-in_err-write_stable-clause-no_longer
returns-in_err-write_stable-clause-no_longer g c = λ told.
    omega (arith, (c.write_stable.ensures.torn told).no_longer, emptied (g.D.Pages.reads c.args.disk.now) (c.requires.empty told), c.requires.longer)

pub returns-clause-no_longer : goal.returns-clause-no_longer
returns-clause-no_longer g c = λ told.
    let head = c.args.head.now in
    let one = ap length (one-gate _ _ (c.requires.empty told) (c.in_ok-write_stable.ensures.bytes told)) in
    let rest = length-take (length head - 1) (drop 1 head) in
    omega (arith, (c.append.ensures.torn (c.write_stable.ensures.stays.told ∙ told)).no_longer, one, rest, c.requires.longer)

pub returns-clause-bytes : goal.returns-clause-bytes
returns-clause-bytes g c = λ told.
    let head = c.args.head.now in
    let size : length head ≡ (length head - 1) + 1 = omega (arith, c.requires.longer) in
    let one = one-gate _ _ (c.requires.empty told) (c.in_ok-write_stable.ensures.bytes told) in
    on_ok_weaker c.append.result
    (λ is. is ∙ ap (λ (l : List ℕ). l ++ take (length head - 1) (drop 1 head)) one ∙ rest-appended head (length head - 1) size c.requires.shut)
    (c.append.ensures.bytes (c.write_stable.ensures.stays.told ∙ told))

pub returns-clause-unready : goal.returns-clause-unready
returns-clause-unready g c = λ gate some.
    let unready = shut_unready gate (length c.args.head.now) in
    let kind = c.write_stable.ensures.stays in
    let one : IsTrue (g.D.Pages.told c.args.disk.now) → g.D.Pages.reads c.write_stable.new.disk ≡ 0 ∷ [] = λ told. one-gate _ _ (c.requires.empty told) (c.in_ok-write_stable.ensures.bytes told) in
    record {
      reads = λ told. unready _ some (c.append.ensures.shut.reads (kind.told ∙ told) (gate-shut _ (one told)));
      images = λ told honest image leaves. unready image some (c.append.ensures.shut.images (kind.honest ∙ honest)
          (λ file left. gate-shut file (c.in_ok-write_stable.ensures.stable told honest file left ∙ one told)) image leaves);
    }

pub returns-clause-shut : goal.returns-clause-shut
returns-clause-shut g c = λ told honest.
    let one = one-gate _ _ (c.requires.empty told) (c.in_ok-write_stable.ensures.bytes told) in
    on-any _ c.append.result (c.append.ensures.shut.images (c.write_stable.ensures.stays.honest ∙ honest)
    (λ file left. gate-shut file (c.in_ok-write_stable.ensures.stable told honest file left ∙ one)))

pub returns-clause-succeeds : goal.returns-clause-succeeds
returns-clause-succeeds g c = λ steady told room.
    let kind = c.write_stable.ensures.stays in
    c.append.ensures.succeeds (kind.steady ∙ steady) (kind.told ∙ told) (omega (arith, room, kind.room))

pub returns-clause-cause : goal.returns-clause-cause
returns-clause-cause g c = cause-then _ (g.D.Faults.count c.write_stable.new.disk) _ _ c.in_ok-write_stable.ensures.cause.succeeded c.append.ensures.cause

pub returns-clause-stays : goal.returns-clause-stays
returns-clause-stays g c =
    same-then g.D.Pages g.D.Faults c.args.disk.now c.write_stable.new.disk c.append.new.disk c.write_stable.ensures.stays c.append.ensures.stays
