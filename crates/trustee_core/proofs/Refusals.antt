-- Which refusals come from what.
use Rattle.std.proofs.Common.{◌≡◌, ◌≢◌, ◌≤◌, ℕ, Result, Ok, Err, ap, arith}
use Rattle.lms_bytes.specs.declared.ask.Ask.{Ask}
use Rattle.opening_journal.specs.declared.faults.JournalFault.{JournalFault}
use Rattle.opening_journal.specs.declared.faults.JournalFault.TheVariants as journal
use Rattle.share_files.specs.declared.share.Share.{Share}
use Rattle.disk_trait.specs.Faults.{RisesAt}
use Rattle.trustee_core.specs.Codes.{refusal_code}
use Rattle.trustee_core.specs.Decisions.{FailsTest, foreign_key, no_such_leaf, not_member, too_long, bad_check}
use Rattle.trustee_core.specs.declared.refusal.Refusal.{Refusal}
use Rattle.trustee_core.specs.declared.refusal.Refusal.TheVariants.{Journal}

-- a test refuses for no fault of the journal
pub tests-journal : (share : Share) (ask : Ask) (why : Refusal) → FailsTest share ask why → (fault : JournalFault) → why ≢ Journal fault
tests-journal share ask why (foreign_key _) fault = grind arith
tests-journal share ask why (no_such_leaf _ _) fault = grind arith
tests-journal share ask why (not_member _ _ _) fault = grind arith
tests-journal share ask why (too_long _ _ _ _) fault = grind arith
tests-journal share ask why (bad_check _ _ _ _) fault = grind arith

-- the journal comes after the tests
pub fault-late : (fault : JournalFault) → refusal_code (Journal fault) ≤ 5 → ⊥
fault-late journal.Device low = omega arith
fault-late (journal.Damaged torn a b) low = omega arith
fault-late journal.NotBound low = omega arith
fault-late (journal.Spent kept) low = omega arith
fault-late (journal.OtherDigest c digest) low = omega arith

-- the journal's fault is that of the refusal
pub fault-of : {T : Type 0} {fault other : JournalFault} → ◌≡◌ {A = Result T Refusal} (Err (Journal fault)) (Err (Journal other)) → fault ≡ other
fault-of is = cc

-- a grant is no refusal
pub granted-never : {T E : Type 0} {value : T} {why : E} → ◌≡◌ {A = Result T E} (Ok value) (Err why) → ⊥
granted-never is = absurd (cc)

pub entered-never : {T E : Type 0} {result : Result T E} {value : T} {why : E}
    → result ≡ Ok value → result ≡ Err why → ⊥
entered-never is fails = absurd (cc)

pub rises-granted : {S T : Type 0} {before now : ℕ} {result : Result S JournalFault} {value : S} (grant : T)
    → result ≡ Ok value
    → RisesAt before now result (Err journal.Device) → RisesAt {R = Result T Refusal} before now (Ok grant) (Err (Journal journal.Device))
rises-granted grant is call = record {
  later = call.later;
  failed = λ same. absurd (granted-never same);
  others = λ differs. call.others (λ same. entered-never is same);
}

-- a fault that is passed on as a refusal
pub rises-refusal : {S T : Type 0} (before now : ℕ) (fault : JournalFault)
    → RisesAt {R = Result S JournalFault} before now (Err fault) (Err journal.Device) → RisesAt {R = Result T Refusal} before now (Err (Journal fault)) (Err (Journal journal.Device))
rises-refusal before now fault call = record {
  later = call.later;
  failed = λ same. call.failed (ap Err (fault-of same));
  others = λ differs. call.others (λ same.
      let device : fault ≡ journal.Device = cc in
      differs (ap (λ (it : JournalFault). Err (Journal it)) device));
}
