-- Counts of faults over calls that come one after the other.
use Rattle.std.proofs.Common.{◌≡◌, ◌≢◌, ◌≤◌, ℕ, Result, Ok, Err, IsErr, OnOk, subst, arith}
use Rattle.std.proofs.lemmas.Bool.{false≢true}
use Rattle.disk_trait.specs.Faults.{HasCause, RisesAt, Rose}

-- the last call failed, and those before it didn't
pub cause-failed : {T X : Type 0} (before mid now : ℕ) (answer : Result T X) → IsErr answer → mid ≡ before → mid ≤ now → Rose mid now → HasCause before now answer
cause-failed before mid now (Ok value) is same later rose = absurd (false≢true is)
cause-failed before mid now (Err other) is same later rose = record { later = omega (arith, same, later); succeeded = tt; failed = subst (λ (n : ℕ). Rose n now) same rose }

-- the last call says whether one failed
pub cause-then : {T X : Type 0} (before mid now : ℕ) (answer : Result T X) → mid ≡ before → HasCause mid now answer → HasCause before now answer
cause-then before mid now answer same cause = subst (λ (n : ℕ). HasCause n now answer) same cause

pub rose-since : {before mid now : ℕ} → mid ≡ before → Rose mid now → Rose before now
rose-since {before} {mid} {now} same rose = subst (λ (n : ℕ). Rose n now) same rose

-- the same of an answer that names the outside
pub rises-failed : {R : Type 0} (before mid now : ℕ) (answer device : R) → answer ≡ device → mid ≡ before → mid ≤ now → Rose mid now → RisesAt before now answer device
rises-failed before mid now answer device is same later rose = record { later = omega (arith, same, later); failed = λ _. rose-since same rose; others = λ differs. absurd (differs is) }

pub rises-fine : {R : Type 0} (before now : ℕ) (answer device : R) → answer ≢ device → now ≡ before → RisesAt before now answer device
rises-fine before now answer device differs same = record { later = omega (arith, same); failed = λ is. absurd (differs is); others = λ _. same }

-- nothing is said of what a refused call did
pub on-err : {T X : Type 0} (P : Type 0) (answer : Result T X) → IsErr answer → OnOk answer P
on-err P (Ok value) is = absurd (false≢true is)
on-err P (Err fault) is = tt

pub rises-as : {R S : Type 0} (before now : ℕ) (answer device : R) (other gone : S) → (other ≡ gone → answer ≡ device) → (answer ≡ device → other ≡ gone)
    → RisesAt before now answer device → RisesAt before now other gone
rises-as before now answer device other gone back there rises = record {
  later = rises.later;
  failed = λ is. rises.failed (back is);
  others = λ differs. rises.others (λ is. differs (there is));
}

-- what holds anyway
pub on-any : {T X : Type 0} (P : Type 0) (answer : Result T X) → P → OnOk answer P
on-any P (Ok value) holds = holds
on-any P (Err fault) holds = tt
