-- The disks of three trustees.
use Rattle.std.proofs.Common.{◌-◌, ℕ, zero, suc, [], ◌∷◌, get_or, refl, arith}
use Rattle.disk_trait.specs.MemDisk.{MemState}
use Rattle.drill_trustees.specs.Members.{HasJournal}
use Rattle.drill_trustees.specs.Trustees.{AreJournals, IsTrustee, member_at}
use Rattle.drill_trustees.specs.declared.member.Member.{Member}
use Rattle.drill_trustees.specs.declared.trustees.Trustees.{Trustees}

module _ (a b c : Member) (x y z : MemState) (ax : HasJournal a x) (by : HasJournal b y) (cz : HasJournal c z) where
  abbrev all_three : Trustees
  all_three = record { one = a; two = b; three = c }

  each-journal : (t : ℕ) (none : MemState) → IsTrustee t → HasJournal (member_at all_three t) (get_or (x ∷ y ∷ z ∷ []) (t - 1) none)
  each-journal zero none is = let low = is.low in absurd (omega arith)
  each-journal (suc zero) none is = ax
  each-journal (suc (suc zero)) none is = by
  each-journal (suc (suc (suc zero))) none is = cz
  each-journal (suc (suc (suc (suc t)))) none is = let high = is.high in absurd (omega arith)

  pub are-journals : AreJournals all_three (x ∷ y ∷ z ∷ [])
  are-journals = record { count = refl; each = each-journal }
