-- What two calls in turn say about the disk.
use Rattle.std.proofs.Common.{◌≡◌, ◌≢◌, ℕ, Result, Ok, Err, IsTrue, refl, sym, ◌∙◌, ap, subst, arith}
use Rattle.disk_trait.specs.declared.disk.Pages as pages
use Rattle.disk_trait.specs.declared.faults.Faults as faults
use Rattle.leaf_table.specs.Table.{Enters}
use Rattle.leaf_table.specs.State.{TableState}
use Rattle.leaf_table.specs.Steps.{Makes}
use Rattle.leaf_table.specs.declared.faults.TableFault.{TableFault}
use Rattle.leaf_table.specs.declared.faults.TableFault.TheVariants.{Damaged, Device, NoLeaf, NotACoalition}
use Rattle.leaf_table.specs.declared.lease.Lease.{Lease}
use Rattle.leaf_table.specs.declared.table.Table.{Table}
use Rattle.slot_file.specs.declared.slot.Slot.{Slot}
use Rattle.std.specs.Prelude.{OnOk}

pub only-err : {T : Type 0} {fault other : TableFault} → ◌≡◌ {A = Result T TableFault} (Err fault) (Err other) → fault ≡ other
only-err e = cc

-- if the entries stay and the disk has not failed, none was made
pub put-none : {T : Type 0} {P : Type 0} (before after : TableState) (lease : Lease) (leaf : ℕ) (slot : Slot) (result : Result T TableFault)
    → Makes before lease leaf slot result after → OnOk result (after.entries ≢ before.entries) → after.entries ≡ before.entries → result ≢ Err Device → P
put-none before after lease leaf slot (Ok done) makes new same fine = absurd (new same)
put-none before after lease leaf slot (Err Device) makes new same fine = absurd (fine refl)
put-none before after lease leaf slot (Err NotACoalition) makes new same fine = absurd makes
put-none before after lease leaf slot (Err (Damaged at a b)) makes new same fine = absurd makes
put-none before after lease leaf slot (Err (NoLeaf c)) makes new same fine = absurd makes

module _ {D : Type 0} {p : pages.Ghosts D} {f : faults.Ghosts D} where
  -- an answer with no call of the disk
  pub enters-none : {R : Type 0} (table : Table D p f) (result : Result R TableFault) → ((leaf a b : ℕ) → result ≢ Err (Damaged leaf a b)) → result ≢ Err Device
      → Enters table table result
  enters-none table result whole fine = record {
    told = λ told. whole;
    succeeds = λ steady told. fine;
    cause = record { later = omega arith; failed = λ is. absurd (fine is); others = λ differs. refl };
    stays = record {
      plan = refl;
      header = refl;
      disk = record { told = refl; honest = refl; steady = refl; room = refl; count = omega arith };
    };
  }

  -- an answer that is passed on
  pub enters-err : {R S : Type 0} (old new : Table D p f) (fault : TableFault) → Enters {R = R} old new (Err fault) → Enters {R = S} old new (Err fault)
  enters-err old new fault enters = record {
    told = λ told leaf a b is. enters.told told leaf a b (ap Err (only-err is));
    succeeds = λ steady told is. enters.succeeds steady told (ap Err (only-err is));
    cause = record {
      later = enters.cause.later;
      failed = λ is. enters.cause.failed (ap Err (only-err is));
      others = λ differs. enters.cause.others (λ is. differs (ap Err (only-err is)));
    };
    stays = enters.stays;
  }

  -- a call after one that was not refused
  pub enters-after : {R S : Type 0} (old mid new : Table D p f) (done : R) (result : Result S TableFault) → Enters old mid (Ok done) → Enters mid new result → Enters old new result
  enters-after old mid new done result first second =
      let same = first.cause.others (λ is. absurd (cc)) in
      let stays = first.stays in
      record {
        told = λ told. second.told (subst IsTrue (sym stays.disk.told) told);
        succeeds = λ steady told. second.succeeds (subst IsTrue (sym stays.disk.steady) steady) (subst IsTrue (sym stays.disk.told) told);
        cause = rw same at second.cause;
        stays = record {
          plan = second.stays.plan ∙ stays.plan;
          header = second.stays.header ∙ stays.header;
          disk = record {
            told = second.stays.disk.told ∙ stays.disk.told;
            honest = second.stays.disk.honest ∙ stays.disk.honest;
            steady = second.stays.disk.steady ∙ stays.disk.steady;
            room = second.stays.disk.room ∙ stays.disk.room;
            count = omega (arith, stays.disk.count, second.stays.disk.count);
          };
        };
      }
