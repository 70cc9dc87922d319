-- Views that go out of a store, and come back.
use Rattle.std.proofs.Common.{◌≡◌, ℕ, List, [], IsTrue, refl, arith}
use Rattle.disk_trait.specs.Faults.{Rose}
use Rattle.stream_io.specs.Store.{PagesState, StoreOnward, StoreState, ViewEnded, Viewed}
use Rattle.tool_base.specs.Touched.{Keeps}
use Rattle.tool_base.specs.World.{IsPart, from_to}
use Rattle.tool_base.proofs.Runs.{onward_on}
use Rattle.tool_base.specs.Disks.{DeviceFails}
use Rattle.tool_base.specs.Loads.{ReadsAs}

-- ---- a part of a run, and the whole
pub reads_part : (first before after last : StoreState) → IsPart first before after last → (name : List ℕ) (Is : List ℕ → Type 0)
    → ReadsAs (from_to before after) name Is → ReadsAs (from_to first last) name Is
reads_part first before after last p name Is reads = record {
  file = reads.file;
  is_read = λ told. rw (← p.earlier.same.names.file) (reads.is_read (rw p.earlier.onward.told told));
  is = λ told. reads.is (rw p.earlier.onward.told told);
}

pub device_part : (first before after last : StoreState) → IsPart first before after last → DeviceFails (from_to before after) → DeviceFails (from_to first last)
device_part first before after last p fails = record {
  rose = let rose = fails.rose in let begins = p.earlier.same.loans.disk_count in let ends = p.later.disk_count in omega (arith, rose, begins, ends);
  unsteady = λ told steady. fails.unsteady (rw p.earlier.onward.told told) (rw p.earlier.onward.steady steady);
}

-- ---- a view that was handed out, and the same view after it was read
module _ (a b : StoreState) (name : List ℕ) (view now : PagesState) (viewed : Viewed a name view b)
    (told_is : now.told ≡ view.told) (steady_is : now.steady ≡ view.steady) (reads_are : IsTrue view.told → now.reads ≡ view.reads) where
  pub reads_as : (c : StoreState) (Is : List ℕ → Type 0) → (IsTrue view.told → Is view.reads) → ReadsAs (from_to a c) name Is
  reads_as c Is is = record { file = view.reads; is_read = viewed.reads; is = λ told. is (viewed.given.told told) }

  module _ (c : StoreState) (goes : StoreOnward a b) (step : ViewEnded b now c) (comes : StoreOnward b c) where
    pub keeps : Keeps [] a c
    keeps = record {
      back = record {
        onward = onward_on a b c goes comes;
        out = λ told other. rw (step.names.out, viewed.names.out) refl;
        views = λ told. let out = viewed.views told in let back = step.views (rw goes.told told) in omega (arith, out, back);
      };
      file = λ told other untouched. rw (step.names.file, viewed.names.file) refl;
      leaves = λ told other image untouched.
          let x = viewed.names.leaves other image in
          let y = step.names.leaves other image in
          (λ z. x.0 (y.0 z), λ z. y.1 (x.1 z));
    }

    pub device_fails : Rose view.count now.count → (IsTrue view.told → IsTrue view.steady → ⊥) → DeviceFails (from_to a c)
    device_fails rose never = record {
      rose = let whole = step.disk_count in let same = viewed.disk_count in let fresh = viewed.given.fresh in omega (arith, whole, same, fresh, rose);
      unsteady = λ told steady. never (viewed.given.told told) (viewed.given.steady steady);
    }
