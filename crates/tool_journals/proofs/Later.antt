-- A blank file that was made in the later part of a run, before which all names stood for what they stood for.
use Rattle.std.proofs.Common.{◌≡◌, ◌∙◌, ◌||◌, ℕ, List, [], Bool, false, IsTrue, is_some, refl, sym, subst, arith}
use Rattle.std.proofs.lemmas.List.Elements.{All-nil}
use Rattle.std.specs.Str.{bytes_eq}
use Rattle.slot_file.specs.declared.header.Header.{Header}
use Rattle.stream_io.specs.Store.{Handed, StoreState, has_name}
use Rattle.tool_base.specs.Disks.{DeviceFails}
use Rattle.tool_base.specs.Ending.{Ending}
use Rattle.tool_base.specs.Outputs.{CallFailed, IsNew, IsNotNew, is_there, no_memory_to_name, test_failed}
use Rattle.tool_base.specs.Touched.{Keeps}
use Rattle.tool_base.specs.World.{from_to}
use Rattle.tool_base.proofs.Runs.{onward_on}
use Rattle.tool_journals.specs.Blanks.{IsMade, IsNeverHalf, IsNotMade, IsOwners, device, not_empty, not_new}

module _ (a b c : StoreState) (keeps : Keeps [] a b) where
  told_b : IsTrue a.told → IsTrue b.told
  told_b told = rw keeps.back.onward.told told

  honest_b : (name : List ℕ) → IsTrue (a.disks name).honest → IsTrue (b.disks name).honest
  honest_b name honest = subst (λ (h : Handed). IsTrue h.honest) (sym (keeps.back.onward.disks name)) honest

  same_has : IsTrue a.told → (name : List ℕ) → has_name b name ≡ has_name a name
  same_has told name = rw (keeps.file told name (All-nil (λ one. bytes_eq name one ≡ false)), keeps.back.out told name) refl

  pub new_later : (name : List ℕ) → IsNew (from_to b c) name → IsNew (from_to a c) name
  new_later name new = λ told. sym (same_has told name) ∙ new (told_b told)

  failed_later : CallFailed (from_to b c) → CallFailed (from_to a c)
  failed_later fails = record {
    rose = let rose = fails.rose in let begins = keeps.back.onward.count in omega (arith, rose, begins);
    unsteady = λ steady. fails.unsteady (rw keeps.back.onward.steady steady);
  }

  not_new_later : (name : List ℕ) (end : Ending) → IsNotNew (from_to b c) name end → IsNotNew (from_to a c) name end
  not_new_later name _ (test_failed fails) = test_failed (failed_later fails)
  not_new_later name _ (is_there there) = is_there (λ told. rw (← same_has told name) (there (told_b told)))
  not_new_later name _ no_memory_to_name = no_memory_to_name

  device_later : DeviceFails (from_to b c) → DeviceFails (from_to a c)
  device_later fails = record {
    rose = let rose = fails.rose in let begins = keeps.back.onward.disk_count in omega (arith, rose, begins);
    unsteady = λ told steady. fails.unsteady (told_b told) (rw keeps.back.onward.steady steady);
  }

  owners_later : (name : List ℕ) → IsOwners (from_to b c) name → IsOwners (from_to a c) name
  owners_later name owners = λ told. owners (told_b told)

  half_later : (whole : List ℕ → Type 0) (name : List ℕ) → IsNeverHalf whole (from_to b c) name → IsNeverHalf whole (from_to a c) name
  half_later whole name half = record {
    stays = λ told. half.stays (told_b told);
    owners = owners_later name half.owners;
    images = λ told honest. half.images (told_b told) (honest_b name honest);
  }

  pub not_made_later : (name : List ℕ) (header : Header) (count : ℕ) (end : Ending) (touched : List (List ℕ))
      → IsNotMade (from_to b c) name header count end touched → IsNotMade (from_to a c) name header count end touched
  not_made_later name header count _ _ (not_new end fails) = not_new end (not_new_later name end fails)
  not_made_later name header count _ _ (device new fails half) = device (new_later name new) (device_later fails) (half_later _ name half)
  not_made_later name header count _ _ (not_empty new untold) = not_empty (new_later name new) (λ told. untold (told_b told))

  pub made_later : (name : List ℕ) (header : Header) (count : ℕ) → IsMade (from_to b c) name header count → IsMade (from_to a c) name header count
  made_later name header count made = record {
    new = new_later name made.new;
    file = λ told. made.file (told_b told);
    blank = λ told. made.blank (told_b told);
    stable = λ told honest. made.stable (told_b told) (honest_b name honest);
    owners = owners_later name made.owners;
  }

  pub keeps_later : (touched : List (List ℕ)) → Keeps touched b c → Keeps touched a c
  keeps_later touched later = record {
    back = record {
      onward = onward_on a b c keeps.back.onward later.back.onward;
      out = λ told name. later.back.out (told_b told) name ∙ keeps.back.out told name;
      views = λ told. later.back.views (told_b told) ∙ keeps.back.views told;
    };
    file = λ told name untouched. later.file (told_b told) name untouched ∙ keeps.file told name (All-nil (λ one. bytes_eq name one ≡ false));
    leaves = λ told name image untouched.
        let x = keeps.leaves told name image (All-nil (λ one. bytes_eq name one ≡ false)) in
        let y = later.leaves (told_b told) name image untouched in
        (λ z. x.0 (y.0 z), λ z. y.1 (x.1 z));
  }
