-- Views of the files of a dealing: how they are taken, also several of one name, while they are out and once they are
-- back.
use Rattle.std.specs.Prelude.{◌≡◌, ◌≢◌, ◌↔◌, ◌+◌, ◌-◌, ◌^◌, ◌≤◌, ◌++◌, min, ℕ, List, [], All, length, Some}
use Rattle.std.specs.Prelude.{Result, IfErr, IfOk, IsTrue, OnErr}
use Rattle.std.specs.List.{sum_by}
use Rattle.coalition_map.specs.Coalitions.{PlanNumbers}
use Rattle.disk_trait.specs.declared.disk.Pages as pages
use Rattle.disk_trait.specs.declared.faults.Faults as faults
use Rattle.lms_bytes.specs.declared.params.Params.{Params}
use Rattle.reference_value.specs.Paged.{pages_of}
use Rattle.reference_value.specs.declared.paged.Paged.{Paged}
use Rattle.share_files.specs.declared.reference.RefHeader.{RefHeader}
use Rattle.stream_io.specs.Store.{HandsOut, PagesState, SameNames, StoreOnward, StoreState, pages_state}
use Rattle.tool_base.specs.Ending as ending
use Rattle.tool_base.specs.Ending.{Ending}
use Rattle.tool_base.specs.Endings as endings
use Rattle.tool_base.specs.Touched.{Keeps}
use Rattle.tool_base.specs.World.{InAnyRun, StoreRun, from_to}
use Rattle.tool_base.specs.declared.ending.Ending as declared
use Rattle.tool_desk.specs.Files.{IsOfOtherKey, reference_name}
use Rattle.tool_desk.specs.Reference.{FailsReference, IsReferenceOf, IsReferenceViewed}
use Rattle.tool_desk.specs.declared.files.KeyFiles.{KeyFiles}
use Rattle.tool_base.specs.Loads.{ReadsAs}

-- a view in one state, in terms of its traits
abbrev pub view_state : {V : Type 0} → pages.Ghosts V → faults.Ghosts V → V → PagesState
view_state p f = pages_state p.told p.honest f.steady f.count p.room p.reads p.may_leave

-- The result of a call that takes views of a file. If it hands something out, this was found in any run that the call
-- is a part of; if it refuses, its end is a failure of this kind there, all views that it took are back, and every name
-- stands for what it stood for. No count falls.
pub record TakesViews {S T : Type 0} (state : S → StoreState) (old new : S) (result : Result T declared.Ending)
    (Found : StoreRun → T → Type 0) (Fails : StoreRun → Ending → Type 0) : Type 0 where
  pub found : InAnyRun state old new (λ run. IfOk result (Found run))
  pub refused : InAnyRun state old new (λ run. IfErr result (λ end. Fails run (endings.ending end)))
  pub keeps : OnErr result (Keeps [] (state old) (state new))
  pub onward : StoreOnward (state old) (state new)

-- a view of this name that a store handed out
pub record IsViewOf (store : StoreState) (name : List ℕ) (view : PagesState) : Type 0 where
  pub given : HandsOut store view
  pub reads : IsTrue store.told → store.file name ≡ Some view.reads

-- `count` views went out, and every name stands for what it stood for
pub record ViewsOut (old : StoreState) (count : ℕ) (new : StoreState) : Type 0 where
  pub onward : StoreOnward old new
  pub file : IsTrue old.told → (name : List ℕ) → new.file name ≡ old.file name
  pub leaves : IsTrue old.told → (name image : List ℕ) → new.leaves name image ↔ old.leaves name image
  pub out : IsTrue old.told → (name : List ℕ) → new.out name ≡ old.out name
  pub views : IsTrue old.told → new.views ≡ old.views + count

-- cells that are read from views of this name, which went out for them
pub record CellsOut {V : Type 0} {p : pages.Ghosts V} {f : faults.Ghosts V} (store : StoreState) (name : List ℕ)
    (pages : V → PagesState) (cells : List (Paged V p f)) (new : StoreState) : Type 0 where
  pub are : All (λ one. IsViewOf store name (pages (pages_of one))) cells
  pub out : ViewsOut store (length cells) new

-- the cells have this parameter set and this plan
abbrev pub AreOfSet : {V : Type 0} {p : pages.Ghosts V} {f : faults.Ghosts V}
    → Params → PlanNumbers → List (Paged V p f) → Type 0
AreOfSet params plan cells = All (λ own. (own.layout.params ≡ params) × (own.layout.plan ≡ plan)) cells

-- internal: in any run that a call is a part of and in which, before the call, nothing changed except that views went
-- out
abbrev pub WithViewsOut : {S : Type 0} → (S → StoreState) → S → S → (StoreRun → Type 0) → Type 0
WithViewsOut {S} state before after holds = (first last : S) (out : ℕ) → ViewsOut (state first) out (state before)
    → StoreOnward (state after) (state last) → holds (from_to (state first) (state last))

-- internal: cells were put after others
pub record AddsCells {V : Type 0} {p : pages.Ghosts V} {f : faults.Ghosts V} (store : StoreState) (name : List ℕ)
    (pages : V → PagesState) (before after : List (Paged V p f)) (new : StoreState) : Type 0 where
  pub added : List (Paged V p f)
  pub items : after ≡ before ++ added
  pub cells : CellsOut store name pages added new

-- the sum of these counts of faults
abbrev pub sum_of : List ℕ → ℕ
sum_of counts = sum_by (λ count. count) counts

-- views with these counts of faults came back, and every name stands for what it stood for
pub record ViewsBack (old : StoreState) (counts : List ℕ) (new : StoreState) : Type 0 where
  pub names : SameNames old new
  pub rise : min (old.disk_count + sum_of counts) (2 ^ 64 - 1) ≤ new.disk_count
  pub views : IsTrue old.told → new.views ≡ old.views - length counts
  pub onward : StoreOnward old new

-- The end if not all views of a reference were obtained: one was not obtained, or its file is no reference or is of
-- another key; or the heads of two differ, so that one of them is not of the key.
pub data FailsReferences (store : StoreRun) (prefix : List ℕ) (files : KeyFiles) : Ending → Type 0 where
  not_viewed : (end : Ending) → FailsReference store (reference_name prefix) end
      → FailsReferences store prefix files end
  other_key : (header : RefHeader) (end : Ending) → IsReferenceViewed store (reference_name prefix) header
      → IsOfOtherKey prefix files header end → FailsReferences store prefix files end
  not_one_file : (one other : RefHeader) → one ≢ other → ReadsAs store (reference_name prefix) (IsReferenceOf one)
      → ReadsAs store (reference_name prefix) (IsReferenceOf other)
      → FailsReferences store prefix files (ending.Unreadable (reference_name prefix) 7)
