-- Names that are tested and files that are written, one after another.
use Rattle.std.proofs.Common.{◌≡◌, ◌≢◌, ◌||◌, false, true, ◌<◌, ◌+◌, ◌⊎◌, ℕ, suc, List, [], ◌∷◌, ◌++◌, Option, length, take, drop, map, get_or, All, IsTrue, is_some, refl, sym, ap, ◌∙◌, inl, inr, arith, Bool, None, Some}
use Rattle.std.proofs.Math.Seq.{split_at}
use Rattle.std.proofs.lemmas.Bool.{false≢true}
use Rattle.std.proofs.lemmas.List.{take_more, map-append}
use Rattle.std.proofs.lemmas.List.Elements.{All-append, All-cons, All-get_or, All-head, All-nil, All-tail, All-weaker}
use Rattle.std.proofs.lemmas.Slice.Eq.{bytes_eq-Decides}
use Rattle.std.specs.Str.{bytes_eq}
use Rattle.disk_trait.specs.Images.{Only}
use Rattle.stream_io.specs.Store.{OthersLeave, SameStore, StoreOnward, StoreState, Written, added, has_name}
use Rattle.stream_io.specs.declared.store.NewFault.{NewFault}
use Rattle.stream_io.specs.declared.store.NewFault.TheVariants.{Exists, Failed, NoMemory}
use Rattle.tool_base.specs.Ending as spec
use Rattle.tool_base.specs.Ending.{Ending}
use Rattle.tool_base.specs.Outputs.{AreReadBy, AreStable, CallFailed, EndsWith, IsOther, FirstNotNew, IsEndOfNew, IsLeft, IsNew, IsNotNew, test_failed, is_there, no_memory_to_name, IsNotWritten, write_failed, was_there, no_memory_to_write, Output, StopsAfter, all_added}
use Rattle.tool_base.specs.World.{IsUnchanged, IsPart, StoreRun, from_to}
use Rattle.tool_base.proofs.Runs.{onward_none, part_of}

-- ---- a part of a run, and the whole
pub failed_part : (first before after last : StoreState) → IsPart first before after last → CallFailed (from_to before after) → CallFailed (from_to first last)
failed_part first before after last p f = record {
  rose = let rose = f.rose in let begins = p.earlier.onward.count in let ends = p.later.count in omega arith;
  unsteady = λ steady. f.unsteady (rw p.earlier.onward.steady steady);
}

pub new_part : (first before after last : StoreState) → IsPart first before after last → (name : List ℕ) → IsNew (from_to before after) name → IsNew (from_to first last) name
new_part first before after last p name new = λ told. rw (← p.earlier.same.names.file, ← p.earlier.same.names.out) (new (rw p.earlier.onward.told told))

pub not_new_part : (first before after last : StoreState) → IsPart first before after last → (name : List ℕ) (end : Ending)
    → IsNotNew (from_to before after) name end → IsNotNew (from_to first last) name end
not_new_part first before after last p name _ (test_failed f) = test_failed (failed_part first before after last p f)
not_new_part first before after last p name _ (is_there has) =
    is_there (λ told. rw (← p.earlier.same.names.file, ← p.earlier.same.names.out) (has (rw p.earlier.onward.told told)))
not_new_part first before after last p name _ no_memory_to_name = no_memory_to_name

pub all_new_part : (first before after last : StoreState) → IsPart first before after last → (names : List (List ℕ))
    → All (IsNew (from_to before after)) names → All (IsNew (from_to first last)) names
all_new_part first before after last p names new =
    All-weaker (IsNew (from_to before after)) (IsNew (from_to first last)) (λ name new. new_part first before after last p name new) names new

-- a name that was new still is if nothing was changed since
pub new_later : (first last now after : StoreState) → IsUnchanged first now → (name : List ℕ) → IsNew (from_to first last) name → IsNew (from_to now after) name
new_later first last now after unchanged name new = λ told. rw (unchanged.same.names.file, unchanged.same.names.out) (new (rw (← unchanged.onward.told) told))

pub all_new_later : (first last now after : StoreState) → IsUnchanged first now → (names : List (List ℕ))
    → All (IsNew (from_to first last)) names → All (IsNew (from_to now after)) names
all_new_later first last now after unchanged names new =
    All-weaker (IsNew (from_to first last)) (IsNew (from_to now after)) (λ name new. new_later first last now after unchanged name new) names new

-- ---- an end that names a name
pub there_or_no_memory : (run : StoreRun) (name : List ℕ) (end : Ending) → (end ≡ spec.NoMemory) ⊎ (end ≡ spec.Exists name)
    → (IsTrue run.before.told → IsTrue (has_name run.before name)) → IsNotNew run name end
there_or_no_memory run name end (inl e) has = rw e no_memory_to_name
there_or_no_memory run name end (inr e) has = rw e (is_there has)

-- a name under which nothing was made
pub not_new_of : (run : StoreRun) (name : List ℕ) (fault : NewFault) (end : Ending) → IsEndOfNew name fault end
    → (fault ≡ Exists → IsTrue run.before.told → IsTrue (has_name run.before name)) → (fault ≡ Failed → CallFailed run) → IsNotNew run name end
not_new_of run name Exists end is there failed = there_or_no_memory run name end is (there refl)
not_new_of run name Failed end is there failed = rw is (test_failed (failed refl))
not_new_of run name NoMemory end is there failed = rw is no_memory_to_name

-- ---- names, one after another
pub All-more : {X Y : Type 0} (P : Y → Type 0) (f : X → Y) (xs : List X) (i : ℕ) (x : X) → i < length xs → x ≡ get_or xs i x
    → All P (map f (take i xs)) → P (f x) → All P (map f (take (i + 1) xs))
All-more P f xs i x h e before own =
    let next : take (i + 1) xs ≡ take i xs ++ (x ∷ []) = take_more xs i x h ∙ ap (λ y. take i xs ++ (y ∷ [])) (sym e) in
    rw (next, map-append) (All-append P (map f (take i xs)) (f x ∷ []) before (All-cons P (f x) [] own (All-nil P)))

cut_at : {X Y : Type 0} (f : X → Y) (xs : List X) (i : ℕ) (x : X) → i < length xs → x ≡ get_or xs i x
    → map f xs ≡ map f (take i xs) ++ (f x ∷ map f (drop (suc i) xs))
cut_at f xs i x h e =
    let parts : xs ≡ take i xs ++ (x ∷ drop (suc i) xs) = split_at xs i x h ∙ ap (λ y. take i xs ++ (y ∷ drop (suc i) xs)) (sym e) in
    ap (map f) parts ∙ map-append f (take i xs) (x ∷ drop (suc i) xs)

pub first_not_new : {X : Type 0} (run : StoreRun) (f : X → List ℕ) (xs : List X) (i : ℕ) (x : X) (end : Ending) → i < length xs → x ≡ get_or xs i x
    → All (IsNew run) (map f (take i xs)) → IsNotNew run (f x) end → FirstNotNew run (map f xs) end
first_not_new run f xs i x end h e before cause = record {
  before = map f (take i xs);
  name = f x;
  after = map f (drop (suc i) xs);
  is = cut_at f xs i x h e;
  new = before;
  cause = cause;
}

-- ---- files, one after another
all_added-append : (file : List ℕ → Option (List ℕ)) (before after : List Output) → all_added file (before ++ after) ≡ all_added (all_added file before) after
unfolding all_added
all_added-append file [] after = refl
all_added-append file (output ∷ before) after = all_added-append (added file output.name output.bytes) before after

all_added-same : (f g : List ℕ → Option (List ℕ)) (output : Output) (name : List ℕ) → f name ≡ g name
    → all_added f (output ∷ []) name ≡ all_added g (output ∷ []) name
unfolding all_added
all_added-same f g output name same = rw same refl

pub added_more : {X : Type 0} (file now after : List ℕ → Option (List ℕ)) (f : X → Output) (xs : List X) (i : ℕ) (x : X) (name : List ℕ)
    → i < length xs → x ≡ get_or xs i x → now name ≡ all_added file (map f (take i xs)) name
    → after name ≡ all_added now (f x ∷ []) name → after name ≡ all_added file (map f (take (i + 1) xs)) name
added_more file now after f xs i x name h e before step =
    let next : take (i + 1) xs ≡ take i xs ++ (x ∷ []) = take_more xs i x h ∙ ap (λ y. take i xs ++ (y ∷ [])) (sym e) in
    rw (next, map-append, all_added-append)
    (step ∙ all_added-same now (all_added file (map f (take i xs))) (f x) name before)

added_one : (now after : List ℕ → Option (List ℕ)) (output : Output) (name : List ℕ) → after name ≡ added now output.name output.bytes name
    → after name ≡ all_added now (output ∷ []) name
unfolding all_added
added_one now after output name is = is

pub added_none : (file : List ℕ → Option (List ℕ)) (name : List ℕ) → file name ≡ all_added file [] name
unfolding all_added
added_none file name = refl

-- ---- what is left
-- the file of an output is read by those it is for
abbrev IsReadBy : StoreState → Output → Type 0
IsReadBy store output = store.readers output.name ≡ Some output.readers

-- files are read later by those who read them before
pub read_on : (now after : StoreState) → StoreOnward now after → IsTrue now.told → (outputs : List Output) → AreReadBy now outputs → AreReadBy after outputs
read_on now after onward told outputs all =
    All-weaker (IsReadBy now) (IsReadBy after) (λ output is. onward.readers told output.name output.readers is) outputs all

all_first : {X : Type 0} (P : X → Type 0) (xs ys : List X) → All P (xs ++ ys) → All P xs
all_first P [] ys all = All-nil P
all_first P (x ∷ xs) ys all = All-cons P x xs (All-head P x (xs ++ ys) all) (all_first P xs ys (All-tail P x (xs ++ ys) all))

all_last : {X : Type 0} (P : X → Type 0) (xs : List X) (y : X) → All P (xs ++ (y ∷ [])) → P y
all_last P [] y all = All-head P y [] all
all_last P (x ∷ xs) y all = all_last P xs y (All-tail P x (xs ++ (y ∷ [])) all)

-- nothing was written
pub none_left : (first last : StoreState) → IsUnchanged first last → IsLeft (from_to first last) []
none_left first last unchanged = record {
  file = λ told name. rw unchanged.same.names.file (added_none first.file name);
  stable = λ told. All-nil (λ output. Only output.bytes (last.leaves output.name));
  readers = λ told. All-nil (IsReadBy last);
  others = λ told name image other. unchanged.same.names.leaves name image;
}

-- what was written in a part is what the whole leaves
pub left_part : (first before last : StoreState) → IsUnchanged first before → (written : List Output) → IsLeft (from_to before last) written
    → IsLeft (from_to first last) written
left_part first before last unchanged written left = record {
  file = λ told name. rw (← unchanged.same.names.file) (left.file (rw unchanged.onward.told told) name);
  stable = λ told. left.stable (rw unchanged.onward.told told);
  readers = λ told. left.readers (rw unchanged.onward.told told);
  others = λ told name image other.
      let x = unchanged.same.names.leaves name image in
      let y = left.others (rw unchanged.onward.told told) name image other in
      (λ z. x.0 (y.0 z), λ z. y.1 (x.1 z));
}

-- a call that changed nothing after what was written
pub left_same : (first now after : StoreState) → now.told ≡ first.told → SameStore now after → StoreOnward now after → (written : List Output) → IsLeft (from_to first now) written
    → IsLeft (from_to first after) written
left_same first now after kind same onward written left = record {
  file = λ told name. rw same.names.file (left.file told name);
  stable = λ told. All-weaker (λ output. Only output.bytes (now.leaves output.name)) (λ output. Only output.bytes (after.leaves output.name))
      (λ output only. λ image leaves. only image ((same.names.leaves output.name image).0 leaves)) written (left.stable told);
  readers = λ told. read_on now after onward (rw kind told) written (left.readers told);
  others = λ told name image other.
      let x = left.others told name image other in
      let y = same.names.leaves name image in
      (λ z. x.0 (y.0 z), λ z. y.1 (x.1 z));
}

false_when : (b : Bool) → (b ≡ true → ⊥) → b ≡ false
false_when true not = absurd (not refl)
false_when false not = refl

pub differ_so : (a b : List ℕ) → a ≢ b → bytes_eq a b ≡ false
differ_so a b other = false_when (bytes_eq a b) (λ yes. other ((bytes_eq-Decides a b).0 yes))

-- files that were stable still are after another was written
pub stable_still : (now after : StoreState) (name : List ℕ) → OthersLeave name now after → (outputs : List Output)
    → All (λ other. other ≢ name) (map (λ output. output.name) outputs) → AreStable now outputs → AreStable after outputs
stable_still now after name others [] differ stable = All-nil (λ output. Only output.bytes (after.leaves output.name))
stable_still now after name others (output ∷ outputs) differ stable =
    let other : bytes_eq output.name name ≡ false =
    differ_so output.name name (All-head (λ other. other ≢ name) output.name (map (λ output. output.name) outputs) differ) in
    let own : Only output.bytes (now.leaves output.name) = All-head (λ output. Only output.bytes (now.leaves output.name)) output outputs stable in
    All-cons (λ output. Only output.bytes (after.leaves output.name)) output outputs
    (λ image leaves. own image ((others output.name image other).0 leaves))
    (stable_still now after name others outputs (All-tail (λ other. other ≢ name) output.name (map (λ output. output.name) outputs) differ)
    (All-tail (λ output. Only output.bytes (now.leaves output.name)) output outputs stable))

-- one file more was written
pub left_more : {X : Type 0} (first now after : StoreState) (f : X → Output) (xs : List X) (i : ℕ) (x : X) → i < length xs → x ≡ get_or xs i x
    → now.told ≡ first.told → All (λ other. other ≢ (f x).name) (map (λ output. output.name) (map f (take i xs)))
    → IsLeft (from_to first now) (map f (take i xs)) → Written now (f x).name (f x).bytes (f x).readers after → StoreOnward now after
    → IsLeft (from_to first after) (map f (take (i + 1) xs))
left_more first now after f xs i x h e same differ left step onward =
    let next : take (i + 1) xs ≡ take i xs ++ (x ∷ []) = take_more xs i x h ∙ ap (λ y. take i xs ++ (y ∷ [])) (sym e) in
    let all : map f (take (i + 1) xs) ≡ map f (take i xs) ++ (f x ∷ []) = ap (map f) next ∙ map-append f (take i xs) (x ∷ []) in
    record {
      file = λ told name. added_more first.file now.file after.file f xs i x name h e (left.file told name) (added_one now.file after.file (f x) name (step.file (rw same told) name));
      stable = λ told. rw all (All-append (λ output. Only output.bytes (after.leaves output.name)) (map f (take i xs)) (f x ∷ [])
          (stable_still now after (f x).name (step.others (rw same told)) (map f (take i xs)) differ (left.stable told))
          (All-cons (λ output. Only output.bytes (after.leaves output.name)) (f x) [] (step.stable (rw same told)) (All-nil (λ output. Only output.bytes (after.leaves output.name)))));
      readers = λ told. rw all (All-append (IsReadBy after) (map f (take i xs)) (f x ∷ [])
          (read_on now after onward (rw same told) (map f (take i xs)) (left.readers told))
          (All-cons (IsReadBy after) (f x) [] (step.readers (rw same told)) (All-nil (IsReadBy after))));
      others = λ told name image other.
          let parts : IsOther (map f (take i xs) ++ (f x ∷ [])) name = rw all at other in
          let before = left.others told name image (all_first (λ output. bytes_eq name output.name ≡ false) (map f (take i xs)) (f x ∷ []) parts) in
          let own = step.others (rw same told) name image (all_last (λ output. bytes_eq name output.name ≡ false) (map f (take i xs)) (f x) parts) in
          (λ z. before.0 (own.0 z), λ z. own.1 (before.1 z));
    }

-- the names of outputs
pub names_of : {X : Type 0} (f : X → Output) (xs : List X) → map (λ output. output.name) (map f xs) ≡ map (λ x. (f x).name) xs
names_of f [] = refl
names_of f (x ∷ xs) = ap (λ names. (f x).name ∷ names) (names_of f xs)

-- a name that was not in the store, and is none of those that were written
pub not_added : (file : List ℕ → Option (List ℕ)) (outputs : List Output) (name : List ℕ) → file name ≡ None
    → All (λ other. other ≢ name) (map (λ output. output.name) outputs) → all_added file outputs name ≡ None
unfolding all_added
not_added file [] name absent differ = absent
not_added file (output ∷ outputs) name absent differ =
    let other : output.name ≢ name = All-get_or (λ other. other ≢ name) (output.name ∷ map (λ output. output.name) outputs) 0 [] (omega arith) differ in
    let no : bytes_eq name output.name ≡ false = false_when (bytes_eq name output.name) (λ yes. other (sym ((bytes_eq-Decides name output.name).0 yes))) in
    let first : added file output.name output.bytes name ≡ None = rw no absent in
    not_added (added file output.name output.bytes) outputs name first (All-tail (λ other. other ≢ name) output.name (map (λ output. output.name) outputs) differ)

none_of : {A B : Type 0} (x : Option A) (y : Option B) → (is_some x || is_some y) ≡ false → (x ≡ None) × (y ≡ None)
none_of None None absent = (refl, refl)
none_of None (Some y) absent = absurd (false≢true (sym absent))
none_of (Some x) y absent = absurd (false≢true (sym absent))

no_name : (store : StoreState) (name : List ℕ) → store.file name ≡ None → store.out name ≡ None → IsTrue (has_name store name) → ⊥
no_name store name file out has = let no : IsTrue false = rw (file, out) at has in absurd (false≢true no)

absent_parts : (store : StoreState) (name : List ℕ) → has_name store name ≡ false → (store.file name ≡ None) × (store.out name ≡ None)
absent_parts store name absent = none_of (store.file name) (store.out name) absent

pub not_written_part : (first before last : StoreState) → IsUnchanged first before → (written : List Output) (name : List ℕ) (end : Ending)
    → IsNotWritten (from_to before last) written name end → IsNotWritten (from_to first last) written name end
not_written_part first before last unchanged written name _ (write_failed f) = write_failed (failed_part first before last last (part_of first before last last unchanged (onward_none last)) f)
not_written_part first before last unchanged written name _ (was_there untold) = was_there (λ told. untold (rw unchanged.onward.told told))
not_written_part first before last unchanged written name _ no_memory_to_write = no_memory_to_write

-- a file could not be written after others that were
pub stops_behind : (first now after : StoreState) (written : List Output) → StoreOnward first now → ((name : List ℕ) → IsTrue first.told → now.out name ≡ first.out name)
    → IsLeft (from_to first now) written → (name : List ℕ) (end : Ending) → IsNew (from_to first first) name
    → All (λ other. other ≢ name) (map (λ output. output.name) written) → IsNotNew (from_to now after) name end
    → IsNotWritten (from_to first after) written name end
stops_behind first now after written onward out left name _ new differ (test_failed f) = write_failed (record {
  rose = let rose = f.rose in let begins = onward.count in omega arith;
  unsteady = λ steady. f.unsteady (rw onward.steady steady);
})
stops_behind first now after written onward out left name _ new differ (is_there has) =
    was_there (λ told.
    let there : IsTrue (has_name now name) = has (rw onward.told told) in
    let absent = absent_parts first name (new told) in
    let none : now.file name ≡ None = left.file told name ∙ not_added first.file written name absent.0 differ in
    let in_store : now.out name ≡ None = out name told ∙ absent.1 in
    no_name now name none in_store there)
stops_behind first now after written onward out left name _ new differ no_memory_to_name = no_memory_to_write

pub stops_after : {X : Type 0} (run : StoreRun) (f : X → Output) (xs : List X) (i : ℕ) (x : X) (end : Ending) → i < length xs → x ≡ get_or xs i x
    → IsLeft run (map f (take i xs)) → IsNotWritten run (map f (take i xs)) (f x).name end
    → EndsWith (λ end written. StopsAfter run (map f xs) written end) run end
stops_after run f xs i x end h e left cause = record {
  written = map f (take i xs);
  cause = record { output = f x; rest = map f (drop (suc i) xs); is = cut_at f xs i x h e; cause = cause };
  left = left;
}

-- a part in which files were written, and the whole
pub stopped_part : (first before last : StoreState) → IsUnchanged first before → (outputs : List Output) (end : Ending)
    → EndsWith (λ end written. StopsAfter (from_to before last) outputs written end) (from_to before last) end
    → EndsWith (λ end written. StopsAfter (from_to first last) outputs written end) (from_to first last) end
stopped_part first before last unchanged outputs end stop = record {
  written = stop.written;
  cause = record {
    output = stop.cause.output;
    rest = stop.cause.rest;
    is = stop.cause.is;
    cause = not_written_part first before last unchanged stop.written stop.cause.output.name end stop.cause.cause;
  };
  left = left_part first before last unchanged stop.written stop.left;
}

-- ---- how a command ends
pub ends_untouched : (first last : StoreState) → IsUnchanged first last → (ends : Ending → List Output → Type 0) (end : Ending) → ends end []
    → EndsWith ends (from_to first last) end
ends_untouched first last unchanged ends end cause = record { written = []; cause = cause; left = none_left first last unchanged }

pub ends_stopped : (run : StoreRun) (outputs : List Output) (ends : Ending → List Output → Type 0) (end : Ending)
    → EndsWith (λ end written. StopsAfter run outputs written end) run end → ((written : List Output) → StopsAfter run outputs written end → ends end written)
    → EndsWith ends run end
ends_stopped run outputs ends end stop goes = record { written = stop.written; cause = goes stop.written stop.cause; left = stop.left }
