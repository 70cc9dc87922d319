-- How approving a message ends.
use Rattle.std.proofs.Common.{◌≡◌, ℕ, List, [], ◌∷◌, IsTrue, Result, Ok, Err, IfOk, IfErr, refl, subst}
use Rattle.share_files.specs.declared.share.Share.{Share}
use Rattle.slot_file.specs.declared.header.Header.{Header}
use Rattle.stream_io.specs.Store.{Handed, PagesState, StoreOnward, StoreState}
use Rattle.tool_base.specs.Ending.{Ending}
use Rattle.tool_base.specs.Grammars.{IsShareRead}
use Rattle.tool_base.specs.World.{IsUnchanged, from_to}
use Rattle.tool_journals.specs.Adding.{AddEnds, FileRun}
use Rattle.tool_base.specs.Headers.{book_header}
use Rattle.tool_journals.specs.Approve.{ApproveEnds, IsBookDisk, IsMessageRead, in_book, in_new_book, is_new, file_run, was_there}
use Rattle.tool_base.specs.Disks.{DeviceFails}
use Rattle.tool_journals.specs.Blanks.{IsBlankDisk}
use Rattle.tool_base.specs.Disks.{IsOut}
use Rattle.tool_base.proofs.Outs.{IsBackAs}
use Rattle.tool_journals.proofs.Adding.{add_within}
use Rattle.tool_journals.proofs.Blanks.{new_unchanged, owners_on}
use Rattle.tool_base.proofs.Outs.{out_unchanged}

pub if_ok_map : {T E : Type 0} (r : Result T E) (one two : T → Type 0) → ((x : T) → one x → two x) → IfOk r one → IfOk r two
if_ok_map (Ok x) one two f is = f x is
if_ok_map (Err e) one two f is = tt

pub if_err_map : {T E : Type 0} (r : Result T E) (one two : E → Type 0) → ((e : E) → one e → two e) → IfErr r one → IfErr r two
if_err_map (Ok x) one two f is = tt
if_err_map (Err e) one two f is = f e is

pub blank_unchanged : (first a b : StoreState) (name : List ℕ) (header : Header) (count : ℕ) (disk : PagesState) → IsUnchanged first a
    → IsBlankDisk a name header count disk b → IsBlankDisk first name header count disk b
blank_unchanged first a b name header count disk unchanged blank = record {
  is_out = out_unchanged first a b name disk unchanged blank.is_out;
  absent = new_unchanged first a b name unchanged blank.absent b;
  file = λ told. blank.file (rw unchanged.onward.told told);
  stable = λ told. blank.stable (rw unchanged.onward.told told);
  owners = λ told. blank.owners (rw unchanged.onward.told told);
}

pub book_out : (a b : StoreState) (book : List ℕ) (header : Header) (disk : PagesState) → IsBookDisk a book header disk b → IsOut a book disk b
book_out a b book header disk (was_there out is images) = out
book_out a b book header disk (is_new blank) = blank.is_out

-- a disk's file as it was and as it is
abbrev pub pages_run : PagesState → PagesState → FileRun
pages_run old now = record {
  told = old.told;
  honest = old.honest;
  before = old.reads;
  after = now.reads;
  left = old.may_leave;
  leaves = now.may_leave;
}

pub book_ends : (failed : Type 0) (first a b last : StoreState) (share book message : List ℕ) (found : Share) (id : List ℕ) (old now : PagesState) (end : Ending)
    → IsUnchanged first a → IsBookDisk a book (book_header found) old b → IsBackAs first book now last → StoreOnward b last → (failed → DeviceFails (from_to first last))
    → IsShareRead (from_to first last) share found → IsMessageRead (from_to first last) message id
    → AddEnds failed (pages_run old now) (book_header found) id end → ApproveEnds (from_to first last) share book message end (book ∷ [])
book_ends failed first a b last share book message found id old now end unchanged (was_there out is images) back comes fails read text added =
    let went = out_unchanged first a b book old unchanged out in
    in_book found id old.reads now.reads end read text (λ told. rw (← unchanged.same.names.file) (is (rw unchanged.onward.told told))) back.file
    (add_within (pages_run old now) (file_run (from_to first last) book old.reads now.reads (first.leaves book)) (record {
      told = went.told;
      honest = λ told honest. subst (λ (h : Handed). IsTrue h.honest) (went.kind told) honest;
      before = refl;
      after = refl;
      left = λ told honest image left. (unchanged.same.names.leaves book image).0 ((images (rw unchanged.onward.told told) image).0 left);
      leaves = λ told image. (back.leaves told image).0;
    }) failed (DeviceFails (from_to first last)) fails (book_header found) id end added)
book_ends failed first a b last share book message found id old now end unchanged (is_new blank) back comes fails read text added =
    let went = out_unchanged first a b book old unchanged blank.is_out in
    in_new_book found id old.reads now.reads end read text (new_unchanged first a b book unchanged blank.absent last) (λ told. blank.file (rw unchanged.onward.told told))
    (owners_on first a b last book unchanged.onward blank.is_out.onward comes blank.owners) back.file
    (add_within (pages_run old now) (file_run (from_to first last) book old.reads now.reads (λ image. image ≡ old.reads)) (record {
      told = went.told;
      honest = λ told honest. subst (λ (h : Handed). IsTrue h.honest) (went.kind told) honest;
      before = refl;
      after = refl;
      left = λ told honest image left. blank.stable (rw unchanged.onward.told told) (subst (λ (h : Handed). IsTrue h.honest) (went.kind told) honest) image left;
      leaves = λ told image. (back.leaves told image).0;
    }) failed (DeviceFails (from_to first last)) fails (book_header found) id end added)
