-- The whole command, from what its steps say.
use Rattle.std.proofs.Common.{◌≡◌, ◌↔◌, ◌++◌, ◌+◌, ℕ, false, List, [], ◌∷◌, length, drop, Result, Ok, Err, IfOk, IsTrue, inl, inr, refl, sym, ap, ◌∙◌, subst, arith}
use Rattle.std.proofs.Math.Seq.{drop-append_seam}
use Rattle.std.proofs.lemmas.List.Elements.{All-cons, All-nil}
use Rattle.std.specs.Str.{bytes_eq}
use Rattle.aggregator_session.specs.declared.desk.Address.{Address}
use Rattle.aggregator_session.specs.declared.fault.SignFault.{SignFault}
use Rattle.aggregator_session.specs.Signing.{Signature}
use Rattle.lms_bytes.specs.MessageId.{message_id}
use Rattle.share_files.specs.Reference.{HasReferenceLayout, reference_head}
use Rattle.share_files.specs.declared.reference.RefHeader.{RefHeader}
use Rattle.stream_io.specs.Net.{NetState}
use Rattle.stream_io.specs.Store.{PagesState, StoreOnward, StoreState, ViewEnded, Viewed, has_name}
use Rattle.tool_base.proofs.Runs.{unchanged_none, onward_none, onward_on, part_of}
use Rattle.tool_base.specs.Ending.{Ending}
use Rattle.tool_base.specs.Endings as endings
use Rattle.tool_base.specs.declared.ending.Ending as declared
use Rattle.tool_base.specs.Outputs.{IsLeft, IsNew, IsNotNew}
use Rattle.tool_base.specs.Touched.{IsUntouched, Keeps}
use Rattle.tool_base.specs.World.{InAnyRun, IsBack, IsUnchanged, IsNetBack, StoreRun, from_to}
use Rattle.tool_desk.specs.Files.{HaveSizesOf, reference_name}
use Rattle.tool_desk.specs.Reference.{IsReferenceOf}
use Rattle.tool_desk.specs.declared.files.KeyFiles.{KeyFiles}
use Rattle.tool_base.proofs.Outs.{keeps_unchanged}
use Rattle.tool_base.proofs.Nets.{net_none}
use Rattle.tool_sign.proofs.Exacts.{exact-of}
use Rattle.tool_sign.proofs.Views.{EndsWider, SameButViews, back_view, ends_in, keeps_in, no_source_in, out_view, source_had}
use Rattle.tool_sign.proofs.Writes.{as-signed, is_written, keeps_unwritten, keeps_written, new_is_other, not_written, others_file, others_leave, turned_about, unwritten_file, unwritten_leave}
use Rattle.tool_sign.specs.Ended.{last_in}
use Rattle.tool_sign.specs.Leases.{AllLeave, IsBurntIn, IsLeasedIn, LeaseIsLeft}
use Rattle.tool_sign.specs.Leases as leases
use Rattle.tool_sign.specs.Ports.{NetRun, Signing, is_exact, over_net}
use Rattle.tool_sign.specs.Sessions.{IsSignedBy, SessionEnds, SessionRun, answer_by, signature_by}
use Rattle.tool_sign.specs.Sessions as sessions
use Rattle.tool_sign.specs.Sign.{SigningRun, session_words}
use Rattle.tool_sign.specs.Sign as sign
use Rattle.tool_sign.specs.Signs.{SignedTable, TableEnds}
use Rattle.tool_sign.specs.Signs as signs
use Rattle.tool_sign.specs.Sources.{source_of}
use Rattle.tool_sign.specs.Tasks.{FailsTask, GoesWith, HasFiles, IsTask, LacksTask, MessageSource, SessionWords, desk_of, message_in}
use Rattle.tool_sign.specs.Tasks as tasks
use Rattle.tool_sign.specs.Writes.{WriteEnds, one_output}
use Rattle.tool_sign.specs.Writes as writes
use Rattle.tool_sign.specs.declared.task.Message.{Message}
use Rattle.tool_sign.specs.declared.task.SignedBy.{SignedBy}
use Rattle.tool_words.specs.Words.{SignWords}

-- the name of the signature was not found new
pub run_taken : {S : Type 0} (state : S → StoreState) (words : SignWords) (first last : S) (net : NetState) (end : Ending) → IsUnchanged (state first) (state last)
    → InAnyRun state first last (λ run. IsNotNew run words.out end) → SigningRun words (from_to (state first) (state last)) (over_net net net) end
run_taken state words first last net end unchanged fails = record {
  touched = [];
  ends = sign.not_new end (fails first last (part_of _ _ _ _ (unchanged_none _) (onward_none _))) refl;
  keeps = keeps_unchanged [] _ _ unchanged;
  ports = net_none net;
}

-- nothing was begun
pub unbegun : (words : SessionWords) (source : StoreRun → MessageSource) (a e : StoreState) (net : NetState) (end : declared.Ending) → Keeps [] a e → FailsTask words (from_to a e) (source (from_to a e)) (endings.ending end)
    → SessionRun words source a e (over_net net net) (Err end)
unbegun words source a e net end keeps fails = record {
  touched = [];
  ends = sessions.no_task (endings.ending end) fails refl;
  signed = tt;
  keeps = keeps;
  ports = net_none net;
}

-- what a session signed, with the key of its desk
pub signed_with_key : (words : SessionWords) (store : StoreRun) (source : MessageSource) (net : NetRun) (signing : Signing) (result : Result SignedBy declared.Ending) (touched : List (List ℕ))
    → IsTask words store source signing → TableEnds signing words.table store net (answer_by result) touched → IfOk result (λ by. by.key ≡ signing.desk.key)
    → IfOk result (λ by. IsSignedBy words store source net by.key (signature_by by) touched)
signed_with_key words store source net signing (Ok by) touched task ends key = record { signing = signing; task = task; ends = ends; key_is = sym key }
signed_with_key words store source net signing (Err end) touched task ends key = tt

pub keeps_on : (touched : List (List ℕ)) (a b c : StoreState) → IsUnchanged a b → Keeps touched b c → Keeps touched a c
keeps_on touched a b c unchanged keeps =
    let told : IsTrue a.told → IsTrue b.told = λ is. rw unchanged.onward.told is in
    record {
      back = record {
        onward = onward_on a b c unchanged.onward keeps.back.onward;
        out = λ is name. rw (← unchanged.same.names.out) (keeps.back.out (told is) name);
        views = λ is. keeps.back.views (told is) ∙ unchanged.same.loans.views;
      };
      file = λ is name other. rw (← unchanged.same.names.file) (keeps.file (told is) name other);
      leaves = λ is name image other.
          let x = unchanged.same.names.leaves name image in
          let y = keeps.leaves (told is) name image other in
          (λ z. x.0 (y.0 z), λ z. y.1 (x.1 z));
    }

-- the reference that is read through a view
module _ (words : SessionWords) (files : KeyFiles) (header : RefHeader) (sizes : HaveSizesOf files header) where
  leaves-are : (file leaves : List ℕ) → HasReferenceLayout header file leaves → drop 32 file ≡ leaves
  leaves-are file leaves layout =
      let size : length (reference_head header) ≡ 32 = omega (arith, header.id_length) in
      ap (λ (bytes : List ℕ). drop 32 bytes) layout.parts ∙ subst (λ (n : ℕ). drop n (reference_head header ++ leaves) ≡ leaves) size (drop-append_seam (reference_head header) leaves)

  pub layout-of : (file : List ℕ) → IsReferenceOf header file → HasReferenceLayout header file (drop 32 file)
  layout-of file is = subst (HasReferenceLayout header file) (sym (leaves-are file is.leaves is.layout)) is.layout

  module _ (a x b : StoreState) (view : PagesState) (unchanged : IsUnchanged a x) (viewed : Viewed x (reference_name words.prefix) view b)
      (reads : IsTrue view.told → IsReferenceOf header view.reads) where
    pub view_told : IsTrue a.told → IsTrue view.told
    view_told told = viewed.given.told (rw unchanged.onward.told told)

    pub view_exact : IsTrue a.told → IsTrue a.steady → IsTrue (is_exact view.told view.steady (drop 32 view.reads) files.key.params header.plan)
    view_exact told steady =
        exact-of view.told view.steady (drop 32 view.reads) files.key.params header.plan (view_told told) (viewed.given.steady (rw unchanged.onward.steady steady))
        ((layout-of view.reads (reads (view_told told))).leaves_are ∙ sizes.leaves)

    -- what is signed is what the words name
    abbrev pub is_task : (source : MessageSource) (p c d : StoreState) (now : PagesState) (message members : List ℕ) (addresses : List Address) → StoreOnward x b → IsUnchanged b p → StoreOnward p c → ViewEnded c now d
        → HasFiles words (from_to a d) files header → GoesWith words source files header message members addresses
        → IsTask words (from_to a d) source (record {
          desk = desk_of files header addresses;
          reads = record { told = view.told; leaves = drop 32 view.reads; before = view.count; now = now.count };
          exact = is_exact view.told view.steady (drop 32 view.reads) files.key.params header.plan;
          members = members;
          message = message;
        })
    is_task source p c d now message members addresses out task works ended has goes = record {
      files = files;
      header = header;
      has = has;
      goes = goes;
      desk = refl;
      reads = record {
        told = view_told;
        leaves = record {
          file = view.reads;
          is_read = λ told. rw (← unchanged.same.names.file) (viewed.reads (rw unchanged.onward.told told));
          is = λ told. layout-of view.reads (reads (view_told told));
        };
        exact = view_exact;
        fresh = viewed.given.fresh;
        rise =
            let one = unchanged.onward.disk_count in
            let two = out.disk_count in
            let three = task.onward.disk_count in
            let four = works.disk_count in
            let five = ended.disk_count in
            omega (arith, one, two, three, four, five);
      };
    }

-- from the state before the view to that after it
module _ (files : KeyFiles) (header : RefHeader) (a x b p : StoreState) (name : List ℕ) (view : PagesState) (unchanged : IsUnchanged a x)
    (viewed : Viewed x name view b) (out : StoreOnward x b) (task : IsUnchanged b p) where
  goes-in : SameButViews a p
  goes-in =
      let first = out_view a x b name view unchanged viewed out in
      record {
        names = record {
          file = task.same.names.file ∙ first.names.file;
          leaves = λ other image. let y = first.names.leaves other image in let z = task.same.names.leaves other image in (λ w. y.0 (z.0 w), λ w. z.1 (y.1 w));
          out = task.same.names.out ∙ first.names.out;
        };
        onward = onward_on a b p first.onward task.onward;
      }

  count-in : p.disk_count ≡ a.disk_count
  count-in = task.same.loans.disk_count ∙ (viewed.disk_count ∙ unchanged.same.loans.disk_count)

  views-in : IsTrue a.told → p.views ≡ a.views + 1
  views-in told =
      let one = unchanged.same.loans.views in
      let two = viewed.views (rw unchanged.onward.told told) in
      let three = task.same.loans.views in
      omega (arith, one, two, three)

  module _ (c d : StoreState) (now : PagesState) (ended : ViewEnded c now d) (comes : StoreOnward c d) where
    pub whole_keeps : (touched : List (List ℕ)) → Keeps touched p c → Keeps touched a d
    whole_keeps touched keeps = keeps_in a p c d goes-in count-in (back_view c d now ended comes) touched keeps views-in ended.views

    pub whole_ends : (s : Signing) (table : List ℕ) (net : NetRun) (answer : Result Signature Ending) (touched : List (List ℕ)) (ends : TableEnds s table (from_to p c) net answer touched)
        → EndsWider s table (from_to a d) net answer touched (last_in ends)
    whole_ends s table net answer touched ends = ends_in a p c d goes-in count-in (back_view c d now ended comes) s table net answer touched ends

-- the message was not obtained, or not everything goes together
module _ (words : SessionWords) (message : Message) (files : KeyFiles) (header : RefHeader) (a x b p d : StoreState) (name : List ℕ) (view : PagesState) (unchanged : IsUnchanged a x)
    (viewed : Viewed x name view b) (out : StoreOnward x b) (task : IsUnchanged b p) where
  first : SameButViews a b
  first = out_view a x b name view unchanged viewed out

  count-first : b.disk_count ≡ a.disk_count
  count-first = viewed.disk_count ∙ unchanged.same.loans.disk_count

  pub goes_in : (bytes members : List ℕ) (addresses : List Address) → GoesWith words (source_of message (from_to b p)) files header bytes members addresses
      → GoesWith words (source_of message (from_to a d)) files header bytes members addresses
  goes_in bytes members addresses goes = record {
    message_is = source_had a b p d first message bytes goes.message_is;
    one_key = goes.one_key;
    members_are = goes.members_are;
    coalition = goes.coalition;
    addresses_are = goes.addresses_are;
  }

  module _ (last : SameButViews p d) where
    pub lacks_in : (end : Ending) → LacksTask words (source_of message (from_to b p)) files header end → LacksTask words (source_of message (from_to a d)) files header end
    lacks_in _ tasks.no_memory = tasks.no_memory
    lacks_in _ (tasks.no_message end fails) = tasks.no_message end (no_source_in a b p d first count-first last message end fails)
    lacks_in _ (tasks.other_key bytes end read other) = tasks.other_key bytes end (source_had a b p d first message bytes read) other
    lacks_in _ (tasks.no_coalition bytes read one never) = tasks.no_coalition bytes (source_had a b p d first message bytes read) one never

pub run_lacking : (words : SessionWords) (message : Message) (files : KeyFiles) (header : RefHeader) (a x b p d : StoreState) (name : List ℕ) (view : PagesState) (unchanged : IsUnchanged a x)
    (viewed : Viewed x name view b) (out : StoreOnward x b) (task : IsUnchanged b p) (ended : ViewEnded p view d) (comes : StoreOnward p d) (net : NetState) (end : declared.Ending)
    → HasFiles words (from_to a d) files header → LacksTask words (source_of message (from_to b p)) files header (endings.ending end) → SessionRun words (source_of message) a d (over_net net net) (Err end)
run_lacking words message files header a x b p d name view unchanged viewed out task ended comes net end has lacks =
    unbegun words (source_of message) a d net end (whole_keeps files header a x b b name view unchanged viewed out (unchanged_none b) p d view ended comes [] (keeps_unchanged [] b p task))
    (tasks.no_task files header (endings.ending end) has (lacks_in words message files header a x b p d name view unchanged viewed out task (back_view p d view ended comes) (endings.ending end) lacks))

-- what was signed with the table, once a signature was written or was not
module _ (s : Signing) (table : List ℕ) (a d e : StoreState) (same_file : IsTrue a.told → e.file table ≡ d.file table) (same_leaves : IsTrue a.told → (image : List ℕ) → e.leaves table image ↔ d.leaves table image)
    (onward : StoreOnward d e) where
  all_later : (Is : List ℕ → Type 0) → AllLeave (from_to a d) table Is → AllLeave (from_to a e) table Is
  all_later Is all = record {
    file = λ told file is. all.file told file (sym (same_file told) ∙ is);
    images = λ told honest image left. all.images told honest image ((same_leaves told image).0 left);
  }

  lease_later : (outcome : Result Signature SignFault) → LeaseIsLeft s table (from_to a d) outcome → LeaseIsLeft s table (from_to a e) outcome
  lease_later _ (leases.too_long got) = leases.too_long got
  lease_later _ (leases.not_leased fault) = leases.not_leased fault
  lease_later _ (leases.leased leaf result all burnt) = leases.leased leaf result (all_later (IsLeasedIn leaf (message_id s.message)) all)
      (λ member some. elim (burnt member some) [
        | inl left ↦ inl (all_later (IsBurntIn leaf) left)
        | inr rose ↦ inr (let later = onward.disk_count in omega (arith, rose, later))
      ])

  pub table_later : (net : NetRun) (outcome : Result Signature SignFault) → SignedTable s table (from_to a d) net outcome → SignedTable s table (from_to a e) net outcome
  table_later net outcome signed = record {
    old = signed.old;
    new = signed.new;
    fresh = signed.fresh;
    table_is = record { file = signed.table_is.file; is_read = signed.table_is.is_read; is = signed.table_is.is };
    name_is = signed.name_is;
    over = signed.over;
    left = record {
      file = signed.left.file;
      is_read = λ told. same_file told ∙ signed.left.is_read told;
      stands = signed.left.stands;
      images = λ told honest image left. signed.left.images told honest image ((same_leaves told image).0 left);
      many = signed.left.many;
      one_lease = signed.left.one_lease;
    };
    sure = signed.sure;
    rise = let rise = signed.rise in let later = onward.disk_count in omega (arith, rise, later);
    lease = lease_later outcome signed.lease;
  }

-- a session as it is told once a signature was written after it, or was not
module _ (words : SessionWords) (a d e : StoreState) (onward : StoreOnward d e) where
  pub files_later : (files : KeyFiles) (header : RefHeader) → HasFiles words (from_to a d) files header → HasFiles words (from_to a e) files header
  files_later files header has = record {
    files_are = record {
      key = has.files_are.key;
      tree = record { read = has.files_are.tree.read; dealt = has.files_are.tree.dealt };
    };
    reference_is = record {
      reads = record { file = has.reference_is.reads.file; is_read = has.reference_is.reads.is_read; is = has.reference_is.reads.is };
      dealt = has.reference_is.dealt;
    };
  }

  abbrev pub task_later : (source later : MessageSource) → ((message : List ℕ) → source.is message → later.is message) → (s : Signing) → IsTask words (from_to a d) source s
      → IsTask words (from_to a e) later s
  task_later source later is_later s task = record {
    files = task.files;
    header = task.header;
    has = files_later task.files task.header task.has;
    goes = record {
      message_is = is_later s.message task.goes.message_is;
      one_key = task.goes.one_key;
      members_are = task.goes.members_are;
      coalition = task.goes.coalition;
      addresses_are = task.goes.addresses_are;
    };
    desk = task.desk;
    reads = record {
      told = task.reads.told;
      leaves = record { file = task.reads.leaves.file; is_read = task.reads.leaves.is_read; is = task.reads.leaves.is };
      exact = task.reads.exact;
      fresh = task.reads.fresh;
      rise = let rise = task.reads.rise in let later = onward.disk_count in omega (arith, rise, later);
    };
  }

-- after the session
module _ (words : SignWords) (a d : StoreState) (net : NetRun) where
  abbrev session : SessionWords
  session = session_words words

  abbrev source : StoreRun → MessageSource
  source store = message_in store words.message

  -- the name of the signature is not that of the table
  out_differs : IsNew (from_to a d) words.out → (s : Signing) (signature : Signature) → SignedTable s words.table (from_to a d) net (Ok signature) → IsTrue a.told → bytes_eq words.out words.table ≡ false
  out_differs is_new s signature signed told = new_is_other a words.table words.out signed.table_is.file (signed.table_is.is_read told) (is_new told)

  -- what was signed, and with what table
  pub record Signed (store : StoreRun) (signature : Signature) (touched : List (List ℕ)) : Type 0 where
    pub signing : Signing
    pub task : IsTask session store (source store) signing
    pub table : SignedTable signing words.table store net (Ok signature)
    pub touches : touched ≡ words.table ∷ []

  signed-by : (answer : Result Signature Ending) (touched : List (List ℕ)) (signature : Signature) → SessionEnds session (from_to a d) (source (from_to a d)) net answer touched → answer ≡ Ok signature
      → Signed (from_to a d) signature touched
  signed-by _ _ signature (sessions.no_task end fails same) is = absurd (cc)
  signed-by answer touched signature (sessions.ended s _ _ task ends) is =
      let both = as-signed s words.table a d net answer touched signature ends is in
      record { signing = s; task = task; table = both.0; touches = both.1 }

  -- it is still new
  pub still_new : (touched : List (List ℕ)) (signature : Signature) (answer : Result Signature Ending) → IsNew (from_to a d) words.out → Keeps touched a d
      → SessionEnds session (from_to a d) (source (from_to a d)) net answer touched → answer ≡ Ok signature → IsTrue d.told → has_name d words.out ≡ false
  still_new touched signature answer is_new keeps ends is told_d =
      let told : IsTrue a.told = rw (← keeps.back.onward.told) told_d in
      let by = signed-by answer touched signature ends is in
      let differs = out_differs is_new by.signing signature by.table told in
      let untouched = subst (λ (names : List (List ℕ)). IsUntouched names words.out) (sym by.touches) (All-cons (λ one. bytes_eq words.out one ≡ false) words.table [] differs (All-nil (λ one. bytes_eq words.out one ≡ false))) in
      rw (keeps.file told words.out untouched, keeps.back.out told words.out) (is_new told)

  pub run_unsigned : (touched : List (List ℕ)) (end : Ending) (answer : Result Signature Ending) → IsNew (from_to a d) words.out → Keeps touched a d → IsNetBack net.before net.after
      → SessionEnds session (from_to a d) (source (from_to a d)) net answer touched → answer ≡ Err end → SigningRun words (from_to a d) net end
  run_unsigned touched end answer is_new keeps ports ends is = record {
    touched = touched;
    ends = sign.not_signed end touched is_new (subst (λ (x : Result Signature Ending). SessionEnds session (from_to a d) (source (from_to a d)) net x touched) is ends);
    keeps = keeps;
    ports = ports;
  }

  module _ (e : StoreState) (touched : List (List ℕ)) (signature : Signature) (is_new : IsNew (from_to a d) words.out) (keeps : Keeps touched a d) (ports : IsNetBack net.before net.after)
      (back : IsBack d e) (by : Signed (from_to a d) signature touched) where
    differs : IsTrue a.told → bytes_eq words.table words.out ≡ false
    differs told = turned_about words.out words.table (out_differs is_new by.signing signature by.table told)

    pub table_written : IsLeft (from_to d e) (one_output words.out signature.bytes ∷ []) → SignedTable by.signing words.table (from_to a e) net (Ok signature)
    table_written left = table_later by.signing words.table a d e
        (λ told. others_file a d e touched keeps words.out signature.bytes back left told words.table (differs told))
        (λ told image. others_leave a d e touched keeps words.out signature.bytes back left told words.table image (differs told))
        back.onward net (Ok signature) by.table

    pub table_unwritten : IsLeft (from_to d e) [] → SignedTable by.signing words.table (from_to a e) net (Ok signature)
    table_unwritten left = table_later by.signing words.table a d e
        (λ told. unwritten_file a d e touched keeps words.out signature.bytes back left told words.table)
        (λ told image. unwritten_leave a d e touched keeps words.out signature.bytes back left told words.table image)
        back.onward net (Ok signature) by.table

    abbrev Ended : List (List ℕ) → Type 0
    Ended names = SessionEnds session (from_to a e) (source (from_to a e)) net (Ok signature) names

    session_ends : SignedTable by.signing words.table (from_to a e) net (Ok signature) → Ended touched
    session_ends table = subst Ended (sym by.touches)
        (sessions.ended by.signing (Ok signature) (words.table ∷ []) (task_later session a d e back.onward (source (from_to a d)) (source (from_to a e)) (λ message is. is) by.signing by.task) (signs.signed (Ok signature) table))

    run_written : (end : Ending) → WriteEnds (from_to d e) words.out signature.leaf signature.bytes end → SigningRun words (from_to a e) net end
    run_written _ (writes.written left) = record {
      touched = words.out ∷ touched;
      ends = sign.signed signature touched is_new (session_ends (table_written left)) (is_written a d e touched keeps words.out signature.bytes back left);
      keeps = keeps_written a d e touched keeps words.out signature.bytes back left;
      ports = ports;
    }
    run_written _ (writes.not_written end left cause) = record {
      touched = touched;
      ends = sign.not_written signature end touched is_new (session_ends (table_unwritten left)) (not_written a d e touched keeps words.out signature.bytes back end cause);
      keeps = keeps_unwritten a d e touched keeps words.out signature.bytes back left;
      ports = ports;
    }

  pub run_signed : (e : StoreState) (touched : List (List ℕ)) (signature : Signature) (answer : Result Signature Ending) (end : Ending) → IsNew (from_to a d) words.out → Keeps touched a d
      → IsNetBack net.before net.after → SessionEnds session (from_to a d) (source (from_to a d)) net answer touched → answer ≡ Ok signature → IsBack d e
      → WriteEnds (from_to d e) words.out signature.leaf signature.bytes end → SigningRun words (from_to a e) net end
  run_signed e touched signature answer end is_new keeps ports ends is back wrote =
      run_written e touched signature is_new keeps ports back (signed-by answer touched signature ends is) end wrote
