-- What a command has found by the time it ends, over a store that tells its content.
use Rattle.std.proofs.Common.{◌≡◌, ℕ, Bool, true, false, List, [], ◌∷◌, All, Option, None, Some, Result, Ok, Err, IsSome, IsTrue, is_some, length, option_map, if◌then◌else◌, refl, sym, ap, subst}
use Rattle.std.proofs.lemmas.List.Elements.{All-cons, All-head, All-nil, All-tail}
use Rattle.std.proofs.lemmas.Slice.Eq.{bytes_eq-Decides}
use Rattle.std.specs.Str.{bytes_eq}
use Rattle.aggregator_session.specs.Signing.{Signature}
use Rattle.session_core.specs.State.{State}
use Rattle.share_files.specs.declared.reference.RefHeader.{RefHeader}
use Rattle.slot_file.specs.declared.header.Header.{Header}
use Rattle.stream_io.specs.Store.{StoreState}
use Rattle.tool_base.specs.Ending as ending
use Rattle.tool_base.specs.Ending.{Ending}
use Rattle.tool_base.specs.Grammars.{FailsGrammar, not_in_grammar, not_read}
use Rattle.tool_base.specs.Loads.{FailsToLoad}
use Rattle.tool_base.specs.Loads as loads
use Rattle.tool_base.specs.Outputs.{IsNotNew, IsNotWritten, Output, is_there, no_memory_to_name, no_memory_to_write, test_failed, was_there, write_failed}
use Rattle.tool_base.specs.Reads.{FailsUpTo}
use Rattle.tool_base.specs.Reads as reads
use Rattle.tool_base.specs.World.{StoreRun}
use Rattle.tool_base.specs.declared.unsigned.Unsigned.TheVariants as unsigned
use Rattle.tool_desk.specs.Files.{FailsKeyFiles, IsOfOtherKey, key_name, reference_name, tree_name}
use Rattle.tool_desk.specs.Files as files
use Rattle.tool_desk.specs.Reference.{FailsReference}
use Rattle.tool_desk.specs.Reference as references
use Rattle.tool_desk.specs.declared.files.KeyFiles.{KeyFiles}
use Rattle.laws_commands.specs.Steady.{before_outputs, before_table, first_of, names_found, names_needed, up_to, up_to_slots, up_to_verdict}
use Rattle.tool_sign.specs.Ended.{last_in}
use Rattle.tool_sign.specs.Ports.{NetRun, Signing}
use Rattle.tool_sign.specs.Sessions.{SessionEnds}
use Rattle.tool_sign.specs.Sessions as sessions
use Rattle.tool_sign.specs.Signs.{TableEnds}
use Rattle.tool_sign.specs.Signs as signs
use Rattle.tool_sign.specs.Tasks.{FailsTask, IsTask, LacksTask, MessageSource, SessionWords}
use Rattle.tool_sign.specs.Tasks as tasks
use Rattle.tool_words.specs.Words.{Row, Deal, Enrol, Migrate, Trustee, Sign, HssSign, Blame}

same-bytes : (name : List ℕ) → bytes_eq name name ≡ true
same-bytes name = (bytes_eq-Decides name name).1 refl

pub mapped : (bytes : Option (List ℕ)) (got : ℕ) → option_map length bytes ≡ Some got → IsSome bytes
mapped None got is = absurd (cc)
mapped (Some bytes) got is = refl

-- names with which others begin
pub data Begins : List (List ℕ) → List (List ℕ) → Type 0 where
  done : {names : List (List ℕ)} → Begins [] names
  more : {name : List ℕ} {some names : List (List ℕ)} → Begins some names → Begins (name ∷ some) (name ∷ names)

all-of : (names : List (List ℕ)) → Begins names names
all-of [] = done
all-of (name ∷ names) = more (all-of names)

first-begins : (names : List (List ℕ)) → Begins (first_of names) names
first-begins [] = done
first-begins (name ∷ names) = more done

cut : (test : Bool) (some names : List (List ℕ)) → Begins some names → Begins (if test then [] else some) names
cut true some names begins = done
cut false some names begins = begins

up-to-begins : (name : List ℕ) (names : List (List ℕ)) → Begins (up_to name names) names
up-to-begins name [] = done
up-to-begins name (one ∷ names) = more (cut (bytes_eq one name) (up_to name names) names (up-to-begins name names))

outputs-begin : (row : Row) → Begins (before_outputs row) (names_needed row)
outputs-begin (Deal words) = more done
outputs-begin (Enrol file journal) = more done
outputs-begin (Migrate share journal new) = more done
outputs-begin row = done

slots-begin : (row : Row) → Begins (up_to_slots row) (names_needed row)
slots-begin (Trustee words) = more (more done)
slots-begin row = all-of (names_needed row)

table-begins : (row : Row) → Begins (before_table row) (names_needed row)
table-begins (Sign words) = more (more (more (more done)))
table-begins (Blame words) = more (more (more (more (more done))))
table-begins (HssSign words) = more (more (more (more (more (more done)))))
table-begins row = all-of (names_needed row)

verdict-begins : (row : Row) → Begins (up_to_verdict row) (names_needed row)
verdict-begins (HssSign words) = more (more (more done))
verdict-begins row = all-of (names_needed row)

found-begins : (row : Row) (end : Ending) → Begins (names_found row end) (names_needed row)
found-begins row ending.StoreFailed = done
found-begins row ending.DeviceFailed = done
found-begins row ending.NoMemory = done
found-begins row (ending.TooLong got) = first-begins (names_needed row)
found-begins row (ending.Unreadable name fault) = up-to-begins name (names_needed row)
found-begins row (ending.Exists name) = outputs-begin row
found-begins row (ending.NotLoaded fault) = slots-begin row
found-begins row (ending.NotSigned unsigned.NotACoalition) = table-begins row
found-begins row (ending.Verified verdict) = verdict-begins row
found-begins row end = all-of (names_needed row)

not-some : (last : State) → None ≡ Some last → ⊥
not-some last is = cc

module _ (store : StoreState) where
  -- the name is read as something
  abbrev pub IsThere : List ℕ → Type 0
  IsThere name = IsSome (store.file name)

  abbrev pub AreThere : List (List ℕ) → Type 0
  AreThere names = All IsThere names

  pub list-1 : (a : List ℕ) → IsThere a → AreThere (a ∷ [])
  list-1 a p = All-cons IsThere a [] p (All-nil IsThere)

  pub list-2 : (a b : List ℕ) → IsThere a → IsThere b → AreThere (a ∷ b ∷ [])
  list-2 a b p q = All-cons IsThere a (b ∷ []) p (list-1 b q)

  pub list-3 : (a b c : List ℕ) → IsThere a → IsThere b → IsThere c → AreThere (a ∷ b ∷ c ∷ [])
  list-3 a b c p q r = All-cons IsThere a (b ∷ c ∷ []) p (list-2 b c q r)

  pub list-4 : (a b c d : List ℕ) → IsThere a → IsThere b → IsThere c → IsThere d → AreThere (a ∷ b ∷ c ∷ d ∷ [])
  list-4 a b c d p q r s = All-cons IsThere a (b ∷ c ∷ d ∷ []) p (list-3 b c d q r s)

  begun : (some names : List (List ℕ)) → Begins some names → AreThere names → AreThere some
  begun _ names done all = All-nil IsThere
  begun (name ∷ some) (_ ∷ names) (more begins) all =
      All-cons IsThere name some (All-head IsThere name names all) (begun some names begins (All-tail IsThere name names all))

  cut-there : (test : Bool) (names : List (List ℕ)) → AreThere names → AreThere (if test then [] else names)
  cut-there true names all = All-nil IsThere
  cut-there false names all = all

  pub up-to-later : (name one : List ℕ) (names : List (List ℕ)) → IsThere one → AreThere (up_to name names) → AreThere (up_to name (one ∷ names))
  up-to-later name one names is all =
      All-cons IsThere one (if bytes_eq one name then [] else up_to name names) is (cut-there (bytes_eq one name) (up_to name names) all)

  pub up-to-here : (name : List ℕ) (names : List (List ℕ)) → IsThere name → AreThere (up_to name (name ∷ names))
  up-to-here name names is =
      subst (λ (test : Bool). AreThere (name ∷ (if test then [] else up_to name names))) (sym (same-bytes name)) (list-1 name is)

  -- if all names that have to be there are there, so are those of any end
  pub whole : (row : Row) → AreThere (names_needed row) → (end : Ending) → AreThere (names_found row end)
  whole row all end = begun (names_found row end) (names_needed row) (found-begins row end) all

  pub slots-all : (row : Row) → AreThere (names_needed row) → AreThere (up_to_slots row)
  slots-all row all = begun (up_to_slots row) (names_needed row) (slots-begin row) all

module _ (run : StoreRun) (told : IsTrue run.before.told) (row : Row) where
  abbrev pub There : List ℕ → Type 0
  There name = IsThere run.before name

  abbrev pub Found : Ending → Type 0
  Found end = AreThere run.before (names_found row end)

  -- the first of the names that have to be there, and those up to one
  abbrev pub First : Type 0
  First = AreThere run.before (first_of (names_needed row))

  abbrev pub UpTo : List ℕ → Type 0
  UpTo name = AreThere run.before (up_to name (names_needed row))

  pub nothing : AreThere run.before []
  nothing = All-nil (IsThere run.before)

  pub upto-found : (limit : ℕ) (name : List ℕ) (end : Ending) → (There name → First) → FailsUpTo limit run name end → Found end
  upto-found limit name _ first (reads.failed read) = nothing
  upto-found limit name _ first (reads.too_long got read) = first (mapped (run.before.file name) got (read.1 told))
  upto-found limit name _ first reads.no_memory = nothing

  pub grammar-found : (f : List ℕ → Option ℕ) (name : List ℕ) (end : Ending) → (There name → First) → (There name → UpTo name) → FailsGrammar f run name end → Found end
  grammar-found f name _ first upto (not_read end fails) = upto-found _ name end first fails
  grammar-found f name _ first upto (not_in_grammar bytes why read found) = upto (ap is_some (read.1 told))

  pub new-found : (name : List ℕ) (end : Ending) → AreThere run.before (before_outputs row) → IsNotNew run name end → Found end
  new-found name _ outputs (test_failed failed) = nothing
  new-found name _ outputs (is_there has) = outputs
  new-found name _ outputs no_memory_to_name = nothing

  pub unwritten-found : (written : List Output) (name : List ℕ) (end : Ending) → IsNotWritten run written name end → Found end
  unwritten-found written name _ (write_failed failed) = nothing
  unwritten-found written name _ (was_there never) = absurd (never told)
  unwritten-found written name _ no_memory_to_write = nothing

  pub load-found : (header : Header) (count : ℕ) (name : List ℕ) (end : Ending) → (There name → AreThere run.before (up_to_slots row)) → FailsToLoad header count run name end → Found end
  load-found header count name _ slots (loads.other_file f is) = slots (ap is_some (is.is_read told))
  load-found header count name _ slots (loads.damaged is) = slots (ap is_some (is.is_read told))
  load-found header count name _ slots (loads.device fails) = nothing
  load-found header count name _ slots loads.no_memory = nothing

  pub reference-found : (name : List ℕ) (end : Ending) → (There name → UpTo name) → FailsReference run name end → Found end
  reference-found name _ upto (references.no_view read) = nothing
  reference-found name _ upto (references.not_in_grammar f is) = upto (ap is_some (is.is_read told))
  reference-found name _ upto (references.device fails) = nothing
  reference-found name _ upto references.no_memory = nothing

  pub keys-found : (prefix : List ℕ) (end : Ending) → (There (key_name prefix) → First) → (There (key_name prefix) → UpTo (key_name prefix))
      → (There (key_name prefix) → There (tree_name prefix) → UpTo (tree_name prefix)) → FailsKeyFiles run prefix end → Found end
  keys-found prefix _ first key tree (files.no_key end fails) = grammar-found _ (key_name prefix) end first key fails
  keys-found prefix _ first key tree (files.no_tree public end read fails) =
      let has : There (key_name prefix) = ap is_some (read.1 told) in
      grammar-found _ (tree_name prefix) end (λ is. first has) (tree has) fails

  pub other-found : (prefix : List ℕ) (keys : KeyFiles) (header : RefHeader) (end : Ending) → UpTo (tree_name prefix) → UpTo (reference_name prefix)
      → IsOfOtherKey prefix keys header end → Found end
  other-found prefix keys header _ tree reference (files.other_tree never) = tree
  other-found prefix keys header _ tree reference (files.other_reference one never) = reference
  other-found prefix keys header _ tree reference files.no_memory = nothing

  pub lacks-found : (words : SessionWords) (source : MessageSource) (keys : KeyFiles) (header : RefHeader) (end : Ending) → ((one : Ending) → source.fails one → Found one)
      → UpTo (tree_name words.prefix) → UpTo (reference_name words.prefix) → ((message : List ℕ) → source.is message → AreThere run.before (before_table row))
      → LacksTask words source keys header end → Found end
  lacks-found words source keys header _ unheard tree reference table tasks.no_memory = nothing
  lacks-found words source keys header _ unheard tree reference table (tasks.no_message end fails) = unheard end fails
  lacks-found words source keys header _ unheard tree reference table (tasks.other_key message end is other) = other-found words.prefix keys header end tree reference other
  lacks-found words source keys header _ unheard tree reference table (tasks.no_coalition message is one never) = table message is

  module _ (s : Signing) (name : List ℕ) (net : NetRun) (all : There name → AreThere run.before (names_needed row)) where
    pub table-found : (answer : Result Signature Ending) (touched : List (List ℕ)) (end : Ending) → TableEnds s name run net answer touched → answer ≡ Err end → Found end
    table-found _ _ end (signs.no_table idle read) is =
        let same : ending.StoreFailed ≡ end = cc in subst Found same nothing
    table-found _ _ end (signs.no_memory touched idle stays) is =
        let same : ending.NoMemory ≡ end = cc in subst Found same nothing
    table-found _ _ end (signs.not_loaded one idle fails stays) is =
        let same : one ≡ end = cc in subst Found same (load-found _ _ name one (λ has. slots-all run.before row (all has)) fails)
    table-found _ _ end (signs.no_port entries idle reads rose never stays) is =
        let same : ending.NetFailed ≡ end = cc in subst Found same (all (ap is_some (reads.is_read told)))
    table-found _ _ end (signs.signed outcome signed) is = whole run.before row (all (ap is_some (signed.table_is.is_read told))) end

    pub signature-found : (answer : Result Signature Ending) (touched : List (List ℕ)) (signature : Signature) → TableEnds s name run net answer touched → answer ≡ Ok signature
        → AreThere run.before (names_needed row)
    signature-found _ _ signature (signs.no_table idle read) is = absurd (cc)
    signature-found _ _ signature (signs.no_memory touched idle stays) is = absurd (cc)
    signature-found _ _ signature (signs.not_loaded one idle fails stays) is = absurd (cc)
    signature-found _ _ signature (signs.no_port entries idle reads rose never stays) is = absurd (cc)
    signature-found _ _ signature (signs.signed outcome signed) is = all (ap is_some (signed.table_is.is_read told))

    pub last-found : (answer : Result Signature Ending) (touched : List (List ℕ)) (last : State) (ends : TableEnds s name run net answer touched) → last_in ends ≡ Some last
        → AreThere run.before (names_needed row)
    last-found _ _ last (signs.no_table idle read) is = absurd (not-some last is)
    last-found _ _ last (signs.no_memory touched idle stays) is = absurd (not-some last is)
    last-found _ _ last (signs.not_loaded one idle fails stays) is = absurd (not-some last is)
    last-found _ _ last (signs.no_port entries idle reads rose never stays) is = absurd (not-some last is)
    last-found _ _ last (signs.signed outcome signed) is = all (ap is_some (signed.table_is.is_read told))

  -- ---- sessions, wherever their message comes from, and what is known about a message that was obtained
  module _ (asked : SessionWords) (source : MessageSource) (Had : Type 0) (had : (message : List ℕ) → source.is message → Had)
      (unheard : There (key_name asked.prefix) → (end : Ending) → source.fails end → Found end)
      (first : There (key_name asked.prefix) → First) (upkey : There (key_name asked.prefix) → UpTo (key_name asked.prefix))
      (uptree : There (key_name asked.prefix) → There (tree_name asked.prefix) → UpTo (tree_name asked.prefix))
      (upref : There (key_name asked.prefix) → There (tree_name asked.prefix) → There (reference_name asked.prefix) → UpTo (reference_name asked.prefix))
      (table : There (key_name asked.prefix) → There (tree_name asked.prefix) → There (reference_name asked.prefix) → Had → AreThere run.before (before_table row))
      (all : There (key_name asked.prefix) → There (tree_name asked.prefix) → There (reference_name asked.prefix) → Had → There asked.table → AreThere run.before (names_needed row)) where
    task-found : (end : Ending) → FailsTask asked run source end → Found end
    task-found _ (tasks.no_key_files end fails) = keys-found asked.prefix end first upkey uptree fails
    task-found _ (tasks.no_reference keys end are fails) =
        reference-found (reference_name asked.prefix) end (upref (ap is_some (are.key.1 told)) (ap is_some (are.tree.read.1 told))) fails
    task-found _ (tasks.no_task keys header end has lacks) =
        let key : There (key_name asked.prefix) = ap is_some (has.files_are.key.1 told) in
        let tree : There (tree_name asked.prefix) = ap is_some (has.files_are.tree.read.1 told) in
        let reference : There (reference_name asked.prefix) = ap is_some (has.reference_is.reads.is_read told) in
        lacks-found asked source keys header end (unheard key) (uptree key tree) (upref key tree reference) (λ message is. table key tree reference (had message is)) lacks

    task-all : (s : Signing) → IsTask asked run source s → There asked.table → AreThere run.before (names_needed row)
    task-all s task there =
        all (ap is_some (task.has.files_are.key.1 told)) (ap is_some (task.has.files_are.tree.read.1 told)) (ap is_some (task.has.reference_is.reads.is_read told))
        (had s.message task.goes.message_is) there

    pub session-found : (net : NetRun) (answer : Result Signature Ending) (touched : List (List ℕ)) (end : Ending) → SessionEnds asked run source net answer touched → answer ≡ Err end → Found end
    session-found net _ _ end (sessions.no_task one fails same) is =
        let e : one ≡ end = cc in subst Found e (task-found one fails)
    session-found net answer touched end (sessions.ended s _ _ task ends) is = table-found s asked.table net (task-all s task) answer touched end ends is

    pub session-all : (net : NetRun) (answer : Result Signature Ending) (touched : List (List ℕ)) (signature : Signature) → SessionEnds asked run source net answer touched → answer ≡ Ok signature
        → AreThere run.before (names_needed row)
    session-all net _ _ signature (sessions.no_task one fails same) is = absurd (cc)
    session-all net answer touched signature (sessions.ended s _ _ task ends) is = signature-found s asked.table net (task-all s task) answer touched signature ends is
