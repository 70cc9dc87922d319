-- What came of a session beside the commitments of its dealing, while their view and the view of the reference are both
-- out. All of it is internal.
use Rattle.std.specs.Prelude.{◌≡◌, drop, ℕ, List, Result, Err}
use Rattle.aggregator_session.specs.Runs.{CellsRead}
use Rattle.aggregator_session.specs.Signing.{Signature}
use Rattle.aggregator_session.specs.declared.desk.Address.{Address}
use Rattle.share_files.specs.declared.reference.RefHeader.{RefHeader}
use Rattle.stream_io.specs.Store.{PagesState, StoreState}
use Rattle.tool_base.specs.Ending.{Ending}
use Rattle.tool_base.specs.World.{IsUnchanged, from_to}
use Rattle.tool_desk.specs.Files.{HaveSizesOf}
use Rattle.tool_desk.specs.declared.files.KeyFiles.{KeyFiles}
use Rattle.tool_sign.specs.Ended.{last_in}
use Rattle.tool_sign.specs.Ports.{NetRun, Signing, is_exact}
use Rattle.tool_sign.specs.Sign.{session_words}
use Rattle.tool_sign.specs.Signs.{TableRun}
use Rattle.tool_sign.specs.Tasks.{GoesWith, LacksTask, desk_of, message_in}
use Rattle.tool_words.specs.Words.{SignWords}
use Rattle.tool_blame.specs.Names.{TellsEnd}

-- internal: what is read through a view, as it stands before and after: the leaves of the file, after a head of 32
-- bytes
abbrev pub leaves_through : PagesState → PagesState → CellsRead
leaves_through old new = record {
  told = old.told;
  leaves = drop 32 old.reads;
  before = old.count;
  now = new.count;
}

-- internal: what is signed with these files and the reference in this view, as it stands before and after
abbrev pub signing_through : KeyFiles → RefHeader → PagesState → PagesState → List ℕ → List ℕ → List Address → Signing
signing_through files header old new message members addresses = record {
  desk = desk_of files header addresses;
  reads = leaves_through old new;
  exact = is_exact old.told old.steady (drop 32 old.reads) files.key.params header.plan;
  members = members;
  message = message;
}

-- internal: Both views: of the reference of this header, and of the commitments beside it, each as it stands before and
-- after.
pub record ViewsBeside : Type 1 where
  pub reference : PagesState
  pub reference_now : PagesState
  pub commits : PagesState
  pub commits_now : PagesState

-- internal: the message was read and goes with the files, the table was asked for, and its answer is told by the
-- commitments
pub record SessionBeside {S : Type 0} (state : S → StoreState) (words : SignWords) (files : KeyFiles)
    (header : RefHeader) (views : ViewsBeside) (old new : S) (net : NetRun) (told : Result Signature Ending)
    : Type 0 where
  pub read : S
  pub unchanged : IsUnchanged (state old) (state read)
  pub sizes : HaveSizesOf files header
  pub message : List ℕ
  pub members : List ℕ
  pub addresses : List Address
  pub goes : GoesWith (session_words words) (message_in (from_to (state old) (state read)) words.message) files header
      message members addresses
  pub answer : Result Signature Ending
  pub run : TableRun
      (signing_through files header views.reference views.reference_now message members addresses)
      words.table (from_to (state read) (state new)) net answer
  pub tells : TellsEnd (leaves_through views.commits views.commits_now) views.commits.steady message
      (last_in run.ends) answer told

-- internal: the message was not obtained or does not go with the files, or there was a session
pub data EndsBeside {S : Type 0} (state : S → StoreState) (words : SignWords) (files : KeyFiles) (header : RefHeader)
    (views : ViewsBeside) (old new : S) (net : NetRun) : Result Signature Ending → Type 0 where
  not_begun : (end : Ending)
      → LacksTask (session_words words) (message_in (from_to (state old) (state new)) words.message) files header end
      → IsUnchanged (state old) (state new) → net.after ≡ net.before
      → EndsBeside state words files header views old new net (Err end)
  begun : (told : Result Signature Ending) → SessionBeside state words files header views old new net told
      → EndsBeside state words files header views old new net told
