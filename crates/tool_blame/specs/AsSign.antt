-- What a run of `blame` is, told as a run of `sign`.
use Rattle.std.specs.Prelude.{◌≡◌, []}
use Rattle.share_files.specs.declared.reference.RefHeader.{RefHeader}
use Rattle.tool_base.specs.Ending.{Ending, status_of}
use Rattle.tool_base.specs.Touched.{Keeps}
use Rattle.tool_base.specs.World.{StoreRun}
use Rattle.tool_desk.specs.declared.files.KeyFiles.{KeyFiles}
use Rattle.tool_sign.specs.Ports.{NetRun}
use Rattle.tool_sign.specs.Sign.{SigningRun, session_words}
use Rattle.tool_sign.specs.Tasks.{HasFiles}
use Rattle.tool_words.specs.Words.{SignWords}
use Rattle.tool_blame.specs.Commits.{FailsCommits, commits_name}

-- A run of `sign` with the same words and this end; or there were no commitments, and nothing was begun; or a run of
-- `sign` that ended with status 8, in whose place this end is told.
pub data IsAsSign (words : SignWords) (store : StoreRun) (net : NetRun) : Ending → Type 0 where
  as_sign : (end : Ending) → SigningRun words store net end → IsAsSign words store net end
  no_commits : (files : KeyFiles) (header : RefHeader) (end : Ending)
      → HasFiles (session_words words) store files header
      → FailsCommits store (commits_name words.prefix) header end → Keeps [] store.before store.after
      → net.after ≡ net.before → IsAsSign words store net end
  named : (end told : Ending) → status_of end ≡ 8 → SigningRun words store net end → IsAsSign words store net told
