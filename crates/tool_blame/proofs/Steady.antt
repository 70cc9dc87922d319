-- How the command ends over a steady store and a steady net that tell their content.
use Rattle.std.proofs.Common.{IsTrue}
use Rattle.tool_base.specs.Ending.{Ending}
use Rattle.tool_base.specs.World.{StoreRun}
use Rattle.tool_blame.specs.Blame.{BlameRun}
use Rattle.tool_blame.specs.Commits.{commits_name}
use Rattle.tool_blame.proofs.Origins.{blame-comes}
use Rattle.tool_desk.specs.Files.{key_name, reference_name, tree_name}
use Rattle.tool_sign.proofs.Origins.{upto-comes}
use Rattle.tool_sign.proofs.Steady.{EndsSteady, Lack, ends-steady, signs-steady, steady_origins, task-steady, unread}
use Rattle.tool_sign.specs.Ports.{NetRun}
use Rattle.tool_sign.specs.Sign.{session_words}
use Rattle.tool_sign.specs.Tasks.{message_in, message_limit}
use Rattle.tool_words.specs.Words.{SignWords}

module _ (lacks unoffered : Type 0) (words : SignWords) (store : StoreRun) (net : NetRun) (told : IsTrue store.before.told) (steady : IsTrue store.before.steady)
    (net_told : IsTrue net.before.told) (net_steady : IsTrue net.before.steady)
    (key : Lack lacks unoffered store told steady (key_name words.prefix)) (tree : Lack lacks unoffered store told steady (tree_name words.prefix))
    (reference : Lack lacks unoffered store told steady (reference_name words.prefix)) (commitments : Lack lacks unoffered store told steady (commits_name words.prefix))
    (message : Lack lacks unoffered store told steady words.message) (lack_table : Lack lacks unoffered store told steady words.table) where
  pub blame-steady : (end : Ending) → BlameRun words store net end → EndsSteady lacks unoffered end
  blame-steady end run =
      ends-steady lacks unoffered end
      (blame-comes (steady_origins lacks unoffered) words store net
      (record {
        failed = λ failed. absurd (failed.unsteady steady);
        task = task-steady lacks unoffered store told steady (session_words words) (message_in store words.message)
            (λ one fails. upto-comes (steady_origins lacks unoffered) store message_limit words.message one (unread lacks unoffered store told steady words.message message) fails)
            key tree reference;
        signs = signs-steady lacks unoffered store told steady (session_words words) (message_in store words.message) net net_told net_steady lack_table;
        commits = unread lacks unoffered store told steady (commits_name words.prefix) commitments;
        reads = λ header reads firm are rose never. never (are.told told) (are.steady_is steady);
      })
      end run.touched run.ends)
