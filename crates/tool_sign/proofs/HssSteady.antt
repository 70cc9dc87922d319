-- How the command ends over a store and a net that are steady and tell their content.
use Rattle.std.proofs.Common.{IsTrue}
use Rattle.tool_base.specs.Ending.{Ending}
use Rattle.tool_base.specs.World.{StoreRun}
use Rattle.tool_desk.specs.Files.{key_name, reference_name, tree_name}
use Rattle.tool_sign.specs.HssSign.{HssSigningRun, session_words}
use Rattle.tool_sign.proofs.Origins.{levels-comes, of_lower}
use Rattle.tool_sign.proofs.Steady.{EndsSteady, Lack, ends-steady, signs-steady, steady_origins, task-steady, unread}
use Rattle.tool_sign.specs.Ports.{NetRun}
use Rattle.tool_words.specs.Words.{HssSignWords}

module _ (lacks unoffered : Type 0) (words : HssSignWords) (store : StoreRun) (net : NetRun) (told : IsTrue store.before.told) (steady : IsTrue store.before.steady)
    (net_told : IsTrue net.before.told) (net_steady : IsTrue net.before.steady)
    (low_key : Lack lacks unoffered store told steady words.low_key) (low_signature : Lack lacks unoffered store told steady words.low_signature)
    (message : Lack lacks unoffered store told steady words.message)
    (key : Lack lacks unoffered store told steady (key_name words.prefix)) (tree : Lack lacks unoffered store told steady (tree_name words.prefix))
    (reference : Lack lacks unoffered store told steady (reference_name words.prefix)) (lack_table : Lack lacks unoffered store told steady words.table) where
  pub levels-steady : (end : Ending) → HssSigningRun words store net end → EndsSteady lacks unoffered end
  levels-steady end run =
      ends-steady lacks unoffered end
      (levels-comes (steady_origins lacks unoffered) words store net (λ failed. absurd (failed.unsteady steady))
      (record {
        key = unread lacks unoffered store told steady words.low_key low_key;
        signature = unread lacks unoffered store told steady words.low_signature low_signature;
        message = unread lacks unoffered store told steady words.message message;
      })
      (λ lower ready. task-steady lacks unoffered store told steady (session_words words) (of_lower lower) (λ one never. absurd never) key tree reference)
      (λ lower ready. signs-steady lacks unoffered store told steady (session_words words) (of_lower lower) net net_told net_steady lack_table) end run.touched run.ends)
