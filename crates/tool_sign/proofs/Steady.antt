-- How commands end over a store and a net that are steady and tell their content.
use Rattle.std.proofs.Common.{◌≡◌, ℕ, List, Option, None, IsTrue, refl, subst}
use Rattle.share_files.specs.declared.reference.RefHeader.{RefHeader}
use Rattle.slot_file.specs.declared.header.Header.{Header}
use Rattle.tool_base.specs.Disks.{DeviceFails}
use Rattle.tool_base.specs.Ending as ending
use Rattle.tool_base.specs.Ending.{Ending}
use Rattle.tool_base.specs.Grammars.{FailsGrammar}
use Rattle.tool_base.specs.Outputs.{IsNotNew, IsNotWritten, Output}
use Rattle.tool_base.specs.Reads.{FailsUpTo}
use Rattle.tool_base.specs.World.{StoreRun}
use Rattle.tool_desk.specs.Files.{FailsKeyFiles, IsOfOtherKey, key_name, reference_name, tree_name}
use Rattle.tool_desk.specs.Reference.{FailsReference}
use Rattle.tool_desk.specs.declared.files.KeyFiles.{KeyFiles}
use Rattle.tool_base.specs.Loads.{FailsToLoad}
use Rattle.tool_sign.proofs.Origins.{Comes, Origins, SignsCome, TaskComes, Unread, grammar-comes, keys-comes, load-comes, new-comes, other-comes, reference-comes, sign-comes, signs-says, unwritten-comes, upto-comes}
use Rattle.tool_sign.specs.Ports.{NetRun, sign_of}
use Rattle.tool_sign.specs.Sign.{SigningRun, session_words}
use Rattle.tool_sign.specs.Tasks.{MessageSource, SessionWords, message_in, message_limit}
use Rattle.tool_words.specs.Words.{SignWords}

-- the store fails only if this is lacking, the net only if this is not offered, and no device does
pub record EndsSteady (lacks unoffered : Type 0) (end : Ending) : Type 0 where
  pub store : end ≡ ending.StoreFailed → lacks
  pub device : end ≡ ending.DeviceFailed → ⊥
  pub net : end ≡ ending.NetFailed → unoffered

module _ (lacks unoffered : Type 0) where
  -- an end that is none of the three
  pub plain : (end : Ending) → (end ≡ ending.StoreFailed → ⊥) → (end ≡ ending.DeviceFailed → ⊥) → (end ≡ ending.NetFailed → ⊥) → EndsSteady lacks unoffered end
  plain end store device net = record { store = λ is. absurd (store is); device = device; net = λ is. absurd (net is) }

  -- what each of the three comes from
  abbrev pub steady_origins : Origins
  steady_origins = record { store = lacks; device = ⊥; net = unoffered; missing = λ member round. Unit {0} }

  pub ends-steady : (end : Ending) → Comes steady_origins end → EndsSteady lacks unoffered end
  ends-steady end comes = record {
    store = λ is. subst (Comes steady_origins) is comes;
    device = λ is. subst (Comes steady_origins) is comes;
    net = λ is. subst (Comes steady_origins) is comes;
  }

  pub lacking : lacks → EndsSteady lacks unoffered ending.StoreFailed
  lacking lack = ends-steady ending.StoreFailed lack

  pub unheard : unoffered → EndsSteady lacks unoffered ending.NetFailed
  unheard none = ends-steady ending.NetFailed none

  module _ (store : StoreRun) (told : IsTrue store.before.told) (steady : IsTrue store.before.steady) where
    -- the end if nothing is read under a name
    abbrev pub Lack : List ℕ → Type 0
    Lack name = store.before.file name ≡ None → lacks

    pub unread : (name : List ℕ) → Lack name → Unread steady_origins store name
    unread name lack read = lack (read.1 told steady)

    no_device : DeviceFails store → ⊥
    no_device fails = fails.unsteady told steady

    pub upto-steady : (limit : ℕ) (name : List ℕ) (end : Ending) → Lack name → FailsUpTo limit store name end → EndsSteady lacks unoffered end
    upto-steady limit name end lack fails = ends-steady end (upto-comes steady_origins store limit name end (unread name lack) fails)

    pub grammar-steady : (f : List ℕ → Option ℕ) (name : List ℕ) (end : Ending) → Lack name → FailsGrammar f store name end → EndsSteady lacks unoffered end
    grammar-steady f name end lack fails = ends-steady end (grammar-comes steady_origins store f name end (unread name lack) fails)

    pub new-steady : (name : List ℕ) (end : Ending) → IsNotNew store name end → EndsSteady lacks unoffered end
    new-steady name end fails = ends-steady end (new-comes steady_origins store name end (λ failed. absurd (failed.unsteady steady)) fails)

    pub unwritten-steady : (written : List Output) (name : List ℕ) (end : Ending) → IsNotWritten store written name end → EndsSteady lacks unoffered end
    unwritten-steady written name end fails = ends-steady end (unwritten-comes steady_origins store written name end (λ failed. absurd (failed.unsteady steady)) fails)

    pub reference-steady : (name : List ℕ) (end : Ending) → Lack name → FailsReference store name end → EndsSteady lacks unoffered end
    reference-steady name end lack fails = ends-steady end (reference-comes steady_origins store name end (unread name lack) no_device fails)

    pub load-steady : (header : Header) (count : ℕ) (name : List ℕ) (end : Ending) → FailsToLoad header count store name end → EndsSteady lacks unoffered end
    load-steady header count name end fails = ends-steady end (load-comes steady_origins store header count name end no_device fails)

    pub keys-steady : (prefix : List ℕ) (end : Ending) → Lack (key_name prefix) → Lack (tree_name prefix) → FailsKeyFiles store prefix end → EndsSteady lacks unoffered end
    keys-steady prefix end key tree fails =
        ends-steady end (keys-comes steady_origins store prefix end (unread (key_name prefix) key) (unread (tree_name prefix) tree) fails)

    pub other-steady : (prefix : List ℕ) (keys : KeyFiles) (header : RefHeader) (end : Ending) → IsOfOtherKey prefix keys header end → EndsSteady lacks unoffered end
    other-steady prefix keys header end fails = ends-steady end (other-comes steady_origins prefix keys header end fails)

    -- sessions, wherever their message comes from
    module _ (asked : SessionWords) (source : MessageSource) where
      pub task-steady : ((end : Ending) → source.fails end → Comes steady_origins end) → Lack (key_name asked.prefix) → Lack (tree_name asked.prefix) → Lack (reference_name asked.prefix)
          → TaskComes steady_origins asked store source
      task-steady message key tree reference = record {
        message = message;
        key = unread (key_name asked.prefix) key;
        tree = unread (tree_name asked.prefix) tree;
        reference = unread (reference_name asked.prefix) reference;
        device = no_device;
      }

      pub signs-steady : (net : NetRun) → IsTrue net.before.told → IsTrue net.before.steady → Lack asked.table → SignsCome steady_origins asked store source net
      signs-steady net net_told net_steady lack s task = record {
        unread = unread asked.table lack;
        unloaded = no_device;
        unoffered = λ rose never. absurd (never net_told net_steady);
        table = λ signed.
            let says = signs-says (sign_of s) signed.old signed.new signed.over.port signed.over.done _ signed.over.signs in
            says.1 (signed.fresh.steady steady) (signed.fresh.told told);
        reference = λ signed. signed.over.unread.succeeds (task.reads.exact told steady) refl;
        lost = λ member round why signed. tt;
      }

-- ---- the command
module _ (lacks unoffered : Type 0) (words : SignWords) (store : StoreRun) (net : NetRun) (told : IsTrue store.before.told) (steady : IsTrue store.before.steady)
    (net_told : IsTrue net.before.told) (net_steady : IsTrue net.before.steady)
    (key : Lack lacks unoffered store told steady (key_name words.prefix)) (tree : Lack lacks unoffered store told steady (tree_name words.prefix))
    (reference : Lack lacks unoffered store told steady (reference_name words.prefix)) (message : Lack lacks unoffered store told steady words.message)
    (lack_table : Lack lacks unoffered store told steady words.table) where
  abbrev origins : Origins
  origins = steady_origins lacks unoffered

  task : TaskComes origins (session_words words) store (message_in store words.message)
  task =
      task-steady lacks unoffered store told steady (session_words words) (message_in store words.message)
      (λ end fails. upto-comes origins store message_limit words.message end (unread lacks unoffered store told steady words.message message) fails) key tree reference

  pub sign-steady : (end : Ending) → SigningRun words store net end → EndsSteady lacks unoffered end
  sign-steady end run =
      ends-steady lacks unoffered end
      (sign-comes origins words store net (λ failed. absurd (failed.unsteady steady)) task
      (signs-steady lacks unoffered store told steady (session_words words) (message_in store words.message) net net_told net_steady lack_table) end run.touched run.ends)
