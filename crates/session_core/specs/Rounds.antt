-- How the rounds of a session end, over cells of a reference.
use Rattle.std.specs.Prelude.{◌≡◌, ◌≢◌, ℕ, List, length, IsTrue, Result, Err, IfOk, IfErr, MatchResult, None, Some}
use Rattle.std.specs.declared.alloc.Global.{Global}
use Rattle.std.specs.declared.vec.Vec.{Vec}
use Rattle.disk_trait.specs.declared.faults.Faults as faults
use Rattle.lms_verify.specs.Accepts.{AcceptsAt}
use Rattle.lms_verify.specs.UndividedKey.{UndividedKey, rfc_signature}
use Rattle.merkle_path.specs.Tree.{TreeNodes}
use Rattle.reference_value.specs.Dealing.{Dealing, leaf_randomizer, reference}
use Rattle.reference_value.specs.declared.cells.Cells as cells
use Rattle.session_core.specs.Dealing.{FirstMasks, IsAnswered, IsOfDealing}
use Rattle.session_core.specs.Judging.{round_fault}
use Rattle.session_core.specs.State.{State, turned}
use Rattle.session_core.specs.Verdicts.{FinishFails, JoinFails, Turned, digest_of, joined_bytes, joined_c}
use Rattle.session_core.specs.declared.faults.SessionFault.{SessionFault}
use Rattle.session_core.specs.declared.faults.SessionFault.TheVariants.{Reference}
use Rattle.mask_prf.specs.Lengths.{leaves_length}

-- cells that give a session what they have whenever they are asked: they are steady and tell all leaves of its plan
pub record GiveAll {C : Type 0} (c : cells.Ghosts C) (f : faults.Ghosts C) (own : C) (s : State) : Type 0 where
  pub steady : IsTrue (f.steady own)
  pub told : IsTrue (c.told own)
  pub whole : length (c.leaves own) ≡ leaves_length s.key.params s.plan

-- What a session in round one became if it went on: all replies were masks, and the randomizer is that of the cells, if
-- they tell it, XOR the masks; over a dealer's reference, with each member's own mask, it is the dealer's.
pub record TurnsTo {C : Type 0} (c : cells.Ghosts C) (old : C) (before after : State) : Type 0 where
  pub joined : IsTrue (c.told old) → after ≡ turned before (joined_c before (c.leaves old))
  pub dealt : (d : Dealing) (key : UndividedKey) → IsTrue (c.told old) → c.leaves old ≡ reference d
      → IsOfDealing d key before → FirstMasks d before → after ≡ turned before (leaf_randomizer d before.leaf)
  pub turned : Turned before after

-- How joining round two ends for a message: with bytes that are accepted under the key for the session's leaf, which
-- are the layout of what was joined if the cells tell it; with the first fault of the round; or for another cause, of
-- which cells that give all that they have are none.
pub record Joins {C : Type 0} (c : cells.Ghosts C) (f : faults.Ghosts C) (old new : C) (s : State) (tree : TreeNodes)
    (message : List ℕ) (result : Result (Vec ℕ Global) SessionFault) : Type 0 where
  pub accepted : IfOk result (λ bytes. AcceptsAt s.key message bytes.items s.leaf)
  pub joined : IsTrue (c.told old) → IfOk result (λ bytes. bytes.items ≡ joined_bytes s (c.leaves old) tree message)
  pub fault : (fault : SessionFault) → round_fault s (digest_of s message) ≡ Some fault → result ≡ Err fault
  pub cause : IfErr result (FinishFails s message (c.told old) (joined_bytes s (c.leaves old) tree message)
      (f.count old) (f.count new))
  pub read : GiveAll c f old s → round_fault s (digest_of s message) ≡ None
      → IfErr result (λ fault. fault ≢ Reference)

-- The same if the session may be of a dealing: over the dealer's reference and tree, and with the members' own masks,
-- the bytes are RFC 8554's signature of the undivided key (section 5.4.1), or memory ran out or the reference was not
-- read.
pub record Finishes {C : Type 0} (c : cells.Ghosts C) (f : faults.Ghosts C) (old new : C) (s : State)
    (tree : TreeNodes) (message : List ℕ) (result : Result (Vec ℕ Global) SessionFault) : Type 0 where
  pub joins : Joins c f old new s tree message result
  pub dealt : (d : Dealing) (key : UndividedKey) → IsTrue (c.told old)
      → IsAnswered d key s (digest_of s message) (c.leaves old) tree
      → MatchResult result (λ bytes. bytes.items ≡ rfc_signature key s.leaf (leaf_randomizer d s.leaf) message)
      (JoinFails (f.count old) (f.count new))
