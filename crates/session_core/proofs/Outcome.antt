-- How a session ends if its members answered with their own masks.
use Rattle.std.proofs.Common.{◌≡◌, ℕ, Bool, IsTrue, List, Result, Ok, Err, IfOk, IfErr, MatchResult, None, inl, inr, refl, sym, ◌∙◌}
use Rattle.std.specs.declared.alloc.Global.{Global}
use Rattle.std.specs.declared.vec.Vec.{Vec}
use Rattle.disk_trait.specs.declared.faults.Faults as faults
use Rattle.lms_bytes.specs.declared.public_key.PublicKey.{PublicKey}
use Rattle.lms_bytes.proofs.Layouts.{one_layout}
use Rattle.lms_verify.specs.Accepts.{AcceptsAt, LeadsTo, root_of_parts}
use Rattle.merkle_path.specs.Tree.{TreeNodes}
use Rattle.reference_value.specs.declared.cells.Cells as cells
use Rattle.session_core.specs.Judging.{round_fault}
use Rattle.session_core.specs.Rounds.{Joins}
use Rattle.session_core.specs.State.{State}
use Rattle.session_core.specs.Verdicts.{FinishFails, JoinFails, LeadsAstray, digest_of, joined_bytes}
use Rattle.session_core.specs.declared.faults.SessionFault.{SessionFault}
use Rattle.session_core.proofs.Digests.{astray-fails}

-- a string leads to one root
leads-once : (key : PublicKey) (message signature : List ℕ) (q : ℕ) (root other : List ℕ) → LeadsTo key message signature q root
    → LeadsTo key message signature q other → root ≡ other
leads-once key message signature q root other a b =
    let same = one_layout key.params signature q q a.c a.y a.path b.c b.y b.path a.layout b.layout in
    let moved : root_of_parts key message q a.c a.y a.path ≡ root_of_parts key message q b.c b.y b.path = rw (same.c_same, same.y_same, same.path_same) refl in
    sym a.root_is ∙ (moved ∙ b.root_is)

pub outcome : {V : Type 0} (items : V → List ℕ) (r : Result V SessionFault) (s : State) (message joined signature : List ℕ) (told : Bool) (before now : ℕ)
    → IfOk r (λ v. items v ≡ joined) → IfErr r (FinishFails s message told joined before now) → joined ≡ signature
    → round_fault s (digest_of s message) ≡ None → AcceptsAt s.key message joined s.leaf → IsTrue told
    → MatchResult r (λ v. items v ≡ signature) (JoinFails before now)
outcome items (Ok v) s message joined signature told before now ok err is none accepts shown = ok ∙ is
outcome items (Err fault) s message joined signature told before now ok (inl memory) is none accepts shown = inl memory
outcome items (Err fault) s message joined signature told before now ok (inr (inl found)) is none accepts shown =
    let clash = sym none ∙ found in
    absurd (cc)
outcome items (Err fault) s message joined signature told before now ok (inr (inr (inl unread))) is none accepts shown = inr (unread.reference, unread.rose)
outcome items (Err fault) s message joined signature told before now ok (inr (inr (inr astray))) is none accepts shown =
    absurd (astray.other (leads-once s.key message joined s.leaf astray.got s.key.root (astray.leads shown) accepts))

-- what a verdict says about bytes that were laid out in a round without a fault
pub judged-joins : {C : Type 0} (c : cells.Ghosts C) (f : faults.Ghosts C) (old new : C) (s : State) (tree : TreeNodes) (message : List ℕ)
    (r : Result (Vec ℕ Global) SessionFault) (bytes : List ℕ) → round_fault s (digest_of s message) ≡ None
    → (IsTrue (c.told old) → bytes ≡ joined_bytes s (c.leaves old) tree message)
    → IfOk r (λ same. AcceptsAt s.key message same.items s.leaf) → IfOk r (λ same. same.items ≡ bytes)
    → IfErr r (LeadsAstray s message bytes) → Joins c f old new s tree message r
judged-joins c f old new s tree message (Ok v) bytes none is accepts same err = record {
  accepted = accepts;
  joined = λ told. same ∙ is told;
  fault = λ fault found. let clash = sym none ∙ found in absurd (cc);
  cause = tt;
  read = λ all faultless. tt;
}
judged-joins c f old new s tree message (Err fault) bytes none is accepts same err = record {
  accepted = tt;
  joined = λ told. tt;
  fault = λ other found. let clash = sym none ∙ found in absurd (cc);
  cause = astray-fails s message (c.told old) bytes (joined_bytes s (c.leaves old) tree message) (f.count old) (f.count new) fault none is err;
  read = λ all faultless e. let clash = sym err.fault_is ∙ e in absurd (cc);
}
