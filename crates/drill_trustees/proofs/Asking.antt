-- What an ask does to a trustee whose disk does not stop.
use Rattle.std.proofs.Common.{◌≡◌, ◌≢◌, ◌<◌, ℕ, List, None, Result, Ok, Err, IfOk, IsTrue, refl, sym, ◌∙◌, ap, subst, inl, inr}
use Rattle.opening_journal.specs.declared.faults.JournalFault.TheVariants as journal
use Rattle.disk_trait.specs.declared.disk.Pages as pages
use Rattle.disk_trait.specs.declared.faults.Faults as faults
use Rattle.lms_bytes.specs.declared.ask.Ask.{Ask}
use Rattle.opening_journal.specs.Entries.{JournalState, LeafState, StandsFor, map_of, state_in_file}
use Rattle.opening_journal.specs.Journal.{IsSteady, IsTold, state_of}
use Rattle.opening_journal.specs.declared.journal.Journal.{Journal}
use Rattle.share_files.specs.declared.share.Share.{Share}
use Rattle.trustee_core.specs.Decisions.{Decides, Granted, Refused, answer_in}
use Rattle.trustee_core.specs.Trustee.{Decided, journal_of, share_of}
use Rattle.trustee_core.specs.declared.trustee.Trustee.{Trustee}
use Rattle.trustee_core.specs.declared.grant.Grant.{Grant}
use Rattle.trustee_core.specs.declared.refusal.Refusal.{Refusal}
use Rattle.trustee_core.specs.declared.refusal.Refusal.TheVariants as refusal
use Rattle.drill_trustees.specs.Members.{CutSets, MayAsk, Sets, answer_to, state_after, state_before}
use Rattle.drill_trustees.specs.declared.member.Answer.{Answer as Became}
use Rattle.drill_trustees.specs.declared.member.Answer.TheVariants as answer
use Rattle.trustee_core.specs.Grants.{ask_of}
use Rattle.drill_trustees.proofs.Deciding.{Grants, decided, settled}
use Rattle.drill_trustees.proofs.Journals.{stands-settled, stopped-sets}

pub answer-device : (result : Result Grant Refusal) → answer_in result ≡ Refused (refusal.Journal journal.Device) → result ≡ Err (refusal.Journal journal.Device)
answer-device (Ok grant) is = absurd (cc)
answer-device (Err why) is = let same : why ≡ refusal.Journal journal.Device = cc in ap Err same

module _ (share : Share) (before after : JournalState) (ask : Ask) (result : Result Grant Refusal) (none : before.doubt ≡ None)
    (goes : result ≢ Err (refusal.Journal journal.Device)) (does : Decides share before ask 0 (answer_in result) after) where
  pub asked-settled : after.doubt ≡ None
  asked-settled = settled share before ask 0 (answer_in result) after none (λ is. goes (answer-device result is)) does

  pub asked-grants : MayAsk share (map_of before.entries) ask
      → (answer_in result ≡ Granted) × Sets (map_of before.entries) (map_of after.entries) ask.leaf (state_after ask)
  asked-grants may = elim (decided share before ask 0 (answer_in result) after none refl may does) [
    | inl grants ↦ (grants.0, grants.1.sets)
    | inr stops ↦ absurd (goes (answer-device result stops.0))
  ]

-- a trustee whose disk is told and steady
module _ {D : Type 0} {p : pages.Ghosts D} {f : faults.Ghosts D} (old new : Trustee D p f) (share : Share) (ask : Ask) (result : Result Grant Refusal)
    (own : share_of old ≡ share) (none : (state_of (journal_of old)).doubt ≡ None) (told : IsTold (journal_of old)) (steady : IsSteady (journal_of old))
    (does : Decides (share_of old) (state_of (journal_of old)) ask 0 (answer_in result) (state_of (journal_of new))) (says : Decided old new result) where
  goes : result ≢ Err (refusal.Journal journal.Device)
  goes = says.succeeds steady told

  pub still-own : share_of new ≡ share
  still-own = says.share ∙ own

  pub still-settled : (state_of (journal_of new)).doubt ≡ None
  still-settled = asked-settled (share_of old) (state_of (journal_of old)) (state_of (journal_of new)) ask result none goes does

  pub still-steady : IsSteady (journal_of new)
  still-steady = subst IsTrue (sym says.stays.disk.steady) steady

  pub still-sets : MayAsk share (map_of (state_of (journal_of old)).entries) ask
      → (answer_in result ≡ Granted) × Sets (map_of (state_of (journal_of old)).entries) (map_of (state_of (journal_of new)).entries) ask.leaf (state_after ask)
  still-sets may =
      asked-grants (share_of old) (state_of (journal_of old)) (state_of (journal_of new)) ask result none goes does
      (subst (λ (s : Share). MayAsk s (map_of (state_of (journal_of old)).entries) ask) (sym own) may)

of-granted : (old new : ℕ → LeafState) (ask : Ask) (result : Result Grant Refusal) → IfOk result (λ grant. ask_of grant ≡ ask) → answer_in result ≡ Granted
    → Sets old new ask.leaf (state_after ask) → CutSets old new ask (answer_to result)
of-granted old new ask (Ok grant) is_ask is sets = (is_ask, sets)
of-granted old new ask (Err why) is_ask is sets = absurd (cc)

-- what an ask that may be put does to the leaves, if its journal goes on with what this file keeps
module _ (share : Share) (before after : JournalState) (ask : Ask) (result : Result Grant Refusal) (none : before.doubt ≡ None) (may : MayAsk share (map_of before.entries) ask)
    (does : Decides share before ask 0 (answer_in result) after) (is_ask : IfOk result (λ grant. ask_of grant ≡ ask)) (file : List ℕ) (new : ℕ → LeafState)
    (within : ask.leaf < 32) (stands : StandsFor 32 32 file after) (loaded : (q : ℕ) → q < 32 → new q ≡ state_in_file 32 file q) where
  then-sets : (answer_in result ≡ Granted) × Grants before after ask → Sets (map_of before.entries) new ask.leaf (state_after ask)
  then-sets grants =
      let has = stands-settled 32 32 file after grants.1.doubt stands in
      record {
        here = loaded ask.leaf within ∙ has ask.leaf within ∙ grants.1.sets.here;
        others = λ other low differs. loaded other low ∙ has other low ∙ grants.1.sets.others other low differs;
      }

  pub cut-sets : CutSets (map_of before.entries) new ask (answer_to result)
  cut-sets = elim (decided share before ask 0 (answer_in result) after none refl may does) [
    | inl grants ↦ of-granted (map_of before.entries) new ask result is_ask grants.0 (then-sets grants)
    | inr stops ↦
        let is = answer-device result stops.0 in
        subst (λ (r : Result Grant Refusal). CutSets (map_of before.entries) new ask (answer_to r)) (sym is) (stopped-sets before after ask file new within stops.1 stands loaded)
  ]

-- the same for a trustee of a journal
module _ {D : Type 0} {p : pages.Ghosts D} {f : faults.Ghosts D} (old new : Trustee D p f) (journal : Journal D p f) (share : Share) (ask : Ask)
    (result : Result Grant Refusal) (own : share_of old ≡ share) (is : journal_of old ≡ journal) (none : (state_of journal).doubt ≡ None)
    (does : Decides (share_of old) (state_of (journal_of old)) ask 0 (answer_in result) (state_of (journal_of new)))
    (is_ask : IfOk result (λ grant. ask_of grant ≡ ask)) where
  here : Decides share (state_of journal) ask 0 (answer_in result) (state_of (journal_of new))
  here =
      subst (λ (s : Share). Decides s (state_of journal) ask 0 (answer_in result) (state_of (journal_of new))) own
      (subst (λ (j : Journal D p f). Decides (share_of old) (state_of j) ask 0 (answer_in result) (state_of (journal_of new))) is does)

  pub stopping : (file : List ℕ) (leaves : ℕ → LeafState) → share.params.h ≡ 5 → MayAsk share (map_of (state_of journal).entries) ask
      → StandsFor 32 32 file (state_of (journal_of new)) → ((q : ℕ) → q < 32 → leaves q ≡ state_in_file 32 file q)
      → CutSets (map_of (state_of journal).entries) leaves ask (answer_to result)
  stopping file leaves h may stands loaded =
      let within : ask.leaf < 32 = rw h at may.for_leaf.leaf in
      cut-sets share (state_of journal) (state_of (journal_of new)) ask result none may here is_ask file leaves within stands loaded

-- leaves that are the same
module _ (share : Share) (a b : ℕ → LeafState) (ask : Ask) (h : share.params.h ≡ 5) (same : (q : ℕ) → q < 32 → a q ≡ b q) where
  pub may-same : MayAsk share a ask → MayAsk share b ask
  may-same may =
      let within : ask.leaf < 32 = rw h at may.for_leaf.leaf in
      record {
        for_leaf = may.for_leaf;
        tag = may.tag;
        state = elim may.state [ inl was ↦ inl (sym (same ask.leaf within) ∙ was) | inr now ↦ inr (sym (same ask.leaf within) ∙ now) ];
      }

  sets-same : (new : ℕ → LeafState) (q : ℕ) (state : LeafState) → Sets b new q state → Sets a new q state
  sets-same new q state sets = record { here = sets.here; others = λ other low differs. sets.others other low differs ∙ sym (same other low) }

  pub cut-same : (new : ℕ → LeafState) (became : Became) → CutSets b new ask became → CutSets a new ask became
  cut-same new (answer.Granted grant) cut = (cut.0, sets-same new ask.leaf (state_after ask) cut.1)
  cut-same new answer.Refused cut = cut
  cut-same new answer.Stopped cut = elim cut [
    | inl was ↦ inl (sets-same new ask.leaf (state_before ask) was)
    | inr now ↦ inr (sets-same new ask.leaf (state_after ask) now)
  ]

  -- a disk that stopped before the ask
  pub stopped-before : MayAsk share a ask → CutSets a b ask answer.Stopped
  stopped-before may =
      let within : ask.leaf < 32 = rw h at may.for_leaf.leaf in
      elim may.state [
        | inl was ↦ inl (record { here = sym (same ask.leaf within) ∙ was; others = λ other low differs. sym (same other low) })
        | inr now ↦ inr (record { here = sym (same ask.leaf within) ∙ now; others = λ other low differs. sym (same other low) })
      ]
