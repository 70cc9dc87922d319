-- What a journal's file says about its leaves.
use Rattle.std.proofs.Common.{◌≡◌, ◌<◌, ◌^◌, ◌⊎◌, ℕ, List, [], ◌∷◌, ◌++◌, None, Some, IsTrue, inl, inr, refl, sym, ◌∙◌, ap, subst}
use Rattle.disk_trait.specs.declared.disk.Pages as pages
use Rattle.disk_trait.specs.declared.faults.Faults as faults
use Rattle.lms_bytes.specs.declared.params.Params.{Params}
use Rattle.opening_journal.specs.Entries.{HasEntries, JournalState, LeafState, StandsFor, map_of, state_in_file}
use Rattle.opening_journal.specs.Journal.{IsTold, Keeps, disk_of, header_of, params_of, state_of}
use Rattle.opening_journal.specs.Loaded.{IsLoaded}
use Rattle.opening_journal.specs.Loading.{IsJournalFile, LoadRefused, damaged, no_memory, other_file}
use Rattle.opening_journal.specs.Loading as refused
use Rattle.opening_journal.specs.declared.faults.JournalLoad.{JournalLoad}
use Rattle.opening_journal.specs.declared.faults.JournalLoad.TheVariants as load
use Rattle.slot_file.specs.Copies.{is_damaged}
use Rattle.opening_journal.specs.declared.entry.Entry.{Entry}
use Rattle.opening_journal.specs.declared.journal.Journal.{Journal}
use Rattle.opening_journal.proofs.Held.{holds}
use Rattle.opening_journal.proofs.Maps.{map_of-other, map_of-same}
use Rattle.share_files.specs.declared.share.Share.{Share}
use Rattle.slot_file.specs.declared.header.Header.{Header}
use Rattle.slot_file.specs.declared.header.LoadFault.{LoadFault}
use Rattle.trustee_core.specs.Trustee.{journal_header, journal_of, share_of}
use Rattle.trustee_core.specs.declared.trustee.Trustee.{Trustee}
use Rattle.lms_bytes.specs.declared.ask.Ask.{Ask}
use Rattle.drill_trustees.specs.Members.{Sets, state_after, state_before}
use Rattle.drill_trustees.proofs.Deciding.{Stops}

pub stands-settled : (n count : ℕ) (file : List ℕ) (state : JournalState) → state.doubt ≡ None → StandsFor n count file state → HasEntries n count file state.entries
stands-settled n count file state none stands = elim stands [ inl has ↦ has | inr made ↦ absurd (cc) ]

pub stands-doubt : (n count : ℕ) (file : List ℕ) (state : JournalState) (entry : Entry) → state.doubt ≡ Some entry → StandsFor n count file state
    → HasEntries n count file state.entries ⊎ HasEntries n count file (state.entries ++ entry ∷ [])
stands-doubt n count file state entry is stands = elim stands [
  | inl has ↦ inl has
  | inr made ↦ inr (let same : made.0 ≡ entry = let e = sym made.1 ∙ is in cc in subst (λ (x : Entry). HasEntries n count file (state.entries ++ x ∷ [])) same made.2)
]

module _ {D : Type 0} {p : pages.Ghosts D} {f : faults.Ghosts D} where
  -- the leaves of a file that was loaded
  pub loaded-leaves : (header : Header) (params : Params) (disk : D) (journal : Journal D p f) → IsTrue (p.told disk) → IsLoaded p f header params disk journal
      → (q : ℕ) → q < 2 ^ params.h → map_of (state_of journal).entries q ≡ state_in_file params.n (p.reads disk) q
  loaded-leaves header params disk journal told loaded q within =
      let here : IsTold journal = subst IsTrue (sym loaded.unwritten.stays.told) told in
      let kept = (holds journal).reads here in
      let none : (state_of journal).doubt ≡ None = ap (λ (s : JournalState). s.doubt) (loaded.entries told) in
      let has = stands-settled _ _ _ _ none kept.stands in
      let size = loaded.sized in
      let one : state_in_file (params_of journal).n (p.reads (disk_of journal)) q ≡ map_of (state_of journal).entries q =
      has q (subst (λ (s : Params). q < 2 ^ s.h) (sym size) within) in
      sym one ∙ ap (λ (s : Params). state_in_file s.n (p.reads (disk_of journal)) q) size ∙ ap (λ (b : List ℕ). state_in_file params.n b q) (loaded.unwritten.same told)

-- a journal's file is refused only for want of memory and for a disk that failed
refused-well : (header : Header) (count : ℕ) (file : List ℕ) (why : JournalLoad) → IsJournalFile header count file
    → LoadRefused header count file why
    → (why ≡ load.Device → ⊥) → (why ≡ load.NoMemory → ⊥) → ⊥
refused-well header count file why is (other_file fault opens) device memory = let e = sym is.opens ∙ opens in cc
refused-well header count file why is (damaged leaf a b opens first) device memory =
    let e = sym (is.whole leaf first.within) ∙ ap is_damaged first.here in cc
refused-well header count file why is refused.device device memory = device refl
refused-well header count file why is (no_memory opens) device memory = memory refl

slots-refused : (header : Header) (count : ℕ) (file : List ℕ) (why : JournalLoad) (fault : LoadFault)
    → IsJournalFile header count file → LoadRefused header count file why
    → why ≡ load.Slots fault → ⊥
slots-refused header count file why fault is refused slots =
    refused-well header count file why is refused (λ device. cc) (λ memory. cc)

damaged-refused : (header : Header) (count : ℕ) (file : List ℕ) (why : JournalLoad) (leaf a b : ℕ)
    → IsJournalFile header count file → LoadRefused header count file why
    → why ≡ load.Damaged leaf a b → ⊥
damaged-refused header count file why leaf a b is refused damage =
    refused-well header count file why is refused (λ device. cc) (λ memory. cc)

-- the file of a trustee's journal is no other file, and no slot of it is damaged
module _ (share : Share) (h : share.params.h ≡ 5) (file : List ℕ) (is : IsJournalFile (journal_header share) 32 file)
    (header : Header) (same : header ≡ journal_header share)
    (why : JournalLoad) (refused : LoadRefused header (2 ^ share.params.h) file why) where
  here-refused : LoadRefused (journal_header share) 32 file why
  here-refused =
      subst (λ (count : ℕ). LoadRefused (journal_header share) count file why) (ap (λ (k : ℕ). 2 ^ k) h)
      (subst (λ (x : Header). LoadRefused x (2 ^ share.params.h) file why) same refused)

  pub no-slots : {fault : LoadFault} → why ≡ load.Slots fault → ⊥
  no-slots {fault} slots = slots-refused (journal_header share) 32 file why fault is here-refused slots

  pub no-damage : {leaf a b : ℕ} → why ≡ load.Damaged leaf a b → ⊥
  no-damage {leaf} {a} {b} damage = damaged-refused (journal_header share) 32 file why leaf a b is here-refused damage

-- what a trustee's file says about its leaves
module _ {D : Type 0} {p : pages.Ghosts D} {f : faults.Ghosts D} (trustee : Trustee D p f) (share : Share) (own : share_of trustee ≡ share)
    (n : share.params.n ≡ 32) (h : share.params.h ≡ 5)
    (header : header_of (journal_of trustee) ≡ journal_header (share_of trustee)) (params : params_of (journal_of trustee) ≡ (share_of trustee).params) where
  same-header : header_of (journal_of trustee) ≡ journal_header share
  same-header = header ∙ ap (λ (s : Share). journal_header s) own

  same-params : params_of (journal_of trustee) ≡ share.params
  same-params = params ∙ ap (λ (s : Share). s.params) own

  count-is : 2 ^ (params_of (journal_of trustee)).h ≡ 32
  count-is = ap (λ (s : Params). 2 ^ s.h) same-params ∙ ap (λ (k : ℕ). 2 ^ k) h

  size-is : (params_of (journal_of trustee)).n ≡ 32
  size-is = ap (λ (s : Params). s.n) same-params ∙ n

  pub file-of : (file : List ℕ) → Keeps (journal_of trustee) file → IsJournalFile (journal_header share) 32 file
  file-of file keeps =
      subst (λ (x : Header). IsJournalFile x 32 file) same-header
      (subst (λ (k : ℕ). IsJournalFile (header_of (journal_of trustee)) k file) count-is keeps.loads)

  pub stands-of : (file : List ℕ) → Keeps (journal_of trustee) file → StandsFor 32 32 file (state_of (journal_of trustee))
  stands-of file keeps =
      subst (λ (k : ℕ). StandsFor k 32 file (state_of (journal_of trustee))) size-is
      (subst (λ (k : ℕ). StandsFor (params_of (journal_of trustee)).n k file (state_of (journal_of trustee))) count-is keeps.stands)

  pub leaves-of : (file : List ℕ) → (state_of (journal_of trustee)).doubt ≡ None → Keeps (journal_of trustee) file
      → (q : ℕ) → q < 32 → state_in_file 32 file q ≡ map_of (state_of (journal_of trustee)).entries q
  leaves-of file none keeps = stands-settled 32 32 file (state_of (journal_of trustee)) none (stands-of file keeps)

-- a trustee whose disk stopped within an ask is loaded anew
pub stopped-sets : (before after : JournalState) (ask : Ask) (file : List ℕ) (new : ℕ → LeafState) → ask.leaf < 32 → Stops before after ask → StandsFor 32 32 file after
    → ((q : ℕ) → q < 32 → new q ≡ state_in_file 32 file q) → Sets (map_of before.entries) new ask.leaf (state_before ask) ⊎ Sets (map_of before.entries) new ask.leaf (state_after ask)
stopped-sets before after ask file new within stops stands loaded = elim (stands-doubt 32 32 file after stops.entry stops.doubt stands) [
  | inl has ↦ inl (record {
    here = loaded ask.leaf within ∙ has ask.leaf within ∙ ap (λ (l : List Entry). map_of l ask.leaf) stops.entries ∙ stops.state;
    others = λ other low differs. loaded other low ∙ has other low ∙ ap (λ (l : List Entry). map_of l other) stops.entries;
  })
  | inr has ↦ inr (record {
    here = loaded ask.leaf within ∙ has ask.leaf within ∙ map_of-same after.entries stops.entry ask.leaf (sym stops.leaf) ∙ stops.makes;
    others = λ other low differs.
        loaded other low ∙ has other low ∙ map_of-other after.entries stops.entry other (λ same. differs (same ∙ stops.leaf))
        ∙ ap (λ (l : List Entry). map_of l other) stops.entries;
  })
]
