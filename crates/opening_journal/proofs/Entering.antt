-- What binding and opening do to a journal: it is settled, and then answers or puts an entry.
use Rattle.std.proofs.Common.{◌≡◌, ◌≢◌, ◌<◌, ◌^◌, ℕ, List, Result, Ok, Err, IsTrue, false, refl, sym, ap, ◌∙◌}
use Rattle.std.proofs.Common.{subst}
use Rattle.disk_trait.specs.declared.disk.Pages as pages
use Rattle.disk_trait.specs.declared.faults.Faults as faults
use Rattle.lms_bytes.specs.declared.params.Params.{Params}
use Rattle.opening_journal.specs.Answers.{AnswersAs, BindsAs, HasSizes, Makes, OpensAs}
use Rattle.opening_journal.specs.Entries.{Adds, JournalState, LeafState, map_of, state_of_slot}
use Rattle.opening_journal.specs.Journal.{Enters, IsSteady, IsTold, Stays, faults_of, params_of, state_of}
use Rattle.opening_journal.specs.declared.entry.Entry.{Entry}
use Rattle.opening_journal.specs.declared.entry.Entry.TheVariants.{Bound, Opened}
use Rattle.opening_journal.specs.declared.faults.Entered.{Entered}
use Rattle.opening_journal.specs.declared.faults.Entered.TheVariants.{New, Old}
use Rattle.opening_journal.specs.declared.faults.JournalFault.{JournalFault}
use Rattle.opening_journal.specs.declared.faults.JournalFault.TheVariants.{Device, Damaged, NotBound, Spent}
use Rattle.opening_journal.specs.declared.faults.JournalFault.TheVariants.{OtherDigest}
use Rattle.opening_journal.specs.declared.journal.Journal.{Journal}
use Rattle.slot_file.proofs.Held.{holds as cache_holds}
use Rattle.disk_trait.proofs.SameDisk.{same-then}
use Rattle.slot_file.specs.Cache.{count_of, state_of as cache_state}
use Rattle.slot_file.specs.Copies.{is_damaged}
use Rattle.disk_trait.specs.Faults.{RisesAt}
use Rattle.slot_file.specs.State.{slot_in}
use Rattle.slot_file.specs.declared.slot.Slot.{Slot}

err-as : {V W E : Type 0} (x y : E) → ◌≡◌ {A = Result W E} (Err x) (Err y) → ◌≡◌ {A = Result V E} (Err x) (Err y)
err-as x y is = ap Err (cc)

pub ok-never : {V E : Type 0} (value : V) (x : E) → ◌≡◌ {A = Result V E} (Ok value) (Err x) → ⊥
ok-never value x is = absurd (cc)

-- a leaf's fault is none of the disk's
pub fault-sound : (entry : Entry) (state : LeafState) (fault : JournalFault) → AnswersAs entry state (Err fault)
    → ◌≢◌ {A = Result Entered JournalFault} (Err fault) (Err Device)
fault-sound (Bound leaf message) state fault answers is = subst (BindsAs message state) is answers
fault-sound (Opened leaf message c digest moment) state fault answers is = subst (OpensAs message c digest state) is answers

pub fault-whole : (entry : Entry) (state : LeafState) (fault : JournalFault) → AnswersAs entry state (Err fault)
    → (leaf a b : ℕ) → ◌≢◌ {A = Result Entered JournalFault} (Err fault) (Err (Damaged leaf a b))
fault-whole (Bound leaf message) state fault answers torn a b is = subst (BindsAs message state) is answers
fault-whole (Opened leaf message c digest moment) state fault answers torn a b is =
    subst (OpensAs message c digest state) is answers

-- a leaf that answers New may follow
pub adds-new : (entry : Entry) (state : LeafState) → AnswersAs entry state (Ok New) → Adds entry state
adds-new (Bound leaf message) state is = is
adds-new (Opened leaf message c digest moment) state is = is

pub old-sound : ◌≢◌ {A = Result Entered JournalFault} (Ok Old) (Err Device)
old-sound is = ok-never Old Device is

pub old-whole : (leaf a b : ℕ) → ◌≢◌ {A = Result Entered JournalFault} (Ok Old) (Err (Damaged leaf a b))
old-whole leaf a b is = ok-never Old (Damaged leaf a b) is

-- a put is made or fails by the disk
pub put-ends : (entries : List Entry) (entry : Entry) (result : Result Entered JournalFault) (after : JournalState)
    → Makes entries entry result after
    → result ≢ Ok New → result ≢ Err Device → ⊥
put-ends entries entry (Ok New) after makes new device = new refl
put-ends entries entry (Ok Old) after makes new device = makes
put-ends entries entry (Err Device) after makes new device = device refl
put-ends entries entry (Err (Damaged leaf a b)) after makes new device = makes
put-ends entries entry (Err NotBound) after makes new device = makes
put-ends entries entry (Err (Spent other)) after makes new device = makes
put-ends entries entry (Err (OtherDigest c digest)) after makes new device = makes

module _ {D : Type 0} {p : pages.Ghosts D} {f : faults.Ghosts D} {old mid : Journal D p f} (stays : Stays old mid) where
  -- a leaf once the journal is settled
  module _ (leaf : ℕ) (within : leaf < 2 ^ (params_of old).h) where
    pub leaf-within : leaf < 2 ^ (params_of mid).h
    leaf-within = subst (λ (q : Params). leaf < 2 ^ q.h) (sym stays.params) within

    pub leaf-counted : leaf < count_of mid.slots
    leaf-counted = subst (λ (count : ℕ). leaf < count) (sym mid.count) leaf-within

    module _ (slot : Slot) (is : slot ≡ slot_in (cache_state mid.slots).slots leaf) where
      pub leaf-whole : is_damaged slot ≡ false
      leaf-whole = ap is_damaged is ∙ (cache_holds mid.slots).whole leaf leaf-counted

      pub leaf-is : state_of_slot (params_of mid).n slot ≡ map_of (state_of mid).entries leaf
      leaf-is = ap (state_of_slot (params_of mid).n) is ∙ mid.held.slots leaf leaf-counted

  pub sized-entry : (entry : Entry) → HasSizes (params_of old).n entry → HasSizes (params_of mid).n entry
  sized-entry entry sizes = subst (λ (q : Params). HasSizes q.n entry) (sym stays.params) sizes

  -- what the calls say about the disk
  module _ {V : Type 0} {result : Result V JournalFault}
      (told : IsTold old → (leaf a b : ℕ) → result ≢ Err (Damaged leaf a b))
      (succeeds : IsSteady old → IsTold old → result ≢ Err Device)
      (cause : RisesAt (faults_of old) (faults_of mid) result (Err Device)) where
    pub enters-unsettled : (fault : JournalFault) → result ≡ Err fault → Enters old mid (Err fault)
    enters-unsettled fault is = record {
      told = λ tells leaf a b same. told tells leaf a b (is ∙ err-as fault (Damaged leaf a b) same);
      succeeds = λ steady tells same. succeeds steady tells (is ∙ err-as fault Device same);
      cause = record {
        later = cause.later;
        failed = λ same. cause.failed (is ∙ err-as fault Device same);
        others = λ differs. cause.others (λ same. differs (err-as fault Device (sym is ∙ same)));
      };
      stays = stays;
    }

    module _ {value : V} (settled : result ≡ Ok value) where
      no-rise : faults_of mid ≡ faults_of old
      no-rise = cause.others (λ same. ok-never value Device (sym settled ∙ same))

      pub enters-answered : (answer : Result Entered JournalFault)
          → ((leaf a b : ℕ) → answer ≢ Err (Damaged leaf a b)) → answer ≢ Err Device → Enters old mid answer
      enters-answered answer whole sound = record {
        told = λ tells. whole;
        succeeds = λ steady tells. sound;
        cause = record { later = cause.later; failed = λ same. absurd (sound same); others = λ differs. no-rise };
        stays = stays;
      }

      pub enters-put : {new : Journal D p f} {answer : Result Entered JournalFault} (entry : Entry)
          → Makes (state_of mid).entries entry answer (state_of new) → (IsSteady mid → IsTold mid → answer ≢ Err Device)
          → RisesAt (faults_of mid) (faults_of new) answer (Err Device) → Stays mid new → Enters old new answer
      enters-put {new} {answer} entry makes sound rises next = record {
        told = λ tells leaf a b same.
            subst (λ (r : Result Entered JournalFault). Makes (state_of mid).entries entry r (state_of new)) same makes;
        succeeds = λ steady tells.
            sound (subst IsTrue (sym stays.disk.steady) steady) (subst IsTrue (sym stays.disk.told) tells);
        cause = subst (λ (count : ℕ). RisesAt count (faults_of new) answer (Err Device)) no-rise rises;
        stays = record {
          params = next.params ∙ stays.params;
          header = next.header ∙ stays.header;
          disk = same-then p f _ _ _ stays.disk next.disk;
        };
      }
