-- What calls of two disks do, one after the other, when one file is copied to another disk.
use Rattle.std.proofs.Common.{◌≡◌, ◌≢◌, ◌⊎◌, ◌<◌, ◌≤◌, ◌↔◌, if◌then◌else◌, Bool, true, false, ℕ, [], List, length, ◌∷◌, Err, Ok, Result, IfErr, IsErrAnd, IfOk, IsTrue, inl, inr, refl, sym, ◌∙◌, ap, subst, arith}
use Rattle.std.proofs.lemmas.Result.{err_from_is_err_and}
use Rattle.disk_trait.specs.Disks.{SameKind}
use Rattle.disk_trait.specs.Faults.{Rose}
use Rattle.disk_trait.specs.declared.disk.Pages as pages
use Rattle.disk_trait.specs.declared.faults.Faults as faults
use Rattle.slot_file.specs.Copying.{CopyCalls, IsDamaged, IsStableCopy}
use Rattle.disk_trait.specs.SameDisk.{SameDisk}
use Rattle.slot_file.specs.Doubts.{looked}
use Rattle.slot_file.specs.Fresh.{AreUnready, NeverHalf, RefusesFull}
use Rattle.slot_file.specs.Slots.{IsHonest, IsTold, MayLeave, OnlyLooked, Stays, doubt_of, faults_of, file_of}
use Rattle.slot_file.specs.declared.copies.CopyFault.{CopyFault}
use Rattle.slot_file.specs.declared.copies.CopyFault.TheVariants.{Device, NotEmpty}
use Rattle.slot_file.specs.declared.header.Header.{Header}
use Rattle.slot_file.specs.declared.slots.Doubt.{Doubt}
use Rattle.slot_file.specs.declared.slots.Doubt.TheVariants.{Nowhere}
use Rattle.slot_file.specs.declared.slots.Slots.{Slots}
use Rattle.disk_trait.proofs.SameDisk.{same-none, same-then}

-- an error that is passed on
pub device-answer : {T X : Type 0} {device : X} (answer : Result T X) → IsErrAnd answer (λ fault. fault ≡ device) → answer ≡ Err device
device-answer answer is = (let fault = err_from_is_err_and answer is in fault.1 ∙ ap Err fault.2)

-- what holds of that error
pub device-says : {T X : Type 0} {device : X} (P : X → Type 0) (answer : Result T X) → IsErrAnd answer (λ fault. fault ≡ device) → P device → IfErr answer P
device-says P (Ok value) is holds = tt
device-says P (Err fault) is holds = subst P (sym is) holds

-- that error, and a value, are not other errors
pub device-not-held : {T : Type 0} (answer : Result T CopyFault) → IsErrAnd answer (λ fault. fault ≡ Device) → (held : ℕ) → answer ≢ Err (NotEmpty held)
device-not-held (Ok value) is held same = absurd (cc)
device-not-held (Err fault) is held same = absurd (cc)

pub value-not : {T : Type 0} (value : T) (fault : CopyFault) → ◌≢◌ {A = Result T CopyFault} (Ok value) (Err fault)
value-not value fault is = cc

pub none-held : (held : List ℕ) → length held ≤ 0 → held ≡ []
none-held [] short = refl
none-held (x ∷ held) short = absurd (omega arith)

nowhere-kept : (done : Bool) (slot : ℕ) (doubt now : Doubt) → now ≡ (if done then looked slot doubt else doubt) → doubt ≡ Nowhere → now ≡ Nowhere
nowhere-kept true slot doubt now is none = is ∙ ap (looked slot) none
nowhere-kept false slot doubt now is none = is ∙ none

-- slots that are only looked at
module _ {E : Type 0} {q : pages.Ghosts E} {h : faults.Ghosts E} where
  pub looked-none : (from : Slots E q h) → OnlyLooked from from
  looked-none from = record {
    same = λ told. refl;
    images = λ honest image. (λ leaves. leaves, λ leaves. leaves);
    doubt = λ nowhere. nowhere;
    stays = record { header = refl; count = refl; disk = same-none q h from.disk };
  }

  pub looked-then : (from mid now : Slots E q h) → OnlyLooked from mid → OnlyLooked mid now → OnlyLooked from now
  looked-then from mid now first next =
      let kept = first.stays.disk in
      record {
        same = λ told. next.same (kept.told ∙ told) ∙ first.same told;
        images = λ honest image.
            let one = first.images honest image in
            let two = next.images (kept.honest ∙ honest) image in
            (λ leaves. one.0 (two.0 leaves), λ leaves. two.1 (one.1 leaves));
        doubt = λ nowhere. next.doubt (first.doubt nowhere);
        stays = record {
          header = next.stays.header ∙ first.stays.header;
          count = next.stays.count ∙ first.stays.count;
          disk = same-then q h from.disk mid.disk now.disk kept next.stays.disk;
        };
      }

  -- one slot is looked at
  pub looked-once : (from now : Slots E q h) (slot : ℕ) (done : Bool) → (IsTold from → file_of now ≡ file_of from)
      → (IsHonest from → (image : List ℕ) → MayLeave now image ↔ MayLeave from image)
      → doubt_of now ≡ (if done then looked slot (doubt_of from) else doubt_of from) → Stays from now → OnlyLooked from now
  looked-once from now slot done same images doubt stays = record {
    same = same;
    images = images;
    doubt = λ none. nowhere-kept done slot (doubt_of from) (doubt_of now) doubt none;
    stays = stays;
  }

-- a call of the new disk
module _ {D : Type 0} (p : pages.Ghosts D) (f : faults.Ghosts D) where
  module _ {E : Type 0} {q : pages.Ghosts E} {h : faults.Ghosts E} {R : Type 0} where
    -- calls that fail
    pub calls-failed : (old new : D) (from now : Slots E q h) (answer device : R) → SameDisk p f old new → OnlyLooked from now → answer ≡ device
        → Rose (f.count old) (f.count new) ⊎ Rose (faults_of from) (faults_of now) → CopyCalls p f old new from now answer device
    calls-failed old new from now answer device disk looked is rose = record {
      disk = disk;
      looked = looked;
      failed = λ same. rose;
      others = λ differs. absurd (differs is);
    }

    -- calls that don't
    pub calls-fine : (old new : D) (from now : Slots E q h) (answer device : R) → SameDisk p f old new → OnlyLooked from now → answer ≢ device
        → f.count new ≡ f.count old → faults_of now ≡ faults_of from → CopyCalls p f old new from now answer device
    calls-fine old new from now answer device disk looked differs count count_from = record {
      disk = disk;
      looked = looked;
      failed = λ is. absurd (differs is);
      others = λ other. (count, count_from);
    }

    -- calls after some that don't fail
    pub calls-then : (old mid new : D) (from half now : Slots E q h) (answer device : R) → SameDisk p f old mid → OnlyLooked from half → f.count mid ≡ f.count old
        → faults_of half ≡ faults_of from → CopyCalls p f mid new half now answer device → CopyCalls p f old new from now answer device
    calls-then old mid new from half now answer device disk looked count count_from calls = record {
      disk = same-then p f old mid new disk calls.disk;
      looked = looked-then from half now looked calls.looked;
      failed = λ is.
          subst (λ (n : ℕ). Rose n (f.count new) ⊎ Rose (faults_of from) (faults_of now)) count
          (subst (λ (n : ℕ). Rose (f.count mid) (f.count new) ⊎ Rose n (faults_of now)) count_from (calls.failed is));
      others = λ differs. (let were = calls.others differs in (were.0 ∙ count, were.1 ∙ count_from));
    }

    -- another answer that says the same
    pub calls-as : {S : Type 0} (old new : D) (from now : Slots E q h) (answer device : R) (other gone : S) → (other ≡ gone → answer ≡ device) → (answer ≡ device → other ≡ gone)
        → CopyCalls p f old new from now answer device → CopyCalls p f old new from now other gone
    calls-as old new from now answer device other gone back there calls = record {
      disk = calls.disk;
      looked = calls.looked;
      failed = λ is. calls.failed (back is);
      others = λ differs. calls.others (λ is. differs (there is));
    }

  -- the length of a disk is asked for before a file is made there
  module _ (old mid : D) (kind : SameKind p.told p.honest f.steady p.room old mid) where
    pub half-after : (whole : List ℕ → Type 0) (new : D) → NeverHalf p whole mid new → NeverHalf p whole old new
    half-after whole new half = record {
      images = λ told honest. half.images (kind.told ∙ told) (kind.honest ∙ honest);
      shows = λ told honest. half.shows (kind.told ∙ told) (kind.honest ∙ honest);
    }

    pub stable-after : {E : Type 0} {q : pages.Ghosts E} {h : faults.Ghosts E} (from : Slots E q h) (header : Header) (count : ℕ) (new : D) {X : Type 0} (answer : Result ℕ X)
        → IfOk answer (IsStableCopy from p header count mid new) → IfOk answer (IsStableCopy from p header count old new)
    stable-after from header count new (Ok taken) copy = record {
      copied = λ told. copy.copied (kind.told ∙ told);
      are = copy.are;
      stable = λ told honest. copy.stable (kind.told ∙ told) (kind.honest ∙ honest);
    }
    stable-after from header count new (Err fault) copy = copy

    unready : (new : D) → AreUnready p mid new → AreUnready p old new
    unready new are = record {
      reads = λ told. are.reads (kind.told ∙ told);
      images = λ told honest. are.images (kind.told ∙ told) (kind.honest ∙ honest);
    }

    pub unready-after : (new : D) {T : Type 0} (answer : Result T CopyFault) → IfErr answer (λ fault. IsDamaged fault → AreUnready p mid new)
        → IfErr answer (λ fault. IsDamaged fault → AreUnready p old new)
    unready-after new (Ok taken) are = are
    unready-after new (Err fault) are = λ damaged. unready new (are damaged)

  -- an empty disk that is left so
  pub half-empty : (whole : List ℕ → Type 0) (old new : D) → (IsTrue (p.told old) → p.reads old ≡ []) → (IsTrue (p.told old) → p.reads new ≡ p.reads old)
      → (IsTrue (p.honest old) → (image : List ℕ) → p.may_leave new image → p.may_leave old image)
      → ((image : List ℕ) → IsTrue (p.honest old) → IsTrue (p.told old) → p.may_leave old image → length image ≤ length (p.reads old)) → NeverHalf p whole old new
  half-empty whole old new empty same images no_longer = record {
    images = λ told honest image leaves.
        let short = no_longer image honest told (images honest image leaves) in
        inl (inl (omega (arith, short, ap length (empty told))));
    shows = λ told honest. inl (inl (omega (arith, ap length (same told ∙ empty told))));
  }

  -- no bytes are held, or what is held is refused
  pub not-full : {R : Type 0} (not_empty : ℕ → R) (device : R) (old new : D) (answer : R) → (IsTrue (p.told old) → length (p.reads old) ≤ 0)
      → ((held : ℕ) → answer ≢ not_empty held) → RefusesFull p not_empty device old new answer
  not-full not_empty device old new answer empty others = record {
    refused = λ told held is. absurd (others held is);
    full = λ told some. absurd (omega (arith, empty told, some));
    unchanged = λ told some. absurd (omega (arith, empty told, some));
    images = λ told honest some. absurd (omega (arith, empty told, some));
  }

  -- the length is not told
  pub full-untold : {R : Type 0} (not_empty : ℕ → R) (device : R) (old new : D) (answer : R) → answer ≡ device → ((held : ℕ) → device ≢ not_empty held)
      → (IsTrue (p.told old) → p.reads new ≡ p.reads old) → (IsTrue (p.honest old) → (image : List ℕ) → p.may_leave new image ↔ p.may_leave old image)
      → RefusesFull p not_empty device old new answer
  full-untold not_empty device old new answer is others same images = record {
    refused = λ told held other. absurd (others held (sym is ∙ other));
    full = λ told some. inl is;
    unchanged = λ told some. same told;
    images = λ told honest some. images honest;
  }

  -- it is told, and refused
  pub full-told : {R : Type 0} (not_empty : ℕ → R) (device : R) (old new : D) (held : ℕ) → ((one other : ℕ) → not_empty one ≡ not_empty other → one ≡ other) → 0 < held
      → (IsTrue (p.told old) → held ≡ length (p.reads old)) → (IsTrue (p.told old) → p.reads new ≡ p.reads old)
      → (IsTrue (p.honest old) → (image : List ℕ) → p.may_leave new image ↔ p.may_leave old image) → RefusesFull p not_empty device old new (not_empty held)
  full-told not_empty device old new held told_apart some length_is same images = record {
    refused = λ told other is. (let held_is = told_apart held other is in (sym held_is ∙ length_is told, omega (arith, some, held_is)));
    full = λ told more. inr (ap not_empty (length_is told));
    unchanged = λ told more. same told;
    images = λ told honest more. images honest;
  }
