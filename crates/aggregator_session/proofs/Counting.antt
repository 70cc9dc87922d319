-- A member is lost by its link only if the link counts a fault.
use Rattle.std.proofs.Common.{◌≡◌, ◌≢◌, ◌⊎◌, inl, inr, ◌≤◌, ℕ, List, [], ◌∷◌, ◌++◌, Result, Ok, Err, IfErr, refl, subst, arith}
use Rattle.std.specs.declared.alloc.Global.{Global}
use Rattle.std.specs.declared.vec.Vec.{Vec}
use Rattle.std.proofs.lemmas.List.Sums.{sum_by-append, sum_by-cons}
use Rattle.aggregator_session.specs.Desks.{DeskState}
use Rattle.aggregator_session.specs.Faults.{IsLostBy, LostBy, sign_fault}
use Rattle.aggregator_session.specs.Hearing.{Asked, IsLoss, awaited, kept_in, unread, unwritten}
use Rattle.aggregator_session.specs.Runs.{Calls, CellsRead, First, Second, SecondFrames, SignRun, bytes_in, dialled, first_all, first_answered, first_lost, first_refused, judged_in_one, judged_in_two, lost_in_one, lost_in_two, no_memory, nowhere, second_all, second_answered, second_lost, second_refused, second_unread, signed, undialled}
use Rattle.aggregator_session.proofs.Lasts.{counts_of}
use Rattle.aggregator_session.specs.declared.desk.Address.{Address}
use Rattle.aggregator_session.specs.declared.fault.SignFault.{SignFault}
use Rattle.aggregator_session.specs.declared.fault.SignFault.TheVariants as fault
use Rattle.aggregator_session.specs.declared.fault.Why.{Why}
use Rattle.aggregator_session.specs.declared.fault.Why.TheVariants as why
use Rattle.disk_trait.specs.Faults.{Rose}
use Rattle.round_frames.specs.Replies.{Reply}
use Rattle.session_core.specs.State.{State}
use Rattle.session_core.specs.declared.faults.SessionFault.{SessionFault}
use Rattle.session_core.specs.declared.faults.SessionFault.TheVariants as session
use Rattle.stream_io.specs.Net.{PortState}
use Rattle.stream_io.specs.Talk.{Talk}

-- lost by the link
abbrev IsLink : Why → Type 0
IsLink is = (is ≡ why.WriteFailed) ⊎ (is ≡ why.ReadFailed)

-- the member could not be read, if it was lost by its link while it was heard
unread-is : (is : Why) → IsLink is → (s : State) (member : ℕ) (x : Result Reply SignFault) → IfErr x (IsLoss s member) → LostBy is x → x ≡ unread s member
unread-is is link s member (Ok reply) loss lost = absurd lost
unread-is is link s member (Err (fault.TooLong got)) loss lost = absurd lost
unread-is is link s member (Err fault.Worn) loss lost = absurd lost
unread-is is link s member (Err (fault.Table f)) loss lost = absurd lost
unread-is is link s member (Err (fault.Lost who round why.ReadFailed)) loss lost = rw (loss.0, loss.1) refl
unread-is is link s member (Err (fault.Lost who round why.WriteFailed)) loss lost = absurd (cc)
unread-is is link s member (Err (fault.Lost who round why.NoAddress)) loss lost = absurd (cc)
unread-is is link s member (Err (fault.Lost who round why.DialFailed)) loss lost = absurd (cc)
unread-is is (inl link) s member (Err (fault.Lost who round why.Ended)) loss lost = absurd (let same : why.Ended ≡ is = lost in cc)
unread-is is (inr link) s member (Err (fault.Lost who round why.Ended)) loss lost = absurd (let same : why.Ended ≡ is = lost in cc)
unread-is is (inl link) s member (Err (fault.Lost who round (why.Garbled f))) loss lost = absurd (let same : why.Garbled f ≡ is = lost in cc)
unread-is is (inr link) s member (Err (fault.Lost who round (why.Garbled f))) loss lost = absurd (let same : why.Garbled f ≡ is = lost in cc)
unread-is is link s member (Err (fault.Stray who round)) loss lost = absurd lost
unread-is is link s member (Err (fault.Session f)) loss lost = absurd lost
unread-is is link s member (Err fault.NoMemory) loss lost = absurd lost

module _ (is : Why) (link : IsLink is) where
  asked-rose : (s : State) (member : ℕ) (frame : List ℕ) (old new : Talk) (answer : Result Reply SignFault) → Asked s member frame old new answer → LostBy is answer → Rose old.count new.count
  asked-rose s member frame old new answer (unwritten only wrote rose) lost = rose
  asked-rose s member frame old new answer (awaited mid x only quiet wrote h) lost =
      let rose : Rose mid.count new.count = h.cause.rose (unread-is is link s member x h.lost lost) in
      subst (λ (n : ℕ). Rose n new.count) quiet rose

  some-count : (talk : Talk) (talks : List Talk) (n : ℕ) → Rose n talk.count → 1 ≤ counts_of (talk ∷ talks)
  some-count talk talks n rose =
      let sum = sum_by-cons (λ (t : Talk). t.count) talk talks in
      omega (arith, rose, sum)

  more-count : (before after : List Talk) → 1 ≤ counts_of after → 1 ≤ counts_of (before ++ after)
  more-count before after some =
      let sum = sum_by-append (λ (t : Talk). t.count) before after in
      omega (arith, some, sum)

  none-called : (w : Why) → (w ≡ why.NoAddress) ⊎ (w ≡ why.DialFailed) → w ≡ is → ⊥
  none-called w was lost = elim link [
    | inl a ↦ elim was [ inl b ↦ cc | inr b ↦ cc ]
    | inr a ↦ elim was [ inl b ↦ cc | inr b ↦ cc ]
  ]

  calls-counts : (addresses : List Address) (ask : List ℕ) (s : State) (member : ℕ) (port after : PortState) (talks : List Talk) (answer : Result Reply SignFault)
      → Calls addresses ask s member port after talks answer → LostBy is answer → 1 ≤ counts_of talks
  calls-counts addresses ask s member port after talks answer (nowhere none) lost = absurd (none-called why.NoAddress (inl refl) lost)
  calls-counts addresses ask s member port after talks answer (undialled place a found onward rose same nobody) lost = absurd (none-called why.DialFailed (inr refl) lost)
  calls-counts addresses ask s member port after talks answer (dialled place start talk steady a x found onward quiet dials asks) lost =
      some-count talk [] start.count (asked-rose s member ask start talk x asks lost)

  first-counts : (addresses : List Address) (ask : List ℕ) (port : PortState) (s : State) (members : List ℕ) (talks : List Talk) (last : State) (end : Result (Unit {0}) SignFault)
      → First addresses ask port s members talks last end → LostBy is end → 1 ≤ counts_of talks
  first-counts addresses ask port s members talks last end (first_all p x) lost = absurd lost
  first-counts addresses ask port s members talks last end (first_lost p after x member rest t f calls) lost = calls-counts addresses ask x member p after t (Err f) calls lost
  first-counts addresses ask port s members talks last end (first_refused p after x member rest t reply calls refused) lost = absurd lost
  first-counts addresses ask port s members talks last end (first_answered p after x y member rest t later reply e calls granted next) lost =
      more-count t later (first-counts addresses ask after (kept_in x (Ok reply)) rest later y e next lost)

  second-counts : (frames : SecondFrames) (s : State) (members : List ℕ) (olds news : List Talk) (last : State) (end : Result (Unit {0}) SignFault)
      → Second frames s members olds news last end → LostBy is end → 1 ≤ counts_of news
  second-counts frames s members olds news last end (second_all x) lost = absurd lost
  second-counts frames s members olds news last end (second_unread x member rest o) lost = absurd lost
  second-counts frames s members olds news last end (second_lost x member rest ask old new o f second asks) lost =
      some-count new o old.count (asked-rose x member ask old new (Err f) asks lost)
  second-counts frames s members olds news last end (second_refused x member rest ask old new o reply second asks refused) lost = absurd lost
  second-counts frames s members olds news last end (second_answered x y member rest ask old new o n reply e second asks granted next) lost =
      more-count (new ∷ []) n (second-counts frames (kept_in x (Ok reply)) rest o n y e next lost)

  judged-not : (f : SessionFault) → IsLostBy is (sign_fault f) → ⊥
  judged-not session.NoMemory lost = lost
  judged-not (session.Missing member round) lost = lost
  judged-not (session.SpentLeaf leaf member kept) lost = lost
  judged-not (session.WrongCheck leaf member) lost = lost
  judged-not (session.WrongRoot leaf got want) lost = lost
  judged-not (session.MemberRefused member code) lost = lost
  judged-not session.Reference lost = lost

  run-counts : (desk : DeskState) (reads : CellsRead) (message : List ℕ) (port : PortState) (s : State) (talks : List Talk) (last : State) (result : Result (List ℕ) SignFault)
      → SignRun desk reads message port s talks last result → LostBy is result → 1 ≤ counts_of talks
  run-counts desk reads message port s talks last result no_memory lost = absurd lost
  run-counts desk reads message port s talks last result (lost_in_one t k f first) lost = first-counts _ _ _ _ _ t k (Err f) first lost
  run-counts desk reads message port s talks last result (judged_in_one t k f first stops) lost = absurd (judged-not f lost)
  run-counts desk reads message port s talks last result (lost_in_two m t turned k f opens second) lost = second-counts _ _ _ m t k (Err f) second lost
  run-counts desk reads message port s talks last result (judged_in_two m t turned k f opens second fails) lost = absurd (judged-not f lost)
  run-counts desk reads message port s talks last result (signed m t turned k bytes opens second signs) lost = absurd lost

  lost-bytes : (result : Result (Vec ℕ Global) SignFault) → LostBy is result → LostBy is (bytes_in result)
  lost-bytes (Ok bytes) lost = lost
  lost-bytes (Err f) lost = lost

  -- a session that lost a member by its link leaves a link that counts a fault
  pub session-counts : (desk : DeskState) (reads : CellsRead) (message : List ℕ) (port : PortState) (s : State) (talks : List Talk) (last : State) (result : Result (Vec ℕ Global) SignFault)
      → SignRun desk reads message port s talks last (bytes_in result) → LostBy is result → counts_of talks ≢ 0
  session-counts desk reads message port s talks last result run lost none =
      let some = run-counts desk reads message port s talks last (bytes_in result) run (lost-bytes result lost) in
      omega (arith, some, none)
