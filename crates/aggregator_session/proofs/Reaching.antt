-- Anyone who is there is dialled.
use Rattle.std.proofs.Common.{◌≡◌, ℕ, Bool, false, List, [], ◌∷◌, IfErr, IfSome, IsTrue, Option, Some, None, Result, Ok, Err, refl, sym, ap, subst, ◌∙◌}
use Rattle.std.specs.Str.{bytes_eq}
use Rattle.aggregator_session.specs.Addresses.{place_of}
use Rattle.aggregator_session.specs.Desks.{DeskState}
use Rattle.aggregator_session.specs.Faults.{IsLostBy, LostBy, sign_fault}
use Rattle.aggregator_session.specs.Hearing.{Asked, IsLoss, awaited, is_heard, kept_in, unwritten}
use Rattle.aggregator_session.specs.Reaching.{Apart, Reachable}
use Rattle.aggregator_session.specs.Runs.{Calls, CellsRead, First, Second, SecondFrames, SignRun, dialled, first_all, first_answered, first_frame, first_lost, first_refused, judged_in_one, judged_in_two, lost_in_one, lost_in_two, no_memory, nowhere, second_all, second_answered, second_frames, second_lost, second_refused, second_unread, signed, undialled}
use Rattle.aggregator_session.specs.declared.desk.Address.{Address}
use Rattle.aggregator_session.specs.declared.fault.SignFault.{SignFault}
use Rattle.aggregator_session.specs.declared.fault.SignFault.TheVariants.{Lost, NoMemory, Session, Stray, Table, TooLong, Worn}
use Rattle.aggregator_session.specs.declared.fault.Why.{Why}
use Rattle.aggregator_session.specs.declared.fault.Why.TheVariants.{DialFailed}
use Rattle.coalition_map.specs.Coalitions.{leaf_members}
use Rattle.round_frames.specs.Replies.{Reply}
use Rattle.session_core.specs.State.{State}
use Rattle.session_core.specs.declared.faults.SessionFault as session
use Rattle.session_core.specs.declared.faults.SessionFault.TheVariants as fault
use Rattle.stream_io.specs.Net.{PortState}
use Rattle.stream_io.specs.Talk.{Talk}

abbrev no_reply : SignFault → Result Reply SignFault
no_reply fault = Err fault

-- a loss that was heard is not a failed dial
loss-not : (s : State) (member : ℕ) (f : SignFault) → IsLoss s member f → IsLostBy DialFailed f → ⊥
loss-not s member (TooLong got) loss by = by
loss-not s member Worn loss by = by
loss-not s member (Table why) loss by = by
loss-not s member (Lost who round why) loss by =
    let heard : IsTrue (is_heard DialFailed) = subst (λ (w : Why). IsTrue (is_heard w)) by loss.2 in
    absurd (cc)
loss-not s member (Stray who round) loss by = by
loss-not s member (Session f) loss by = by
loss-not s member NoMemory loss by = by

asked-not : (s : State) (member : ℕ) (frame : List ℕ) (old new : Talk) (answer : Result Reply SignFault) (f : SignFault) → Asked s member frame old new answer → answer ≡ Err f → IsLostBy DialFailed f → ⊥
asked-not s member frame old new answer f (unwritten only wrote rose) is by =
    let lost = subst (λ (x : Result Reply SignFault). LostBy DialFailed x) (sym is) by in
    absurd (cc)
asked-not s member frame old new answer f (awaited mid a only quiet wrote h) is by =
    loss-not s member f (subst (λ (x : Result Reply SignFault). IfErr x (IsLoss s member)) is h.lost) by

found : (o : Option (List ℕ)) (place : List ℕ) (P : List ℕ → Type 0) → o ≡ Some place → IfSome o P → P place
found o place P is has = subst (λ (x : Option (List ℕ)). IfSome x P) is has

call-not : (addresses : List Address) (ask : List ℕ) (s : State) (member : ℕ) (port after : PortState) (members : List ℕ) (talks : List Talk) (answer : Result Reply SignFault) (f : SignFault)
    → Calls addresses ask s member port after talks answer → answer ≡ Err f → IsTrue port.told → IsTrue port.steady → Reachable addresses port.reaches (member ∷ members) → IsLostBy DialFailed f → ⊥
call-not addresses ask s member port after members talks answer f (nowhere none) is told steady reach by =
    let lost = subst (λ (x : Result Reply SignFault). LostBy DialFailed x) (sym is) by in
    absurd (cc)
call-not addresses ask s member port after members talks answer f (undialled place a at onward rose same nobody) is told steady reach by =
    let there = found (place_of addresses member) place (λ (p : List ℕ). IsTrue (port.reaches p) × Apart addresses p members) at reach.0 in
    let not = nobody told steady in
    let yes = there.0 in
    absurd (cc)
call-not addresses ask s member port after members talks answer f (dialled place start talk steady a x at onward quiet dials asks) is told settled reach by =
    asked-not s member ask start talk x f asks is by

still-one : (addresses : List Address) (f g : List ℕ → Bool) (place : List ℕ) (members : List ℕ) → ((p : List ℕ) → bytes_eq p place ≡ false → g p ≡ f p) → (o : Option (List ℕ))
    → IfSome o (λ (other : List ℕ). bytes_eq other place ≡ false) → IfSome o (λ (p : List ℕ). IsTrue (f p) × Apart addresses p members)
    → IfSome o (λ (p : List ℕ). IsTrue (g p) × Apart addresses p members)
still-one addresses f g place members same None a r = tt
still-one addresses f g place members same (Some p) a r = (same p a ∙ r.0, r.1)

-- who else can be dialled still can
still : (addresses : List Address) (f g : List ℕ → Bool) (place : List ℕ) (members : List ℕ) → ((p : List ℕ) → bytes_eq p place ≡ false → g p ≡ f p) → Apart addresses place members
    → Reachable addresses f members → Reachable addresses g members
still addresses f g place [] same apart reach = tt
still addresses f g place (member ∷ members) same apart reach =
    (still-one addresses f g place members same (place_of addresses member) apart.0 reach.0, still addresses f g place members same apart.1 reach.1)

-- what a call that was answered leaves
record After (addresses : List Address) (port after : PortState) (members : List ℕ) : Type 0 where
  told : IsTrue after.told
  steady : IsTrue after.steady
  reach : Reachable addresses after.reaches members

call-after : (addresses : List Address) (ask : List ℕ) (s : State) (member : ℕ) (port after : PortState) (members : List ℕ) (talks : List Talk) (answer : Result Reply SignFault) (reply : Reply)
    → Calls addresses ask s member port after talks answer → answer ≡ Ok reply → IsTrue port.told → IsTrue port.steady → Reachable addresses port.reaches (member ∷ members)
    → After addresses port after members
call-after addresses ask s member port after members talks answer reply (nowhere none) is told steady reach = absurd (cc)
call-after addresses ask s member port after members talks answer reply (undialled place a at onward rose same nobody) is told steady reach = absurd (cc)
call-after addresses ask s member port after members talks answer reply (dialled place start talk unchanged a x at onward quiet dials asks) is told steady reach =
    let there = found (place_of addresses member) place (λ (p : List ℕ). IsTrue (port.reaches p) × Apart addresses p members) at reach.0 in
    record {
      told = onward.told ∙ told;
      steady = onward.steady ∙ steady;
      reach = still addresses port.reaches after.reaches place members (dials.reaches told) there.1 reach.1;
    }

first-reached : (addresses : List Address) (ask : List ℕ) (port : PortState) (s : State) (members : List ℕ) (talks : List Talk) (last : State) (end : Result (Unit {0}) SignFault) (f : SignFault)
    → First addresses ask port s members talks last end → end ≡ Err f → IsTrue port.told → IsTrue port.steady → Reachable addresses port.reaches members → IsLostBy DialFailed f → ⊥
first-reached addresses ask port s members talks last end f (first_all p x) is told steady reach by = absurd (cc)
first-reached addresses ask port s members talks last end f (first_lost p after x member rest t why calls) is told steady reach by =
    call-not addresses ask x member p after rest t (no_reply why) f calls (let same : why ≡ f = cc in ap no_reply same) told steady reach by
first-reached addresses ask port s members talks last end f (first_refused p after x member rest t reply calls refused) is told steady reach by = absurd (cc)
first-reached addresses ask port s members talks last end f (first_answered p after x y member rest t later reply e calls granted next) is told steady reach by =
    let a = call-after addresses ask x member p after rest t _ reply calls refl told steady reach in
    first-reached addresses ask after (kept_in x (Ok reply)) rest later y e f next is a.told a.steady a.reach by

second-reached : (frames : SecondFrames) (s : State) (members : List ℕ) (olds news : List Talk) (last : State) (end : Result (Unit {0}) SignFault) (f : SignFault)
    → Second frames s members olds news last end → end ≡ Err f → IsLostBy DialFailed f → ⊥
second-reached frames s members olds news last end f (second_all x) is by = absurd (cc)
second-reached frames s members olds news last end f (second_unread x member rest o) is by =
    let lost = subst (λ (e : Result (Unit {0}) SignFault). LostBy DialFailed e) (sym is) by in
    absurd lost
second-reached frames s members olds news last end f (second_lost x member rest ask old new o why framed asks) is by =
    asked-not x member ask old new (no_reply why) f asks (let same : why ≡ f = cc in ap no_reply same) by
second-reached frames s members olds news last end f (second_refused x member rest ask old new o reply framed asks refused) is by = absurd (cc)
second-reached frames s members olds news last end f (second_answered x y member rest ask old new o n reply e framed asks granted next) is by =
    second-reached frames (kept_in x (Ok reply)) rest o n y e f next is by

sign-not : (f : session.SessionFault) → IsLostBy DialFailed (sign_fault f) → ⊥
sign-not (fault.Missing member round) by = by
sign-not (fault.SpentLeaf leaf member kept) by = by
sign-not (fault.WrongCheck leaf member) by = by
sign-not (fault.WrongRoot leaf got want) by = by
sign-not (fault.MemberRefused member code) by = by
sign-not fault.Reference by = by
sign-not fault.NoMemory by = by

pub sign-reached : (desk : DeskState) (reads : CellsRead) (message : List ℕ) (port : PortState) (s last : State) (talks : List Talk) (result : Result (List ℕ) SignFault)
    → SignRun desk reads message port s talks last result → IsTrue port.told → IsTrue port.steady → Reachable desk.addresses port.reaches (leaf_members s.plan s.leaf) → LostBy DialFailed result → ⊥
sign-reached desk reads message port s last talks result no_memory told steady reach by = by
sign-reached desk reads message port s last talks result (lost_in_one t kept f first) told steady reach by =
    first-reached desk.addresses (first_frame s) port s (leaf_members s.plan s.leaf) t kept (Err f) f first refl told steady reach by
sign-reached desk reads message port s last talks result (judged_in_one t kept f first stops) told steady reach by = sign-not f by
sign-reached desk reads message port s last talks result (lost_in_two mids t turned kept f opens second) told steady reach by =
    second-reached (second_frames reads turned message) turned (leaf_members s.plan s.leaf) mids t kept (Err f) f second refl by
sign-reached desk reads message port s last talks result (judged_in_two mids t turned kept f opens second fails) told steady reach by = sign-not f by
sign-reached desk reads message port s last talks result (signed mids t turned kept bytes opens second signs) told steady reach by = by
