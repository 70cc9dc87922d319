-- What is written, ask by ask.
use Rattle.std.proofs.Common.{◌≡◌, ◌≤◌, ◌+◌, ◌-◌, ◌++◌, ◌^◌, ℕ, zero, suc, List, [], ◌∷◌, length, min, take, IsTrue, Result, Ok, refl, sym, ap, ◌∙◌, arith, inl, inr, take_all}
use Rattle.aggregator_session.specs.Desks.{DeskState}
use Rattle.aggregator_session.specs.Hearing.{Asked, awaited, kept_in, unwritten}
use Rattle.aggregator_session.specs.Runs.{Calls, CellsRead, First, IsSecondFrame, Opens, Second, SecondFrames, SignRun, dialled, first_all, first_answered, first_frame, first_lost, first_refused, judged_in_one, judged_in_two, lost_in_one, lost_in_two, no_memory, nowhere, second_all, second_answered, second_frames, second_lost, second_refused, second_unread, signed, undialled}
use Rattle.aggregator_session.proofs.Telling.{AllTell, asked-told, sign-tell}
use Rattle.aggregator_session.specs.Tasks.{AllEnded}
use Rattle.aggregator_session.specs.Written.{Written, Wrote, WroteBoth, Wrotes}
use Rattle.aggregator_session.specs.declared.desk.Address.{Address}
use Rattle.aggregator_session.specs.declared.fault.SignFault.{SignFault}
use Rattle.coalition_map.specs.Coalitions.{leaf_members}
use Rattle.round_frames.specs.Replies.{Reply}
use Rattle.session_core.specs.State.{State}
use Rattle.stream_io.specs.Net.{PortState}
use Rattle.stream_io.specs.Talk.{Ended, Talk}

all-wrote : (talk : Talk) (bytes : List ℕ) → talk.written ≡ bytes → Wrote talk bytes
all-wrote talk bytes is = record { size = length bytes; begins = is ∙ sym (take_all (length bytes) bytes (omega arith)); whole = λ _. is }

no-rise : (before now : ℕ) → min (before + 1) (2 ^ 64 - 1) ≤ now → now ≡ 0 → ⊥
no-rise before now rose is = absurd (omega arith)

part-after : (before bytes : List ℕ) (size n : ℕ) → n ≡ length before + size → before ++ take size bytes ≡ take n (before ++ bytes)
part-after [] bytes size n is = (let same : size ≡ n = omega arith in ap (λ (k : ℕ). take k bytes) same)
part-after (x ∷ before) bytes size zero is = absurd (omega arith)
part-after (x ∷ before) bytes size (suc n) is = (let less : n ≡ length before + size = omega arith in ap (λ (l : List ℕ). x ∷ l) (part-after before bytes size n less))

-- an ask after what was written before it
asked-wrote : (s : State) (member : ℕ) (frame : List ℕ) (old new : Talk) (answer : Result Reply SignFault) (before : List ℕ)
    → Asked s member frame old new answer → IsTrue old.told → old.written ≡ before → Wrote new (before ++ frame)
asked-wrote s member frame old new answer before (unwritten only part rose) told was =
    let p = part told in
    record {
      size = length before + p.size;
      begins = p.written ∙ (ap (λ (l : List ℕ). l ++ take p.size frame) was ∙ part-after before frame p.size (length before + p.size) refl);
      whole = λ none. absurd (no-rise old.count new.count rose none);
    }
asked-wrote s member frame old new answer before (awaited mid a only quiet wrote h) told was =
    all-wrote new (before ++ frame) (h.only.written ∙ (wrote told ∙ ap (λ (l : List ℕ). l ++ frame) was))

-- one that was answered was written whole
asked-whole : (s : State) (member : ℕ) (frame : List ℕ) (old new : Talk) (answer : Result Reply SignFault) (reply : Reply) (before : List ℕ)
    → answer ≡ Ok reply → Asked s member frame old new answer → IsTrue old.told → old.written ≡ before → new.written ≡ before ++ frame
asked-whole s member frame old new answer reply before is (unwritten only part rose) told was = absurd (cc)
asked-whole s member frame old new answer reply before is (awaited mid a only quiet wrote h) told was = h.only.written ∙ (wrote told ∙ ap (λ (l : List ℕ). l ++ frame) was)

-- on each link the ask of round one was written whole
abbrev Wholes : List ℕ → List ℕ → List Talk → Type 0
Wholes first members [] = Unit {0}
Wholes first [] (talk ∷ talks) = ⊥
Wholes first (member ∷ members) (talk ∷ talks) = (IsTrue talk.told × (talk.written ≡ first)) × Wholes first members talks

module _ (frames : SecondFrames) (first : List ℕ) where
  wholes-wrote : (members : List ℕ) (talks : List Talk) → Wholes first members talks → Wrotes frames first 0 members talks
  wholes-wrote members [] w = tt
  wholes-wrote [] (talk ∷ talks) w = absurd w
  wholes-wrote (member ∷ members) (talk ∷ talks) w = (all-wrote talk first w.0.1, wholes-wrote members talks w.1)

  -- a call of round one, the members after it not being dialled
  call-wrote : (addresses : List Address) (s : State) (member : ℕ) (port after : PortState) (members : List ℕ) (talks : List Talk) (answer : Result Reply SignFault)
      → Calls addresses first s member port after talks answer → IsTrue port.told → Wrotes frames first 0 (member ∷ members) talks
  call-wrote addresses s member port after members talks answer (nowhere none) tells = tt
  call-wrote addresses s member port after members talks answer (undialled place a found onward rose same nobody) tells = tt
  call-wrote addresses s member port after members talks answer (dialled place start talk steady a x found onward quiet dials asks) tells =
      (asked-wrote s member first start talk x [] asks (dials.link.told tells) (dials.link.written tells), tt)

  -- a call that was answered, before those of the members after it
  call-more : (addresses : List Address) (s : State) (member : ℕ) (port after : PortState) (members : List ℕ) (talks later : List Talk) (answer : Result Reply SignFault) (reply : Reply) → answer ≡ Ok reply
      → Calls addresses first s member port after talks answer → IsTrue port.told → (IsTrue after.told → Wrotes frames first 0 members later)
      → Wrotes frames first 0 (member ∷ members) (talks ++ later)
  call-more addresses s member port after members talks later answer reply is (nowhere none) tells next = absurd (cc)
  call-more addresses s member port after members talks later answer reply is (undialled place a found onward rose same nobody) tells next = absurd (cc)
  call-more addresses s member port after members talks later answer reply is (dialled place start talk steady a x found onward quiet dials asks) tells next =
      (asked-wrote s member first start talk x [] asks (dials.link.told tells) (dials.link.written tells), next (onward.told ∙ tells))

  first-wrote : (addresses : List Address) (port : PortState) (s : State) (members : List ℕ) (talks : List Talk) (last : State) (end : Result (Unit {0}) SignFault)
      → First addresses first port s members talks last end → IsTrue port.told → Wrotes frames first 0 members talks
  first-wrote addresses port s members talks last end (first_all p x) tells = tt
  first-wrote addresses port s members talks last end (first_lost p after x member rest t fault calls) tells = call-wrote addresses x member p after rest t _ calls tells
  first-wrote addresses port s members talks last end (first_refused p after x member rest t reply calls refused) tells = call-wrote addresses x member p after rest t _ calls tells
  first-wrote addresses port s members talks last end (first_answered p after x y member rest t later reply e calls granted next) tells =
      call-more addresses x member p after rest t later _ reply refl calls tells (first-wrote addresses after (kept_in x (Ok reply)) rest later y e next)

  -- how far round two came
  record Reached (members : List ℕ) (news : List Talk) : Type 0 where
    reach : ℕ
    most : reach ≤ length members
    wrotes : Wrotes frames first reach members news

  both : (s : State) (member : ℕ) (ask : List ℕ) (old new : Talk) (answer : Result Reply SignFault) → IsSecondFrame frames member ask → Asked s member ask old new answer
      → IsTrue old.told → old.written ≡ first → WroteBoth frames first member new
  both s member ask old new answer framed asks tells was = record { second = ask; framed = framed; wrote = asked-wrote s member ask old new answer first asks tells was }

  second-reached : (s : State) (members : List ℕ) (olds news : List Talk) (last : State) (end : Result (Unit {0}) SignFault) → Wholes first members olds
      → Second frames s members olds news last end → Reached members news
  second-reached s members olds news last end w (second_all x) = record { reach = 0; most = omega arith; wrotes = tt }
  second-reached s members olds news last end w (second_unread x member rest o) = record { reach = 0; most = omega arith; wrotes = wholes-wrote (member ∷ rest) o w }
  second-reached s members olds news last end w (second_lost x member rest ask old new o fault framed asks) = record {
    reach = 1;
    most = omega arith;
    wrotes = (both x member ask old new _ framed asks w.0.0 w.0.1, wholes-wrote rest o w.1);
  }
  second-reached s members olds news last end w (second_refused x member rest ask old new o reply framed asks refused) = record {
    reach = 1;
    most = omega arith;
    wrotes = (both x member ask old new _ framed asks w.0.0 w.0.1, wholes-wrote rest o w.1);
  }
  second-reached s members olds news last end w (second_answered x y member rest ask old new o n reply e framed asks granted next) =
      let more = second-reached (kept_in x (Ok reply)) rest o n y e w.1 next in
      record {
        reach = suc more.reach;
        most = (let a = more.most in omega arith);
        wrotes = (both x member ask old new _ framed asks w.0.0 w.0.1, more.wrotes);
      }

module _ (first : List ℕ) where
  call-whole : (addresses : List Address) (s : State) (member : ℕ) (port after : PortState) (members : List ℕ) (talks later : List Talk) (answer : Result Reply SignFault) (reply : Reply) → answer ≡ Ok reply
      → Calls addresses first s member port after talks answer → IsTrue port.told → (IsTrue after.told → Wholes first members later) → Wholes first (member ∷ members) (talks ++ later)
  call-whole addresses s member port after members talks later answer reply is (nowhere none) tells next = absurd (cc)
  call-whole addresses s member port after members talks later answer reply is (undialled place a found onward rose same nobody) tells next = absurd (cc)
  call-whole addresses s member port after members talks later answer reply is (dialled place start talk steady a x found onward quiet dials asks) tells next = (
    (asked-told s member first start talk x asks ∙ dials.link.told tells, asked-whole s member first start talk x reply [] is asks (dials.link.told tells) (dials.link.written tells)),
    next (onward.told ∙ tells),
  )

  call-alone : (addresses : List Address) (s : State) (member : ℕ) (port after : PortState) (members : List ℕ) (talks : List Talk) (answer : Result Reply SignFault) (reply : Reply) → answer ≡ Ok reply
      → Calls addresses first s member port after talks answer → IsTrue port.told → Wholes first (member ∷ members) talks
  call-alone addresses s member port after members talks answer reply is (nowhere none) tells = absurd (cc)
  call-alone addresses s member port after members talks answer reply is (undialled place a found onward rose same nobody) tells = absurd (cc)
  call-alone addresses s member port after members talks answer reply is (dialled place start talk steady a x found onward quiet dials asks) tells =
      ((asked-told s member first start talk x asks ∙ dials.link.told tells, asked-whole s member first start talk x reply [] is asks (dials.link.told tells) (dials.link.written tells)), tt)

  first-whole : (addresses : List Address) (port : PortState) (s : State) (members : List ℕ) (talks : List Talk) (last : State) (end : Result (Unit {0}) SignFault) → end ≡ Ok tt
      → First addresses first port s members talks last end → IsTrue port.told → Wholes first members talks
  first-whole addresses port s members talks last end is (first_all p x) tells = tt
  first-whole addresses port s members talks last end is (first_lost p after x member rest t fault calls) tells = absurd (cc)
  first-whole addresses port s members talks last end is (first_refused p after x member rest t reply calls refused) tells = call-alone addresses x member p after rest t _ reply refl calls tells
  first-whole addresses port s members talks last end is (first_answered p after x y member rest t later reply e calls granted next) tells =
      call-whole addresses x member p after rest t later _ reply refl calls tells (first-whole addresses after (kept_in x (Ok reply)) rest later y e is next)

module _ (desk : DeskState) (reads : CellsRead) (message : List ℕ) (port : PortState) (s : State) where
  in-one : (talks : List Talk) (last : State) (end : Result (Unit {0}) SignFault) → First desk.addresses (first_frame s) port s (leaf_members s.plan s.leaf) talks last end → IsTrue port.told
      → Written desk.addresses reads message port s talks
  in-one talks last end run tells = record {
    turned = s;
    reach = 0;
    most = omega arith;
    opened = inl refl;
    wrotes = first-wrote (second_frames reads s message) (first_frame s) desk.addresses port s (leaf_members s.plan s.leaf) talks last end run tells;
  }

  in-two : (mids talks : List Talk) (turned last : State) (end : Result (Unit {0}) SignFault) → Opens desk.addresses reads port s turned mids
      → Second (second_frames reads turned message) turned (leaf_members s.plan s.leaf) mids talks last end → IsTrue port.told → Written desk.addresses reads message port s talks
  in-two mids talks turned last end opens run tells =
      let w = first-whole (first_frame s) desk.addresses port s (leaf_members s.plan s.leaf) mids opens.kept (Ok tt) refl opens.first tells in
      let r = second-reached (second_frames reads turned message) (first_frame s) turned (leaf_members s.plan s.leaf) mids talks last end w run in
      record { turned = turned; reach = r.reach; most = r.most; opened = inr (record { mids = mids; opens = opens }); wrotes = r.wrotes }

talks-written : (desk : DeskState) (reads : CellsRead) (message : List ℕ) (port : PortState) (s last : State) (talks : List Talk) (result : Result (List ℕ) SignFault)
    → SignRun desk reads message port s talks last result → IsTrue port.told → Written desk.addresses reads message port s talks
talks-written desk reads message port s last talks result no_memory tells = record { turned = s; reach = 0; most = omega arith; opened = inl refl; wrotes = tt }
talks-written desk reads message port s last talks result (lost_in_one t kept fault first) tells = in-one desk reads message port s t kept _ first tells
talks-written desk reads message port s last talks result (judged_in_one t kept fault first stops) tells = in-one desk reads message port s t kept _ first tells
talks-written desk reads message port s last talks result (lost_in_two mids t turned kept fault opens second) tells = in-two desk reads message port s mids t turned kept _ opens second tells
talks-written desk reads message port s last talks result (judged_in_two mids t turned kept fault opens second fails) tells = in-two desk reads message port s mids t turned kept _ opens second tells
talks-written desk reads message port s last talks result (signed mids t turned kept bytes opens second signs) tells = in-two desk reads message port s mids t turned kept _ opens second tells

-- as the links ended

begins : (bytes behind : List ℕ) (size : ℕ) (all : List ℕ) → bytes ++ behind ≡ take size all → bytes ≡ take (length bytes) all
begins [] behind size all is = refl
begins (x ∷ bytes) behind zero all is = absurd (cc)
begins (x ∷ bytes) behind (suc size) [] is = absurd (cc)
begins (x ∷ bytes) behind (suc size) (y ∷ all) is =
    let head : x ≡ y = cc in
    let tail : bytes ++ behind ≡ take size all = cc in
    let more = begins bytes behind size all tail in
    λ i. head i ∷ more i

last-wrote : (talk last : Talk) (bytes : List ℕ) → IsTrue talk.told → Ended talk last → Wrote talk bytes → Wrote last bytes
last-wrote talk last bytes told ended wrote = record {
  size = length last.written;
  begins = begins last.written ended.lost wrote.size bytes (ended.written told ∙ wrote.begins);
  whole = λ none. ended.whole told none ∙ wrote.whole (let le = ended.count in omega (arith, le, none));
}

module _ (frames : SecondFrames) (first : List ℕ) where
  lasts-wrote : (reach : ℕ) (members : List ℕ) (talks lasts : List Talk) → AllTell talks → AllEnded talks lasts
      → Wrotes frames first reach members talks → Wrotes frames first reach members lasts
  lasts-wrote reach members [] [] tell all w = tt
  lasts-wrote reach members [] (last ∷ lasts) tell all w = absurd all
  lasts-wrote reach members (talk ∷ talks) [] tell all w = absurd all
  lasts-wrote reach [] (talk ∷ talks) (last ∷ lasts) tell all w = absurd w
  lasts-wrote zero (member ∷ members) (talk ∷ talks) (last ∷ lasts) tell all w =
      (last-wrote talk last first tell.0 all.0 w.0, lasts-wrote zero members talks lasts tell.1 all.1 w.1)
  lasts-wrote (suc reach) (member ∷ members) (talk ∷ talks) (last ∷ lasts) tell all w =
      let one = w.0 in (
        record { second = one.second; framed = one.framed; wrote = last-wrote talk last (first ++ one.second) tell.0 all.0 one.wrote },
        lasts-wrote reach members talks lasts tell.1 all.1 w.1,
      )

pub sign-written : (desk : DeskState) (reads : CellsRead) (message : List ℕ) (port : PortState) (s last : State) (talks lasts : List Talk) (result : Result (List ℕ) SignFault)
    → SignRun desk reads message port s talks last result → AllEnded talks lasts → IsTrue port.told → Written desk.addresses reads message port s lasts
sign-written desk reads message port s last talks lasts result run ended tells =
    let w = talks-written desk reads message port s last talks result run tells in
    let tell = sign-tell desk reads message port s last talks result run tells in
    record {
      turned = w.turned;
      reach = w.reach;
      most = w.most;
      opened = w.opened;
      wrotes = lasts-wrote (second_frames reads w.turned message) (first_frame s) w.reach (leaf_members s.plan s.leaf) talks lasts tell ended w.wrotes;
    }
