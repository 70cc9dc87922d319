-- Links of a port that tells its content tell their bytes.
use Rattle.std.proofs.Common.{◌≡◌, ◌++◌, ℕ, List, [], ◌∷◌, IsTrue, Result, Ok, ◌∙◌}
use Rattle.aggregator_session.specs.Desks.{DeskState}
use Rattle.aggregator_session.specs.Hearing.{Asked, awaited, kept_in, unwritten}
use Rattle.aggregator_session.specs.Runs.{Calls, CellsRead, First, Second, SecondFrames, SignRun, dialled, first_all, first_answered, first_lost, first_refused, judged_in_one, judged_in_two, lost_in_one, lost_in_two, no_memory, nowhere, second_all, second_answered, second_lost, second_refused, second_unread, signed, undialled}
use Rattle.aggregator_session.specs.declared.desk.Address.{Address}
use Rattle.aggregator_session.specs.declared.fault.SignFault.{SignFault}
use Rattle.round_frames.specs.Replies.{Reply}
use Rattle.session_core.specs.State.{State}
use Rattle.stream_io.specs.Net.{PortState}
use Rattle.stream_io.specs.Talk.{Talk}

-- all of these tell their bytes
abbrev pub AllTell : List Talk → Type 0
AllTell [] = Unit {0}
AllTell (talk ∷ talks) = IsTrue talk.told × AllTell talks

tell-then : (talks later : List Talk) → AllTell talks → AllTell later → AllTell (talks ++ later)
tell-then [] later a b = b
tell-then (talk ∷ talks) later a b = (a.0, tell-then talks later a.1 b)

pub asked-told : (s : State) (member : ℕ) (frame : List ℕ) (old new : Talk) (answer : Result Reply SignFault) → Asked s member frame old new answer → new.told ≡ old.told
asked-told s member frame old new answer (unwritten only part rose) = only.told
asked-told s member frame old new answer (awaited mid a only quiet wrote h) = h.only.told ∙ only.told

calls-tell : (addresses : List Address) (ask : List ℕ) (s : State) (member : ℕ) (port after : PortState) (talks : List Talk) (answer : Result Reply SignFault)
    → Calls addresses ask s member port after talks answer → IsTrue port.told → AllTell talks × IsTrue after.told
calls-tell addresses ask s member port after talks answer (nowhere none) tells = (tt, tells)
calls-tell addresses ask s member port after talks answer (undialled place a found onward rose same nobody) tells = (tt, onward.told ∙ tells)
calls-tell addresses ask s member port after talks answer (dialled place start talk steady a x found onward quiet dials asks) tells =
    ((asked-told s member ask start talk x asks ∙ dials.link.told tells, tt), onward.told ∙ tells)

first-tell : (addresses : List Address) (ask : List ℕ) (port : PortState) (s : State) (members : List ℕ) (talks : List Talk) (last : State) (end : Result (Unit {0}) SignFault)
    → First addresses ask port s members talks last end → IsTrue port.told → AllTell talks
first-tell addresses ask port s members talks last end (first_all p x) tells = tt
first-tell addresses ask port s members talks last end (first_lost p after x member rest t fault calls) tells = (calls-tell addresses ask x member p after t _ calls tells).0
first-tell addresses ask port s members talks last end (first_refused p after x member rest t reply calls refused) tells = (calls-tell addresses ask x member p after t _ calls tells).0
first-tell addresses ask port s members talks last end (first_answered p after x y member rest t later reply e calls granted next) tells =
    let one = calls-tell addresses ask x member p after t _ calls tells in
    tell-then t later one.0 (first-tell addresses ask after (kept_in x (Ok reply)) rest later y e next one.1)

second-tell : (frames : SecondFrames) (s : State) (members : List ℕ) (olds news : List Talk) (last : State) (end : Result (Unit {0}) SignFault)
    → Second frames s members olds news last end → AllTell olds → AllTell news
second-tell frames s members olds news last end (second_all x) tell = tell
second-tell frames s members olds news last end (second_unread x member rest o) tell = tell
second-tell frames s members olds news last end (second_lost x member rest ask old new o fault framed asks) tell =
    (asked-told x member ask old new _ asks ∙ tell.0, tell.1)
second-tell frames s members olds news last end (second_refused x member rest ask old new o reply framed asks refused) tell =
    (asked-told x member ask old new _ asks ∙ tell.0, tell.1)
second-tell frames s members olds news last end (second_answered x y member rest ask old new o n reply e framed asks granted next) tell =
    (asked-told x member ask old new _ asks ∙ tell.0, second-tell frames (kept_in x (Ok reply)) rest o n y e next tell.1)

pub sign-tell : (desk : DeskState) (reads : CellsRead) (message : List ℕ) (port : PortState) (s last : State) (talks : List Talk) (result : Result (List ℕ) SignFault)
    → SignRun desk reads message port s talks last result → IsTrue port.told → AllTell talks
sign-tell desk reads message port s last talks result no_memory tells = tt
sign-tell desk reads message port s last talks result (lost_in_one t kept fault first) tells = first-tell desk.addresses _ port s _ t kept _ first tells
sign-tell desk reads message port s last talks result (judged_in_one t kept fault first stops) tells = first-tell desk.addresses _ port s _ t kept _ first tells
sign-tell desk reads message port s last talks result (lost_in_two mids t turned kept fault opens second) tells =
    second-tell _ _ _ mids t kept _ second (first-tell desk.addresses _ port s _ mids opens.kept _ opens.first tells)
sign-tell desk reads message port s last talks result (judged_in_two mids t turned kept fault opens second fails) tells =
    second-tell _ _ _ mids t kept _ second (first-tell desk.addresses _ port s _ mids opens.kept _ opens.first tells)
sign-tell desk reads message port s last talks result (signed mids t turned kept bytes opens second signs) tells =
    second-tell _ _ _ mids t kept _ second (first-tell desk.addresses _ port s _ mids opens.kept _ opens.first tells)
