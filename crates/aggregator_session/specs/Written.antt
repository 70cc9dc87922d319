-- What is written in a session: the ask of round one on each link, and after it the ask of round two on the first
-- links, up to the last that is asked.
use Rattle.std.specs.Prelude.{◌≡◌, ◌⊎◌, ◌≤◌, ◌++◌, ℕ, zero, suc, List, [], ◌∷◌, length, take}
use Rattle.aggregator_session.specs.Runs.{CellsRead, IsSecondFrame, Opens, SecondFrames, first_frame, second_frames}
use Rattle.aggregator_session.specs.declared.desk.Address.{Address}
use Rattle.coalition_map.specs.Coalitions.{leaf_members}
use Rattle.session_core.specs.State.{State}
use Rattle.stream_io.specs.Net.{PortState}
use Rattle.stream_io.specs.Talk.{Talk}

-- these bytes were written on a link, or a beginning of them if its count of faults is not 0
pub record Wrote (talk : Talk) (bytes : List ℕ) : Type 0 where
  pub size : ℕ
  pub begins : talk.written ≡ take size bytes
  pub whole : talk.count ≡ 0 → talk.written ≡ bytes

-- the ask of round one, and after it that of round two to this member
pub record WroteBoth (frames : SecondFrames) (first : List ℕ) (member : ℕ) (talk : Talk) : Type 0 where
  pub second : List ℕ
  pub framed : IsSecondFrame frames member second
  pub wrote : Wrote talk (first ++ second)

-- on the links of these members, of which that many were asked twice
abbrev pub Wrotes : SecondFrames → List ℕ → ℕ → List ℕ → List Talk → Type 0
Wrotes frames first reach members [] = Unit {0}
Wrotes frames first reach [] (talk ∷ talks) = ⊥
Wrotes frames first zero (member ∷ members) (talk ∷ talks) =
    Wrote talk first × Wrotes frames first zero members talks
Wrotes frames first (suc reach) (member ∷ members) (talk ∷ talks) =
    WroteBoth frames first member talk × Wrotes frames first reach members talks

-- the session went to round two
pub record HasOpened (addresses : List Address) (reads : CellsRead) (port : PortState) (s turned : State) : Type 0 where
  pub mids : List Talk
  pub opens : Opens addresses reads port s turned mids

-- What was written on the links of a session, as they ended. Nobody is asked twice unless all answered round one with
-- masks.
pub record Written (addresses : List Address) (reads : CellsRead) (message : List ℕ) (port : PortState) (s : State)
    (talks : List Talk) : Type 0 where
  pub turned : State
  pub reach : ℕ
  pub most : reach ≤ length (leaf_members s.plan s.leaf)
  pub opened : (reach ≡ 0) ⊎ HasOpened addresses reads port s turned
  pub wrotes : Wrotes (second_frames reads turned message) (first_frame s) reach (leaf_members s.plan s.leaf) talks
