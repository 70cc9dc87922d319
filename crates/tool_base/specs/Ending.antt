-- How a call of the tool ends: the status that it answers and the line that it prints.
use Rattle.std.specs.Prelude.{ℕ, List, [], ◌∷◌, ◌++◌, codes}
use Rattle.std.specs.Fmt.{decimal}
use Rattle.drill_schedule.specs.declared.summary.Summary.{Summary}
use Rattle.hex.specs.Hex.{encode_lower}
use Rattle.hss_levels.specs.declared.faults.HssFault.{HssFault}
use Rattle.hss_levels.specs.declared.faults.HssFault.TheVariants as hss
use Rattle.hss_levels.specs.declared.verification.HssVerdict.{HssVerdict}
use Rattle.hss_levels.specs.declared.verification.HssVerdict.TheVariants as levels
use Rattle.lms_bytes.specs.FaultNumbers.{key_fault_number, signature_fault_number}
use Rattle.lms_verify.specs.declared.verification.Verdict.{Verdict}
use Rattle.lms_verify.specs.declared.verification.Verdict.TheVariants.{Accepted, Malformed, OtherRoot}
use Rattle.tool_base.specs.declared.undealt.Undealt.{Undealt}
use Rattle.tool_base.specs.declared.undealt.Undealt.TheVariants.{Code, Threshold, Coalitions, Height, Width}
use Rattle.tool_base.specs.declared.undealt.Undealt.TheVariants.{Entropy, Keys, Commitments}
use Rattle.tool_base.specs.declared.unsigned.Unsigned.{Unsigned}
use Rattle.tool_base.specs.declared.unsigned.Unsigned.TheVariants.{Missing, SpentLeaf, WrongCheck, WrongRoot, NoLeaf}
use Rattle.tool_base.specs.declared.unsigned.Unsigned.TheVariants.{Blamed, Refused, Stray, NotACoalition}

-- an end, with what its line names
pub data Ending : Type 0 where
  Verified : (verdict : Verdict) → Ending
  Checked : (verdict : HssVerdict) → Ending
  Rehearsed : Ending
  Dealt : (leaves coalitions : ℕ) → Ending
  Enrolled : (number : ℕ) → Ending
  Migrated : (slots : ℕ) → Ending
  Approved : (slots : ℕ) → Ending
  Signed : (leaf : ℕ) → Ending
  SignedLevels : (leaf : ℕ) → Ending
  Served : (connections frames : ℕ) → Ending
  Drilled : (summary : Summary) → Ending
  Shown : (text : List ℕ) → Ending
  Usage : Ending
  StoreFailed : Ending
  Unreadable : (name : List ℕ) → (fault : ℕ) → Ending
  NotDealt : (why : Undealt) → Ending
  NotSigned : (why : Unsigned) → Ending
  DeviceFailed : Ending
  TooLong : (got : ℕ) → Ending
  NotLoaded : (fault : ℕ) → Ending
  NoMemory : Ending
  Exists : (name : List ℕ) → Ending
  NetFailed : Ending
  BookFull : Ending

-- the status if nothing is signed
abbrev pub unsigned_status : Unsigned → ℕ
unsigned_status (Missing member round) = 6
unsigned_status (SpentLeaf leaf member) = 7
unsigned_status (WrongCheck leaf member) = 8
unsigned_status (WrongRoot leaf got want) = 8
unsigned_status (Blamed members) = 8
unsigned_status (NoLeaf coalition) = 9
unsigned_status (Refused member code) = 11
unsigned_status (Stray member round) = 11
unsigned_status NotACoalition = 18

abbrev pub status_of : Ending → ℕ
status_of (Verified (Accepted leaf)) = 0
status_of (Verified (Malformed fault)) = 1
status_of (Verified (OtherRoot got want)) = 1
status_of (Checked (levels.Accepted count)) = 0
status_of (Checked (levels.Malformed fault)) = 1
status_of (Checked (levels.OtherRoot level got want)) = 1
status_of Rehearsed = 0
status_of (Dealt leaves coalitions) = 0
status_of (Enrolled number) = 0
status_of (Migrated slots) = 0
status_of (Approved slots) = 0
status_of (Signed leaf) = 0
status_of (SignedLevels leaf) = 0
status_of (Served connections frames) = 0
status_of (Drilled summary) = 0
status_of (Shown text) = 0
status_of Usage = 2
status_of StoreFailed = 3
status_of (Unreadable name fault) = 4
status_of (NotDealt why) = 5
status_of (NotSigned why) = unsigned_status why
status_of DeviceFailed = 10
status_of (TooLong got) = 12
status_of (NotLoaded fault) = 13
status_of NoMemory = 14
status_of (Exists name) = 15
status_of NetFailed = 17
status_of BookFull = 19

-- the line feed that ends each line
abbrev pub end_of_line : List ℕ
end_of_line = 10 ∷ []

-- the line that says why a key is not dealt
abbrev pub undealt_line : Undealt → List ℕ
undealt_line Code = codes "error 5 code" ++ end_of_line
undealt_line Threshold = codes "error 5 threshold" ++ end_of_line
undealt_line (Coalitions count) = codes "error 5 coalitions " ++ (decimal count ++ end_of_line)
undealt_line (Height h) = codes "error 5 height " ++ (decimal h ++ end_of_line)
undealt_line Width = codes "error 5 width" ++ end_of_line
undealt_line (Entropy got want) =
    codes "error 5 entropy " ++ (decimal got ++ (codes " " ++ (decimal want ++ end_of_line)))
undealt_line (Keys t u) = codes "error 5 keys " ++ (decimal t ++ (codes " " ++ (decimal u ++ end_of_line)))
undealt_line (Commitments bytes) = codes "error 5 commitments " ++ (decimal bytes ++ end_of_line)

-- two numbers, the first after these words and the second after those
abbrev pub two_numbers : List ℕ → ℕ → List ℕ → ℕ → List ℕ
two_numbers words first more second = words ++ (decimal first ++ (more ++ (decimal second ++ end_of_line)))

-- numbers, each after a space
abbrev pub spaced : List ℕ → List ℕ
spaced [] = []
spaced (number ∷ numbers) = codes " " ++ (decimal number ++ spaced numbers)

-- the numbers of members that are blamed, each after a space, or ` none`
abbrev pub blamed_words : List ℕ → List ℕ
blamed_words [] = codes " none"
blamed_words (member ∷ members) = spaced (member ∷ members)

-- the line that says why nothing is signed
abbrev pub unsigned_line : Unsigned → List ℕ
unsigned_line (Missing member round) = two_numbers (codes "error 6 missing ") member (codes " round ") round
unsigned_line (SpentLeaf leaf member) = two_numbers (codes "error 7 spent leaf ") leaf (codes " member ") member
unsigned_line (WrongCheck leaf member) = two_numbers (codes "error 8 check leaf ") leaf (codes " member ") member
unsigned_line (WrongRoot leaf got want) =
    codes "error 8 root leaf " ++ (decimal leaf
    ++ (codes " " ++ (encode_lower got ++ (codes " " ++ (encode_lower want ++ end_of_line)))))
unsigned_line (Blamed members) = codes "error 8 blamed" ++ (blamed_words members ++ end_of_line)
unsigned_line (NoLeaf coalition) = codes "error 9 no leaf coalition " ++ (decimal coalition ++ end_of_line)
unsigned_line (Refused member code) = two_numbers (codes "error 11 member ") member (codes " code ") code
unsigned_line (Stray member round) = two_numbers (codes "error 11 stray ") member (codes " round ") round
unsigned_line NotACoalition = codes "error 18 not a coalition" ++ end_of_line

-- the line that says why bytes are not an HSS signature under a key; the top level is level 0
abbrev pub hss_fault_line : HssFault → List ℕ
hss_fault_line hss.Short = codes "not accepted: hss short" ++ end_of_line
hss_fault_line (hss.Levels got) = codes "not accepted: hss levels " ++ (decimal got ++ end_of_line)
hss_fault_line (hss.Sig level fault) =
    two_numbers (codes "not accepted: hss sig ") (signature_fault_number fault) (codes " level ") level
hss_fault_line (hss.Pub level fault) =
    two_numbers (codes "not accepted: hss key ") (key_fault_number fault) (codes " level ") level

-- the line of a verdict on an HSS signature
abbrev pub levels_line : HssVerdict → List ℕ
levels_line (levels.Accepted count) = codes "accepted levels " ++ (decimal count ++ end_of_line)
levels_line (levels.Malformed fault) = hss_fault_line fault
levels_line (levels.OtherRoot level got want) =
    codes "not accepted: hss root " ++ (decimal level
    ++ (codes " " ++ (encode_lower got ++ (codes " " ++ (encode_lower want ++ end_of_line)))))

-- what the line of a drill says of its sessions, and then of its asks
abbrev pub drilled_sessions : Summary → List ℕ
drilled_sessions summary =
    codes "sessions " ++ (decimal summary.sessions
    ++ (codes " signed " ++ (decimal summary.signed ++ (codes " refused " ++ decimal summary.refused))))

abbrev pub drilled_asks : Summary → List ℕ
drilled_asks summary =
    codes " asks " ++ (decimal summary.asks
    ++ (codes " granted " ++ (decimal summary.granted
    ++ (codes " cuts " ++ (decimal summary.cuts
    ++ (codes " restarts " ++ (decimal summary.restarts ++ (codes " most " ++ decimal summary.most))))))))

abbrev pub line_of : Ending → List ℕ
line_of (Verified (Accepted leaf)) = codes "accepted leaf " ++ (decimal leaf ++ end_of_line)
line_of (Verified (Malformed fault)) =
    codes "not accepted: malformed " ++ (decimal (signature_fault_number fault) ++ end_of_line)
line_of (Verified (OtherRoot got want)) =
    codes "not accepted: root " ++ (encode_lower got ++ (codes " key " ++ (encode_lower want ++ end_of_line)))
line_of (Checked verdict) = levels_line verdict
line_of Rehearsed = codes "rehearsed leaf 0" ++ end_of_line
line_of (Dealt leaves coalitions) =
    codes "dealt " ++ (decimal leaves
    ++ (codes " leaves to " ++ (decimal coalitions ++ (codes " coalitions" ++ end_of_line))))
line_of (Enrolled number) = codes "enrolled " ++ (decimal number ++ end_of_line)
line_of (Migrated slots) = codes "migrated " ++ (decimal slots ++ end_of_line)
line_of (Approved slots) = codes "approved " ++ (decimal slots ++ end_of_line)
line_of (Signed leaf) = codes "signed leaf " ++ (decimal leaf ++ end_of_line)
line_of (SignedLevels leaf) = codes "signed leaf " ++ (decimal leaf ++ (codes " levels 2" ++ end_of_line))
line_of (Served connections frames) =
    codes "served " ++ (decimal connections
    ++ (codes " connections " ++ (decimal frames ++ (codes " frames" ++ end_of_line))))
line_of (Drilled summary) = drilled_sessions summary ++ (drilled_asks summary ++ end_of_line)
line_of (Shown text) = text
line_of Usage = codes "error 2 usage" ++ end_of_line
line_of StoreFailed = codes "error 3 store" ++ end_of_line
line_of (Unreadable name fault) = codes "error 4 file " ++ (name ++ (codes " fault " ++ (decimal fault ++ end_of_line)))
line_of (NotDealt why) = undealt_line why
line_of (NotSigned why) = unsigned_line why
line_of DeviceFailed = codes "error 10 device" ++ end_of_line
line_of (TooLong got) = codes "error 12 too long " ++ (decimal got ++ end_of_line)
line_of (NotLoaded fault) = codes "error 13 journal fault " ++ (decimal fault ++ end_of_line)
line_of NoMemory = codes "error 14 memory" ++ end_of_line
line_of (Exists name) = codes "error 15 exists " ++ (name ++ end_of_line)
line_of NetFailed = codes "error 17 network" ++ end_of_line
line_of BookFull = codes "error 19 book full" ++ end_of_line
