-- Grants at several ports.
use Rattle.std.proofs.Common.{◌≡◌, ◌≤◌, ℕ, List, [], ◌∷◌, ◌++◌, Option, All, length, map, arith, refl, sym, ap, ◌∙◌, subst}
use Rattle.std.proofs.lemmas.List.Elements.{All-cons, All-head, All-nil, All-tail}
use mathlib.Core.List.{IsPrefix}
use Rattle.lms_bytes.specs.declared.ask.Ask.{Ask}
use Rattle.opening_journal.specs.Entries.{IsLegalList}
use Rattle.opening_journal.specs.declared.entry.Entry.{Entry}
use Rattle.trustee_core.specs.Approvals.{Decided, Denied}
use Rattle.share_files.specs.declared.share.Share.{Share}
use Rattle.trustee_core.specs.Decisions.{Granted, Refused}
use Rattle.trustee_core.specs.Lives.{OneOpening}
use Rattle.trustee_node.specs.Places.{StandUnder, granted_by, granted_in, if_granted}
use Rattle.trustee_node.specs.Turns.{InTurn, NoTurn, Outcome, Turn}
use Rattle.trustee_node.specs.Workers.{turns_of}
use Rattle.trustee_node.proofs.Opening.{one-opening}
use Rattle.node_workers.proofs.Prefixes.{prefix-same}
use Rattle.trustee_node.proofs.Standing.{served-begins}
use Rattle.trustee_node.specs.Ports.{IsPortRun, PortRun, PortsRun, ServedPorts, turns_in}
use Rattle.trustee_node.specs.Trustees.{TrusteeState}
use Rattle.stream_io.specs.declared.totals.Totals.{Totals}

-- what was granted in turns that follow other turns
granted-one : (outcome : Outcome) (ask : Ask) (asks more : List Ask) → if_granted outcome ask (asks ++ more) ≡ if_granted outcome ask asks ++ more
granted-one (InTurn (Decided Granted)) ask asks more = refl
granted-one (InTurn (Decided (Refused why))) ask asks more = refl
granted-one (InTurn (Denied message)) ask asks more = refl
granted-one NoTurn ask asks more = refl

granted-append : (turns more : List Turn) → granted_in (turns ++ more) ≡ granted_in turns ++ granted_in more
granted-append [] more = refl
granted-append (turn ∷ turns) more =
    ap (if_granted turn.outcome turn.ask) (granted-append turns more) ∙ granted-one turn.outcome turn.ask (granted_in turns) (granted_in more)

granted-runs : (runs : List PortRun) → granted_by (map (λ (run : PortRun). turns_of run.served) runs) ≡ granted_in (turns_in runs)
granted-runs [] = refl
granted-runs (run ∷ runs) =
    ap (λ (asks : List Ask). granted_in (turns_of run.served) ++ asks) (granted-runs runs) ∙ sym (granted-append (turns_of run.served) (turns_in runs))

pub runs-stand : (share : Share) (ids : Option (List (List ℕ))) (asked : ℕ) (log last : List Entry) (runs : List PortRun) → All (IsPortRun share ids asked log last) runs
    → All (StandUnder share last) (map (λ (run : PortRun). turns_of run.served) runs)
runs-stand share ids asked log last [] are = All-nil (StandUnder share last)
runs-stand share ids asked log last (run ∷ runs) are =
    let Is = IsPortRun share ids asked log last in
    let one = All-head Is run runs are in
    All-cons (StandUnder share last) (turns_of run.served) (map (λ (r : PortRun). turns_of r.served) runs)
    (record { ids = ids; log = log; end = last; served = one.turns; begins = prefix-same last })
    (runs-stand share ids asked log last runs (All-tail Is run runs are))

pub ports-opening : (share : Share) (ids : Option (List (List ℕ))) (asked : ℕ) (old new : TrusteeState) (ports : PortsRun) (totals : Totals)
    → (all : ServedPorts share ids asked old new ports totals) → IsLegalList new.entries → OneOpening share (granted_in (turns_in all.runs))
ports-opening share ids asked old new ports totals all legal =
    subst (OneOpening share) (granted-runs all.runs)
    (one-opening share new.entries (map (λ (run : PortRun). turns_of run.served) all.runs) legal (runs-stand share ids asked old.entries new.entries all.runs all.are))

-- the log at the start begins the last one, if there is a port
pub runs-begin : (share : Share) (ids : Option (List (List ℕ))) (asked : ℕ) (log last : List Entry) (runs : List PortRun) → 1 ≤ length runs → All (IsPortRun share ids asked log last) runs
    → IsPrefix log last
runs-begin share ids asked log last [] some are = absurd (omega (arith, some))
runs-begin share ids asked log last (run ∷ runs) some are =
    served-begins share ids log last (turns_of run.served) (All-head (IsPortRun share ids asked log last) run runs are).turns
