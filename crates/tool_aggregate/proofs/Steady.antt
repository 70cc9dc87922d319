-- How the command ends over a steady store that tells its content, and over a net of the same kind.
use Rattle.aggregator_session.specs.Desks.{DeskState}
use Rattle.std.proofs.Common.{◌≡◌, ◌∙◌, ℕ, List, [], ◌∷◌, All, Option, Some, IsTrue, length, map, inl, inr, false, sym, ap, subst}
use Rattle.std.proofs.lemmas.List.Elements.{All-cons, All-head, All-nil, All-tail}
use Rattle.aggregator_node.specs.Clients.{IsExact}
use Rattle.aggregator_node.specs.Ports.{IsPortRun, Place, PortRun, requests_in}
use Rattle.aggregator_node.specs.Connections.{with_status}
use Rattle.leaf_table.specs.declared.lease.Lease.{Lease}
use Rattle.leaf_table.specs.declared.table.TableName.{TableName}
use Rattle.mask_prf.specs.Lengths.{leaves_length}
use Rattle.share_files.specs.declared.reference.RefHeader.{RefHeader}
use Rattle.stream_io.specs.Net.{IsNewPort, NetState, PortState}
use Rattle.tool_base.specs.Ending as ending
use Rattle.tool_base.specs.Ending.{Ending}
use Rattle.tool_base.specs.World.{StoreRun}
use Rattle.tool_aggregate.specs.Aggregate.{AggregateEnds, AggregateRun, TableEnds}
use Rattle.tool_aggregate.specs.Aggregate as aggregate
use Rattle.tool_aggregate.specs.Desks.{FailsDesk, IsDesk, ReadsReference}
use Rattle.tool_aggregate.specs.Desks as desks
use Rattle.tool_aggregate.specs.Serving.{ServedTable, ports_of}
use Rattle.tool_desk.proofs.Keys.{sizes}
use Rattle.tool_desk.specs.Files.{key_name, reference_name, tree_name}
use Rattle.tool_desk.specs.declared.files.KeyFiles.{KeyFiles}
use Rattle.tool_base.specs.Services.{HasAccepted}
use Rattle.tool_sign.proofs.Steady.{EndsSteady, Lack, keys-steady, lacking, load-steady, other-steady, plain, reference-steady, unheard}
use Rattle.tool_sign.specs.Ports.{NetRun}
use Rattle.tool_desk.specs.Views.{FailsReferences}
use Rattle.tool_desk.specs.Views as views
use Rattle.tool_words.specs.Words.{AggregateWords}
use Rattle.node_workers.specs.Ports.{PortEnds, failed, full, none_waits}

-- a steady port never fails to accept
accepted-by : (asked done : ℕ) (before after : PortState) → PortEnds asked done before after → before.accept_count ≡ 0 → IsTrue after.steady → after.accept_count ≡ 0
accepted-by asked done before after (full all same) none_yet is = same ∙ none_yet
accepted-by asked done before after (none_waits empty same) none_yet is = same ∙ none_yet
accepted-by asked done before after (failed rose unsteady) none_yet is = absurd (unsteady is)

abbrev place_before : PortRun → Place
place_before run = run.before

abbrev place_after : PortRun → Place
place_after run = run.after

module _ (desk : DeskState) (asked : ℕ) (name : Option TableName) (log last : List Lease) (net : NetState) (place : Option (List ℕ)) (is_steady : IsTrue net.steady) where
  all-accepted : (runs : List PortRun) → All (IsPortRun desk asked name log last) runs → All (IsNewPort net place) (ports_of (map place_before runs))
      → All HasAccepted (ports_of (map place_after runs))
  all-accepted [] are new = All-nil HasAccepted
  all-accepted (run ∷ runs) are new =
      let one = All-head (IsPortRun desk asked name log last) run runs are in
      let made = All-head (IsNewPort net place) run.before.port (ports_of (map place_before runs)) new in
      All-cons HasAccepted run.after.port (ports_of (map place_after runs))
      (accepted-by asked (length run.served) run.before.port run.after.port one.ends made.accept_count (rw one.onward.steady (made.steady is_steady)))
      (all-accepted runs (All-tail (IsPortRun desk asked name log last) run runs are) (All-tail (IsNewPort net place) run.before.port (ports_of (map place_before runs)) new))

module _ (words : AggregateWords) (store : StoreRun) (net : NetRun) (header : RefHeader) (desk : DeskState) (end : Ending) (served : ServedTable words store net header desk end) (net_steady : IsTrue net.before.steady) where
  -- no port of a service over a steady net fails to accept, and the service ends with its numbers
  pub hears : All HasAccepted (ports_of served.places_new)
  hears =
      let over = served.serves.over in
      let clients = over.served in
      subst (λ (places : List Place). All HasAccepted (ports_of places)) clients.after
      (all-accepted desk words.connections (Some served.serves.old.name) served.serves.old.state.entries served.serves.new.state.entries net.before (Some words.place) net_steady clients.runs clients.are
      (subst (λ (places : List Place). All (IsNewPort net.before (Some words.place)) (ports_of places)) (sym clients.before) over.made))

  pub tells-served : end ≡ ending.Served served.serves.over.totals.connections served.serves.over.totals.frames
  tells-served = elim served.serves.over.ends [
    | inl all ↦ all.1
    | inr some ↦ absurd (some.0 hears)
  ]

-- ---- over a steady store that tells its content
module _ (words : AggregateWords) (store : StoreRun) (header : RefHeader) (desk : DeskState) (told : IsTrue store.before.told) (steady : IsTrue store.before.steady) (is : IsDesk words store header desk) where
  exact-place : (place : Place) → ReadsReference words store header place → IsExact desk place.reference
  exact-place place reads = record {
    steady = reads.steady steady;
    told = reads.told told;
    whole =
        (reads.leaves.is told).leaves_are
        ∙ ((sizes is.files header is.one_key).leaves ∙ ap (λ (d : DeskState). leaves_length d.key.params d.plan) (sym is.desk_is));
  }

  exact-runs : (runs : List PortRun) → All (ReadsReference words store header) (map place_before runs) → All (λ (run : PortRun). IsExact desk run.before.reference) runs
  exact-runs [] read = All-nil (λ (run : PortRun). IsExact desk run.before.reference)
  exact-runs (run ∷ runs) read =
      All-cons (λ (run : PortRun). IsExact desk run.before.reference) run runs
      (exact-place run.before (All-head (ReadsReference words store header) run.before (map place_before runs) read))
      (exact-runs runs (All-tail (ReadsReference words store header) run.before (map place_before runs) read))

  -- no reply says that a device failed
  pub never-fails : (net : NetRun) (end : Ending) (served : ServedTable words store net header desk end) → with_status 10 (requests_in served.serves.over.served.runs) ≡ 0
  never-fails net end served =
      let table = served.serves in
      let clients = table.over.served in
      let name = table.name_is in
      clients.failures.steady (ap (λ (n : TableName). n.steady) name ∙ table.fresh.steady steady) (ap (λ (n : TableName). n.told) name ∙ table.fresh.told told)
      (exact-runs clients.runs (subst (All (ReadsReference words store header)) (sym clients.before) served.reads))

module _ (lacks unoffered : Type 0) (words : AggregateWords) (store : StoreRun) (net : NetRun) (told : IsTrue store.before.told) (steady : IsTrue store.before.steady)
    (net_told : IsTrue net.before.told) (net_steady : IsTrue net.before.steady)
    (key : Lack lacks unoffered store told steady (key_name words.prefix)) (tree : Lack lacks unoffered store told steady (tree_name words.prefix))
    (reference : Lack lacks unoffered store told steady (reference_name words.prefix)) (lack_table : Lack lacks unoffered store told steady words.table)
    (none : net.before.offers words.place ≡ false → unoffered) where
  references-steady : (files : KeyFiles) (end : Ending) → FailsReferences store words.prefix files end → EndsSteady lacks unoffered end
  references-steady files _ (views.not_viewed end fails) = reference-steady lacks unoffered store told steady _ end reference fails
  references-steady files _ (views.other_key header end viewed other) = other-steady lacks unoffered store told steady words.prefix files header end other
  references-steady files _ (views.not_one_file one other differ first second) = plain lacks unoffered (ending.Unreadable _ 7) (λ is. cc) (λ is. cc) (λ is. cc)

  desk-steady : (end : Ending) → FailsDesk words store end → EndsSteady lacks unoffered end
  desk-steady _ desks.no_memory = plain lacks unoffered ending.NoMemory (λ is. cc) (λ is. cc) (λ is. cc)
  desk-steady _ (desks.no_key_files end fails) = keys-steady lacks unoffered store told steady words.prefix end key tree fails
  desk-steady _ (desks.no_references files end read fails) = references-steady files end fails

  module _ (header : RefHeader) (desk : DeskState) where
    served-steady : (end : Ending) → ServedTable words store net header desk end → EndsSteady lacks unoffered end
    served-steady end served =
        let totals = served.serves.over.totals in
        subst (EndsSteady lacks unoffered) (sym (tells-served words store net header desk end served net_steady))
        (plain lacks unoffered (ending.Served totals.connections totals.frames) (λ is. cc) (λ is. cc) (λ is. cc))

    table-steady : (end : Ending) (touched : List (List ℕ)) → TableEnds words store net desk (ServedTable words store net header desk) end touched → EndsSteady lacks unoffered end
    table-steady _ _ (aggregate.no_memory touched heard stays) = plain lacks unoffered ending.NoMemory (λ is. cc) (λ is. cc) (λ is. cc)
    table-steady _ _ (aggregate.no_table read heard) = lacking lacks unoffered (lack_table (read.1 told steady))
    table-steady _ _ (aggregate.not_loaded end fails heard stays) = load-steady lacks unoffered store told steady _ _ words.table end fails
    table-steady _ _ (aggregate.no_ports entries reads heard rose never stays) = unheard lacks unoffered (none (never net_told net_steady))
    table-steady _ _ (aggregate.served end serves) = served-steady end serves

  ends-steady : (end : Ending) (touched : List (List ℕ)) → AggregateEnds words store net end touched → EndsSteady lacks unoffered end
  ends-steady _ _ (aggregate.no_desk end fails same) = desk-steady end fails
  ends-steady _ _ (aggregate.ended header desk end touched is ends) = table-steady header desk end touched ends

  pub aggregate-steady : (end : Ending) → AggregateRun words store net end → EndsSteady lacks unoffered end
  aggregate-steady end run = ends-steady end run.touched run.ends
