-- What a command that served was run with, and that the net offers its place.
use Rattle.aggregator_session.specs.Desks.{DeskState}
use Rattle.std.proofs.Common.{◌≡◌, ℕ, List, Option, Some, IsTrue, subst}
use Rattle.share_files.specs.declared.reference.RefHeader.{RefHeader}
use Rattle.slot_file.specs.declared.header.Header.{Header}
use Rattle.tool_aggregate.specs.Aggregate.{AggregateEnds}
use Rattle.tool_aggregate.specs.Aggregate as aggregate
use Rattle.tool_aggregate.specs.Desks.{FailsDesk, IsDesk}
use Rattle.tool_aggregate.specs.Desks as desks
use Rattle.tool_aggregate.specs.Serving.{ServedTable}
use Rattle.tool_base.specs.Ending as ending
use Rattle.tool_base.specs.Ending.{Ending}
use Rattle.tool_base.specs.Grammars.{FailsGrammar, not_in_grammar, not_read}
use Rattle.tool_base.specs.Loads.{FailsToLoad}
use Rattle.tool_base.specs.Loads as loads
use Rattle.tool_base.specs.Reads.{FailsUpTo}
use Rattle.tool_base.specs.Reads as reads
use Rattle.tool_base.specs.World.{Outside, StoreRun, from_to}
use Rattle.tool_desk.specs.Files.{FailsKeyFiles, IsOfOtherKey}
use Rattle.tool_desk.specs.Files as files
use Rattle.tool_desk.specs.Reference.{FailsReference}
use Rattle.tool_desk.specs.Reference as references
use Rattle.tool_desk.specs.Views.{FailsReferences}
use Rattle.tool_desk.specs.Views as views
use Rattle.tool_desk.specs.declared.files.KeyFiles.{KeyFiles}
use Rattle.laws_commands.specs.Steady.{place_of}
use Rattle.tool_run.specs.ToolRun.{CommandRun}
use Rattle.tool_sign.specs.Ports.{NetRun}
use Rattle.tool_trustee.specs.Trustee.{ServedTrustee, TrusteeEnds, store_of}
use Rattle.tool_trustee.specs.Trustee as trustee
use Rattle.tool_words.specs.Words.{Row, Aggregate, Trustee, AggregateWords, TrusteeWords}

module _ (run : StoreRun) (connections frames : ℕ) where
  upto-unserved : (limit : ℕ) (name : List ℕ) (end : Ending) → FailsUpTo limit run name end → end ≡ ending.Served connections frames → ⊥
  upto-unserved limit name _ (reads.failed read) is = cc
  upto-unserved limit name _ (reads.too_long got read) is = cc
  upto-unserved limit name _ reads.no_memory is = cc

  grammar-unserved : (f : List ℕ → Option ℕ) (name : List ℕ) (end : Ending) → FailsGrammar f run name end → end ≡ ending.Served connections frames → ⊥
  grammar-unserved f name _ (not_read end fails) is = upto-unserved _ name end fails is
  grammar-unserved f name _ (not_in_grammar bytes why read found) is = cc

  load-unserved : (header : Header) (count : ℕ) (name : List ℕ) (end : Ending) → FailsToLoad header count run name end → end ≡ ending.Served connections frames → ⊥
  load-unserved header count name _ (loads.other_file f it) is = cc
  load-unserved header count name _ (loads.damaged it) is = cc
  load-unserved header count name _ (loads.device fails) is = cc
  load-unserved header count name _ loads.no_memory is = cc

  reference-unserved : (name : List ℕ) (end : Ending) → FailsReference run name end → end ≡ ending.Served connections frames → ⊥
  reference-unserved name _ (references.no_view read) is = cc
  reference-unserved name _ (references.not_in_grammar f it) is = cc
  reference-unserved name _ (references.device fails) is = cc
  reference-unserved name _ references.no_memory is = cc

  keys-unserved : (prefix : List ℕ) (end : Ending) → FailsKeyFiles run prefix end → end ≡ ending.Served connections frames → ⊥
  keys-unserved prefix _ (files.no_key end fails) is = grammar-unserved _ _ end fails is
  keys-unserved prefix _ (files.no_tree public end read fails) is = grammar-unserved _ _ end fails is

  other-unserved : (prefix : List ℕ) (keys : KeyFiles) (header : RefHeader) (end : Ending) → IsOfOtherKey prefix keys header end → end ≡ ending.Served connections frames → ⊥
  other-unserved prefix keys header _ (files.other_tree never) is = cc
  other-unserved prefix keys header _ (files.other_reference one never) is = cc
  other-unserved prefix keys header _ files.no_memory is = cc

  references-unserved : (prefix : List ℕ) (keys : KeyFiles) (end : Ending) → FailsReferences run prefix keys end → end ≡ ending.Served connections frames → ⊥
  references-unserved prefix keys _ (views.not_viewed end fails) is = reference-unserved _ end fails is
  references-unserved prefix keys _ (views.other_key header end viewed other) is = other-unserved prefix keys header end other is
  references-unserved prefix keys _ (views.not_one_file one other differ first second) is = cc

  desk-unserved : (words : AggregateWords) (end : Ending) → FailsDesk words run end → end ≡ ending.Served connections frames → ⊥
  desk-unserved words _ desks.no_memory is = cc
  desk-unserved words _ (desks.no_key_files end fails) is = keys-unserved words.prefix end fails is
  desk-unserved words _ (desks.no_references keys end are fails) is = references-unserved words.prefix keys end fails is

  module _ (words : AggregateWords) (net : NetRun) where
    -- clients were served with a table, at a desk of the files that the words name
    pub record ServedAt (end : Ending) : Type 0 where
      pub header : RefHeader
      pub desk : DeskState
      pub is : IsDesk words run header desk
      pub served : ServedTable words run net header desk end

    table-served : (header : RefHeader) (desk : DeskState) (end : Ending) (touched : List (List ℕ)) → IsDesk words run header desk
        → aggregate.TableEnds words run net desk (ServedTable words run net header desk) end touched → end ≡ ending.Served connections frames → ServedAt end
    table-served header desk _ _ at (aggregate.no_memory touched heard stays) is = absurd (cc)
    table-served header desk _ _ at (aggregate.no_table read heard) is = absurd (cc)
    table-served header desk _ _ at (aggregate.not_loaded end fails heard stays) is = absurd (load-unserved _ _ words.table end fails is)
    table-served header desk _ _ at (aggregate.no_ports entries it heard rose never stays) is = absurd (cc)
    table-served header desk _ _ at (aggregate.served end serves) is = record { header = header; desk = desk; is = at; served = serves }

    pub aggregate-served : (end : Ending) (touched : List (List ℕ)) → AggregateEnds words run net end touched → end ≡ ending.Served connections frames → ServedAt end
    aggregate-served _ _ (aggregate.no_desk end fails same) is = absurd (desk-unserved words end fails is)
    aggregate-served _ _ (aggregate.ended header desk end touched it ends) is = table-served header desk end touched it ends is

module _ (before after : Outside) (connections frames : ℕ) where
  pub trustee-served : (words : TrusteeWords) (end : Ending) (touched : List (List ℕ)) → TrusteeEnds words before after end touched → end ≡ ending.Served connections frames
      → ServedTrustee words before after end
  trustee-served words _ _ (trustee.no_memory touched heard stays) is = absurd (cc)
  trustee-served words _ _ (trustee.no_share end fails heard) is = absurd (grammar-unserved (store_of before after) connections frames _ words.share end fails is)
  trustee-served words _ _ (trustee.no_journal share it read heard) is = absurd (cc)
  trustee-served words _ _ (trustee.journal_not_loaded share end it fails stays heard) is =
      absurd (load-unserved (store_of before after) connections frames _ _ words.journal end fails is)
  trustee-served words _ _ (trustee.no_book share entries name it lost heard stays) is = absurd (cc)
  trustee-served words _ _ (trustee.book_not_loaded share entries name end it named fails heard stays still) is =
      absurd (load-unserved (store_of before after) connections frames _ _ name end fails is)
  trustee-served words _ _ (trustee.no_ports share entries ids touched it has heard rose never stays) is = absurd (cc)
  trustee-served words _ _ (trustee.served end books served stays) is = served

  pub command-offered : IsTrue before.net.told → (row : Row) (end : Ending) → CommandRun row before after end → (place : List ℕ) → place_of row ≡ Some place
      → end ≡ ending.Served connections frames → IsTrue (before.net.offers place)
  command-offered told (Trustee words) end ran place at is =
      let same : words.place ≡ place = cc in
      subst (λ (one : List ℕ). IsTrue (before.net.offers one)) same ((trustee-served words end ran.touched ran.ends is).net.offered told)
  command-offered told (Aggregate words) end ran place at is =
      let same : words.place ≡ place = cc in
      let one = aggregate-served (from_to before.store after.store) connections frames words _ end ran.touched ran.ends is in
      subst (λ (one : List ℕ). IsTrue (before.net.offers one)) same (one.served.serves.over.offered told)
  command-offered told row end ran place at is = absurd (cc)
