-- What a command that served came to over objects that do not fail except for their arguments.
use Rattle.aggregator_session.specs.Desks.{DeskState}
use Rattle.std.proofs.Common.{◌≡◌, ◌∙◌, ℕ, List, Some, IsTrue, ap}
use Rattle.aggregator_node.specs.Ports.{requests_in}
use Rattle.aggregator_node.specs.Connections.{with_status}
use Rattle.share_files.specs.declared.reference.RefHeader.{RefHeader}
use Rattle.tool_aggregate.specs.Desks.{IsDesk}
use Rattle.tool_aggregate.specs.Serving.{ServedTable}
use Rattle.tool_aggregate.specs.Steady.{HasNoNetFault}
use Rattle.tool_base.specs.Ending as ending
use Rattle.tool_base.specs.Ending.{Ending}
use Rattle.tool_base.specs.World.{Outside, StoreRun, from_to}
use Rattle.laws_commands.proofs.Offering.{aggregate-served, trustee-served}
use Rattle.laws_commands.specs.Serving.{ServesAll, ServesAsks, asks, clients}
use Rattle.laws_commands.specs.Steady.{place_of}
use Rattle.tool_run.specs.ToolRun.{CommandRun}
use Rattle.tool_sign.specs.Ports.{NetRun, over_net}
use Rattle.tool_trustee.specs.Steady.{GrantsAll}
use Rattle.tool_trustee.specs.Trustee.{ServedTrustee}
use Rattle.tool_words.specs.Words.{Row, Aggregate, AggregateWords, Trustee, TrusteeWords}
use Rattle.trustee_core.specs.declared.kept.TrusteeName.{TrusteeName}
use Rattle.trustee_node.specs.Ports.{NoLinkFails, TakesAll, turns_in}

module _ (before after : Outside) where
  abbrev store : StoreRun
  store = from_to before.store after.store

  abbrev net : NetRun
  net = over_net before.net after.net

  -- what the laws about both services say about this run
  pub record Laws : Type 0 where
    pub grants : (words : TrusteeWords) (end : Ending) (run : ServedTrustee words before after end) → GrantsAll run.share run.ids (turns_in run.net.served.runs)
    pub links : (words : TrusteeWords) (end : Ending) (run : ServedTrustee words before after end) → TakesAll run.share.params before.net.room → NoLinkFails run.net.served.runs
    pub no_fault : (words : AggregateWords) (header : RefHeader) (desk : DeskState) (end : Ending) (run : ServedTable words store net header desk end) → HasNoNetFault run
    pub no_device : (words : AggregateWords) (header : RefHeader) (desk : DeskState) (end : Ending) (run : ServedTable words store net header desk end)
        → IsDesk words store header desk → with_status 10 (requests_in run.serves.over.served.runs) ≡ 0

  module _ (told : IsTrue before.store.told) (steady : IsTrue before.store.steady) (net_steady : IsTrue before.net.steady) (laws : Laws) where
    serves-asks : (words : TrusteeWords) (end : Ending) → ServedTrustee words before after end → ServesAsks words before after end
    serves-asks words end run =
        let codes = run.net.served.codes in
        let name = run.name_is in
        let tells : IsTrue run.new.name.told = ap (λ (n : TrusteeName). n.told) name ∙ run.told told in
        let steadies : IsTrue run.new.name.steady = ap (λ (n : TrusteeName). n.steady) name ∙ run.steady steady in
        record {
          run = run;
          hears = run.net.hears net_steady;
          no_device = codes.steady steadies tells;
          no_damage = codes.told tells;
          grants = laws.grants words end run;
          links = laws.links words end run;
        }

    pub command-serves : (connections frames : ℕ) (row : Row) (end : Ending) → CommandRun row before after end → (place : List ℕ) → place_of row ≡ Some place
        → end ≡ ending.Served connections frames → ServesAll before after row end
    command-serves connections frames (Trustee words) end ran place at is =
        asks words end (serves-asks words end (trustee-served before after connections frames words end ran.touched ran.ends is))
    command-serves connections frames (Aggregate words) end ran place at is =
        let one = aggregate-served store connections frames words net end ran.touched ran.ends is in
        clients words end (record {
          header = one.header;
          desk = one.desk;
          is_desk = one.is;
          run = one.served;
          no_fault = laws.no_fault words one.header one.desk end one.served;
          no_device = laws.no_device words one.header one.desk end one.served one.is;
        })
    command-serves connections frames row end ran place at is = absurd (cc)
