use Rattle.laws_commands.proofs.Steady.{steady-run}
use Rattle.laws_commands.proofs.laws.steady.Goals as goal

pub returns : goal.returns
returns g c = λ words row net_old net_new time later output status is run steady.
    let asks = c.steady_trustee.ensures in
    let clients = c.steady_aggregate.ensures in
    steady-run words row _ status is run steady (record {
      grants = λ own end served. asks.grants own net_old net_new time later end served steady.store_told steady.store_steady;
      links = λ own end served. asks.links own net_old net_new time later end served steady.net_steady;
      no_fault = λ own header desk end served. clients.net own _ header desk end served steady.net_steady;
      no_device = λ own header desk end served at.
          clients.failures own _ header desk end served at steady.store_told steady.store_steady;
    })
