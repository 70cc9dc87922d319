use Rattle.std.specs.Prelude.{Some}
use Rattle.tool_aggregate.proofs.Steady.{hears, never-fails, tells-served}
use Rattle.tool_aggregate.proofs.laws.steady_aggregate.Goals as goal

pub returns-clause-net : goal.returns-clause-net
returns-clause-net g c = λ words net header desk end run steady. record {
  hears = hears words _ net header desk end run steady;
  end_is = tells-served words _ net header desk end run steady;
  links = λ room.
      c.no_link_fails.ensures.net desk words.connections run.serves.old run.serves.new run.places_old run.places_new
      run.serves.over.totals net.before (Some words.place) run.serves.over.served steady room run.serves.over.made;
}

pub returns-clause-failures : goal.returns-clause-failures
returns-clause-failures g c = λ words net header desk end run is told steady. never-fails words _ header desk told steady is net end run
