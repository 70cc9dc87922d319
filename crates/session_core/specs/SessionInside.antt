-- How a session is kept.
use Rattle.session_core.specs.State.{State}
use Rattle.session_core.specs.declared.session.Session.TheInside.{Inside}

-- the state that contracts see
abbrev pub seen : Inside → State
seen s = record {
  key = s.key;
  plan = s.plan;
  leaf = s.leaf;
  message = s.message;
  c = s.c;
  first = s.first.items;
  second = s.second.items;
}
