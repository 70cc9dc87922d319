use Rattle.std.proofs.Common.{◌++◌, List, map, inl, inr, refl, ap, ◌∙◌}
use Rattle.std.proofs.lemmas.Result.{err_from_is_err_and}
use Rattle.aggregator_session.specs.declared.fault.Why.TheVariants.{DialFailed, ReadFailed, WriteFailed}
use Rattle.aggregator_session.proofs.Counting.{session-counts}
use Rattle.aggregator_session.proofs.Lasts.{ended-faulty}
use Rattle.std.proofs.Math.Nat.{le_refl}
use Rattle.aggregator_session.proofs.Numbers.{none-hung, once-hung, rose-then}
use Rattle.aggregator_session.proofs.Running.{run-none}
use Rattle.aggregator_session.proofs.Signing.{cells-refused, port-none}
use Rattle.aggregator_session.proofs.Tasks.{bytes-lost, onward-then, rose-later}
use Rattle.aggregator_session.proofs.session.run_session.Goals as goal

pub returns-in_err-memory-clause-ran : goal.returns-in_err-memory-clause-ran
returns-in_err-memory-clause-ran g c =
    let p = err_from_is_err_and c.from_residual.result c.from_residual.ensures.1 in
    rw (p.1, p.2) (run-none _ _ _ _ _ (le_refl _))

pub returns-clause-ran : goal.returns-clause-ran
returns-clause-ran g c =
    let talk = g.P.Link.Stream.talk in
    let a = c.ask_all-result.ensures in
    let h = c.hang_up_all.ensures in
    record {
      talks = map talk c.ask_all-result.new.links.items;
      lasts = h.lasts;
      ended = h.ended;
      hung_up = λ told. h.kept (a.dials.only.onward.told ∙ told) ∙ ap (λ (l : List _). l ++ h.lasts) a.dials.only.talks;
      run = a.run;
      same = a.same;
      later = a.count;
      rises = λ some. rose-later _ _ _ a.dials.only.onward.count (h.rises some);
      counts = record {
        once = once-hung _ _ _ _ a.dials.once.once h.most;
        same = λ not. none-hung _ _ _ _ (a.dials.once.same (λ lost. not (bytes-lost DialFailed _ lost))) h.most;
      };
    }

pub returns-clause-port : goal.returns-clause-port
returns-clause-port g c =
    let a = c.ask_all-result.ensures in
    let h = c.hang_up_all.ensures in
    let only = a.dials.only in
    record {
      dialled = λ lost. rose-then _ _ _ (a.dials.dialled lost) h.onward.count;
      unwritten = λ lost. rose-later _ _ _ only.onward.count
          (h.rises (ended-faulty _ _ h.ended (session-counts WriteFailed (inl refl) _ _ _ _ _ _ _ _ a.run lost)));
      unread = λ lost. rose-later _ _ _ only.onward.count
          (h.rises (ended-faulty _ _ h.ended (session-counts ReadFailed (inr refl) _ _ _ _ _ _ _ _ a.run lost)));
      reads = a.dials.reads;
      writes = a.dials.writes;
      onward = onward-then _ _ _ only.onward h.onward;
      accepting = h.accepting ∙ only.accepting;
    }

pub returns-in_err-memory-clause-port : goal.returns-in_err-memory-clause-port
returns-in_err-memory-clause-port g c =
    let p = err_from_is_err_and c.from_residual.result c.from_residual.ensures.1 in
    rw (p.1, p.2) (port-none _ _ _ (λ why lost. lost))

pub returns-in_err-memory-clause-cells : goal.returns-in_err-memory-clause-cells
returns-in_err-memory-clause-cells g c =
    let p = err_from_is_err_and c.from_residual.result c.from_residual.ensures.1 in
    rw (p.1, p.2) (cells-refused g.R.Cells g.R.Faults _)

pub returns-clause-cells : goal.returns-clause-cells
returns-clause-cells g c = c.ask_all-result.ensures.cells
