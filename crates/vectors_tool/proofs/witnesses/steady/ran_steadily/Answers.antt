use Rattle.std.proofs.Common.{◌≡◌, ◌∙◌, true, List, ℕ, ap, arith, map, string_bytes}
use Rattle.stream_io.specs.Net.{NetState}
use Rattle.stream_memory.specs.Calls.{is_empty}
use Rattle.stream_memory.specs.Ports.{is_steady_script}
use Rattle.vectors_tool.proofs.Printed.{steady-of, steady-scripts}
use Rattle.vectors_tool.proofs.witnesses.steady.ran_steadily.Goals as goal

pub returns : goal.returns
returns g c = λ is.
    let whole : c.is_whole.result ≡ true = cc in
    let store = c.in_ok-store.ensures in
    let net = c.new-net.ensures in
    let out = c.in_ok-out.ensures in
    let room = out.room in
    let within = c.is_whole.ensures.room whole in (
      c.in_ok-store.store,
      c.run_over.new.store,
      c.new-net.result,
      c.run_over.new.net,
      c.new-time.result,
      c.run_over.new.time,
      c.in_ok-out.out,
      c.run_over.new.out,
      c.run_over.result,
      steady-of (map string_bytes c.args.words.now) c.args.files.items _ c.run_over.result (c.is_command.ensures c.if-not-is_command.false) store.begun
          (store.steady ∙ ap (λ (xs : List ℕ). is_empty xs) c.new.ensures.items)
          (ap (λ (n : NetState). n.told) net)
          (ap (λ (n : NetState). n.steady) net ∙ steady-scripts is_steady_script c.new-2.result.items c.new-3.result.items c.new-2.ensures.items c.new-3.ensures.items)
          (record {
            steady = out.steady.1 c.new-4.ensures.items;
            told = out.told;
            empty = out.written;
            none = out.count;
            quiet = c.is_whole.ensures.count whole;
            within = omega (arith, room, within);
          }) c.run_over.ensures,
    )
