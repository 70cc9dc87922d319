use Rattle.std.proofs.Common.{◌≡◌, All, length, option_copied, ap, subst, sym, ◌∙◌, arith}
use Rattle.std.proofs.lemmas.List.{length_push}
use Rattle.std.proofs.lemmas.List.Elements.{All-push}
use Rattle.stream_host.specs.TcpPort.{buffered_port_state}
use Rattle.stream_host.specs.Untold.{untold_port}
use Rattle.stream_host.proofs.tcp_net.make_ports.Goals as goal

pub loop-preserved : goal.loop-preserved
loop-preserved g c =
    let v = c.loop.invariant in
    let port = c.new_port.result in
    let pushed = c.in_ok-push.ensures.items in
    record {
      place = v.place;
      many = (let e = ap length pushed in let l = length_push c.loop.ports.items port in let m = v.many in omega arith);
      fresh = subst (λ ports. All (λ port. buffered_port_state port ≡ untold_port (option_copied c.args.name) 0 0) ports) (sym pushed)
          (All-push (λ port. buffered_port_state port ≡ untold_port (option_copied c.args.name) 0 0) c.loop.ports.items port v.fresh
          (c.new_port.ensures ∙ ap (λ place. untold_port place 0 0) (c.in_ok-share.ensures ∙ v.place)));
    }
