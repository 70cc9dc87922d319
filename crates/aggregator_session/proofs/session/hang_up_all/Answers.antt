use Rattle.std.proofs.Common.{◌<◌, [], ◌∷◌, ◌++◌, List, length, map, refl, sym, ap, ◌∙◌, arith, append_assoc}
use Rattle.aggregator_session.proofs.Lasts.{first-of, hung-all, hung-more, hung-none}
use Rattle.aggregator_session.proofs.Numbers.{all-gone, none-gone, some-left}
use Rattle.aggregator_session.proofs.session.hang_up_all.Goals as goal

pub loop-init : goal.loop-init
loop-init g c = record {
  gone = [];
  all = refl;
  hung_up = hung-none (g.P.Port.state c.args.port.now);
  many = none-gone _ _ c.len-end.ensures;
}

pub loop-preserved : goal.loop-preserved
loop-preserved g c =
    let talk = g.P.Link.Stream.talk in
    let state = g.P.Port.state in
    let v = c.loop.invariant in
    let r = c.remove.ensures in
    let h = c.hang_up.ensures in
    let one = talk c.remove.result in
    let rest = c.remove.new.self.items in
    let some : 0 < length c.loop.links.items = some-left _ _ _ _ v.many c.loop-test.true c.loop.links.ok.0 in
    let first = first-of c.loop.links.items rest c.remove.result some r.value r.items in
    record {
      gone = v.gone ++ one ∷ [];
      all = v.all ∙ ap (λ (l : List _). v.gone ++ map talk l) first ∙ sym (append_assoc v.gone (one ∷ []) (map talk rest));
      hung_up = hung-more (state c.args.port.now) (state c.loop.port) (state c.hang_up.new.self) v.gone one v.hung_up h.kept h.onward;
      many = (let many = v.many in let more = c.loop-test.true in let len = r.len in omega (arith, many, more, len));
    }

pub returns : goal.returns
returns g c =
    let v = c.loop.invariant in
    let links = c.loop.links in
    hung-all g.P.Link.Stream.talk links.items _ _ _ v.gone v.all
    (all-gone links.len c.loop.counter _ _ v.many c.loop-test.false links.ok.0) v.hung_up
