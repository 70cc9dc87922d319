use Rattle.std.proofs.Common.{◌≡◌, ◌*◌, ◌≤◌, ◌∙◌, length, ap, sym, arith, take_all}
use Rattle.lms_bytes.specs.Signature.{signature_bytes}
use Rattle.merkle_path.specs.Tree.{path_at}
use Rattle.session_core.proofs.Keeping.{written_back}
use Rattle.session_core.proofs.session.Session.lay_out.Goals as goal

pub returns-clause-bytes : goal.returns-clause-bytes
returns-clause-bytes c =
    let s = c.self.inside in
    let params = s.key.params in
    let room = c.in_ok-path.path in
    let bytes = c.in_ok-bytes.bytes in
    let path : c.deref.result.now ≡ path_at c.args.tree.now s.leaf =
    c.deref.ensures.value ∙ (written_back c.write_path.new.out room.items room.len (omega arith) (omega arith) ∙ c.write_path.ensures) in
    let c_length : length c.args.c.now ≡ params.n = rw (← c.self.view_is) at c.requires.c in
    let y_length : length c.args.values.now ≡ params.n * params.p = rw (← c.self.view_is) at c.requires.values in
    let same = ap length c.bytes.ensures.bytes in
    let all : length c.write_layout.new.out ≤ c.write_layout.result = omega (arith, c.in_ok-path.ensures.len, c.in_ok-bytes.ensures.len) in
    rw (written_back c.write_layout.new.out bytes.items bytes.len (omega arith) (omega arith), ← c.self.view_is)
    (sym (take_all c.write_layout.result c.write_layout.new.out all)
    ∙ (c.write_layout.ensures.bytes ∙ ap (λ z. signature_bytes params s.leaf c.args.c.now c.args.values.now z) path))

pub returns-clause-layout : goal.returns-clause-layout
returns-clause-layout c =
    let s = c.self.inside in
    let at : length (path_at c.args.tree.now s.leaf) ≡ s.key.params.n * s.key.params.h = rw (← c.write_path.ensures) (omega (arith, c.in_ok-path.ensures.len)) in
    record {
      y = c.args.values.now;
      path = path_at c.args.tree.now c.args.self.now.leaf;
      layout = record {
        leaf = rw (← c.self.view_is) c.self.invariant.leaf;
        c_length = c.requires.c;
        y_length = c.requires.values;
        path_length = rw (← c.self.view_is) at;
        parts = returns-clause-bytes c;
      };
    }
