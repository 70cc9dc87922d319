use Rattle.std.proofs.Common.{◌≡◌, ◌-◌, ◌∙◌, [], List, ℕ, None, Some, length, sym, subst, arith}
use Rattle.lms_bytes.specs.Signature.{signature_fault}
use Rattle.lms_bytes.specs.declared.public_key.PublicKey.{PublicKey}
use Rattle.hss_levels.specs.Parts.{ArePartsOf}
use Rattle.ots_chain.specs.MessageHash.{HasTaken}
use Rattle.rikselbe_c.proofs.HssStreams.{last-of-levels, read-last}
use Rattle.rikselbe_c.proofs.hss_stream.hashing.Goals as goal

pub returns-in-Ok : goal.returns-in-Ok
returns-in-Ok c = λ bytes is.
    let levels = c.requires in
    let count = levels.count in
    let below : c.args.key.now.levels - 1 ≡ length levels.keys = omega (arith, count) in
    let are : ArePartsOf c.args.key.now.top (c.args.key.now.levels - 1) c.behind.result.now levels.keys levels.last = rw (below, c.behind.ensures.bytes) levels.parts in
    let found = c.last_part-last.ensures.found levels.keys levels.last are in
    let view = c.in-Ok.view in
    record {
      top = c.args.key.now;
      key_is = is;
      levels = levels;
      level_is = below;
      place_fits = omega arith;
      last_is = rw (found.1) (last-of-levels c.args.key.now c.args.signature.now levels);
      public_is = found.0;
      q = view.leaf;
      c = view.c.now;
      y = view.chains.now;
      path = view.path.now;
      layout = rw (← found.1) c.in-Ok.ensures.layout;
      taken = subst (λ (t : List ℕ). HasTaken c.new-hash.result c.last_part-last.result.key.params c.last_part-last.result.key.id view.leaf t []) c.of-c.ensures c.new-hash.ensures;
    }

pub returns-in-Err : goal.returns-in-Err
returns-in-Err c = λ bytes is whole.
    let levels = c.requires in
    let count = levels.count in
    let below : c.args.key.now.levels - 1 ≡ length levels.keys = omega (arith, count) in
    let are : ArePartsOf c.args.key.now.top (c.args.key.now.levels - 1) c.behind.result.now levels.keys levels.last = rw (below, c.behind.ensures.bytes) levels.parts in
    let found = c.last_part-last.ensures.found levels.keys levels.last are in
    let read = read-last c.args.key.now.top levels.keys levels.last levels.parts.read in
    let fails : signature_fault c.last_part-last.result.key.params levels.last ≡ Some c.in-Err.fault = rw (← found.1) c.in-Err.ensures.refused in
    let here : signature_fault c.last_part-last.result.key.params levels.last ≡ None =
    subst (λ (k : PublicKey). signature_fault k.params levels.last ≡ None) (sym found.0) read in
    let apart : Some c.in-Err.fault ≡ None = sym fails ∙ here in
    absurd (cc)
