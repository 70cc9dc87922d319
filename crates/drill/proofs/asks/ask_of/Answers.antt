use Rattle.std.proofs.Common.{◌≡◌, List, ℕ, length, IfSome, refl, sym, ◌∙◌, ap, subst}
use Rattle.std.proofs.lemmas.Bool.{false≢true}
use Rattle.lms_bytes.specs.declared.ask.Ask.{Ask}
use Rattle.lms_bytes.specs.declared.public_key.PublicKey.{PublicKey}
use Rattle.drill.specs.Drills.{IsSized}
use Rattle.drill.proofs.Asked.{asked-sizes}
use Rattle.mask_prf.specs.Lengths.{leaves_length}
use Rattle.reference_value.specs.Places.{tag_in}
use Rattle.session_core.specs.Asks.{ask_with}
use Rattle.drill.proofs.asks.ask_of.Goals as goal

pub returns-clause-sizes : goal.returns-clause-sizes
returns-clause-sizes c =
    let s = c.args.session.now in
    let n : s.key.params.n ≡ 32 = ap (λ (k : PublicKey). k.params.n) c.requires.key ∙ c.args.desk.now.hash_length in
    let sized = subst (λ (n : ℕ). IfSome s.c (λ (x : List ℕ). length x ≡ n)) n c.round-round.ensures.session.c in
    let of = c.in-Ok.ensures.ask in
    subst (λ (a : Ask). IsSized a) (sym of.same) (asked-sizes s s.c refl sized of.tag c.digest-digest.result (c.digest-digest.ensures.length ∙ n))

pub unreachable-requires : goal.unreachable-requires
unreachable-requires c =
    let read = c.new-cells.ensures.leaves ∙ c.deref.ensures.value in
    let size = ap (λ (l : List ℕ). length l) read ∙ c.args.desk.now.exact ∙ sym (λ j. leaves_length (c.requires.key j).params (c.requires.plan j)) in
    false≢true (c.in-Err.ensures.succeeds refl refl size)

pub returns-clause-ask : goal.returns-clause-ask
returns-clause-ask c =
    let s = c.args.session.now in
    let digest = c.digest-digest in
    c.in-Ok.ensures.tag refl
    ∙ ap (λ (l : List ℕ). ask_with s (tag_in s.key.params s.plan l s.leaf c.args.member) digest.result) (c.new-cells.ensures.leaves ∙ c.deref.ensures.value)
    ∙ ap (ask_with s (tag_in s.key.params s.plan c.args.desk.now.dealt.reference.items s.leaf c.args.member)) digest.ensures.digest
