use Rattle.std.proofs.Common.{◌≡◌, ◌≤◌, ◌∙◌, ℕ, List, ap, arith, length, refl, sym, take_all}
use Rattle.lms_bytes.specs.Signature.{signature_bytes}
use Rattle.lms_bytes.specs.declared.params.Params.{Params}
use Rattle.ots_chain.specs.MessageHash.{message_digest}
use Rattle.dealer.specs.Signing.{signed_chains, signed_leaf}
use Rattle.dealer.proofs.Mapped.{over_all}
use Rattle.dealer.proofs.signing.sign_leaf.Goals as goal

pub write_layout-requires-clause-c : goal.write_layout-requires-clause-c
write_layout-requires-clause-c c = c.unmask_randomizer-c.ensures.length

pub write_layout-requires-clause-chains : goal.write_layout-requires-clause-chains
write_layout-requires-clause-chains c = ap length c.deref.ensures.value ∙ c.in_ok-chains.ensures.length

pub write_layout-requires-clause-path : goal.write_layout-requires-clause-path
write_layout-requires-clause-path c = ap length c.deref-2.ensures.value ∙ c.in_ok-path.ensures.length

-- signatures with the same parts
same_bytes : (params : Params) (q : ℕ) (r r' chains chains' path path' : List ℕ) → r ≡ r' → chains ≡ chains' → path ≡ path'
    → signature_bytes params q r chains path ≡ signature_bytes params q r' chains' path'
same_bytes params q r r' chains chains' path path' a b e = rw (a, b, e) refl

pub returns : goal.returns
returns c =
    let dealt = c.args.dealt.now in
    let params = dealt.public.params in
    let random = c.unmask_randomizer-c.ensures.randomizer in
    let digest = c.of-digest.ensures.digest ∙ ap (λ (r : List ℕ). message_digest params dealt.public.id c.args.q r c.args.message.now) random in
    let chains = c.deref.ensures.value ∙ (c.in_ok-chains.ensures.chains ∙ ap (signed_chains c.args.plan.now dealt c.args.keys.now c.args.q) digest) in
    let path = c.deref-2.ensures.value ∙ c.in_ok-path.ensures.path in
    let size = c.write_layout.auto.out ∙ c.deref_mut.ensures.len in
    let whole : length c.write_layout.new.out ≤ c.write_layout.result =
    omega (arith, size, c.in_ok-signature.ensures.len, c.write_layout.ensures.length, ap length c.bytes.ensures.bytes, c.unmask_randomizer-c.ensures.length, c.len.ensures, c.in_ok-chains.ensures.length, c.len-2.ensures, c.in_ok-path.ensures.length) in
    over_all c.in_ok-signature.signature.len c.write_layout.new.out c.in_ok-signature.signature.items (signed_leaf c.args.plan.now dealt c.args.keys.now c.args.q c.args.message.now) size
    (sym (take_all c.write_layout.result c.write_layout.new.out whole) ∙ (c.write_layout.ensures.bytes ∙ same_bytes params c.args.q _ _ _ _ _ _ random chains path))

pub unmask_randomizer-c-requires-clause-fits : goal.unmask_randomizer-c-requires-clause-fits
unmask_randomizer-c-requires-clause-fits c = c.requires.fits

pub unmask_randomizer-c-requires-clause-leaf : goal.unmask_randomizer-c-requires-clause-leaf
unmask_randomizer-c-requires-clause-leaf c = c.requires.leaf

pub unmask_chains-requires-clause-fits : goal.unmask_chains-requires-clause-fits
unmask_chains-requires-clause-fits c = c.requires.fits

pub unmask_chains-requires-clause-leaf : goal.unmask_chains-requires-clause-leaf
unmask_chains-requires-clause-leaf c = c.requires.leaf

pub unmask_chains-requires-clause-digest : goal.unmask_chains-requires-clause-digest
unmask_chains-requires-clause-digest c = c.of-digest.ensures.length

pub path_of-requires-clause-hash_length : goal.path_of-requires-clause-hash_length
path_of-requires-clause-hash_length c = c.requires.fits.hash_length

pub path_of-requires-clause-height : goal.path_of-requires-clause-height
path_of-requires-clause-height c = c.requires.fits.levels

pub path_of-requires-clause-leaf : goal.path_of-requires-clause-leaf
path_of-requires-clause-leaf c = c.requires.leaf
