use Rattle.std.proofs.Common.{◌≡◌, ◌-◌, ◌++◌, ◌∙◌, List, ℕ, sym, ap}
use Rattle.std.proofs.lemmas.List.{append_cancel_left}
use Rattle.lms_bytes.specs.PublicKey.{public_bytes}
use Rattle.lms_bytes.specs.declared.public_key.PublicKey.{PublicKey}
use Rattle.hss_levels.specs.Levels.{signed_keys_bytes}
use Rattle.hss_levels.specs.Parts.{ArePartsOf, behind_signature, key_front}
use Rattle.hss_levels.proofs.Levels.{first-of}
use Rattle.hss_levels.proofs.Reading.{front}
use Rattle.hss_levels.proofs.Sets.{one-key}
use Rattle.rikselbe_c.specs.HssStream.{last_key}
use Rattle.rikselbe_c.proofs.hss_stream.+last_part.Goals as goal

pub returns-in-Ok : goal.returns-in-Ok
returns-in-Ok n c = record {
  found = λ keys last are.
      let first = first-of c.args.key.now c.args.below c.args.parts.now keys last c.if-below-eq0.false are in
      let end = signed_keys_bytes first.more ++ last in
      let f = front c.args.key.now c.args.parts.now first.signed end first.read first.parts_are in
      let rest : c.behind.result.now ≡ behind_signature c.args.key.now c.args.parts.now = c.behind.ensures.bytes in
      let message = c.split_key.ensures.front ∙ ap key_front rest in
      let same = one-key first.signed.key c.in-Ok.next (c.in-Ok.ensures.read first.signed.key (message ∙ f.message)) in
      let all : public_bytes first.signed.key ++ c.split_key.result.1.now ≡ public_bytes first.signed.key ++ end =
      ap (λ (t : List ℕ). t ++ c.split_key.result.1.now) (sym (message ∙ f.message)) ∙ (sym c.split_key.ensures.all ∙ (rest ∙ f.rest)) in
      let behind_is = append_cancel_left (public_bytes first.signed.key) _ _ all in
      let more : ArePartsOf c.in-Ok.next (c.args.below - 1) c.split_key.result.1.now first.more last = rw (same, behind_is) first.rest in
      let found = c.last_part.ensures.found first.more last more in
      (found.0 ∙ (ap (λ (k : PublicKey). last_key k first.more) same ∙ sym (ap (last_key c.args.key.now) first.keys_are)), found.1);
}

pub returns-in-Err : goal.returns-in-Err
returns-in-Err n c = record {
  found = λ keys last are.
      let first = first-of c.args.key.now c.args.below c.args.parts.now keys last c.if-below-eq0.false are in
      let f = front c.args.key.now c.args.parts.now first.signed (signed_keys_bytes first.more ++ last) first.read first.parts_are in
      let rest : c.behind.result.now ≡ behind_signature c.args.key.now c.args.parts.now = c.behind.ensures.bytes in
      let message = c.split_key.ensures.front ∙ ap key_front rest in
      absurd (c.in-Err.ensures.read first.signed.key (message ∙ f.message));
}
