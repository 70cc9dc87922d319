use Rattle.std.proofs.Common.{◌≡◌, ◌∙◌, List, ap, subst, sym, ℕ}
use Rattle.hss_levels.specs.HssAccepts.{HssAccepts}
use Rattle.rikselbe_c.specs.Answers.{HssAnswer, no_key, verdict}
use Rattle.rikselbe_c.specs.Numbers.{hss_number}
use Rattle.rikselbe_c.proofs.Answering.{hss-key-other, hss-zero, key-of}
use Rattle.rikselbe_c.proofs.HssStreams.{one-hss, one-hss-no-key}
use Rattle.rikselbe_c.proofs.whole.rikselbe_hss_verify.Goals as goal

pub returns-in-Ok-clause-verified : goal.returns-in-Ok-clause-verified
returns-in-Ok-clause-verified c =
    let Under = λ (k : List ℕ). HssAccepts k c.args.message.now c.args.signature.now in
    record {
      answer = subst (HssAnswer c.args.key.now c.args.message.now c.args.signature.now) (sym c.of_hss.ensures)
          (verdict c.in-Ok.key c.hss_verify.result c.in-Ok.ensures.key c.hss_verify.ensures.verdict);
      accepted = λ accepts. c.of_hss.ensures ∙ ap hss_number (c.hss_verify.ensures.accepted (subst Under c.in-Ok.ensures.key accepts));
      only = λ zero. subst Under (sym c.in-Ok.ensures.key)
          (hss-zero c.in-Ok.key c.args.message.now c.args.signature.now c.hss_verify.result c.hss_verify.ensures.verdict (sym c.of_hss.ensures ∙ zero));
    }

pub returns-in-Err-clause-verified : goal.returns-in-Err-clause-verified
returns-in-Err-clause-verified c = record {
  answer = subst (HssAnswer c.args.key.now c.args.message.now c.args.signature.now) (sym c.of_hss_key.ensures)
      (no_key c.in-Err.fault c.in-Err.ensures.refused);
  accepted = λ accepts.
      let key = key-of _ _ _ accepts in
      let read = c.in-Err.ensures.read key.0 key.1 in
      absurd (cc);
  only = λ zero. absurd (hss-key-other c.in-Err.fault (sym c.of_hss_key.ensures ∙ zero));
}

pub returns-in-Ok-clause-alone : goal.returns-in-Ok-clause-alone
returns-in-Ok-clause-alone c = λ number other.
    let same : number ≡ hss_number c.hss_verify.result =
    one-hss c.in-Ok.key c.args.key.now c.args.message.now c.args.signature.now number c.hss_verify.result c.in-Ok.ensures.key c.in-Ok.ensures.faultless
    (λ key is. let read = c.in-Ok.ensures.read key is in let equal : key ≡ c.in-Ok.key = cc in equal)
    c.hss_verify.ensures.verdict c.hss_verify.ensures.accepted c.hss_verify.ensures.malformed other.answer in
    same ∙ sym c.of_hss.ensures

pub returns-in-Err-clause-alone : goal.returns-in-Err-clause-alone
returns-in-Err-clause-alone c = λ number other.
    one-hss-no-key c.args.key.now c.args.message.now c.args.signature.now number c.in-Err.fault c.in-Err.ensures.refused
    (λ key is. let read = c.in-Err.ensures.read key is in absurd (cc)) other.answer
    ∙ sym c.of_hss_key.ensures
