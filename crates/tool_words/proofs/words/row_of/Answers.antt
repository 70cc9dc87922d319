use Rattle.std.proofs.Common.{◌≡◌, ◌∙◌, ℕ, List, ◌∷◌, map, ap, sym}
use Rattle.std.specs.String.{string_bytes}
use Rattle.tool_words.specs.Words.{row_of}
use Rattle.tool_words.proofs.words.row_of.Goals as goal

-- the rule of words of which the first is this name
named : {A : Type 0} (f : A → List ℕ) (words : List A) (first : A) (rest : List A) (text name : List ℕ) → words ≡ first ∷ rest → text ≡ f first → text ≡ name
    → row_of (name ∷ map f rest) ≡ row_of (map f words)
named f words first rest text name cut value same = ap row_of (ap (λ n. n ∷ map f rest) (sym same ∙ value) ∙ sym (ap (map f) cut))

pub returns-in-verify : goal.returns-in-verify
returns-in-verify c = c.verify_of.ensures ∙ named string_bytes _ _ _ _ _ c.in_ok-name.ensures.cases.0 c.as_str.ensures.value c.in-verify.is

pub returns-in-rehearse : goal.returns-in-rehearse
returns-in-rehearse c = c.rehearse_of.ensures ∙ named string_bytes _ _ _ _ _ c.in_ok-name.ensures.cases.0 c.as_str.ensures.value c.in-rehearse.is

pub returns-in-deal : goal.returns-in-deal
returns-in-deal c = c.deal_of.ensures ∙ named string_bytes _ _ _ _ _ c.in_ok-name.ensures.cases.0 c.as_str.ensures.value c.in-deal.is

pub returns-in-enrol : goal.returns-in-enrol
returns-in-enrol c = c.enrol_of.ensures ∙ named string_bytes _ _ _ _ _ c.in_ok-name.ensures.cases.0 c.as_str.ensures.value c.in-enrol.is

pub returns-in-migrate : goal.returns-in-migrate
returns-in-migrate c = c.migrate_of.ensures ∙ named string_bytes _ _ _ _ _ c.in_ok-name.ensures.cases.0 c.as_str.ensures.value c.in-migrate.is

pub returns-in-approve : goal.returns-in-approve
returns-in-approve c = c.approve_of.ensures ∙ named string_bytes _ _ _ _ _ c.in_ok-name.ensures.cases.0 c.as_str.ensures.value c.in-approve.is

pub returns-in-trustee : goal.returns-in-trustee
returns-in-trustee c = c.trustee_of.ensures ∙ named string_bytes _ _ _ _ _ c.in_ok-name.ensures.cases.0 c.as_str.ensures.value c.in-trustee.is

pub returns-in-sign : goal.returns-in-sign
returns-in-sign c = c.sign_of.ensures ∙ named string_bytes _ _ _ _ _ c.in_ok-name.ensures.cases.0 c.as_str.ensures.value c.in-sign.is

pub returns-in-blame : goal.returns-in-blame
returns-in-blame c = c.blame_of.ensures ∙ named string_bytes _ _ _ _ _ c.in_ok-name.ensures.cases.0 c.as_str.ensures.value c.in-blame.is

pub returns-in-hss : goal.returns-in-hss
returns-in-hss c = c.hss_of.ensures ∙ named string_bytes _ _ _ _ _ c.in_ok-name.ensures.cases.0 c.as_str.ensures.value c.in-hss.is

pub returns-in-aggregate : goal.returns-in-aggregate
returns-in-aggregate c = c.aggregate_of.ensures ∙ named string_bytes _ _ _ _ _ c.in_ok-name.ensures.cases.0 c.as_str.ensures.value c.in-aggregate.is

pub returns-in-drill : goal.returns-in-drill
returns-in-drill c = c.drill_of.ensures ∙ named string_bytes _ _ _ _ _ c.in_ok-name.ensures.cases.0 c.as_str.ensures.value c.in-drill.is

pub returns-in-show : goal.returns-in-show
returns-in-show c = c.show_of.ensures ∙ named string_bytes _ _ _ _ _ c.in_ok-name.ensures.cases.0 c.as_str.ensures.value c.in-show.is
