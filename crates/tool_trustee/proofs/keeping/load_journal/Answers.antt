use Rattle.std.proofs.Common.{◌^◌, IfOk, IfErr, sym, ap, ◌∙◌, subst}
use Rattle.lms_bytes.specs.declared.params.Params.{Params}
use Rattle.opening_journal.specs.Loaded.{IsLoaded}
use Rattle.opening_journal.specs.Loading.{LoadRefused}
use Rattle.slot_file.specs.declared.header.Header.{Header}
use Rattle.tool_trustee.proofs.keeping.load_journal.Goals as goal

pub load-requires : goal.load-requires
load-requires g c = record {
  version = ap (λ header. header.version) c.header_of.ensures;
  lms = ap (λ header. header.lms) c.header_of.ensures ∙ ap (λ params. params.lms) (sym c.params.ensures);
  ots = ap (λ header. header.ots) c.header_of.ensures ∙ ap (λ params. params.ots) (sym c.params.ensures);
}

pub returns-clause-loaded : goal.returns-clause-loaded
returns-clause-loaded g c =
    subst (λ (header : Header). IfOk c.load.result (IsLoaded _ _ header c.args.share.now.params c.args.disk)) c.header_of.ensures
    (subst (λ (params : Params). IfOk c.load.result (IsLoaded _ _ c.header_of.result params c.args.disk)) c.params.ensures c.load.ensures.loaded)

pub returns-clause-refused : goal.returns-clause-refused
returns-clause-refused g c = λ told.
    let file = g.D.Pages.reads c.args.disk in
    subst (λ (header : Header). IfErr c.load.result (λ e. LoadRefused header (2 ^ c.args.share.now.params.h) file e.1)) c.header_of.ensures
    (subst (λ (params : Params). IfErr c.load.result (λ e. LoadRefused c.header_of.result (2 ^ params.h) file e.1)) c.params.ensures (c.load.ensures.refused told))
