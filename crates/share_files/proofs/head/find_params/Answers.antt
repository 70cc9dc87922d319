use Rattle.std.proofs.Common.{◌∙◌, arith, sym}
use Rattle.std.proofs.lemmas.Bool.Decides.{nat_tests}
use Rattle.share_files.proofs.Versions.{has_version-codes, has_version-refused}
use Rattle.share_files.proofs.head.find_params.Goals.{else-params-le20-via-then-params-le20+else-version_of-bytes, else-params-le20-via-else-params-le20}
use Rattle.share_files.proofs.head.find_params.Goals as goal

pub returns-in_default-clause-found : goal.returns-in_default-clause-found
returns-in_default-clause-found c =
    sym (has_version-refused c.args.bytes.now _ _ _ c.u32_at.ensures.number c.u32_at-2.ensures.number c.in_default.ensures.refused)

pub returns-then-version_of-bytes-clause-found : goal.returns-then-version_of-bytes-clause-found
returns-then-version_of-bytes-clause-found c =
    let params = c.in-Ok.params in
    let codes = c.in-Ok.ensures.codes in
    let low = c.if-params-le20.true in
    let same = c.if-version_of-bytes.true in
    let version = c.version_of.ensures.version in
    rw (has_version-codes c.args.bytes.now params (codes.0 ∙ c.u32_at.ensures.number) (codes.1 ∙ c.u32_at-2.ensures.number), ← version) (grind (arith, nat_tests))

pub returns-else-params-le20-clause-found : goal.returns-else-params-le20-clause-found
returns-else-params-le20-clause-found c =
    let params = c.in-Ok.params in
    let codes = c.in-Ok.ensures.codes in
    let test = has_version-codes c.args.bytes.now params (codes.0 ∙ c.u32_at.ensures.number) (codes.1 ∙ c.u32_at-2.ensures.number) in
    elim c.else-params-le20.branch [
      | else-params-le20-via-then-params-le20+else-version_of-bytes w ↦
          let low = w.if-params-le20.true in
          let other = w.if-version_of-bytes.false in
          rw (test, ← w.version_of.ensures.version) (grind (arith, nat_tests))
      | else-params-le20-via-else-params-le20 w ↦
          let high = w.if-params-le20.false in
          rw test (grind (arith, nat_tests))
    ]
