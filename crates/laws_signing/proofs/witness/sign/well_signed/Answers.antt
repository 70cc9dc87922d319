use Rattle.std.proofs.Common.{◌≡◌, true, List, ℕ, ap, map, arith, rules}
use Rattle.stream_memory.specs.Calls.{is_empty}
use Rattle.tool_words.specs.Rows.{sign_words}
use Rattle.laws_signing.proofs.Heard.{sent}
use Rattle.laws_signing.proofs.Signing.{well-run}
use Rattle.laws_signing.specs.Witness.{file_in}
use Rattle.laws_signing.proofs.witness.sign.well_signed.Goals as goal

pub returns : goal.returns
returns c = λ is.
    let heard : c.all_heard.result ≡ true = cc in
    let begun = c.in_ok-store.ensures.begun in
    let steady = c.in_ok-store.ensures.steady in
    let empty : is_empty c.new.result.items ≡ true = ap (λ (xs : List ℕ). is_empty xs) c.new.ensures.items in (
      c.in_ok-store.store,
      c.all_heard.new.store,
      c.in_ok-net.net,
      c.all_heard.new.net,
      well-run (sign_words c.args.words.now) (file_in c.args.files.items) (map sent c.args.peers.now) _ _
          (record { told = begun.told; steady = first_of (cc, search rules, grind arith) })
          (λ name. begun.file name) (λ name. begun.out name) 16777372 c.in_ok-net.ensures (c.all_heard.ensures heard),
    )
