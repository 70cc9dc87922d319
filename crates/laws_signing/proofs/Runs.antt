-- Runs of `sign` for which it is known what they ended with, or what was heard in them.
use Rattle.std.proofs.Common.{◌≡◌, ℕ, List, Some, ap, subst, ◌∙◌, slice_get}
use Rattle.stream_io.specs.Net.{PortState}
use Rattle.tool_base.specs.Ending.{Ending, NotSigned}
use Rattle.tool_base.specs.World.{StoreRun}
use Rattle.tool_base.specs.declared.unsigned.Unsigned.TheVariants.{Missing}
use Rattle.tool_sign.specs.Ports.{NetRun}
use Rattle.tool_sign.specs.Sign.{SigningRun}
use Rattle.tool_words.specs.Words.{SignWords}
use Rattle.laws_signing.specs.Witness.{AllGaveJust, HeardRun, IsNewNet, IsSteadyStore, SteadyLoss}

module _ (words : SignWords) (store : StoreRun) (net : NetRun) (end : Ending) (run : SigningRun words store net end) where
  pub lost-run : (member round : ℕ) → end ≡ NotSigned (Missing member round) → IsSteadyStore store.before → IsNewNet 16777372 net.before → SteadyLoss words store net
  lost-run member round is steady new = record {
    member = member;
    round = round;
    run = subst (λ (e : Ending). SigningRun words store net e) is run;
    store_is = steady;
    net_is = new.is;
    takes = new.takes;
  }

  -- the first port that was kept is the one port, if there is one
  pub heard-run : (replies : List (List ℕ)) (first : PortState) → net.after.count ≡ 0 → Some first ≡ slice_get net.after.kept 0 → AllGaveJust first.talks replies → HeardRun words replies store net
  heard-run replies first quiet at gave = record {
    end = end;
    run = run;
    faultless = quiet;
    heard = λ port kept.
        let both : Some first ≡ Some port = at ∙ ap (λ (ports : List PortState). slice_get ports 0) kept in
        let same : first ≡ port = cc in
        subst (λ (p : PortState). AllGaveJust p.talks replies) same gave;
  }
