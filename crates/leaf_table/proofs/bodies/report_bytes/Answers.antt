use Rattle.std.proofs.Common.{◌≡◌, ◌++◌, ◌∷◌, ◌∙◌, ℕ, List, length, replicate, set, sym, ap}
use Rattle.leaf_table.proofs.BodyBytes.{set-seam}
use Rattle.leaf_table.proofs.bodies.report_bytes.Goals as goal

pub returns : goal.returns
returns c =
    let front = c.copy_from_slice.new.self in
    let is = c.copy_from_slice.ensures.after ∙ c.to_bytes.ensures in
    let size : length front ≡ 36 = c.copy_from_slice.ensures.len in
    ap (λ (k : ℕ). set (front ++ replicate 28 0) k c.args.by) (sym size)
    ∙ (set-seam front (replicate 27 0) 0 c.args.by ∙ ap (λ (l : List ℕ). l ++ c.args.by ∷ replicate 27 0) is)
