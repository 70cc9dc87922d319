use Rattle.merkle_path.proofs.Climb.{candidate_root-path}
use Rattle.merkle_path.proofs.laws.path_leads_to_root.Goals as goal

pub returns : goal.returns
returns c = candidate_root-path
