-- Facts about what a call gives.
use Rattle.std.proofs.Common.{Result, Ok, Err, IfOk}

pub if_ok_then : {T E : Type 0} (P Q : T → Type 0) (r : Result T E) → ((v : T) → P v → Q v) → IfOk r P → IfOk r Q
if_ok_then P Q (Ok v) then holds = then v holds
if_ok_then P Q (Err e) then holds = tt
