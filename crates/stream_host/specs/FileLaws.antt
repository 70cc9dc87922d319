-- What is honest and tells is honest. The proof stands with the definitions, since the toolchain requires what an
-- implementation names to be among them.
use Rattle.std.specs.Prelude.{◌&&◌, Bool, true, false, IsTrue, refl}

pub is_honest : (honest told : Bool) → IsTrue (honest && told) → IsTrue honest
is_honest true told is = refl
is_honest false told is = is
