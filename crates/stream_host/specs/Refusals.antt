-- What Linux's numbers of the errors of accept(2) mean for the next call.
use Rattle.std.specs.Prelude.{ℕ, Bool, false, List, [], ◌∷◌, ◌==◌, ◌||◌, if◌then◌else◌}
use Rattle.stream_host.specs.declared.refused.Refused.{Refused}

-- EPERM, by a firewall, and EINTR; ENONET, EPROTO, ENOPROTOOPT, EOPNOTSUPP, ENETDOWN, ENETUNREACH, ECONNABORTED,
-- ETIMEDOUT, EHOSTDOWN and EHOSTUNREACH
abbrev pub met_once : List ℕ
met_once = 1 ∷ 4 ∷ 64 ∷ 71 ∷ 92 ∷ 95 ∷ 100 ∷ 101 ∷ 103 ∷ 110 ∷ 112 ∷ 113 ∷ []

-- ENOMEM, ENFILE, EMFILE and ENOBUFS
abbrev pub shortages : List ℕ
shortages = 12 ∷ 23 ∷ 24 ∷ 105 ∷ []

-- whether a number is one of these
abbrev pub is_one_of : ℕ → List ℕ → Bool
is_one_of number [] = false
is_one_of number (it ∷ others) = number == it || is_one_of number others

abbrev pub refusal_of : ℕ → Refused
refusal_of number =
    if is_one_of number met_once then Refused.Once
    else if is_one_of number shortages then Refused.Short
    else Refused.Broken
