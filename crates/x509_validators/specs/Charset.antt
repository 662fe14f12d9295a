-- The octets of ASCII, which IA5String and PrintableString have alone (X.680, 41).
use Rattle.std.specs.Prelude.{ℕ, Bool, List, nat_lt}
use Rattle.std.specs.List.{list_all}

abbrev pub are_ascii : List ℕ → Bool
are_ascii octets = list_all (λ b. nat_lt b 128) octets
