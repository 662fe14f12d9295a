-- The form of a time by its year (RFC 5280, 4.1.2.5).
use Rattle.std.specs.Prelude.{ℕ, Bool, not, ◌&&◌, List, ◌++◌, codes, pos, int_lt}
use Rattle.x509_fields.specs.Times.{Time}
use Rattle.x509_validators.specs.Rules.{Row, warning_where}

abbrev pub is_past_utc : Time → Bool
is_past_utc t = int_lt (pos 2049) t.moment.year

-- UTCTime through the year 2049
abbrev pub wants_utc : Time → Bool
wants_utc t = not (is_past_utc t) && t.generalized

-- GeneralizedTime from 2050 on
abbrev pub wants_generalized : Time → Bool
wants_generalized t = is_past_utc t && not t.generalized

-- by the name of the field
abbrev pub utc_rule : List ℕ → Time → Row
utc_rule field t = warning_where (wants_utc t) (codes "year <= 2049 should use UTCTime (" ++ field ++ codes ")")

abbrev pub generalized_rule : List ℕ → Time → Row
generalized_rule field t = warning_where (wants_generalized t) (codes "year >= 2050 should use GeneralizedTime (" ++ field ++ codes ")")
