-- InvalidityDate ::= GeneralizedTime (RFC 5280, 5.3.2)
use Rattle.std.specs.Prelude.{List, ℕ, Option, int_lt, option_map, pos}
use Rattle.x509_der.specs.Laws.{IsMarkedElement}
use Rattle.x509_der.specs.Leaves.{BerPlan, value}
use Rattle.x509_der.specs.Primitives.{is_primitive, some_or_bad}
use Rattle.x509_der.specs.Promises.{is_ber_memory}
use Rattle.x509_der.specs.Reading.{strict}
use Rattle.x509_der.proofs.Marking.{marked, value_marked}
use Rattle.x509_fields.specs.Errors.{is_x509_memory}
use Rattle.x509_fields.specs.Fields.{Field, lifted, as_x509_renames}
use Rattle.x509_fields.specs.Times.{Time, time_of, time_in}
use Rattle.x509_values.specs.declared.invalidity_date.InvalidityDate.{InvalidityDate}

-- ---- the value

abbrev pub invalidity_date_of : InvalidityDate → Time
invalidity_date_of date = time_of date.0

-- in the form that its year asks for: a UTCTime through 2049, and a GeneralizedTime from 2050 on (RFC 5280, 4.1.2.5)
abbrev pub in_form_of_year : Time → Time
in_form_of_year t = record { moment = t.moment; generalized = int_lt (pos 2049) t.moment.year }

-- ---- the grammar

-- what contents say that are those of a GeneralizedTime, whose number is 24 (X.680, section 8.4)
abbrev pub date_in : List ℕ → Option Time
date_in contents = option_map in_form_of_year (time_in 24 contents)

unfoldable pub generalized_date : BerPlan Time
generalized_date = value (is_primitive 24) strict (λ contents. some_or_bad (date_in contents))

unfoldable pub invalidity_date : Field Time
invalidity_date = lifted generalized_date

-- ---- laws

pub generalized_date_laws : IsMarkedElement is_ber_memory generalized_date
unfolding generalized_date
generalized_date_laws = value_marked (is_primitive 24) strict (λ contents. some_or_bad (date_in contents))

pub invalidity_date_laws : IsMarkedElement is_x509_memory invalidity_date
unfolding invalidity_date
invalidity_date_laws = search (marked, as_x509_renames, generalized_date_laws) depth 20
