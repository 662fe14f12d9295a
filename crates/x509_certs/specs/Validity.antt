-- The period in which a certificate is valid (RFC 5280, 4.1.2.5).
use Rattle.std.specs.Prelude.{ℕ}
use Rattle.x509_der.specs.Plan.{◌>>=◌, give}
use Rattle.x509_fields.specs.Errors.{is_x509_memory}
use Rattle.x509_fields.specs.Fields.{Field, sequence, as_x509_renames}
use Rattle.x509_fields.specs.Times.{time, time_laws, Time, time_of}
use Rattle.x509_der.specs.Laws.{IsMarkedElement}
use Rattle.x509_der.proofs.Marking.{marked}
use Rattle.x509_certs.specs.declared.validity.Validity.{Validity}

pub record Period : Type 0 where
  pub not_before : Time
  pub not_after : Time

abbrev pub period_of : Validity → Period
period_of v = record { not_before = time_of v.not_before; not_after = time_of v.not_after }

-- Validity ::= SEQUENCE { notBefore Time, notAfter Time } (4.1.2.5)
unfoldable pub validity : Field Period
validity = sequence do
  not_before ← time
  not_after ← time
  give (record { not_before = not_before; not_after = not_after })

abbrev pub period_heads : Period → ℕ
period_heads v = 3

pub validity_laws : IsMarkedElement is_x509_memory validity
unfolding validity
validity_laws = search (marked, as_x509_renames, time_laws) depth 40
