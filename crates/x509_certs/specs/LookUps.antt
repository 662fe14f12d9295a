-- What the look-ups of a certificate answer.
use Rattle.std.specs.Prelude.{Bool, false, Option, Some, None, Result, Ok, Err}
use Rattle.std.specs.Borrow.{Bor}
use Rattle.x509_fields.specs.declared.error.X509Error.{X509Error}
use Rattle.x509_values.specs.declared.basic_constraints.BasicConstraints.{BasicConstraints}
use Rattle.x509_certs.specs.declared.basic_extension.BasicExtension.{BasicExtension}

-- what the reference points at
abbrev pub found : {V : Type 0} → Result (Option (BasicExtension (Bor V))) X509Error → Result (Option (Bool × V)) X509Error
found (Ok None) = Ok None
found (Ok (Some e)) = Ok (Some (e.critical, e.value.now))
found (Err e) = Err e

-- whether basic constraints say that the subject is a certification authority; no, where they can't be told
abbrev pub says_ca : Result (Option (Bool × BasicConstraints)) X509Error → Bool
says_ca (Ok (Some x)) = x.1.ca
says_ca _ = false
