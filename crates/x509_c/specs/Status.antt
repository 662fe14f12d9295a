-- Refusals as numbers, and their words.
use Rattle.std.specs.Prelude.{ℕ, List, codes, ◌==◌, if◌then◌else◌}
use Rattle.x509_der.specs.declared.error.BerError.{BerError}
use Rattle.x509_der.specs.declared.error.BerError.TheVariants as ber
use Rattle.x509_der.specs.declared.error.ErrorKind.{ErrorKind}
use Rattle.x509_der.specs.declared.error.ErrorKind.TheVariants as kinds
use Rattle.x509_der.specs.declared.error.Err.{Err as Refusal}
use Rattle.x509_der.specs.declared.error.Err.TheVariants as refusals
use Rattle.x509_der.specs.declared.error.Located.{Located}
use Rattle.x509_der.specs.Promises.{refusal_by}
use Rattle.x509_fields.specs.Errors.{as_x509}
use Rattle.x509_fields.specs.declared.error.X509Error.{X509Error}
use Rattle.x509_fields.specs.declared.error.X509Error.TheVariants as x509

abbrev pub kind_status : ErrorKind → ℕ
kind_status kinds.Complete = 40
kind_status kinds.Eof = 41
kind_status kinds.Many1 = 42
kind_status kinds.MapRes = 43

abbrev pub ber_status : BerError → ℕ
ber_status ber.Incomplete = 1
ber_status ber.OutOfMemory = 2
ber_status ber.InvalidTag = 32
ber_status ber.InvalidLength = 33
ber_status ber.BerTypeError = 34
ber_status ber.BerValueError = 35
ber_status ber.DerConstraintFailed = 36
ber_status (ber.NomError kind) = kind_status kind

abbrev pub x509_status : X509Error → ℕ
x509_status x509.OutOfMemory = 2
x509_status x509.Generic = 3
x509_status x509.InvalidVersion = 4
x509_status x509.InvalidSerial = 5
x509_status x509.InvalidAlgorithmIdentifier = 6
x509_status x509.InvalidX509Name = 7
x509_status x509.InvalidDate = 8
x509_status x509.InvalidSPKI = 9
x509_status x509.InvalidSubjectUID = 10
x509_status x509.InvalidIssuerUID = 11
x509_status x509.InvalidExtensions = 12
x509_status x509.InvalidAttributes = 13
x509_status x509.DuplicateExtensions = 14
x509_status x509.DuplicateAttributes = 15
x509_status x509.InvalidSignatureValue = 16
x509_status x509.InvalidTbsCertificate = 17
x509_status x509.InvalidUserCertificate = 18
x509_status x509.InvalidCertificate = 19
x509_status x509.SignatureVerificationError = 20
x509_status x509.SignatureUnsupportedAlgorithm = 21
x509_status x509.InvalidNumber = 22
x509_status (x509.Der kind) = ber_status kind
x509_status (x509.NomError kind) = kind_status kind

abbrev pub status_of : Refusal X509Error → ℕ
status_of refusals.Incomplete = 1
status_of (refusals.Error e) = x509_status e
status_of (refusals.Failure e) = x509_status e

-- a refusal of an element under the readers' own errors
abbrev pub lifted_refusal : Located BerError → Located X509Error
lifted_refusal e = record { why = refusal_by as_x509 e.why; at = e.at }

-- the octet that is told: that of the refusal, and of want of memory none
abbrev pub placed : Located X509Error → ℕ → ℕ
placed e before = if status_of e.why == 2 then before else e.at

-- the words of a status
abbrev pub word_of_status : ℕ → List ℕ
word_of_status n =
    if n == 0 then codes "ok"
    else if n == 1 then codes "incomplete"
    else if n == 2 then codes "out of memory"
    else if n == 3 then codes "generic error"
    else if n == 4 then codes "invalid version"
    else if n == 5 then codes "invalid serial"
    else if n == 6 then codes "invalid algorithm identifier"
    else if n == 7 then codes "invalid X.509 name"
    else if n == 8 then codes "invalid date"
    else if n == 9 then codes "invalid X.509 Subject Public Key Info"
    else if n == 10 then codes "invalid X.509 Subject Unique ID"
    else if n == 11 then codes "invalid X.509 Issuer Unique ID"
    else if n == 12 then codes "invalid extensions"
    else if n == 13 then codes "invalid attributes"
    else if n == 14 then codes "duplicate extensions"
    else if n == 15 then codes "duplicate attributes"
    else if n == 16 then codes "invalid Signature DER Value"
    else if n == 17 then codes "invalid TBS certificate"
    else if n == 18 then codes "invalid User certificate"
    else if n == 19 then codes "invalid certificate"
    else if n == 20 then codes "signature verification error"
    else if n == 21 then codes "signature unsupported algorithm"
    else if n == 22 then codes "invalid number"
    else if n == 32 then codes "invalid tag"
    else if n == 33 then codes "invalid length"
    else if n == 34 then codes "invalid type"
    else if n == 35 then codes "invalid value"
    else if n == 36 then codes "DER constraint failed"
    else if n == 40 then codes "cut short"
    else if n == 41 then codes "trailing data"
    else if n == 42 then codes "empty list"
    else if n == 43 then codes "invalid mapping"
    else if n == 50 then codes "not found"
    else codes "unknown"
