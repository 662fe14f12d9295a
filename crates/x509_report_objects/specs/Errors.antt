-- What errors are called: the names of the innermost, which no two share.
use Rattle.std.specs.Prelude.{ℕ, List, codes}
use Rattle.x509_der.specs.declared.error.BerError.{BerError}
use Rattle.x509_der.specs.declared.error.BerError.TheVariants as ber
use Rattle.x509_der.specs.declared.error.Err.{Err as Refusal}
use Rattle.x509_der.specs.declared.error.Err.TheVariants as refusals
use Rattle.x509_der.specs.declared.error.ErrorKind.{ErrorKind}
use Rattle.x509_der.specs.declared.error.ErrorKind.TheVariants as lists
use Rattle.x509_fields.specs.declared.error.X509Error.{X509Error}
use Rattle.x509_fields.specs.declared.error.X509Error.TheVariants as x509

abbrev pub list_error_name : ErrorKind → List ℕ
list_error_name lists.Complete = codes "Complete"
list_error_name lists.Eof = codes "Eof"
list_error_name lists.Many1 = codes "Many1"
list_error_name lists.MapRes = codes "MapRes"

abbrev pub element_error_name : BerError → List ℕ
element_error_name ber.Incomplete = codes "Incomplete"
element_error_name ber.InvalidTag = codes "InvalidTag"
element_error_name ber.InvalidLength = codes "InvalidLength"
element_error_name ber.BerTypeError = codes "BerTypeError"
element_error_name ber.BerValueError = codes "BerValueError"
element_error_name ber.DerConstraintFailed = codes "DerConstraintFailed"
element_error_name (ber.NomError kind) = list_error_name kind
element_error_name ber.OutOfMemory = codes "OutOfMemory"

abbrev pub error_name : X509Error → List ℕ
error_name x509.Generic = codes "Generic"
error_name x509.InvalidVersion = codes "InvalidVersion"
error_name x509.InvalidSerial = codes "InvalidSerial"
error_name x509.InvalidAlgorithmIdentifier = codes "InvalidAlgorithmIdentifier"
error_name x509.InvalidX509Name = codes "InvalidX509Name"
error_name x509.InvalidDate = codes "InvalidDate"
error_name x509.InvalidSPKI = codes "InvalidSPKI"
error_name x509.InvalidSubjectUID = codes "InvalidSubjectUID"
error_name x509.InvalidIssuerUID = codes "InvalidIssuerUID"
error_name x509.InvalidExtensions = codes "InvalidExtensions"
error_name x509.InvalidAttributes = codes "InvalidAttributes"
error_name x509.DuplicateExtensions = codes "DuplicateExtensions"
error_name x509.DuplicateAttributes = codes "DuplicateAttributes"
error_name x509.InvalidSignatureValue = codes "InvalidSignatureValue"
error_name x509.InvalidTbsCertificate = codes "InvalidTbsCertificate"
error_name x509.InvalidUserCertificate = codes "InvalidUserCertificate"
error_name x509.InvalidCertificate = codes "InvalidCertificate"
error_name x509.SignatureVerificationError = codes "SignatureVerificationError"
error_name x509.SignatureUnsupportedAlgorithm = codes "SignatureUnsupportedAlgorithm"
error_name x509.InvalidNumber = codes "InvalidNumber"
error_name (x509.Der kind) = element_error_name kind
error_name (x509.NomError kind) = list_error_name kind
error_name x509.OutOfMemory = codes "OutOfMemory"

abbrev pub refusal_name : Refusal X509Error → List ℕ
refusal_name refusals.Incomplete = codes "Incomplete"
refusal_name (refusals.Error e) = error_name e
refusal_name (refusals.Failure e) = error_name e
