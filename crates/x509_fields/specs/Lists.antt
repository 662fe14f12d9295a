-- Why lists are refused in the values of extensions.
use Rattle.x509_der.specs.declared.error.BerError.TheVariants as ber
use Rattle.x509_der.specs.declared.error.ErrorKind.{ErrorKind}
use Rattle.x509_fields.specs.declared.error.X509Error.{X509Error}
use Rattle.x509_fields.specs.declared.error.X509Error.TheVariants.{Der}

-- the error of a list in the value of an extension
abbrev pub list_error : ErrorKind → X509Error
list_error kind = Der (ber.NomError kind)
