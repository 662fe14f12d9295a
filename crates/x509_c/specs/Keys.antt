-- Keys as C sees them.
use Rattle.std.specs.Prelude.{◌≡◌, ℕ, List, [], Option, Some, None, Result, Ok, Err}
use Rattle.x509_der.specs.Reading.{Element}
use Rattle.x509_fields.specs.declared.error.X509Error.{X509Error}
use Rattle.x509_keys.specs.KeyInfo.{KeyInfo}
use Rattle.x509_keys.specs.PublicKey.{Key, public_key_size}
use Rattle.x509_keys.specs.RsaPublicKey.{RsaKey}
use Rattle.x509_c.specs.Options.{is_there}
use Rattle.x509_c.specs.declared.keys.KeyInfoRow.{KeyInfoRow}
use Rattle.x509_c.specs.declared.keys.RsaKeyRow.{RsaKeyRow}

-- the size of a key in bits; 0 where there is none
abbrev pub size_in : Result Key X509Error → ℕ
size_in (Ok key) = public_key_size key
size_in (Err e) = 0

pub record IsRsaKeyRow (row : RsaKeyRow) (key : RsaKey) : Type 0 where
  pub modulus : row.modulus.now ≡ key.modulus
  pub exponent : row.exponent.now ≡ key.exponent

-- the contents of an algorithm's parameters, and the number of their tag
abbrev pub parameter_contents : Option Element → List ℕ
parameter_contents (Some element) = element.contents
parameter_contents None = []

abbrev pub parameter_tag : Option Element → ℕ
parameter_tag (Some element) = element.header.tag.0
parameter_tag None = 0

pub record IsKeyInfoRow (row : KeyInfoRow) (info : KeyInfo) : Type 0 where
  pub algorithm : row.algorithm.now ≡ info.algorithm.algorithm
  pub parameters : row.parameters.now ≡ parameter_contents info.algorithm.parameters
  pub bits : row.bits.now ≡ info.key.bytes
  pub has_parameters : row.has_parameters ≡ is_there info.algorithm.parameters
  pub parameters_tag : row.parameters_tag ≡ parameter_tag info.algorithm.parameters
  pub unused_bits : row.unused_bits ≡ info.key.unused_bits
