-- Which key of an issuer signed (RFC 5280, 4.2.1.1).
use Rattle.std.specs.Prelude.{ℕ, ◌+◌, List, Option}
use Rattle.x509_der.specs.Laws.{IsMarkedElement}
use Rattle.x509_der.specs.Leaves.{implicit}
use Rattle.x509_der.specs.Plan.{◌>>=◌, give, soft, context}
use Rattle.x509_der.specs.Promises.{option_view, option_heads}
use Rattle.x509_der.proofs.Marking.{marked}
use Rattle.x509_fields.specs.Errors.{is_x509_memory}
use Rattle.x509_fields.specs.Fields.{Field, lifted, sequence, as_x509_renames}
use Rattle.x509_general_names.specs.declared.authority_key_identifier.AuthorityKeyIdentifier.{AuthorityKeyIdentifier}
use Rattle.x509_general_names.specs.AlternativeNames.{general_names_heads}
use Rattle.x509_general_names.specs.GeneralName.{GeneralNameValue}
use Rattle.x509_general_names.specs.KeyIdentifier.{key_identifier_of}
use Rattle.x509_general_names.specs.ImplicitNames.{names_of, implicit_names, implicit_names_laws, implicit_names_away}

-- ---- the value

pub record AuthorityKeyIdentifierValue : Type 0 where
  pub key_identifier : Option (List ℕ)
  pub issuer : Option (List GeneralNameValue)
  -- the contents of the serial number, as they stand
  pub serial : Option (List ℕ)

abbrev pub authority_key_identifier_of : AuthorityKeyIdentifier → AuthorityKeyIdentifierValue
authority_key_identifier_of a = record {
  key_identifier = option_view key_identifier_of a.key_identifier;
  issuer = option_view names_of a.authority_cert_issuer;
  serial = option_view (λ bytes. bytes.now) a.authority_cert_serial;
}

-- ---- the grammar

-- AuthorityKeyIdentifier ::= SEQUENCE {
--     keyIdentifier              [0]  KeyIdentifier            OPTIONAL,
--     authorityCertIssuer        [1]  GeneralNames             OPTIONAL,
--     authorityCertSerialNumber  [2]  CertificateSerialNumber  OPTIONAL }
unfoldable pub authority_key_identifier : Field AuthorityKeyIdentifierValue
authority_key_identifier = sequence do
  key_identifier ← soft (context 0) (lifted (implicit 0))
  issuer ← soft (context 1) (implicit_names 1)
  serial ← soft (context 2) (lifted (implicit 2))
  give (record { key_identifier = key_identifier; issuer = issuer; serial = serial })

-- ---- heads

abbrev pub authority_key_identifier_heads : AuthorityKeyIdentifierValue → ℕ
authority_key_identifier_heads a = 1 + option_heads (λ _. 1) a.key_identifier + option_heads general_names_heads a.issuer + option_heads (λ _. 1) a.serial

-- ---- laws

pub authority_key_identifier_laws : IsMarkedElement is_x509_memory authority_key_identifier
unfolding authority_key_identifier
authority_key_identifier_laws = search (marked, as_x509_renames, implicit_names_laws, implicit_names_away) depth 40
