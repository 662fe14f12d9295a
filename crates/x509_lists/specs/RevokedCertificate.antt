-- A certificate on a list of revoked ones (RFC 5280, 5.1.2.6).
use Rattle.std.specs.Prelude.{ℕ, List, [], ◌∷◌, ◌+◌, true, map, unwrap_or}
use Rattle.x509_der.specs.Digits.{without_leading_zeros}
use Rattle.x509_der.specs.Laws.{IsMarkedElement}
use Rattle.x509_der.specs.Plan.{◌>>=◌, give, soft, universal}
use Rattle.x509_der.specs.Unsigned.{unsigned_bytes}
use Rattle.x509_der.proofs.Marking.{marked}
use Rattle.x509_fields.specs.Errors.{is_x509_memory}
use Rattle.x509_fields.specs.Fields.{Field, sequence, as_x509_renames}
use Rattle.x509_fields.specs.Times.{Time, time, time_of, time_laws}
use Rattle.x509_extensions.specs.Extension.{Extension, extension_of}
use Rattle.x509_extensions.specs.ExtensionList.{extensions, extensions_heads, extensions_laws}
use Rattle.x509_fields.specs.Serial.{serial, serial_laws}
use Rattle.x509_lists.specs.declared.revoked_certificate.RevokedCertificate.{RevokedCertificate}

-- ---- the value

-- serial is the digits of raw_serial without leading zeros
pub record Revoked : Type 0 where
  pub raw_serial : List ℕ
  pub serial : List ℕ
  pub revocation_date : Time
  pub extensions : List Extension

abbrev pub revoked_of : RevokedCertificate → Revoked
revoked_of r = record {
  raw_serial = r.raw_serial.now;
  serial = unsigned_bytes r.user_certificate;
  revocation_date = time_of r.revocation_date;
  extensions = map extension_of r.extensions;
}

-- ---- the grammar

-- SEQUENCE { userCertificate CertificateSerialNumber, revocationDate Time, crlEntryExtensions Extensions OPTIONAL } (5.1).
-- Extensions that can't be read are absent.
unfoldable pub revoked : Field Revoked
revoked = sequence do
  serial ← serial
  date ← time
  extensions ← soft (universal 16) (extensions true)
  give (record {
    raw_serial = serial;
    serial = without_leading_zeros serial;
    revocation_date = date;
    extensions = unwrap_or extensions [];
  })

-- ---- heads

-- none where there are no extensions
abbrev pub entry_heads : List Extension → ℕ
entry_heads [] = 0
entry_heads (x ∷ xs) = extensions_heads (x ∷ xs)

abbrev pub revoked_heads : Revoked → ℕ
revoked_heads r = 3 + entry_heads r.extensions

-- ---- laws

pub revoked_laws : IsMarkedElement is_x509_memory revoked
unfolding revoked
revoked_laws = search (marked, as_x509_renames, serial_laws, time_laws, extensions_laws) depth 40
