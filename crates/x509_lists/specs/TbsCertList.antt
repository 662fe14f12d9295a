-- The part of a list that is signed (RFC 5280, 5.1.2).
use Rattle.std.specs.Prelude.{ℕ, List, [], true, Option, unwrap_or, map, ◌+◌}
use Rattle.x509_der.specs.Laws.{IsMarkedElement}
use Rattle.x509_der.specs.Plan.{◌>>=◌, give, soft, universal, with_bytes}
use Rattle.x509_der.specs.Promises.{option_view, option_heads}
use Rattle.x509_der.proofs.Marking.{marked}
use Rattle.x509_fields.specs.Errors.{is_x509_memory}
use Rattle.x509_fields.specs.Algorithm.{Algorithm, algorithm_of}
use Rattle.x509_fields.specs.Fields.{Field, sequence, as_x509_renames}
use Rattle.x509_names.specs.Names.{Name, name_of}
use Rattle.x509_fields.specs.Times.{Time, time_of}
use Rattle.x509_fields.specs.Version.{version, version_laws}
use Rattle.x509_extensions.specs.Extension.{Extension, extension_of}
use Rattle.x509_extensions.specs.ExtensionList.{wrapped_extensions, wrapped_extensions_laws, wrapped_heads}
use Rattle.x509_lists.specs.Issue.{issue, issue_laws, issue_away, issue_heads}
use Rattle.x509_lists.specs.RevokedCertificate.{Revoked, revoked_of}
use Rattle.x509_lists.specs.RevokedList.{revoked_list, revoked_list_laws, revocations_heads}
use Rattle.x509_extensions.proofs.ClosingExtensions.{wrapped_extensions_parted}
use Rattle.x509_lists.specs.declared.revoked_certificate.RevokedCertificate.{RevokedCertificate}
use Rattle.x509_lists.specs.declared.tbs_cert_list.TbsCertListOf.{TbsCertListOf}

-- ---- the value

-- raw is the whole element
pub record TbsList : Type 0 where
  pub raw : List ℕ
  pub version : Option ℕ
  pub signature : Algorithm
  pub issuer : Name
  pub this_update : Time
  pub next_update : Option Time
  pub revoked_certificates : List Revoked
  pub extensions : List Extension

-- its certificates as they are kept
abbrev pub tbs_list_with : {R : Type 0} → (R → List Revoked) → TbsCertListOf R → TbsList
tbs_list_with entries t = record {
  raw = t.raw.now;
  version = option_view (λ v. v.0) t.version;
  signature = algorithm_of t.signature;
  issuer = name_of t.issuer;
  this_update = time_of t.this_update;
  next_update = option_view time_of t.next_update;
  revoked_certificates = entries t.revoked_certificates;
  extensions = map extension_of t.extensions;
}

-- in memory
abbrev pub tbs_list_of : TbsCertListOf (List RevokedCertificate) → TbsList
tbs_list_of = tbs_list_with (map revoked_of)

-- ---- the grammar

-- TBSCertList ::= SEQUENCE { version Version OPTIONAL, signature AlgorithmIdentifier, issuer Name, thisUpdate Time,
--     nextUpdate Time OPTIONAL, revokedCertificates SEQUENCE OF SEQUENCE { .. } OPTIONAL,
--     crlExtensions [0] EXPLICIT Extensions OPTIONAL } (5.1).
-- A version that can't be read is absent, and so are certificates of which one can't be read.
unfoldable pub tbs_list : Field TbsList
tbs_list = with_bytes (sequence do
  version ← soft (universal 2) version
  issue ← issue
  revoked ← soft (universal 16) revoked_list
  extensions ← wrapped_extensions 0 true
  give (λ raw. record {
    raw = raw;
    version = version;
    signature = issue.signature;
    issuer = issue.issuer;
    this_update = issue.this_update;
    next_update = issue.next_update;
    revoked_certificates = unwrap_or revoked [];
    extensions = extensions;
  }))

-- ---- heads

abbrev pub tbs_list_heads : TbsList → ℕ
tbs_list_heads t =
    1 + option_heads (λ _. 1) t.version
    + issue_heads (record { signature = t.signature; issuer = t.issuer; this_update = t.this_update; next_update = t.next_update })
    + revocations_heads t.revoked_certificates + wrapped_heads t.extensions

-- ---- laws

pub tbs_list_laws : IsMarkedElement is_x509_memory tbs_list
unfolding tbs_list
tbs_list_laws = search (marked, as_x509_renames, version_laws, issue_laws, issue_away, revoked_list_laws, wrapped_extensions_laws, wrapped_extensions_parted) depth 60
