-- What holds of every certificate and every signed part that was read.
use Rattle.std.proofs.Common.{◌≡◌, ℕ, Bool, false, List, Err, ap, subst, ◌∙◌}
use Rattle.x509_der.specs.declared.error.Err.{Err as Refusal}
use Rattle.x509_der.specs.declared.error.Err.TheVariants.{Error}
use Rattle.x509_der.specs.Laws.{IsBytes}
use Rattle.x509_der.specs.Plan.{got}
use Rattle.x509_der.specs.Promises.{IsFront}
use Rattle.x509_der.proofs.Sentences.{front_read, front_only}
use Rattle.x509_der.proofs.Strict.{taken_loosely}
use Rattle.x509_fields.specs.declared.error.X509Error.{X509Error}
use Rattle.x509_fields.specs.declared.error.X509Error.TheVariants as x509
use Rattle.x509_extensions.specs.Depth.{changed}
use Rattle.x509_certs.specs.TbsCertificate.{Tbs, SignedPartStands, RefusedAtAnyDepth, tbs, tbs_by, tbs_at_depth, tbs_laws}
use Rattle.x509_certs.specs.Certificate.{Certificate, CertificateStands, certificate, certificate_by, certificate_at_depth, certificate_laws}
use Rattle.x509_certs.specs.DepthLaws.{tbs_depths, certificate_depths, refused_at_depths}
use Rattle.x509_fields.proofs.SignedParts.{signed_stands, window_of_front}
use Rattle.x509_certs.specs.Windows.{tbs_window}

pub tbs_stands : (deep : Bool) (bytes : List ℕ) (t : Tbs) (rest : List ℕ) → IsBytes bytes → (tbs deep).read bytes ≡ got t rest → SignedPartStands deep bytes t rest
tbs_stands deep bytes t rest k read =
    let laws = (tbs_laws deep).laws.lawful in
    record {
      reading = read;
      window = window_of_front (tbs deep) (λ x. x.raw) (tbs_window deep) bytes t rest (front_read (tbs deep) laws.agrees laws.is_local bytes t rest k read);
      depth = λ other.
          let others = (tbs_laws other).laws.lawful in
          front_read (tbs other) others.agrees others.is_local bytes (tbs_at_depth other t) rest k (tbs_depths deep other bytes ∙ ap (changed (tbs_at_depth other)) read);
    }

pub tbs_front_stands : (deep : Bool) (bytes : List ℕ) (t : Tbs) (rest : List ℕ) → IsBytes bytes → IsFront (tbs deep) bytes t rest → SignedPartStands deep bytes t rest
tbs_front_stands deep bytes t rest k front =
    let laws = (tbs_laws deep).laws.lawful in
    tbs_stands deep bytes t rest k (front_only (tbs deep) laws.agrees laws.is_local bytes t rest k front)

pub certificate_stands : (deep : Bool) (bytes : List ℕ) (c : Certificate) (rest : List ℕ) → IsBytes bytes → (certificate deep).read bytes ≡ got c rest → CertificateStands deep bytes c rest
unfolding certificate
certificate_stands deep bytes c rest k read =
    record {
      stands = signed_stands (tbs deep) (λ t. t.raw) (tbs_window deep) (tbs_laws deep).laws.lawful (certificate_laws deep).laws.lawful bytes c rest k read;
      depth = λ other.
          let others = (certificate_laws other).laws.lawful in
          front_read (certificate other) others.agrees others.is_local bytes (certificate_at_depth other c) rest k (certificate_depths deep other bytes ∙ ap (changed (certificate_at_depth other)) read);
    }

pub certificate_front_stands : (deep : Bool) (bytes : List ℕ) (c : Certificate) (rest : List ℕ) → IsBytes bytes → IsFront (certificate deep) bytes c rest → CertificateStands deep bytes c rest
certificate_front_stands deep bytes c rest k front =
    let laws = (certificate_laws deep).laws.lawful in
    certificate_stands deep bytes c rest k (front_only (certificate deep) laws.agrees laws.is_local bytes c rest k front)

-- ---- of readers by their settings

pub tbs_by_stands : (deep strictly : Bool) (bytes : List ℕ) (t : Tbs) (rest : List ℕ) → IsBytes bytes → (tbs_by deep strictly).read bytes ≡ got t rest → SignedPartStands deep bytes t rest
tbs_by_stands deep strictly bytes t rest k read = tbs_stands deep bytes t rest k (taken_loosely strictly (Error x509.Generic) (tbs deep) bytes t rest read)

pub certificate_by_stands : (deep strictly : Bool) (bytes : List ℕ) (c : Certificate) (rest : List ℕ) → IsBytes bytes → (certificate_by deep strictly).read bytes ≡ got c rest → CertificateStands deep bytes c rest
certificate_by_stands deep strictly bytes c rest k read = certificate_stands deep bytes c rest k (taken_loosely strictly (Error x509.Generic) (certificate deep) bytes c rest read)

pub tbs_refused : (deep strictly : Bool) (bytes : List ℕ) (why : Refusal X509Error) → strictly ≡ false → IsBytes bytes → (tbs_by deep strictly).read bytes ≡ Err why → RefusedAtAnyDepth tbs bytes why
tbs_refused deep strictly bytes why loosely k read =
    refused_at_depths tbs tbs_at_depth tbs_depths (λ other. (tbs_laws other).laws.lawful) deep bytes why k (subst (λ (s : Bool). (tbs_by deep s).read bytes ≡ Err why) loosely read)

pub certificate_refused : (deep strictly : Bool) (bytes : List ℕ) (why : Refusal X509Error) → strictly ≡ false → IsBytes bytes → (certificate_by deep strictly).read bytes ≡ Err why → RefusedAtAnyDepth certificate bytes why
certificate_refused deep strictly bytes why loosely k read =
    refused_at_depths certificate certificate_at_depth certificate_depths (λ other. (certificate_laws other).laws.lawful) deep bytes why k (subst (λ (s : Bool). (certificate_by deep s).read bytes ≡ Err why) loosely read)
