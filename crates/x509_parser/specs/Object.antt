-- What stands at the front of octets: a certificate (RFC 5280, 4.1), a list of revoked certificates (RFC 5280, 5.1) or a request (RFC 2986, 4.2).
use Rattle.std.specs.Prelude.{◌≡◌, ℕ, List, Ok, Err, true}
use Rattle.x509_der.specs.declared.error.Err.{Err as Refusal}
use Rattle.x509_fields.specs.declared.error.X509Error.{X509Error}
use Rattle.x509_certs.specs.Certificate.{certificate, certificate_of}
use Rattle.x509_lists.specs.CertificateList.{certificate_list, list_of}
use Rattle.x509_requests.specs.Request.{certification_request, certification_request_of}
use Rattle.x509_parser.specs.declared.object.NoObject.{NoObject}
use Rattle.x509_parser.specs.declared.object.NoObject.TheVariants as none
use Rattle.x509_parser.specs.declared.object.Object.{Object}
use Rattle.x509_parser.specs.declared.object.Object.TheVariants as objects

abbrev pub NoCertificate : List ℕ → Type 0
NoCertificate bytes = (e : Refusal X509Error) × ((certificate true).read bytes ≡ Err e)

abbrev pub NoList : List ℕ → Type 0
NoList bytes = (e : Refusal X509Error) × (certificate_list.read bytes ≡ Err e)

-- A front of the octets is this object, and this rest stands behind it. A list is no certificate, and a request neither of the two.
abbrev pub IsObject : List ℕ → List ℕ → Object → Type 0
IsObject bytes rest (objects.Certificate c) = (certificate true).read bytes ≡ Ok (rest, certificate_of c)
IsObject bytes rest (objects.List l) = NoCertificate bytes × (certificate_list.read bytes ≡ Ok (rest, list_of l))
IsObject bytes rest (objects.Request r) = NoCertificate bytes × NoList bytes × (certification_request.read bytes ≡ Ok (rest, certification_request_of r))

-- none of the three stands there, for these reasons; or memory was refused
abbrev pub IsNoObject : List ℕ → NoObject → Type 0
IsNoObject bytes (none.Refused r) = ((certificate true).read bytes ≡ Err r.certificate) × (certificate_list.read bytes ≡ Err r.list) × (certification_request.read bytes ≡ Err r.request)
IsNoObject bytes none.OutOfMemory = Unit {0}
