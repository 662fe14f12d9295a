use Rattle.std.proofs.Common.{◌≡◌, drop}
use Rattle.x509_requests.specs.Requested.{first_requested}
use Rattle.x509_requests.proofs.request.X509CertificationRequest.requested_extensions.Given as goal

-- none of the attributes so far asks for extensions
abbrev pub invariant-loop-attribute : goal.invariant-loop-attribute
invariant-loop-attribute l =
    let attributes = l.self.certification_request_info.attributes in
    first_requested attributes ≡ first_requested (drop l.attribute-index attributes)
