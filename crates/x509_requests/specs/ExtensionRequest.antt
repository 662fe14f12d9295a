-- Extensions that a request asks for (RFC 2985, 5.4.2).
use Rattle.std.specs.Prelude.{List, map}
use Rattle.x509_extensions.specs.Extension.{Extension, extension_of}
use Rattle.x509_requests.specs.declared.extension_request.ExtensionRequest.{ExtensionRequest}

abbrev pub request_of : ExtensionRequest → List Extension
request_of r = map extension_of r.extensions
