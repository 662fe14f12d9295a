use Rattle.std.proofs.Common.{true}
use Rattle.x509_der.specs.Place.{at}
use Rattle.x509_der.specs.Primitives.{is_constructed}
use Rattle.x509_der.specs.Reading.{strict}
use Rattle.x509_der.proofs.Strict.{refused_alike}
use Rattle.x509_fields.specs.declared.error.X509Error.TheVariants as x509
use Rattle.x509_fields.specs.Errors.{is_x509_memory}
use Rattle.x509_certs.specs.TbsCertificate.{looks_at_values, takes_plain_alone, tbs_of, tbs_heads, tbs}
use Rattle.x509_certs.proofs.tbs_parser.TbsCertificateParserReaderX509ErrorTbsCertificate.read_at.Goals as goal

pub returns-in-Err-clause-reads : goal.returns-in-Err-clause-reads
returns-in-Err-clause-reads g c =
    refused_alike is_x509_memory true strict (is_constructed 16) tbs_heads tbs_of (takes_plain_alone c.args.self.now) x509.Generic (tbs (looks_at_values c.args.self.now)) g.L.Outside.adds (at c.args.place.now) c.args.place.now.outside _ _
    c.in-Err.e c.in-Err.ensures.reads
