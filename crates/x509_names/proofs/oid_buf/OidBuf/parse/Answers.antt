use Rattle.std.proofs.Common.{Ok, Err}
use Rattle.std.proofs.lemmas.Result.{err_from_is_err_and}
use Rattle.x509_names.proofs.DottedTexts.{parses_exactly}
use Rattle.x509_names.proofs.oid_buf.OidBuf.parse.Goals as goal

pub returns-in_err-octets : goal.returns-in_err-octets
returns-in_err-octets c =
    let p = err_from_is_err_and c.from_residual.result c.from_residual.ensures.1 in
    rw (p.1, p.2) (record { exact = parses_exactly c.args.text.now (Err c.in_err-octets.field-0.0) tt c.in_err-octets.ensures })

pub returns : goal.returns
returns c = record { exact = parses_exactly c.args.text.now (Ok c.in_ok-octets.octets.items) c.in_ok-octets.ensures tt }
