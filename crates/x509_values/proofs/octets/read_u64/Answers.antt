use Rattle.x509_values.proofs.BigEndian.{u64_read}
use Rattle.x509_values.proofs.octets.read_u64.Goals as goal

pub returns : goal.returns
returns c = u64_read c.args.i.now c.in_ok-rest.octets.now c.in_ok-rest.rest.now c.from_be_bytes.result c.in_ok-rest.ensures c.from_be_bytes.ensures
