use Rattle.std.proofs.Common.{arith}
use Rattle.x509_der.proofs.Sentences.{reads_exactly}
use Rattle.x509_der.proofs.reader.Reader.parse.Goals as goal

pub returns-clause-exact : goal.returns-clause-exact
returns-clause-exact g c =
    let r = g.Self.Reader in
    let reader = c.args.self.now in
    reads_exactly (r.grammar reader).plan (r.grammar reader).lawful g.E.ReadError.is_memory (r.grammar reader).takes_memory (λ x. (x.0.now, r.view x.1)) c.read.result c.args.i.now (λ k. omega (arith, c.type_inv.i k)) c.read.ensures.reads
