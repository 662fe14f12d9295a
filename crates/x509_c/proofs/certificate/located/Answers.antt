-- A refusal that the second reading finds, or want of memory, which may come with any buffer.
use Rattle.std.proofs.Common.{ℕ, List, Bool, true, Err, arith}
use Rattle.x509_der.specs.declared.error.Err.TheVariants as refusals
use Rattle.x509_der.specs.Laws.{IsBytes}
use Rattle.x509_der.specs.Promises.{ReadsWhere}
use Rattle.x509_der.proofs.Sentences.{reads_exactly}
use Rattle.x509_fields.specs.declared.error.X509Error.TheVariants.{OutOfMemory}
use Rattle.x509_fields.specs.Errors.{is_x509_memory}
use Rattle.x509_certs.specs.Certificate.{certificate_by, certificate_by_laws, is_deep, is_strict}
use Rattle.x509_c.specs.Certificates.{read_of}
use Rattle.x509_c.proofs.certificate.located.Goals as goal

memory_wanted : (deep strict : Bool) (octets : List ℕ) → IsBytes octets
    → ReadsWhere is_x509_memory true read_of (certificate_by deep strict) octets (Err (record { why = refusals.Failure OutOfMemory; at = 0 }))
memory_wanted deep strict octets k = record {
  reads = reads_exactly (certificate_by deep strict) (certificate_by_laws deep strict).laws.lawful is_x509_memory true read_of (Err (refusals.Failure OutOfMemory)) octets k tt;
  located = λ own. absurd cc;
  locates = λ why left refuses. tt;
}

pub returns-in_default : goal.returns-in_default
returns-in_default c = memory_wanted (is_deep c.args.parser) (is_strict c.args.parser) c.args.der.now (λ k. omega (arith, c.type_inv.der k))

pub returns-else-not-is_out_of_memory : goal.returns-else-not-is_out_of_memory
returns-else-not-is_out_of_memory c = memory_wanted (is_deep c.args.parser) (is_strict c.args.parser) c.args.der.now (λ k. omega (arith, c.type_inv.der k))
