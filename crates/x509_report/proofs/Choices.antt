-- Which of its forms what is told takes.
use Rattle.std.proofs.Common.{◌≡◌, ℕ, Bool, true, not, cond, List, [], Option, Ok, Err, sym, ap, ◌∙◌}
use Rattle.x509_der.specs.declared.error.Err.{Err as Refusal}
use Rattle.x509_fields.specs.declared.error.X509Error.{X509Error}
use Rattle.x509_lists.specs.CertificateList.{certificate_list}
use Rattle.x509_lists.specs.RevokedCertificate.{Revoked}
use Rattle.x509_lists.specs.TbsCertList.{TbsList}
use Rattle.x509_fields.specs.Signed.{Signed}
use Rattle.x509_report_lines.specs.Blocks.{Pem}
use Rattle.x509_report_objects.specs.Places.{Found}
use Rattle.x509_report_objects.specs.declared.kind.Kind.{Kind}
use Rattle.x509_report.specs.Files.{Task, block_told, failed, kind_told, skipped, symbols_told, whole_told}
use Rattle.x509_report.specs.Labels.{kind_in, label_text, wants_any}
use Rattle.x509_report.specs.Objects.{Asks, entries_of, entry_lines, fingerprint_of, list_lines}
use Rattle.x509_report.specs.Told.{Told}
use Rattle.x509_report.specs.declared.options.Form.{Form}
use Rattle.std.specs.Prelude.{codes}

pub whole_symbols : (a : Asks) (p : Found) (b : Pem) → wants_any a.wishes ≡ true → b.whole ≡ true → whole_told a p b ≡ symbols_told a p b.symbols
whole_symbols a p b wanted whole =
    let ended : Told = failed a p b.symbols (codes "pem") (codes "no END line") in
    ap (λ w. cond (not w) (skipped a p b.symbols) (cond b.whole (symbols_told a p b.symbols) ended)) wanted
    ∙ ap (λ w. cond w (symbols_told a p b.symbols) ended) whole

pub block_is : (t : Task) (index offset : ℕ) (label : Option (List ℕ)) (b : Pem) (kind : Option Kind) → offset ≡ b.at → label ≡ label_text b.label → kind ≡ kind_in label
    → kind_told t.asks (record { file = t.file; index = index; offset = offset; label = label }) b kind ≡ block_told t index b
unfolding block_told
block_is t index offset label b kind o l k =
    ap (λ x. kind_told t.asks (record { file = t.file; index = index; offset = offset; label = label }) b x) (k ∙ ap kind_in l)
    ∙ ap (λ x. kind_told t.asks (record { file = t.file; index = index; offset = x; label = label }) b (kind_in (label_text b.label))) o
    ∙ ap (λ x. kind_told t.asks (record { file = t.file; index = index; offset = b.at; label = x }) b (kind_in (label_text b.label))) l

pub entries_are : (form : Form) (wanted : Bool) (p : Found) (octets : List ℕ) (mark : Option (List ℕ)) (entries : List Revoked) (x : List ℕ × Signed TbsList) → mark ≡ fingerprint_of wanted octets → certificate_list.read octets ≡ Ok x
    → entries ≡ x.1.tbs.revoked_certificates → entry_lines form p mark 0 entries ≡ list_lines form wanted p octets
entries_are form wanted p octets mark entries x m r e =
    ap (λ k. entry_lines form p k 0 entries) m ∙ ap (λ es. entry_lines form p (fingerprint_of wanted octets) 0 es) (e ∙ sym (ap entries_of r))

pub no_entries : (form : Form) (wanted : Bool) (p : Found) (octets : List ℕ) (e : Refusal X509Error) → certificate_list.read octets ≡ Err e → list_lines form wanted p octets ≡ []
unfolding entry_lines
no_entries form wanted p octets e r = ap (λ es. entry_lines form p (fingerprint_of wanted octets) 0 es) (ap entries_of r)
