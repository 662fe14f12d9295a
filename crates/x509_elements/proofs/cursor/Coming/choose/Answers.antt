-- The fields are those of the part, from the number on.
use Rattle.std.proofs.Common.{◌≡◌, ℕ, List, Option, Some, map, drop, sym, ap, ◌∙◌}
use Rattle.std.proofs.lemmas.List.{drop-map}
use Rattle.x509_der.specs.declared.header.Header.{Header}
use Rattle.x509_elements.specs.Cursors.{coming}
use Rattle.x509_elements.specs.Fields.{Chosen, Field, chosen, field}
use Rattle.x509_elements.specs.Parts.{fields_of}
use Rattle.x509_elements.proofs.cursor.Coming.choose.Goals as goal

from_part : {T : Type 0} (view : T → Field) (fs : List T) (all : List Field) (from : ℕ) → map view fs ≡ all → map view (drop from fs) ≡ drop from all
from_part view fs all from e = sym (drop-map view from fs) ∙ ap (drop from) e

leads : {T : Type 0} (view : T → Field) (fs : List T) (all : List Field) (from : ℕ) (h : Header) (r : Option Chosen) → map view fs ≡ all → r ≡ chosen (map view (drop from fs)) h
    → r ≡ chosen (drop from all) h
leads view fs all from h r e is = is ∙ ap (λ gs. chosen gs h) (from_part view fs all from e)

pub returns-in-None : goal.returns-in-None
returns-in-None c =
    leads (λ f. field f.0.now f.1 f.2) c.fields.result.now _ c.in-Fields.from c.args.header.now _ c.fields.ensures c.in-None.ensures
    ∙ ap (λ k. chosen (coming k) c.args.header.now) (sym c.in-Fields.is)

pub returns-in-Some : goal.returns-in-Some
returns-in-Some c =
    let all = fields_of c.in-Fields.part in
    let f = field c.in-Some.field.0.now c.in-Some.field.1 c.in-Some.field.2 in
    ap (λ (fs : List Field). Some (f, fs)) (sym (from_part (λ f. field f.0.now f.1 f.2) c.fields.result.now all c.in-Some.behind c.fields.ensures))
    ∙ leads (λ f. field f.0.now f.1 f.2) c.fields.result.now all c.in-Fields.from c.args.header.now _ c.fields.ensures c.in-Some.ensures
    ∙ ap (λ k. chosen (coming k) c.args.header.now) (sym c.in-Fields.is)
