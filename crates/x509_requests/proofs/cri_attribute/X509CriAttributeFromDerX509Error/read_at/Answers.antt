use Rattle.std.proofs.Common.{rules, ◌≡◌, ap, ◌∙◌, arith}
use Rattle.x509_der.specs.Oid.{oid_bytes}
use Rattle.x509_der.specs.Primitives.{is_constructed}
use Rattle.x509_der.specs.Reading.{element_of}
use Rattle.x509_der.specs.Leaves.{sequence}
use Rattle.x509_der.specs.Looks.{behind}
use Rattle.x509_der.specs.Place.{at}
use Rattle.x509_requests.specs.CriAttribute.{parts_of, kind_of, marks_of_values, attribute, said, parts_mark}
use Rattle.x509_requests.proofs.AttributeMarks.{ok_is_read, attribute_marks}
use Rattle.x509_requests.proofs.cri_attribute.X509CriAttributeFromDerX509Error.read_at.Goals as goal

pub returns-in-Ok-clause-reads : goal.returns-in-Ok-clause-reads
unfolding attribute said parts_mark
returns-in-Ok-clause-reads g c =
    let place = at c.args.place.now in
    let strictly = ok_is_read (λ x. (behind place, x.bytes.now)) sequence g.L.Outside.adds place c.args.place.now.outside c.sequence.result c.is_ok-is_sequence.result c.sequence.ensures.reads c.is_ok-is_sequence.ensures.value in
    let values : c.in-Ok.value_plain ≡ marks_of_values (kind_of (oid_bytes c.in_ok-parts.parts.oid)) (element_of c.in_ok-parts.parts.element).contents = grind (arith) in
    record {
      reads = search rules;
      marks = attribute_marks place (parts_of c.in_ok-parts.parts) (behind place) c.in_ok-parts.plain c.is_ok-is_sequence.result c.is_plain_set-is_set.result c.in-Ok.value_plain
          c.args.place.now.octets c.in_ok-parts.ensures.reads c.in_ok-parts.ensures.marks strictly (c.is_plain_set-is_set.ensures ∙ ap (is_constructed 17) c.header.ensures) values;
      grows = search rules;
      count = search rules;
      foreign = search rules;
      least = search rules;
      there = search rules;
    }
