use Rattle.std.proofs.Common.{◌++◌, flat_map, map, take, string_bytes, ap, ◌∙◌}
use Rattle.x509_requests.specs.CriAttribute.{attribute_of}
use Rattle.x509_show.specs.RequestReport.{attribute_line}
use Rattle.x509_show.proofs.Reports.{lines_more}
use Rattle.x509_show.proofs.request_report.push_attributes.Goals as goal

pub loop-attribute-preserved : goal.loop-attribute-preserved
loop-attribute-preserved c =
    let k = c.loop-attribute.attribute-index in
    let attributes = c.args.attributes.now in
    let so_far = string_bytes c.args.text.now ++ flat_map attribute_line (map attribute_of (take k attributes)) in
    rw (c.in_ok-push_attribute.ensures, c.loop-attribute.invariant)
    (ap (λ x. so_far ++ attribute_line (attribute_of x)) c.attribute-item.is
    ∙ lines_more attribute_line attribute_of _ attributes k c.attribute-item.result c.loop-attribute-test.true)
