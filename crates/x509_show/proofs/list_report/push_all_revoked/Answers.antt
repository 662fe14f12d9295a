use Rattle.std.proofs.Common.{◌++◌, flat_map, map, take, string_bytes, ap, ◌∙◌}
use Rattle.x509_lists.specs.RevokedCertificate.{revoked_of}
use Rattle.x509_show.specs.ListReport.{revoked_line}
use Rattle.x509_show.proofs.Reports.{lines_more}
use Rattle.x509_show.proofs.list_report.push_all_revoked.Goals as goal

pub loop-one-preserved : goal.loop-one-preserved
loop-one-preserved c =
    let k = c.loop-one.one-index in
    let revoked = c.args.revoked.now in
    let so_far = string_bytes c.args.text.now ++ flat_map revoked_line (map revoked_of (take k revoked)) in
    rw (c.in_ok-push_revoked.ensures, c.loop-one.invariant)
    (ap (λ x. so_far ++ revoked_line (revoked_of x)) c.one-item.is
    ∙ lines_more revoked_line revoked_of _ revoked k c.one-item.result c.loop-one-test.true)
