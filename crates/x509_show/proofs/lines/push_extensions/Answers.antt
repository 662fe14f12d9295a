use Rattle.std.proofs.Common.{◌++◌, flat_map, map, take, string_bytes, ap, ◌∙◌}
use Rattle.x509_extensions.specs.Extension.{extension_of}
use Rattle.x509_show.specs.Lines.{extension_line}
use Rattle.x509_show.proofs.Reports.{lines_more}
use Rattle.x509_show.proofs.lines.push_extensions.Goals as goal

pub loop-extension-preserved : goal.loop-extension-preserved
loop-extension-preserved c =
    let k = c.loop-extension.extension-index in
    let extensions = c.args.extensions.now in
    let so_far = string_bytes c.args.text.now ++ flat_map extension_line (map extension_of (take k extensions)) in
    rw (c.in_ok-push_extension.ensures, c.loop-extension.invariant)
    (ap (λ x. so_far ++ extension_line (extension_of x)) c.extension-item.is
    ∙ lines_more extension_line extension_of _ extensions k c.extension-item.result c.loop-extension-test.true)
