use Rattle.std.proofs.Common.{◌&&◌, ◌++◌, ◌∷◌, [], ap, refl}
use Rattle.x509_report.specs.Texts.{begun, line_text}
use Rattle.x509_report.specs.Told.{Printed, alone}
use Rattle.x509_report.proofs.Prints.{in_turn, noted}
use Rattle.x509_report.proofs.printer.Printer.put_object.Goals as goal

pub returns : goal.returns
returns g c =
    let first = begun c.args.form in
    let line = line_text c.args.form c.args.line.so_far ∷ [] in
    noted _ _ _ (first ++ line) c.args.taken (in_turn _ _ _ (alone first) (alone line) _ c.begin.ensures c.put.ensures refl)
    (ap (λ (p : Printed). record p { taken = p.taken && c.args.taken }) c.self.view_is)
