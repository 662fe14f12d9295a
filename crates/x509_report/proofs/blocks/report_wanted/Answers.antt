use Rattle.std.proofs.Common.{subst, sym}
use Rattle.x509_report_objects.specs.Attempts.{found_of}
use Rattle.x509_report.specs.Files.{symbols_told}
use Rattle.x509_report.specs.Objects.{asks_of}
use Rattle.x509_report.specs.Told.{Prints}
use Rattle.x509_report.proofs.Choices.{whole_symbols}
use Rattle.x509_report.proofs.blocks.report_wanted.Goals as goal

pub returns-then-is_whole : goal.returns-then-is_whole
returns-then-is_whole g c =
    let asks = asks_of c.args.asked.now in
    let place = found_of c.args.place.now in
    subst (Prints c.args.printer.now c.report_symbols.new.printer)
    (sym (whole_symbols asks place c.args.block.now (sym c.if-not-wants_any.ensures) (sym c.if-is_whole.ensures)))
    (subst (λ s. Prints c.args.printer.now c.report_symbols.new.printer (symbols_told asks place s)) c.symbols-symbols.ensures c.report_symbols.ensures)
