use Rattle.std.proofs.Common.{drop, map}
use Rattle.x509_report.specs.Told.{alone}
use Rattle.x509_report.proofs.Prints.{Leads}
use Rattle.x509_report.proofs.printer.Printer.write_each.Given as goal

-- with the pieces that are left
abbrev pub invariant-loop-piece : goal.invariant-loop-piece
invariant-loop-piece g l =
    Leads l.initial.self l.self (alone (map (λ piece. piece.now) (drop l.piece-index l.pieces))) (alone (map (λ piece. piece.now) l.pieces))
