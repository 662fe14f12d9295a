use Rattle.std.proofs.Common.{Some, codes, drop}
use Rattle.std.specs.Fmt.{IsPlainFormatter}
use Rattle.std.specs.Option.{option_copied}
use Rattle.x509_names.specs.Names.{relative_name_of, name_of}
use Rattle.x509_names.specs.NameTexts.{called_by, lossy_relative_name_text, lossy_name_text}
use Rattle.x509_names.proofs.Joins.{IsJoined}
use Rattle.x509_names.proofs.name_text.write_name.Given as goal

abbrev pub invariant-loop-relative : goal.invariant-loop-relative
invariant-loop-relative g l =
    let called = called_by (option_copied l.registry) in
    IsPlainFormatter l.fn.f
    → IsJoined g.W.Write.write_str_gives l.fn.f l.f l.nothing_yet (λ r. Some (lossy_relative_name_text called r)) relative_name_of (codes ", ") (drop l.relative-index l.relative-items)
    (lossy_name_text called (name_of l.fn.name))
