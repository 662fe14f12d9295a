use Rattle.std.proofs.Common.{◌≡◌, ◌++◌, flat_map, map, take, string_bytes}
use Rattle.x509_extensions.specs.Extension.{extension_of}
use Rattle.x509_show.specs.Lines.{extension_line}
use Rattle.x509_show.proofs.lines.push_extensions.Given as goal

-- the lines so far
abbrev pub invariant-loop-extension : goal.invariant-loop-extension
invariant-loop-extension l =
    string_bytes l.text ≡ string_bytes l.initial.text ++ flat_map extension_line (map extension_of (take l.extension-index l.extensions))
