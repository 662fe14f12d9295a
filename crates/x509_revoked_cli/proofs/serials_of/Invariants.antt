use Rattle.std.proofs.Common.{◌≡◌, ◌++◌, Some, map, drop}
use Rattle.std.specs.Prelude.{string_bytes}
use Rattle.x509_revoked_cli.specs.Serials.{number_of, serial_in}
use Rattle.x509_revoked_cli.proofs.serials_of.Given as goal

-- those so far, and the words that are left
abbrev pub invariant-loop-word : goal.invariant-loop-word
invariant-loop-word l = record {
  words : map (λ s. s.word.now) l.serials.items ++ map string_bytes (drop l.word-index l.words) ≡ map string_bytes l.words;
  numbers : map (λ s. Some (number_of s)) l.serials.items ++ map serial_in (map string_bytes (drop l.word-index l.words)) ≡ map serial_in (map string_bytes l.words);
}
