use Rattle.std.proofs.Common.{◌≡◌, ◌++◌, length, string_bytes}
use Rattle.std.specs.Option.{option_map}
use Rattle.x509_requests.specs.PasswordTexts.{utf32_text}
use Rattle.x509_requests.proofs.password.utf32_text.Given as goal

abbrev pub invariant-characters : goal.invariant-characters
invariant-characters l = option_map (λ more. string_bytes l.text ++ more) (utf32_text l.rest) ≡ utf32_text l.fn.octets

abbrev pub decreases-characters : goal.decreases-characters
decreases-characters l = length l.rest
