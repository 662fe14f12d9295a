-- One more extension behind those of a list, and as many as stand there.
use Rattle.std.specs.Prelude.{◌≡◌, ◌≤◌, ℕ, ◌+◌, ◌-◌, ◌*◌, Bool, true, false, List, [], ◌∷◌, ◌++◌, length, map, sum_by, Result, IfOk}
use Rattle.std.specs.Borrow.{Bor}
use Rattle.x509_der.specs.declared.error.Err.{Err as Refusal}
use Rattle.x509_der.specs.Looks.{behind}
use Rattle.x509_der.specs.Plan.{got, run, marks_of_members}
use Rattle.x509_der.specs.Promises.{Answers}
use Rattle.x509_der.specs.Reading.{AddsAtLeast}
use Rattle.x509_fields.specs.declared.error.X509Error.{X509Error}
use Rattle.x509_fields.specs.Errors.{is_x509_memory}
use Rattle.x509_extensions.specs.declared.extension.X509Extension.{X509Extension}
use Rattle.x509_extensions.specs.Extension.{Extension, extension_of, extension_heads, extension, value_bytes}

-- The extension that stands at a place, read at this depth, comes behind those that were there, and its mark is told. At most eight headers are
-- tried for each byte of it, beyond the look at its own; of a shallow one none for its value.
pub record Adds (deep : Bool) (place : List ℕ) (before after : List Extension) (plain : Bool) (old new : ℕ) : Type 0 where
  pub added : Extension
  pub reads : (extension deep).read place ≡ got added (behind place)
  pub puts : after ≡ before ++ added ∷ []
  pub marks : plain ≡ (extension deep).marks place
  pub count : new + 9 + 8 * length (behind place) ≤ old + 8 * length place
  pub least : AddsAtLeast (extension_heads added - 1) old new
  pub shallow : deep ≡ false → new + 9 + 8 * length added.value + 8 * length (behind place) ≤ old + 8 * length place

-- What a reader of extensions gives that stops where none stands: those at the front, read at this depth, the octets behind them, and whether
-- all stand plainly. At most eight headers are tried for each octet; of shallow ones none for their values.
pub record ReadsMembers (deep : Bool) (octets : List ℕ) (old new : ℕ) (result : Result (Bor (List ℕ) × List X509Extension × Bool) (Refusal X509Error)) : Type 0 where
  pub reads : Answers is_x509_memory true (λ x. (x.0.now, map extension_of x.1)) result ((run (extension deep)).read octets)
  pub marks : IfOk result (λ x. x.2 ≡ marks_of_members (extension deep) octets)
  pub grows : old ≤ new
  pub count : new ≤ old + 8 * length octets
  pub least : IfOk result (λ x. AddsAtLeast (sum_by extension_heads (map extension_of x.1)) old new)
  pub shallow : deep ≡ false → IfOk result (λ x. new + 8 * value_bytes (map extension_of x.1) ≤ old + 8 * length octets)
