-- Extensions in their SEQUENCE (RFC 5280, 4.1.2.9) and in the wrapper that closes a structure.
use Rattle.std.specs.Prelude.{ℕ, ◌==◌, ◌&&◌, List, [], Bool, length, map, ◌+◌, ◌∷◌, sum_by}
use Rattle.x509_der.specs.declared.error.Err.TheVariants.{Error}
use Rattle.x509_der.specs.declared.header.Header.{Header}
use Rattle.x509_der.specs.Reading.{strict}
use Rattle.x509_der.specs.Plan.{◌>>=◌, plainly, run, to_end, or_nothing}
use Rattle.x509_der.specs.Primitives.{is_explicit, has_number}
use Rattle.x509_der.specs.Leaves.{bare_header, header}
use Rattle.x509_der.specs.Promises.{ended_early, is_ber_memory}
use Rattle.x509_fields.specs.declared.error.X509Error.TheVariants as x509
use Rattle.x509_fields.specs.Fields.{Field, sequence, as_x509_renames}
use Rattle.x509_extensions.specs.Extension.{Extension, extension_of, extension, extension_heads, extension_laws}
use Rattle.x509_der.specs.Laws.{IsMarkedField, IsMarkedElement, Anywhere}
use Rattle.x509_der.proofs.Lawful.{named_field, header_field}
use Rattle.x509_der.proofs.Marking.{marked, bare_header_marked}
use Rattle.x509_fields.specs.Errors.{is_x509_memory}
use Rattle.x509_extensions.specs.declared.extension_sequence.ExtensionSequence.{ExtensionSequence}

-- ---- the value

abbrev pub extensions_of : ExtensionSequence → List Extension
extensions_of s = map extension_of s.list

-- ---- the grammar

-- Extensions ::= SEQUENCE OF Extension, to its end; it may be empty
unfoldable pub extensions : Bool → Field (List Extension)
extensions deep = sequence (to_end (ended_early x509.NomError) (run (extension deep)))

-- a header of which the number alone is looked at: neither its class nor its length
unfoldable pub wrapper_header : ℕ → Field Header
wrapper_header n = bare_header (λ r. Error x509.InvalidExtensions) (Error x509.InvalidExtensions) (has_number n) strict

-- a wrapper that is one, and ends where the structure does
abbrev pub closes : ℕ → Header → List ℕ → Bool
closes n header left = is_explicit n header && length left == header.length

-- Plainly the wrapper is a constructed element of context class, which ends where the structure does.
unfoldable pub wrapped : ℕ → Bool → Field (List Extension)
wrapped n deep = do
  header ← wrapper_header n
  _ ← plainly (closes n header)
  to_end (ended_early x509.NomError) (extensions deep)

-- [n] EXPLICIT Extensions OPTIONAL, up to the end of the structure that it closes; none where nothing is left
unfoldable pub wrapped_extensions : ℕ → Bool → Field (List Extension)
wrapped_extensions n deep = or_nothing [] (wrapped n deep)

-- ---- heads

-- the heads of the SEQUENCE and of each extension
abbrev pub extensions_heads : List Extension → ℕ
extensions_heads xs = 1 + sum_by extension_heads xs

-- and that of the wrapper around it; none where there are no extensions
abbrev pub wrapped_heads : List Extension → ℕ
wrapped_heads [] = 0
wrapped_heads (x ∷ xs) = 1 + extensions_heads (x ∷ xs)

-- ---- laws

pub extensions_laws : (deep : Bool) → IsMarkedElement is_x509_memory (extensions deep)
unfolding extensions
extensions_laws deep = search (marked, as_x509_renames, extension_laws) depth 40

pub wrapper_header_laws : (n : ℕ) → IsMarkedField is_x509_memory Anywhere (wrapper_header n)
unfolding wrapper_header
wrapper_header_laws n =
    bare_header_marked is_x509_memory (λ r. Error x509.InvalidExtensions) x509.InvalidExtensions (has_number n) strict
    (named_field is_ber_memory is_x509_memory x509.InvalidExtensions (header strict) (header_field strict))

pub wrapped_laws : (n : ℕ) (deep : Bool) → IsMarkedField is_x509_memory Anywhere (wrapped n deep)
unfolding wrapped
wrapped_laws n deep = search (marked, wrapper_header_laws, extensions_laws) depth 40

pub wrapped_extensions_laws : (n : ℕ) (deep : Bool) → IsMarkedField is_x509_memory Anywhere (wrapped_extensions n deep)
unfolding wrapped_extensions
wrapped_extensions_laws n deep = search (marked, wrapped_laws) depth 40
