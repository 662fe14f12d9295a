-- The version in its wrapper (RFC 5280, 4.1.2.1).
use Rattle.std.specs.Prelude.{ℕ, List, Bool, ◌==◌, Option, if◌then◌else◌}
use Rattle.x509_der.specs.declared.error.Err.TheVariants.{Error}
use Rattle.x509_der.specs.declared.header.Header.{Header}
use Rattle.x509_der.specs.Primitives.{is_implicit}
use Rattle.x509_der.specs.Plan.{hard, container}
use Rattle.x509_der.specs.Leaves.{contents_or, any_loose}
use Rattle.x509_der.specs.Promises.{refusal_by, is_ber_memory}
use Rattle.x509_der.specs.Reading.{strict}
use Rattle.x509_fields.specs.declared.error.X509Error.TheVariants as x509
use Rattle.x509_fields.specs.Errors.{as_x509, is_x509_memory}
use Rattle.x509_fields.specs.Fields.{Field, lifted, as_x509_renames}
use Rattle.x509_fields.specs.Version.{version, version_laws}
use Rattle.x509_der.proofs.Lawful.{renamed_field, element_field}
use Rattle.x509_der.proofs.Words.{any_loose_laws}
use Rattle.x509_der.specs.Laws.{IsMarkedField, IsMarkedElement, IsMarkedContents, Anywhere}
use Rattle.x509_der.proofs.Marking.{marked, marked_contents_or, hard_marked, element_marked_field}

abbrev pub has_contents_of_elements : Header → Bool
has_contents_of_elements header = header.constructed

-- the contents of a constructed element; its class and number were looked at before
unfoldable pub version_wrapper : Field (List ℕ)
version_wrapper = contents_or (refusal_by as_x509) (Error x509.InvalidVersion) has_contents_of_elements strict

unfoldable pub wrapped_version : Field ℕ
wrapped_version = container version_wrapper version

-- [0] EXPLICIT Version DEFAULT v1. What stands first is read whole before it is looked at, its length in any octets, as a serial may
-- stand there.
unfoldable pub explicit_version : Field (Option ℕ)
explicit_version = hard (lifted any_loose) (λ e. is_implicit 0 e.header) wrapped_version

-- the wrapper's and the number's; a first version that is written out isn't told from one that is left out
abbrev pub version_heads : ℕ → ℕ
version_heads version = if version == 0 then 0 else 2

pub version_wrapper_laws : IsMarkedContents is_x509_memory version_wrapper
unfolding version_wrapper
version_wrapper_laws = marked_contents_or is_x509_memory (refusal_by as_x509) x509.InvalidVersion has_contents_of_elements strict as_x509_renames

pub wrapped_version_laws : IsMarkedElement is_x509_memory wrapped_version
unfolding wrapped_version
wrapped_version_laws = search (marked, version_wrapper_laws, version_laws) depth 40

pub explicit_version_laws : IsMarkedField is_x509_memory Anywhere explicit_version
unfolding explicit_version
explicit_version_laws =
    hard_marked is_x509_memory Anywhere (lifted any_loose) (λ e. is_implicit 0 e.header) wrapped_version
    (renamed_field is_ber_memory is_x509_memory (refusal_by as_x509) any_loose as_x509_renames (element_field is_ber_memory any_loose any_loose_laws))
    (element_marked_field is_x509_memory Anywhere wrapped_version wrapped_version_laws)
