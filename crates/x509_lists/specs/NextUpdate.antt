-- When the next list comes (RFC 5280, 5.1.2.5).
use Rattle.std.specs.Prelude.{◌==◌, ◌&&◌, ◌||◌, Bool, Option}
use Rattle.x509_der.specs.declared.header.Header.{Header}
use Rattle.x509_der.specs.Laws.{IsMarkedField, Anywhere}
use Rattle.x509_der.specs.Leaves.{any_header}
use Rattle.x509_der.specs.Plan.{hard}
use Rattle.x509_der.specs.Primitives.{is_universal}
use Rattle.x509_der.specs.Promises.{is_ber_memory}
use Rattle.x509_der.proofs.Lawful.{named_field}
use Rattle.x509_der.proofs.Words.{any_header_field}
use Rattle.x509_der.proofs.Marking.{hard_marked, element_marked_field}
use Rattle.x509_fields.specs.declared.error.X509Error.TheVariants as x509
use Rattle.x509_fields.specs.Errors.{is_x509_memory}
use Rattle.x509_fields.specs.Fields.{Field, named}
use Rattle.x509_fields.specs.Times.{Time, time, time_laws}

-- of the class of times and with the number of one (X.680, 8.4)
abbrev pub has_number_of_time : Header → Bool
has_number_of_time header = is_universal header.class && (header.tag.0 == 23 || header.tag.0 == 24)

-- nextUpdate Time OPTIONAL, absent where the header of another element stands. Every refusal is of one kind, of that header too.
unfoldable pub next_update : Field (Option Time)
next_update = hard (named x509.InvalidDate any_header) has_number_of_time time

pub next_update_laws : IsMarkedField is_x509_memory Anywhere next_update
unfolding next_update
next_update_laws =
    hard_marked is_x509_memory Anywhere (named x509.InvalidDate any_header) has_number_of_time time
    (named_field is_ber_memory is_x509_memory x509.InvalidDate any_header any_header_field)
    (element_marked_field is_x509_memory Anywhere time time_laws)
