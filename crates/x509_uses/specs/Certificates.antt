-- What programs ask of a certificate.
use Rattle.std.specs.Prelude.{ℕ, Bool, false, List, [], Option, Some, None, Result, Ok, Err, option_map, nat_le, ℤ, pos, ◌-ℤ◌, int_div}
use Rattle.std.specs.Borrow.{Bor}
use Rattle.std.specs.List.{filter_map}
use Rattle.x509_times.specs.Moments.{unix_seconds}
use Rattle.x509_fields.specs.Times.{time_of}
use Rattle.x509_fields.specs.TimeArithmetic.{since}
use Rattle.x509_fields.specs.declared.error.X509Error.{X509Error}
use Rattle.x509_keys.specs.PublicKey.{Key, RSA, EC, public_key_size}
use Rattle.x509_names.specs.Objects.{subject_alt_name}
use Rattle.x509_general_names.specs.declared.general_name.GeneralName.{GeneralName}
use Rattle.x509_general_names.specs.declared.general_name.GeneralName.TheVariants as names
use Rattle.x509_general_names.specs.declared.alternative_names.SubjectAlternativeName.{SubjectAlternativeName}
use Rattle.x509_extensions.specs.Lookups.{subject_names_in, typed, unique_of}
use Rattle.x509_certs.specs.declared.certificate.X509Certificate.{X509Certificate}
use Rattle.x509_certs.specs.declared.validity.Validity.{Validity}

-- the seconds from a time to the end of the validity (RFC 5280, 4.1.2.5)
abbrev pub seconds_left : Validity → ℤ → ℤ
seconds_left v now = unix_seconds (time_of v.not_after).moment -ℤ now

-- whole days of 86,400 seconds in so many nanoseconds, rounded toward zero
abbrev pub whole_days : ℤ → ℤ
whole_days nanoseconds = int_div (int_div nanoseconds (pos 1_000_000_000)) (pos 86_400)

-- those between both ends; none where the last one doesn't come later
abbrev pub days_between : Validity → Option ℤ
days_between v = option_map whole_days (since v.not_after v.not_before)

-- an RSA key of at least 2,048 bits, or a point of at least 256
abbrev pub is_strong : Result Key X509Error → Bool
is_strong (Ok (RSA key)) = nat_le 2048 (public_key_size (RSA key))
is_strong (Ok (EC point)) = nat_le 256 (public_key_size (EC point))
is_strong _ = false

-- the host that a general name is
abbrev pub host_of : GeneralName → Option (Bor (List ℕ))
host_of (names.DNSName host) = Some host
host_of _ = None

-- the hosts among alternative names, in order; none where there are no names
abbrev pub hosts_among : Option (Bool × SubjectAlternativeName) → List (Bor (List ℕ))
hosts_among None = []
hosts_among (Some names) = filter_map host_of names.1.general_names

abbrev pub hosts_in : Result (Option (Bool × SubjectAlternativeName)) X509Error → Result (List (Bor (List ℕ))) X509Error
hosts_in (Ok names) = Ok (hosts_among names)
hosts_in (Err e) = Err e

-- those of a certificate, whose alternative names stand once at most and can be read (RFC 5280, 4.2.1.6)
abbrev pub hosts_of : X509Certificate → Result (List (Bor (List ℕ))) X509Error
hosts_of c = hosts_in (typed subject_names_in (unique_of subject_alt_name c.tbs_certificate.extensions))
