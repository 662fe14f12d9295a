-- What is wrong with the signed part of a certificate (RFC 5280, 4.1.2).
use Rattle.std.specs.Prelude.{Bool, ◌&&◌, List, [], ◌∷◌, ◌++◌, codes}
use Rattle.std.specs.List.{flat_map, list_all}
use Rattle.x509_keys.specs.PublicKey.{key_in}
use Rattle.x509_certs.specs.TbsCertificate.{Tbs}
use Rattle.x509_extensions.specs.Extension.{Extension}
use Rattle.x509_validators.specs.Message.{Message}
use Rattle.x509_validators.specs.AlternativeNames.{names_in}
use Rattle.x509_validators.specs.Names.{name_warnings}
use Rattle.x509_validators.specs.PublicKey.{key_messages, is_key}
use Rattle.x509_validators.specs.Readings.{reading_messages, is_readable}
use Rattle.x509_validators.specs.Rules.{Row, told}
use Rattle.x509_validators.specs.Serial.{serial_rules, is_there}
use Rattle.x509_validators.specs.Times.{generalized_rule, utc_rule}
use Rattle.x509_validators.specs.Versions.{version_rule, is_version, uid_rule, presence_rule, may_have}

-- version and serial
abbrev pub number_rules : Tbs → List Row
number_rules t = version_rule t.version ∷ serial_rules t.raw_serial

-- validity, unique identifiers, and whether extensions may be there
abbrev pub period_rules : Tbs → List Row
period_rules t =
    utc_rule (codes "notBefore") t.validity.not_before ∷ generalized_rule (codes "notBefore") t.validity.not_before
    ∷ utc_rule (codes "notAfter") t.validity.not_after ∷ generalized_rule (codes "notAfter") t.validity.not_after
    ∷ uid_rule (codes "issuerUniqueID") t.version t.issuer_uid ∷ uid_rule (codes "subjectUniqueID") t.version t.subject_uid
    ∷ presence_rule t.version t.extensions ∷ []

-- subject, issuer and key
unfoldable pub party_messages : Tbs → List Message
party_messages t = name_warnings t.subject ++ name_warnings t.issuer ++ key_messages (key_in t.subject_pki)

-- the fields, and what may be there by the version
unfoldable pub field_messages : Tbs → List Message
field_messages t = told (number_rules t) ++ party_messages t ++ told (period_rules t)

-- how each extension was read, and then the other names of the subject
unfoldable pub extension_part_messages : List Extension → List Message
extension_part_messages extensions = flat_map reading_messages extensions ++ flat_map names_in extensions

unfoldable pub signed_part_messages : Tbs → List Message
signed_part_messages t = field_messages t ++ extension_part_messages t.extensions

-- ---- whether it is sound

abbrev pub are_numbers_sound : Tbs → Bool
are_numbers_sound t = is_version t.version && is_there t.raw_serial && may_have t.version t.extensions

abbrev pub is_key_sound : Tbs → Bool
is_key_sound t = is_key (key_in t.subject_pki)

abbrev pub are_fields_sound : Tbs → Bool
are_fields_sound t = are_numbers_sound t && is_key_sound t

abbrev pub are_readable : List Extension → Bool
are_readable extensions = list_all is_readable extensions

unfoldable pub is_signed_part_sound : Tbs → Bool
is_signed_part_sound t = are_fields_sound t && are_readable t.extensions
