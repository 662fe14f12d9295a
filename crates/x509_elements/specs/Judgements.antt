-- How a part stands at the front of some octets: as the marks of its grammar say.
use Rattle.std.specs.Prelude.{ℕ, ◌==◌, ◌&&◌, not, List, codes, Bool, true, false, Option, Some, None, Ok, Err, if◌then◌else◌}
use Rattle.std.specs.Str.{bytes_eq}
use Rattle.x509_der.specs.declared.error.Err.{Err as Refusal}
use Rattle.x509_der.specs.Plan.{Plan, Outcome}
use Rattle.x509_der.specs.Leaves.{any, bool_loose}
use Rattle.x509_fields.specs.declared.error.X509Error.{X509Error}
use Rattle.x509_fields.specs.Algorithm.{algorithm}
use Rattle.x509_fields.specs.Serial.{serial}
use Rattle.x509_names.specs.Names.{name, relative_name, attribute as name_attribute}
use Rattle.x509_keys.specs.KeyInfo.{key_info}
use Rattle.x509_extensions.specs.Extension.{Extension, extension}
use Rattle.x509_extensions.specs.ExtensionList.{extensions}
use Rattle.x509_extensions.specs.Parsed.{value_marks}
use Rattle.x509_certs.specs.Certificate.{certificate}
use Rattle.x509_certs.specs.TbsCertificate.{tbs}
use Rattle.x509_certs.specs.Validity.{validity}
use Rattle.x509_lists.specs.CertificateList.{certificate_list}
use Rattle.x509_lists.specs.TbsCertList.{tbs_list}
use Rattle.x509_lists.specs.RevokedList.{revoked_list}
use Rattle.x509_lists.specs.RevokedCertificate.{revoked}
use Rattle.x509_requests.specs.Request.{certification_request}
use Rattle.x509_requests.specs.RequestInfo.{request_info}
use Rattle.x509_requests.specs.CriAttribute.{attribute as request_attribute}
use Rattle.x509_general_names.specs.DistributionPointName.{distribution_point_name}
use Rattle.x509_general_names.specs.DistributionPoints.{crl_distribution_point}
use Rattle.x509_general_names.specs.GeneralName.{general_name}
use Rattle.x509_general_names.specs.InformationAccess.{access_description}
use Rattle.x509_general_names.specs.NameConstraints.{general_subtree}
use Rattle.x509_values.specs.Policies.{policy, policy_qualifier}
use Rattle.x509_values.specs.PolicyMapping.{policy_mapping}
use Rattle.x509_elements.specs.Cursors.{Called}
use Rattle.x509_elements.specs.declared.part.Part.{Part}
use Rattle.x509_elements.specs.declared.part.Part.TheVariants as parts
use Rattle.x509_elements.specs.declared.judged.Judged.{Judged}
use Rattle.x509_elements.specs.declared.judged.Judged.TheVariants.{Absent, Plain, Lenient, Unjudged}

abbrev pub is_absent : Judged → Bool
is_absent Absent = true
is_absent _ = false

-- what is taken stands plainly, or by a lenient rule at least
abbrev pub marked : Bool → Judged
marked true = Plain
marked false = Lenient

abbrev pub judged_with : {F A : Type 0} → Outcome F A → Bool → Judged
judged_with (Ok x) plain = marked plain
judged_with (Err r) plain = Absent

-- an element that is looked into without a grammar of its own
abbrev pub opened : Judged → Judged
opened Plain = Unjudged
opened j = j

-- by the grammar of a structure, which takes the octets or refuses them, and by its mark
abbrev pub judged_by : {F A : Type 0} → Plan F A → List ℕ → Judged
judged_by p place = judged_with (p.read place) (p.marks place)

-- the value of an extension that was read (RFC 5280, 4.2)
abbrev pub value_judged : Outcome (Refusal X509Error) Extension → Judged
value_judged (Ok x) = marked (value_marks x.1.oid x.1.value)
value_judged (Err r) = Absent

-- a part that is looked at from outside alone: its members, where it has any, aren't read
abbrev pub is_leaf : Part → Bool
is_leaf parts.Serial = true
is_leaf parts.Critical = true
is_leaf parts.ExtensionId = true
is_leaf parts.AttributeType = true
is_leaf parts.Values = true
is_leaf parts.QualifierId = true
is_leaf parts.UserNotice = true
is_leaf parts.NoticeReference = true
is_leaf parts.NoticeNumbers = true
is_leaf parts.RsaKeyBits = true
is_leaf parts.RsaKey = true
is_leaf parts.GeneralName = true
is_leaf parts.OtherName = true
is_leaf parts.EdiPartyName = true
is_leaf parts.Told = true
is_leaf parts.Whole = true
is_leaf _ = false

-- A part at the front of a place; of an extension's value, that of the extension at the front of the octets around it. What has no grammar
-- of its own here stands where an element does, and isn't judged unless it is looked at from outside alone; nor are wrappers. What is no
-- field, or none that is read, stands as nothing.
abbrev pub part_judged : Part → List ℕ → List ℕ → Judged
part_judged parts.Certificate around place = judged_by (certificate true) place
part_judged parts.TbsCertificate around place = judged_by (tbs true) place
part_judged parts.Serial around place = judged_by serial place
part_judged parts.Algorithm around place = judged_by algorithm place
part_judged parts.KeyAlgorithm around place = judged_by algorithm place
part_judged parts.Name around place = judged_by name place
part_judged parts.RelativeName around place = judged_by relative_name place
part_judged parts.NameAttribute around place = judged_by name_attribute place
part_judged parts.Validity around place = judged_by validity place
part_judged parts.KeyInfo around place = judged_by key_info place
part_judged parts.Extensions around place = judged_by (extensions true) place
part_judged parts.Extension around place = judged_by (extension true) place
part_judged parts.Critical around place = judged_by bool_loose place
part_judged (parts.Value value) around place = value_judged ((extension false).read around)
part_judged parts.Policy around place = judged_by policy place
part_judged parts.Qualifier around place = judged_by policy_qualifier place
part_judged parts.PolicyMapping around place = judged_by policy_mapping place
part_judged parts.Subtree around place = judged_by general_subtree place
part_judged parts.DistributionPoint around place = judged_by crl_distribution_point place
part_judged parts.DistributionPointName around place = judged_by distribution_point_name place
part_judged parts.Access around place = judged_by access_description place
part_judged parts.List around place = judged_by certificate_list place
part_judged parts.TbsList around place = judged_by tbs_list place
part_judged parts.Revoked around place = judged_by revoked_list place
part_judged parts.Entry around place = judged_by revoked place
part_judged parts.Request around place = judged_by certification_request place
part_judged parts.RequestInfo around place = judged_by request_info place
part_judged parts.Attribute around place = judged_by request_attribute place
part_judged parts.TaggedExtensions around place = Unjudged
part_judged parts.Attributes around place = Unjudged
part_judged parts.FullName around place = Unjudged
part_judged parts.RelativeToIssuer around place = Unjudged
part_judged parts.Values around place = opened (judged_by any place)
part_judged parts.Unknown around place = Absent
part_judged parts.Unread around place = Absent
part_judged part around place = if is_leaf part then judged_by any place else opened (judged_by any place)

-- the element in which a member stands: which part that is, and the octets from its header on
pub record Around : Type 0 where
  pub part : Part
  pub octets : List ℕ

-- a member that is a GeneralName (RFC 5280, 4.2.1.6), whatever its number: one of GeneralNames, a subtree's base (4.2.1.10), and where an
-- access leads (4.2.2.1)
abbrev pub is_name : Part → List ℕ → Bool
is_name parts.GeneralNames _ = true
is_name parts.FullName _ = true
is_name parts.Subtree field = bytes_eq field (codes "base")
is_name parts.Access field = bytes_eq field (codes "accessLocation")
is_name _ _ = false

-- of the values of these attributes their readers take the first: another is none of theirs
abbrev pub holds_one : Part → Bool
holds_one parts.Passwords = true
holds_one parts.RequestedExtensions = true
holds_one _ = false

abbrev pub is_first : Option ℕ → Bool
is_first (Some number) = number == 0
is_first None = true

abbrev pub is_another : Part → Option ℕ → Bool
is_another part number = holds_one part && not (is_first number)

abbrev pub judged : Called → Around → List ℕ → Judged
judged c around place =
    if is_another around.part c.number then Absent else
    if is_name around.part c.name then judged_by general_name place else part_judged c.part around.octets place
