-- The promises of logs in an extension (RFC 6962, 3.3): its value is an OCTET STRING, which holds a list as TLS presents it.
--
--     struct { SerializedSCT sct_list <1..2^16-1>; } SignedCertificateTimestampList;
--
--     SignedCertificateTimestampList ::= OCTET STRING
use Rattle.std.specs.Prelude.{List, map}
use Rattle.x509_der.specs.declared.error.BerError.TheVariants as ber
use Rattle.x509_der.specs.Laws.{AtEnd, IsMarkedField, IsMarkedElement}
use Rattle.x509_der.specs.Leaves.{BerPlan, octets}
use Rattle.x509_der.specs.Plan.{run1, container}
use Rattle.x509_der.specs.Promises.{is_ber_memory, empty_run}
use Rattle.x509_der.proofs.Marking.{container_marked, octets_marked}
use Rattle.x509_values.specs.Octets.{sized}
use Rattle.x509_values.specs.OctetLaws.{sentence_marked_field, run1_of_sentences, sized_container}
use Rattle.x509_values.specs.Timestamp.{TimestampValue, timestamp_of, timestamp, timestamp_laws}
use Rattle.x509_values.specs.declared.timestamp_list.TimestampList.{TimestampList}

-- ---- the value

abbrev pub timestamps_of : TimestampList → List TimestampValue
timestamps_of l = map timestamp_of l.timestamps

-- ---- the grammar

-- sct_list: the longest run of entries, at least one; bytes behind it are dropped
unfoldable pub sct_list : BerPlan (List TimestampValue)
sct_list = container sized (run1 (empty_run ber.NomError) timestamp)

-- the OCTET STRING; bytes behind the list are dropped
unfoldable pub timestamps : BerPlan (List TimestampValue)
timestamps = container octets sct_list

-- ---- laws

pub sct_list_laws : IsMarkedField is_ber_memory AtEnd sct_list
unfolding sct_list
sct_list_laws = sentence_marked_field is_ber_memory AtEnd _ (sized_container _ (run1_of_sentences is_ber_memory AtEnd _ timestamp timestamp_laws))

pub timestamps_laws : IsMarkedElement is_ber_memory timestamps
unfolding timestamps
timestamps_laws = container_marked is_ber_memory octets sct_list octets_marked sct_list_laws
