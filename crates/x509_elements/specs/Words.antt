-- The names of lenient rules in reports.
use Rattle.std.specs.Prelude.{ℕ, List, codes}
use Rattle.x509_elements.specs.declared.leniency.Leniency.{Leniency}
use Rattle.x509_elements.specs.declared.leniency.Leniency.TheVariants.{BytesBehind, WrapperByNumber, AnySerial, BasicTruth, UnreadableField, AttributeByNumbers, ChoiceByNumber, UnreadableName, TimestampsBehind, Inside}

abbrev pub leniency_word : Leniency → List ℕ
leniency_word BytesBehind = codes "bytes_behind"
leniency_word WrapperByNumber = codes "wrapper_by_number"
leniency_word AnySerial = codes "any_serial"
leniency_word BasicTruth = codes "basic_truth"
leniency_word UnreadableField = codes "unreadable_field"
leniency_word AttributeByNumbers = codes "attribute_by_numbers"
leniency_word ChoiceByNumber = codes "choice_by_number"
leniency_word UnreadableName = codes "unreadable_name"
leniency_word TimestampsBehind = codes "timestamps_behind"
leniency_word Inside = codes "inside"
