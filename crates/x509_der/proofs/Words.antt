-- The laws of each word that the readers' contracts use.
use Rattle.std.proofs.Common.{ℕ}
use Rattle.x509_der.specs.Reading.{strict, loose}
use Rattle.x509_der.specs.Primitives.{is_primitive, is_constructed, is_explicit, is_implicit, truth_of, loose_truth_of, u32_of, unsigned_of, bits_of, text_of}
use Rattle.x509_der.specs.Laws.{IsField, IsElement, IsContents}
use Rattle.x509_der.specs.Leaves.{value, any_header, any, any_loose, sequence, set, explicit, implicit, bool, bool_loose, u32, unsigned, integer, bits, octets, oid, enumerated, utf8, ia5, implicit_bits, implicit_u32}
use Rattle.x509_der.specs.Promises.{is_ber_memory}
use Rattle.x509_der.proofs.Lawful.{header_field, element_laws, contents_laws, value_laws, relaxed_laws}

pub any_header_field : IsField is_ber_memory any_header
unfolding any_header
any_header_field = header_field strict

pub any_laws : IsElement is_ber_memory any
unfolding any
any_laws = element_laws strict

pub any_loose_laws : IsElement is_ber_memory any_loose
unfolding any_loose
any_loose_laws = element_laws loose

pub sequence_laws : IsContents is_ber_memory sequence
unfolding sequence
sequence_laws = contents_laws (is_constructed 16) strict

pub set_laws : IsContents is_ber_memory set
unfolding set
set_laws = contents_laws (is_constructed 17) strict

pub explicit_laws : (n : ℕ) → IsContents is_ber_memory (explicit n)
unfolding explicit
explicit_laws n = contents_laws (is_explicit n) strict

pub implicit_laws : (n : ℕ) → IsContents is_ber_memory (implicit n)
unfolding implicit
implicit_laws n = contents_laws (is_implicit n) strict

pub bool_laws : IsElement is_ber_memory bool
unfolding bool
bool_laws = value_laws (is_primitive 1) strict truth_of

pub bool_loose_laws : IsElement is_ber_memory bool_loose
unfolding bool_loose
bool_loose_laws = relaxed_laws is_ber_memory (value (is_primitive 1) loose loose_truth_of) bool (value_laws (is_primitive 1) loose loose_truth_of)

pub u32_laws : IsElement is_ber_memory u32
unfolding u32
u32_laws = value_laws (is_primitive 2) strict u32_of

pub unsigned_laws : IsElement is_ber_memory unsigned
unfolding unsigned
unsigned_laws = value_laws (is_primitive 2) strict unsigned_of

pub integer_laws : IsContents is_ber_memory integer
unfolding integer
integer_laws = contents_laws (is_primitive 2) strict

pub bits_laws : IsElement is_ber_memory bits
unfolding bits
bits_laws = value_laws (is_primitive 3) strict bits_of

pub octets_laws : IsContents is_ber_memory octets
unfolding octets
octets_laws = contents_laws (is_primitive 4) strict

pub oid_laws : IsContents is_ber_memory oid
unfolding oid
oid_laws = contents_laws (is_primitive 6) strict

pub enumerated_laws : IsElement is_ber_memory enumerated
unfolding enumerated
enumerated_laws = value_laws (is_primitive 10) strict u32_of

pub utf8_laws : IsElement is_ber_memory utf8
unfolding utf8
utf8_laws = value_laws (is_primitive 12) strict text_of

pub ia5_laws : IsElement is_ber_memory ia5
unfolding ia5
ia5_laws = value_laws (is_primitive 22) strict text_of

pub implicit_bits_laws : (n : ℕ) → IsElement is_ber_memory (implicit_bits n)
unfolding implicit_bits
implicit_bits_laws n = value_laws (is_implicit n) strict bits_of

pub implicit_u32_laws : (n : ℕ) → IsElement is_ber_memory (implicit_u32 n)
unfolding implicit_u32
implicit_u32_laws n = value_laws (is_implicit n) strict u32_of
