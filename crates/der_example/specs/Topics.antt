-- Identifiers, and lists of them.
use Rattle.std.specs.Prelude.{◌≡◌, true, ℕ, ◌+◌, List, map, sum_by}
use Rattle.x509_der.specs.declared.error.BerError.TheVariants as ber
use Rattle.x509_der.specs.Laws.{IsMarkedElement, differs, Away}
use Rattle.x509_der.specs.Leaves.{BerPlan, oid, sequence, set}
use Rattle.x509_der.specs.Oid.{oid_bytes}
use Rattle.x509_der.specs.Plan.{Tagged, universal, run, run1, to_end, container}
use Rattle.x509_der.specs.Promises.{is_ber_memory, ended_early, empty_run}
use Rattle.x509_der.proofs.Marking.{marked}
use Rattle.der_example.specs.declared.topic.Topic.{Topic}
use Rattle.der_example.specs.declared.topic.Topics.{Topics}
use Rattle.der_example.specs.declared.topic.Editions.{Editions}

-- ---- the values

abbrev pub topic_of : Topic → List ℕ
topic_of t = oid_bytes t.id

abbrev pub topics_of : Topics → List (List ℕ)
topics_of t = map topic_of t.list

abbrev pub editions_of : Editions → List (List ℕ)
editions_of e = map topic_of e.list

-- ---- the grammar

unfoldable pub topic : BerPlan (List ℕ)
topic = oid

-- SEQUENCE OF OBJECT IDENTIFIER, to its end
unfoldable pub topics : BerPlan (List (List ℕ))
topics = container sequence (to_end (ended_early ber.NomError) (run topic))

-- SET OF OBJECT IDENTIFIER, at least one
unfoldable pub editions : BerPlan (List (List ℕ))
editions = container set (run1 (empty_run ber.NomError) topic)

-- ---- heads

abbrev pub list_heads : List (List ℕ) → ℕ
list_heads list = 1 + sum_by (λ _. 1) list

-- ---- laws

pub topic_laws : IsMarkedElement is_ber_memory topic
unfolding topic
topic_laws = search marked

pub topics_laws : IsMarkedElement is_ber_memory topics
unfolding topics
topics_laws = search (marked, topic_laws) depth 20

pub editions_laws : IsMarkedElement is_ber_memory editions
unfolding editions
editions_laws = search (marked, topic_laws) depth 20

-- behind a field that may be absent: no header of another tag is one of editions
pub editions_away : (mine : Tagged) → differs mine (universal 17) ≡ true → Away mine editions
unfolding editions
editions_away mine apart = search (marked, apart)
