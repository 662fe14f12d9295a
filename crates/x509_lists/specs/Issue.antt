-- Who issued a list, when, and when the next one comes (RFC 5280, 5.1.2.2 to 5.1.2.5).
use Rattle.std.specs.Prelude.{ℕ, ◌+◌, ◌≡◌, true, Option}
use Rattle.x509_der.specs.Laws.{IsMarkedField, Anywhere, Away, differs}
use Rattle.x509_der.specs.Plan.{◌>>=◌, give, Tagged, universal}
use Rattle.x509_der.specs.Promises.{option_view, option_heads}
use Rattle.x509_der.proofs.Marking.{marked, apart}
use Rattle.x509_der.proofs.Results.{then_ok}
use Rattle.x509_fields.specs.Errors.{is_x509_memory}
use Rattle.x509_fields.specs.Algorithm.{Algorithm, algorithm, algorithm_of, algorithm_heads, algorithm_laws}
use Rattle.x509_fields.specs.Fields.{Field}
use Rattle.x509_names.specs.Names.{Name, name, name_of, name_heads, name_laws}
use Rattle.x509_fields.specs.Times.{Time, time, time_of, time_laws}
use Rattle.x509_lists.specs.NextUpdate.{next_update, next_update_laws}
use Rattle.x509_lists.specs.declared.issue.Issue.{Issue as Read}

pub record Issue : Type 0 where
  pub signature : Algorithm
  pub issuer : Name
  pub this_update : Time
  pub next_update : Option Time

abbrev pub issue_of : Read → Issue
issue_of i = record {
  signature = algorithm_of i.signature;
  issuer = name_of i.issuer;
  this_update = time_of i.this_update;
  next_update = option_view time_of i.next_update;
}

-- signature AlgorithmIdentifier, issuer Name, thisUpdate Time, nextUpdate Time OPTIONAL (5.1)
unfoldable pub issue : Field Issue
issue = do
  signature ← algorithm
  issuer ← name
  this ← time
  next ← next_update
  give (record { signature = signature; issuer = issuer; this_update = this; next_update = next })

abbrev pub issue_heads : Issue → ℕ
issue_heads i = algorithm_heads i.signature + name_heads i.issuer + 1 + option_heads (λ _. 1) i.next_update

pub issue_laws : IsMarkedField is_x509_memory Anywhere issue
unfolding issue
issue_laws = search (marked, algorithm_laws, name_laws, time_laws, next_update_laws) depth 60

-- it begins with a SEQUENCE
algorithm_away : (mine : Tagged) → differs mine (universal 16) ≡ true → Away mine algorithm
unfolding algorithm
algorithm_away mine distinct = search (marked, apart)

pub issue_away : (mine : Tagged) → differs mine (universal 16) ≡ true → Away mine issue
unfolding issue
issue_away mine distinct = record {
  away = λ place i next k e.
      let t = then_ok (algorithm.read place) _ i next e in
      (algorithm_away mine distinct).away place t.0 t.1 k t.2;
}
