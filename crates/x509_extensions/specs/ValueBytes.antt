-- What is read of bytes is bytes.
use Rattle.std.proofs.Common.{◌≡◌, List, ℕ, subst}
use Rattle.x509_der.specs.declared.error.Err.{Err as Refusal}
use Rattle.x509_der.specs.Laws.{IsBytes, IsField, IsContents}
use Rattle.x509_der.specs.Plan.{and_then, got, give, ◌>>=◌, container, renamed}
use Rattle.x509_der.proofs.Agreement.{bytes_inside}
use Rattle.x509_der.proofs.Results.{bytes_behind, got_parts, then_ok, was_ok}
use Rattle.x509_fields.specs.declared.error.X509Error.{X509Error}
use Rattle.x509_fields.specs.Errors.{is_x509_memory}
use Rattle.x509_fields.specs.Fields.{Field}

-- a part of each value that is read
pub record GivesBytes {A : Type 0} (part : A → List ℕ) (p : Field A) : Type 0 where
  pub bytes : (place : List ℕ) (a : A) (next : List ℕ) → IsBytes place → p.read place ≡ got a next → IsBytes (part a)

pub give_gives : {A : Type 0} (part : A → List ℕ) (a : A) → IsBytes (part a) → GivesBytes part (give a)
give_gives part a h = record { bytes = λ place b next k e. subst (λ c. IsBytes (part c)) (got_parts (Refusal X509Error) a b place next e).0 h }

pub then_gives : {A B : Type 0} (part : B → List ℕ) (p : Field A) (f : A → Field B) → IsField is_x509_memory p → ((a : A) → GivesBytes part (f a)) → GivesBytes part (p >>= f)
then_gives part p f laws h = record {
  bytes = λ place b next k e.
      let t = then_ok (p.read place) (λ a. (f a).read) b next e in
      let w = laws.within.front place t.0 t.1 k t.2 in
      (h t.0).bytes t.1 b next (bytes_behind place w.0 t.1 w.1 k) t.3;
}

-- contents, whose octets are bytes
pub contents_give : {B : Type 0} (part : B → List ℕ) (p : Field (List ℕ)) (f : List ℕ → Field B) → IsContents is_x509_memory p → IsField is_x509_memory p → ((c : List ℕ) → IsBytes c → GivesBytes part (f c)) → GivesBytes part (p >>= f)
contents_give part p f contents laws h = record {
  bytes = λ place b next k e.
      let t = then_ok (p.read place) (λ a. (f a).read) b next e in
      let w = laws.within.front place t.0 t.1 k t.2 in
      (h t.0 (bytes_inside p contents.encloses place t.0 t.1 k t.2)).bytes t.1 b next (bytes_behind place w.0 t.1 w.1 k) t.3;
}

pub container_gives : {A : Type 0} (part : A → List ℕ) (outer : Field (List ℕ)) (fields : Field A) → IsContents is_x509_memory outer → GivesBytes part fields → GivesBytes part (container outer fields)
container_gives part outer fields contents h = record {
  bytes = λ place a next k e.
      let t = then_ok (outer.read place) (λ contents next. and_then (fields.read contents) (λ a tail. got a next)) a next e in
      let u = then_ok (fields.read t.0) (λ a tail. got a t.1) a next t.3 in
      subst (λ c. IsBytes (part c)) (got_parts (Refusal X509Error) u.0 a t.1 next u.3).0 (h.bytes t.0 u.0 u.1 (bytes_inside outer contents.encloses place t.0 t.1 k t.2) u.2);
}

pub renamed_gives : {A : Type 0} (part : A → List ℕ) (rename : Refusal X509Error → Refusal X509Error) (p : Field A) → GivesBytes part p → GivesBytes part (renamed rename p)
renamed_gives part rename p h = record { bytes = λ place a next k e. h.bytes place a next k (was_ok rename (p.read place) a next e) }
