-- What is read of the key bits is the key that they hold.
use Rattle.std.proofs.Common.{◌≡◌, ℕ, List, Result, Ok, Err, sym, ap, ◌∙◌}
use Rattle.x509_der.specs.Laws.{IsBytes, IsField, IsElement}
use Rattle.x509_der.specs.Plan.{Outcome, got}
use Rattle.x509_der.specs.Reading.{Gives}
use Rattle.x509_der.proofs.Rulesets.{laws}
use Rattle.x509_fields.specs.declared.error.X509Error.{X509Error}
use Rattle.x509_fields.specs.declared.error.X509Error.TheVariants as x509
use Rattle.x509_fields.specs.Errors.{is_x509_memory}
use Rattle.x509_keys.specs.declared.key_kind.KeyKind.{KeyKind}
use Rattle.x509_keys.specs.declared.key_kind.KeyKind.TheVariants as kinds
use Rattle.x509_keys.specs.declared.public_key.PublicKey.{PublicKey}
use Rattle.x509_keys.specs.KeyKinds.{kind_of}
use Rattle.x509_keys.specs.PublicKey.{Key, public_key_of, key_of_kind, key_by, key_or_invalid, parsed_key, ParsesKey}
use Rattle.x509_keys.specs.RsaPublicKey.{rsa_public_key, rsa_public_key_laws}

rsa_laws : IsElement is_x509_memory rsa_public_key
rsa_laws = rsa_public_key_laws.laws

key_laws : (kind : KeyKind) → IsField is_x509_memory (key_of_kind kind)
unfolding key_of_kind
key_laws kinds.RSA = search (laws, rsa_laws) depth 20
key_laws kinds.EC = search laws depth 20
key_laws kinds.DSA = search laws depth 20
key_laws kinds.GostR3410 = search laws depth 20
key_laws kinds.GostR3410_2012 = search laws depth 20
key_laws kinds.Unknown = search laws depth 20

was_key : {F : Type 0} (o : Outcome F Key) (key : Key) → key_or_invalid o ≡ Ok key → (rest : List ℕ) × (o ≡ got key rest)
was_key {F} (Ok x) key e = (x.0, ap (λ (k : Key). got {F = F} k x.0) (value x.1 key e))
  where
    value : (a b : Key) → ◌≡◌ {A = Result Key X509Error} (Ok a) (Ok b) → a ≡ b
    value a b e = cc
was_key (Err r) key e = absurd cc

was_refused : {F : Type 0} (o : Outcome F Key) (e : X509Error) → key_or_invalid o ≡ Err e → e ≡ x509.InvalidSPKI
was_refused (Ok x) e is = absurd cc
was_refused (Err r) e is = cc

pub parses : (algorithm bits : List ℕ) (result : Result PublicKey X509Error) → IsBytes bits → Gives public_key_of result (parsed_key algorithm bits) → ParsesKey algorithm bits result
parses algorithm bits (Ok key) k e =
    let agrees = (key_laws (kind_of algorithm)).agrees in
    let was = was_key ((key_by algorithm).read bits) (public_key_of key) e in
    record {
      holds = (was.0, agrees.sound bits (public_key_of key) was.0 k was.1);
      every = λ other h. sym (ap key_or_invalid (agrees.complete bits other h.0 k h.1)) ∙ e;
      refused = tt;
    }
parses algorithm bits (Err why) k e =
    let agrees = (key_laws (kind_of algorithm)).agrees in
    record {
      holds = tt;
      every = λ other h. sym (ap key_or_invalid (agrees.complete bits other h.0 k h.1)) ∙ e;
      refused = was_refused ((key_by algorithm).read bits) why e;
    }
