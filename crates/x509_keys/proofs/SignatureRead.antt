-- A signature with parameters is what the fields of its parameters make.
use Rattle.std.proofs.Common.{◌≡◌, true, Option, Some, Ok, Err, refl, subst}
use Rattle.x509_der.specs.Promises.{option_view}
use Rattle.x509_der.specs.Reading.{Element, element_of}
use Rattle.x509_der.specs.declared.any.Any.{Any}
use Rattle.x509_fields.specs.declared.error.X509Error.{X509Error}
use Rattle.x509_fields.specs.declared.error.X509Error.TheVariants as x509
use Rattle.x509_fields.specs.Fields.{Field}
use Rattle.x509_keys.specs.declared.signature_algorithm.SignatureAlgorithm.{SignatureAlgorithm}
use Rattle.x509_keys.specs.Parameters.{ReadsParameters}
use Rattle.x509_keys.specs.SignatureAlgorithm.{Signature, signature_of, ReadsSignature, takes_box}

-- the element of parameters that are given
pub element_given : (parameters : Option Any) (given : Any) (e : Element) → parameters ≡ Some given → option_view element_of parameters ≡ Some e → element_of given ≡ e
element_given parameters given e is here =
    let there : Some (element_of given) ≡ Some e = subst (λ (p : Option Any). option_view element_of p ≡ Some e) is here in
    cc

pub read_signature : {A X : Type 0} (make : A → Signature) (view : X → A) (fields : Field A) (given e : Element) (x : X) (s : SignatureAlgorithm) → given ≡ e
    → ReadsParameters view fields given (Ok x) → signature_of s ≡ make (view x) → ReadsSignature make fields e (Ok s)
read_signature make view fields given e x s same reads is =
    subst (λ e. ReadsSignature make fields e (Ok s)) same (record {
      holds = (view x, reads.holds, is);
      every = λ a stands. let told = reads.every a stands in cc;
      refused = tt;
      refuses = λ r stands. let told = reads.refuses r stands in absurd cc;
    })

pub refused_signature : {A X : Type 0} (make : A → Signature) (view : X → A) (fields : Field A) (given e : Element) (why : X509Error) → given ≡ e
    → ReadsParameters view fields given (Err why) → ReadsSignature make fields e (Err x509.InvalidSignatureValue)
refused_signature make view fields given e why same reads =
    subst (λ e. ReadsSignature make fields e (Err x509.InvalidSignatureValue)) same (record {
      holds = tt;
      every = λ a stands. let told = reads.every a stands in absurd cc;
      refused = λ other. (why, reads.refused);
      refuses = λ r stands. refl;
    })

pub no_room_for_signature : {A X : Type 0} (make : A → Signature) (view : X → A) (fields : Field A) (given e : Element) (x : X) → given ≡ e → ((a : A) → takes_box (Ok (make a)) ≡ true)
    → ReadsParameters view fields given (Ok x) → ReadsSignature make fields e (Err x509.OutOfMemory)
no_room_for_signature make view fields given e x same takes reads =
    subst (λ e. ReadsSignature make fields e (Err x509.OutOfMemory)) same (record {
      holds = tt;
      every = λ a stands. takes a;
      refused = λ other. absurd cc;
      refuses = λ r stands. let told = reads.refuses r stands in absurd cc;
    })
