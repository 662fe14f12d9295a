-- Certificates at two depths: the same bytes are read and the same refused, and the values differ in what extensions say.
use Rattle.std.proofs.Common.{◌≡◌, ℕ, ◌-◌, Bool, List, map, length, take, Ok, Err, refl, ap, ◌∙◌}
use Rattle.x509_der.specs.Laws.{IsBytes, IsLawful}
use Rattle.x509_der.specs.Leaves.{sequence}
use Rattle.x509_der.specs.Plan.{Plan, Outcome, got, and_then, added}
use Rattle.x509_fields.specs.Algorithm.{algorithm}
use Rattle.x509_fields.specs.Fields.{lifted}
use Rattle.x509_extensions.specs.Extension.{at_depth}
use Rattle.x509_extensions.specs.ExtensionList.{wrapped_extensions}
use Rattle.x509_extensions.specs.Depth.{changed}
use Rattle.x509_extensions.proofs.Depth.{then_follows, wrapped_extensions_depths}
use Rattle.x509_certs.specs.TbsCertificate.{tbs_at_depth, tbs}
use Rattle.x509_fields.specs.Signed.{signature_value, signed}
use Rattle.x509_certs.specs.Certificate.{certificate_at_depth, certificate}
use Rattle.x509_certs.specs.BasicFields.{basic_fields}
use Rattle.x509_certs.specs.UniqueIdentifier.{issuer_uid, subject_uid}

-- what a function makes of a value that doesn't know its bytes yet
abbrev behind_bytes : {A B : Type 0} → (A → B) → (List ℕ → A) → List ℕ → B
behind_bytes f make raw = f (make raw)

-- a container, and a value that knows its bytes, around what is read at either depth
inside_follows : {F A B : Type 0} (f : A → B) (outer : Outcome F (List ℕ)) (p : List ℕ → Outcome F A) (q : List ℕ → Outcome F B) → ((place : List ℕ) → q place ≡ changed f (p place))
    → and_then outer (λ contents next. and_then (q contents) (λ b tail. got b next)) ≡ changed f (and_then outer (λ contents next. and_then (p contents) (λ a tail. got a next)))
inside_follows {F} {A} {B} f outer p q h = then_follows f outer _ _ (λ contents next. ap (λ r. and_then r (λ b tail. got b next)) (h contents) ∙ go next (p contents))
  where
    go : (next : List ℕ) (r : Outcome F A) → and_then (changed f r) (λ b tail. got b next) ≡ changed f (and_then r (λ a tail. got a next))
    go next (Ok x) = refl
    go next (Err r) = refl

bytes_follow : {F A B : Type 0} (f : A → B) (place : List ℕ) (r : Outcome F (List ℕ → A)) (s : Outcome F (List ℕ → B)) → s ≡ changed (behind_bytes f) r
    → and_then s (λ make next. got (make (take (length place - length next) place)) next) ≡ changed f (and_then r (λ make next. got (make (take (length place - length next) place)) next))
bytes_follow {F} {A} {B} f place r s e = ap (λ o. and_then o (λ make next. got (make (take (length place - length next) place)) next)) e ∙ go r
  where
    go : (r : Outcome F (List ℕ → A)) → and_then (changed (behind_bytes f) r) (λ make next. got (make (take (length place - length next) place)) next) ≡ changed f (and_then r (λ make next. got (make (take (length place - length next) place)) next))
    go (Ok x) = refl
    go (Err r) = refl

-- a field that follows, and the fields behind it
field_follows : {F X Y A B : Type 0} (g : X → Y) (f : A → B) (r : Outcome F X) (s : Outcome F Y) (p : X → List ℕ → Outcome F A) (q : Y → List ℕ → Outcome F B) → s ≡ changed g r → ((x : X) (next : List ℕ) → q (g x) next ≡ changed f (p x next)) → and_then s q ≡ changed f (and_then r p)
field_follows {F} {X} {Y} {A} {B} g f r s p q e h = ap (λ o. and_then o q) e ∙ go r
  where
    go : (r : Outcome F X) → and_then (changed g r) q ≡ changed f (and_then r p)
    go (Ok x) = h x.1 x.0
    go (Err w) = refl

pub tbs_depths : (d e : Bool) (place : List ℕ) → (tbs e).read place ≡ changed (tbs_at_depth e) ((tbs d).read place)
unfolding tbs
tbs_depths d e place =
    bytes_follow (tbs_at_depth e) place _ _ (inside_follows (behind_bytes (tbs_at_depth e)) ((lifted sequence).read place) _ _
    (λ contents. then_follows _ (basic_fields.read contents) _ _
    (λ basic more. then_follows _ (issuer_uid.read more) _ _
    (λ issuer more. then_follows _ (subject_uid.read more) _ _
    (λ subject more. field_follows (map (at_depth e)) _ ((wrapped_extensions 3 d).read more) ((wrapped_extensions 3 e).read more) _ _ (wrapped_extensions_depths 3 d e more) (λ xs next. refl))))))

pub certificate_depths : (d e : Bool) (place : List ℕ) → (certificate e).read place ≡ changed (certificate_at_depth e) ((certificate d).read place)
unfolding certificate signed
certificate_depths d e place =
    bytes_follow (certificate_at_depth e) place _ _ (inside_follows (behind_bytes (certificate_at_depth e)) ((lifted sequence).read place) _ _
    (λ contents. field_follows (tbs_at_depth e) _ ((tbs d).read contents) ((tbs e).read contents) _ _ (tbs_depths d e contents)
    (λ t more. then_follows _ (algorithm.read more) _ _
    (λ a more. then_follows _ (signature_value.read more) _ _ (λ b more. refl)))))

-- what is refused at one depth is refused at every other
pub refused_at_depths : {F A : Type 0} (p : Bool → Plan F A) (at : Bool → A → A) → ((d e : Bool) (place : List ℕ) → (p e).read place ≡ changed (at e) ((p d).read place))
    → ((e : Bool) → IsLawful (p e)) → (d : Bool) (place : List ℕ) (why : F) → IsBytes place → (p d).read place ≡ Err why → (e : Bool) → (left : ℕ) × (p e).Refuses place why left
refused_at_depths p at depths laws d place why k h e = ((p e).stop added place 0, (laws e).agrees.refused place why k (depths d e place ∙ ap (changed (at e)) h))
