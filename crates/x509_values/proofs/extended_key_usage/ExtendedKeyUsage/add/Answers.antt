use Rattle.std.proofs.Common.{◌≡◌, false, ap, subst, sym, ◌∙◌}
use Rattle.x509_der.specs.Oid.{oid_bytes}
use Rattle.x509_values.specs.ExtendedKeyUsage.{usages_of, any_purpose, purpose, named_purposes, holds, octets_of}
use Rattle.x509_values.proofs.Purposes.{named, other}
use Rattle.x509_values.proofs.extended_key_usage.ExtendedKeyUsage.add.Goals as goal

pub returns-in-Some-Any-clause-said : goal.returns-in-Some-Any-clause-said
returns-in-Some-Any-clause-said c = λ ids e. named (usages_of c.args.self.now) ids _ any_purpose e (sym c.as_bytes.ensures ∙ c.in-Some-Any.ensures ∙ ap octets_of c.in-Some-Any.field-0-is)

pub returns-in-Some-ServerAuth-clause-said : goal.returns-in-Some-ServerAuth-clause-said
returns-in-Some-ServerAuth-clause-said c = λ ids e. named (usages_of c.args.self.now) ids _ (purpose 1) e (sym c.as_bytes.ensures ∙ c.in-Some-ServerAuth.ensures ∙ ap octets_of c.in-Some-ServerAuth.field-0-is)

pub returns-in-Some-ClientAuth-clause-said : goal.returns-in-Some-ClientAuth-clause-said
returns-in-Some-ClientAuth-clause-said c = λ ids e. named (usages_of c.args.self.now) ids _ (purpose 2) e (sym c.as_bytes.ensures ∙ c.in-Some-ClientAuth.ensures ∙ ap octets_of c.in-Some-ClientAuth.field-0-is)

pub returns-in-Some-CodeSigning-clause-said : goal.returns-in-Some-CodeSigning-clause-said
returns-in-Some-CodeSigning-clause-said c = λ ids e. named (usages_of c.args.self.now) ids _ (purpose 3) e (sym c.as_bytes.ensures ∙ c.in-Some-CodeSigning.ensures ∙ ap octets_of c.in-Some-CodeSigning.field-0-is)

pub returns-in-Some-EmailProtection-clause-said : goal.returns-in-Some-EmailProtection-clause-said
returns-in-Some-EmailProtection-clause-said c = λ ids e. named (usages_of c.args.self.now) ids _ (purpose 4) e (sym c.as_bytes.ensures ∙ c.in-Some-EmailProtection.ensures ∙ ap octets_of c.in-Some-EmailProtection.field-0-is)

pub returns-in-Some-TimeStamping-clause-said : goal.returns-in-Some-TimeStamping-clause-said
returns-in-Some-TimeStamping-clause-said c = λ ids e. named (usages_of c.args.self.now) ids _ (purpose 8) e (sym c.as_bytes.ensures ∙ c.in-Some-TimeStamping.ensures ∙ ap octets_of c.in-Some-TimeStamping.field-0-is)

pub returns-in-Some-OcspSigning-clause-said : goal.returns-in-Some-OcspSigning-clause-said
returns-in-Some-OcspSigning-clause-said c = λ ids e. named (usages_of c.args.self.now) ids _ (purpose 9) e (sym c.as_bytes.ensures ∙ c.in-Some-OcspSigning.ensures ∙ ap octets_of c.in-Some-OcspSigning.field-0-is)

pub returns-in_ok-list_once-in-None-clause-said : goal.returns-in_ok-list_once-in-None-clause-said
returns-in_ok-list_once-in-None-clause-said c = λ ids e. other (usages_of c.args.self.now) ids (oid_bytes c.args.id) _ e (subst (λ octets. holds named_purposes octets ≡ false) c.as_bytes.ensures c.in-None.ensures) (sym c.in_ok-list_once-in-None.ensures.list)
