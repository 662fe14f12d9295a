use Rattle.std.proofs.Common.{ap, ◌∙◌}
use Rattle.std.specs.Option.{option_or}
use Rattle.x509_names.specs.Full.{known_in_full, named_in}
use Rattle.x509_names.specs.Full.{attribute_types, algorithms, digests, curves, purposes, extensions, accesses_and_policies}
use Rattle.x509_names.proofs.full.registry_full.Goals as goal

pub returns-clause-is : goal.returns-clause-is
unfolding known_in_full
returns-clause-is c octets =
    c.in_ok-add_missing-7.ensures.is octets ∙ ap (λ e. option_or e (named_in accesses_and_policies octets))
    (c.in_ok-add_missing-6.ensures.is octets ∙ ap (λ e. option_or e (named_in extensions octets))
    (c.in_ok-add_missing-5.ensures.is octets ∙ ap (λ e. option_or e (named_in purposes octets))
    (c.in_ok-add_missing-4.ensures.is octets ∙ ap (λ e. option_or e (named_in curves octets))
    (c.in_ok-add_missing-3.ensures.is octets ∙ ap (λ e. option_or e (named_in digests octets))
    (c.in_ok-add_missing-2.ensures.is octets ∙ ap (λ e. option_or e (named_in algorithms octets))
    (c.in_ok-add_missing.ensures.is octets ∙ ap (λ e. option_or e (named_in attribute_types octets))
    (c.in_ok-registry.ensures.is octets)))))))
