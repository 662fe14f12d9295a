use Rattle.std.proofs.Common.{rules, sym, ap, ◌∙◌, arith}
use Rattle.x509_der.specs.Oid.{oid_bytes}
use Rattle.x509_extensions.proofs.Only.{only-all, only-twice}
use Rattle.x509_extensions.specs.Lookups.{has_oid}
use Rattle.x509_extensions.proofs.lookups.get_extension_unique.Goals as goal

pub returns-then-is_some : goal.returns-then-is_some
returns-then-is_some c =
    let has = has_oid (oid_bytes c.args.oid.now) in
    let here = ap has (sym c.extension-item.is) ∙ (sym c.has_oid.ensures ∙ c.if-has_oid.true) in
    sym (only-twice has c.args.extensions.now c.loop-extension.extension-index c.extension-item.result c.loop-extension.found (omega arith) (search rules) c.loop-extension.invariant here)

pub returns : goal.returns
returns c = sym (only-all (has_oid (oid_bytes c.args.oid.now)) c.args.extensions.now c.loop-extension.extension-index c.loop-extension.found (omega arith) c.loop-extension.invariant)
