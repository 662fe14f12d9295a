-- The attributes of the name that was read, or why there are none.
use Rattle.std.proofs.Common.{List, map, refl, subst, true}
use Rattle.x509_names.specs.Names.{name, relative_name_of}
use Rattle.x509_names.specs.declared.name.RelativeDistinguishedName.{RelativeDistinguishedName}
use Rattle.x509_c.specs.Names.{IsAttributeRow}
use Rattle.x509_c.specs.Rows.{AreTold, numbered_from}
use Rattle.x509_c.proofs.Telling.{tells_rows, tells_refused}
use Rattle.x509_c.proofs.names.rtv_read_name.Goals as goal

pub returns-in-Ok : goal.returns-in-Ok
returns-in-Ok c =
    let told = subst (λ (rs : List RelativeDistinguishedName). AreTold IsAttributeRow (numbered_from 0 (map relative_name_of rs)) c.args.attributes.now c.args.count.now c.tell_items.new.rows c.tell_items.new.count c.tell_items.result) c.relative_names-relative.ensures c.tell_items.ensures in
    tells_rows true _ name c.args.der.now IsAttributeRow (λ n. numbered_from 0 n.relative) _ _ c.args.at.now _ _ _ _ c.in-Ok.ensures told

pub returns-in-Err : goal.returns-in-Err
returns-in-Err c = tells_refused true _ name c.args.der.now _ _ c.in-Err.refusal c.args.at.now _ _ c.in-Err.ensures (refl, refl) c.refused.ensures.at c.refused.ensures.status
