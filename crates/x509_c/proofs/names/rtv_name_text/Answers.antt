-- The text of the name that was read, or why there is none.
use Rattle.std.proofs.Common.{refl, true, rules}
use Rattle.x509_names.specs.Names.{name, name_of}
use Rattle.x509_names.specs.NameTexts.{shown_name}
use Rattle.x509_c.specs.Text.{ShowsText}
use Rattle.x509_c.proofs.Telling.{tells_read, tells_refused}
use Rattle.x509_c.proofs.names.rtv_name_text.Goals as goal

pub returns-in-Ok-to_string : goal.returns-in-Ok-to_string
returns-in-Ok-to_string c =
    let shown : ShowsText c.put_text.new.out c.put_text.result (shown_name (name_of c.in-Ok.read)) = search rules in
    tells_read true _ name c.args.der.now _ _ _ c.args.at.now c.in-Ok.ensures shown

pub returns : goal.returns
returns c = tells_refused true _ name c.args.der.now _ _ c.in-Err.refusal c.args.at.now _ _ c.in-Err.ensures (refl, refl) c.refused.ensures.at c.refused.ensures.status
