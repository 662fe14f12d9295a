use Rattle.std.proofs.Common.{◌≡◌, ◌/◌, ◌^◌, take, map}
use denote.Text.{Utf8}
use denote.Shadow.{shadow}
use Rattle.std.specs.Fmt.{HasWritten, IsPlainFormatter}
use Rattle.x509_fields.specs.Texts.{set_names, flags_text}
use Rattle.x509_fields.proofs.Naming.{separator_behind}
use Rattle.x509_fields.proofs.flag_names.write_names.Given as goal

abbrev pub invariant-loop-name : goal.invariant-loop-name
invariant-loop-name g l = record {
  text : IsPlainFormatter l.fn.f → HasWritten g.W.Write.write_str_gives l.fn.f (flags_text (map (λ name. name.now) (take l.name-index l.names)) l.flags) l.f;
  rest : l.rest ≡ l.flags / 2 ^ l.name-index;
  separator : l.separator ≡ separator_behind (set_names (map (λ name. name.now) (take l.name-index l.names)) l.flags);
  utf8 : shadow (Utf8 l.separator);
}
