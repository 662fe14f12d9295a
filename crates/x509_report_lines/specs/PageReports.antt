-- A report in a page, of the tokens of its JSON text.
use Rattle.std.specs.Prelude.{ℕ, List, [], ◌++◌, codes, fold}
use Rattle.json.specs.Token.{Token, begin_object, end_object, begin_array, end_array, key, string, number, boolean, null, bad}
use Rattle.x509_report_lines.specs.Lines.{truth_text}
use Rattle.x509_report_lines.specs.PageEscape.{framed, html}

-- the page so far, and the key of the next value, empty where it has none
pub record Members : Type 0 where
  pub page : List ℕ
  pub key : List ℕ

-- objects and lists are parts that fold, under their keys
abbrev pub opened : Members → Members
opened m = record { page = m.page ++ framed (codes "<details open><summary>") m.key (codes "</summary>"); key = [] }

abbrev pub closed : Members → Members
closed m = record { page = m.page ++ codes "</details>"; key = [] }

abbrev pub under_key : Members → List ℕ → Members
under_key m k = record { page = m.page; key = k }

-- what is shown of a value, behind its key
abbrev pub begun : Members → Members
begun m = record { page = m.page ++ framed (codes "<div><b>") m.key (codes "</b> <span>"); key = m.key }

abbrev pub ended : Members → Members
ended m = record { page = m.page ++ codes "</span></div>"; key = [] }

abbrev pub shows : Members → List ℕ → Members
shows m shown = record { page = m.page ++ shown; key = m.key }

abbrev pub valued : Members → List ℕ → Members
valued m shown = ended (shows (begun m) shown)

unfoldable pub step : Members → Token → Members
step m begin_object = opened m
step m end_object = closed m
step m begin_array = opened m
step m end_array = closed m
step m (key k) = under_key m k
step m (string s) = valued m (html s)
step m (number n) = valued m (html n)
step m (boolean b) = valued m (html (truth_text b))
step m null = valued m (codes "<i>none</i>")
step m bad = m

abbrev pub nothing : Members
nothing = record { page = []; key = [] }

abbrev pub members_of : List Token → Members
members_of ts = fold step nothing ts

abbrev pub report_page : List Token → List ℕ
report_page ts = (members_of ts).page
