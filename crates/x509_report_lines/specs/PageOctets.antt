-- The octets of an object in a page.
use Rattle.std.specs.Prelude.{ℕ, List, [], ◌++◌, codes}
use Rattle.x509_der.specs.Hex.{hex_text}

-- in hex, as a part that folds
unfoldable pub octets_page : List ℕ → List ℕ
octets_page octets = codes "<details class=\"octets\"><summary>octets</summary><pre>" ++ (hex_text [] octets ++ codes "</pre></details>")
