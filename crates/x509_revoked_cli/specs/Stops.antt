-- Why there is no answer.
use Rattle.std.specs.Prelude.{◌≡◌, ◌⊎◌, ℕ, Bool, false, List, codes}
use Rattle.x509_revoked_cli.specs.declared.stop.Stop.{Stop}
use Rattle.x509_revoked_cli.specs.declared.stop.Stop.TheVariants.{Memory, Unclear}

-- in words
abbrev pub why_words : Stop → List ℕ
why_words Memory = codes "out of memory"
why_words Unclear = codes "the issuer of an entry can't be read"

-- memory was refused, or what an entry says of its issuer can't be read
abbrev pub StopsFor : Bool → Stop → Type 0
StopsFor readable stop = (stop ≡ Memory) ⊎ ((stop ≡ Unclear) × (readable ≡ false))
