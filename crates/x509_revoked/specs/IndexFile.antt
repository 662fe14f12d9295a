-- An index over the octets of a list, as octets.
use Rattle.std.specs.Prelude.{ℕ, List, [], ◌∷◌, ◌++◌, ◌==◌, cond, length, slice_index, take}
use Rattle.std.specs.Int.{w32, w64, to_be_bytes}
use Rattle.std.specs.Str.{bytes_eq}
use Rattle.x509_revoked.specs.declared.index_error.IndexError.{IndexError}
use Rattle.x509_revoked.specs.declared.index_error.IndexError.TheVariants.{NotAnIndex, OtherVersion, OtherList}

-- the letters crlindx, and the form's version, 1
abbrev pub magic : List ℕ
magic = 0x63 ∷ 0x72 ∷ 0x6c ∷ 0x69 ∷ 0x6e ∷ 0x64 ∷ 0x78 ∷ 1 ∷ []

-- what it is, of how many entries, in how many octets, each number in eight octets, the highest first
unfoldable pub head_octets : ℕ → ℕ → List ℕ
head_octets entries octets = magic ++ to_be_bytes w64 entries ++ to_be_bytes w64 octets

-- four octets for each offset, the highest first
abbrev pub offset_octets : List ℕ → List ℕ
offset_octets [] = []
offset_octets (offset ∷ offsets) = to_be_bytes w32 offset ++ offset_octets offsets

-- the index of entries that take so many octets, with these offsets
abbrev pub index_octets : ℕ → List ℕ → List ℕ
index_octets octets offsets = head_octets (length offsets) octets ++ offset_octets offsets

-- why octets aren't the head that is wanted: their letters are others, else their version is, else they are of another list
abbrev pub wrong_head : List ℕ → List ℕ → IndexError
wrong_head found wanted =
    cond (bytes_eq (take 7 found) (take 7 wanted)) (cond (slice_index found 7 == slice_index wanted 7) OtherList OtherVersion) NotAnIndex
