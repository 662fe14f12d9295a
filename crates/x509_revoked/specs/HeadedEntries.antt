-- Entries by where they begin, each with the head of its serial (RFC 5280, 5.1.2.6).
use Rattle.std.specs.Prelude.{◌≡◌, ℕ, List, map}
use Rattle.std.specs.List.{All}
use Rattle.std.specs.Ordering.{nat_cmp, on, then_cmp}
use Rattle.std.specs.declared.cmp.Ordering.{Ordering}
use Rattle.x509_revoked.specs.SerialHead.{serial_head}
use Rattle.x509_revoked.specs.SerialOrder.{by_serial, number_at_offset}
use Rattle.x509_revoked.specs.declared.headed_entry.HeadedEntry.{HeadedEntry}

-- where each of them begins
abbrev pub offsets_of : List HeadedEntry → List ℕ
offsets_of entries = map (λ (entry : HeadedEntry). entry.offset) entries

-- its head is that of the serial there
abbrev pub IsHeaded : List ℕ → HeadedEntry → Type 0
IsHeaded octets entry = entry.head ≡ serial_head (number_at_offset octets entry.offset)

abbrev pub AreHeaded : List ℕ → List HeadedEntry → Type 0
AreHeaded octets entries = All (IsHeaded octets) entries

-- by the heads, and where these are equal, by the serials as numbers, and then by the offsets
abbrev pub by_head : List ℕ → HeadedEntry → HeadedEntry → Ordering
by_head octets = then_cmp (on (λ (entry : HeadedEntry). entry.head) nat_cmp) (on (λ (entry : HeadedEntry). entry.offset) (by_serial octets))
