-- Addresses of hosts as text (RFC 5280, 4.2.1.6 and 4.2.1.10; RFC 5952).
use Rattle.std.specs.Prelude.{ℕ, ◌==◌, List, ◌++◌, codes, Option, Some, None, if◌then◌else◌, length, take, drop}
use Rattle.std.specs.Net.Addr.{segments_of}
use Rattle.std.specs.Net.Text.{ipv4_text, ipv6_text}

-- four octets are an address of IPv4, sixteen one of IPv6
abbrev pub host_text : List ℕ → Option (List ℕ)
host_text octets =
    if length octets == 4 then Some (ipv4_text octets)
    else (if length octets == 16 then Some (ipv6_text (segments_of octets)) else None)

-- two of the same kind are an address and its mask, as name constraints have them
abbrev pub with_mask : Option (List ℕ) → Option (List ℕ) → Option (List ℕ)
with_mask (Some address) (Some mask) = Some (address ++ codes "/" ++ mask)
with_mask _ _ = None

unfoldable pub address_text : List ℕ → Option (List ℕ)
address_text octets =
    if length octets == 8 then with_mask (host_text (take 4 octets)) (host_text (drop 4 octets))
    else (if length octets == 32 then with_mask (host_text (take 16 octets)) (host_text (drop 16 octets)) else host_text octets)
