-- Addresses of hosts in general names (RFC 5280, 4.2.1.6).
use Rattle.std.specs.Prelude.{◌≡◌, ◌≢◌, ℕ, List, Option, Some, None, length}
use Rattle.std.specs.declared.net.ip_addr.IpAddr.{IpAddr}
use Rattle.std.specs.declared.net.ip_addr.IpAddr.TheVariants.{V4, V6}
use Rattle.std.specs.Net.Addr.{ipv4_octets, ipv6_segments, segments_of}
use Rattle.x509_general_names.specs.GeneralName.{GeneralNameValue, IPAddress}

-- four octets are an address of IPv4, sixteen one of IPv6, and any other number is none
abbrev pub IsAddressOf : List ℕ → Option IpAddr → Type 0
IsAddressOf octets (Some (V4 ip)) = (length octets ≡ 4) × (ipv4_octets ip ≡ octets)
IsAddressOf octets (Some (V6 ip)) = (length octets ≡ 16) × (ipv6_segments ip ≡ segments_of octets)
IsAddressOf octets None = (length octets ≢ 4) × (length octets ≢ 16)

-- the address of an iPAddress; no other name has one
abbrev pub IsAddressIn : GeneralNameValue → Option IpAddr → Type 0
IsAddressIn (IPAddress octets) ip = IsAddressOf octets ip
IsAddressIn name ip = ip ≡ None
