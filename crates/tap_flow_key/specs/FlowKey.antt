-- This project's own: the key of a frame's flow, and its hash. A frame is one of Ethernet with an
-- optional VLAN tag (IEEE 802.3 and 802.1Q); its headers are IPv4's (RFC 791, 3.1), IPv6's (RFC 8200,
-- 3), TCP's and UDP's (RFC 9293, 3.1; RFC 768). Any bytes are a frame.
use Rattle.std.specs.Prelude.{ℕ, ◌+◌, ◌*◌, ◌/◌, ◌%◌, ◌==◌, ◌&&◌, ◌||◌, nat_le, nat_lt, not, if◌then◌else◌, Bool, List, [], ◌∷◌, ◌++◌, length, slice_index, slice_range, Option, None, Some, bit_and}
use Rattle.std.specs.Ordering.{nat_cmp, match_ordering}
use Rattle.std.specs.Cmp.Lexicographic.{slice_cmp}
use Rattle.std.specs.Int.{w16, to_be_bytes, from_be_bytes}
use Rattle.tap_flow_key.specs.declared.layout.Layout.{Layout}
use Rattle.tap_flow_key.specs.Fnv.{fnv_of}

-- the number in the two bytes at a place, the high byte first
abbrev pub be16_at : List ℕ → ℕ → ℕ
be16_at b at = from_be_bytes w16 (slice_index b at ∷ slice_index b (at + 1) ∷ [])

-- a VLAN tag, whole
abbrev pub is_tagged : List ℕ → Bool
is_tagged b = be16_at b 12 == 0x8100 && nat_le 18 (length b)

-- the type of what the frame carries
abbrev pub ether_type : List ℕ → ℕ
ether_type b = if is_tagged b then be16_at b 16 else be16_at b 12

-- where it begins
abbrev pub payload_at : List ℕ → ℕ
payload_at b = if is_tagged b then 18 else 14

-- how many bytes an IPv4 header says it has
abbrev pub ipv4_header : List ℕ → ℕ → ℕ
ipv4_header b o = 4 * (slice_index b o % 16)

-- an IPv4 header, whole, of at least 20 bytes
abbrev pub is_ipv4 : List ℕ → ℕ → ℕ → Bool
is_ipv4 b kind o = kind == 0x0800 && (nat_le (o + 20) (length b) && (slice_index b o / 16 == 4
    && (nat_le 5 (slice_index b o % 16) && nat_le (o + ipv4_header b o) (length b))))

-- an IPv6 header, whole
abbrev pub is_ipv6 : List ℕ → ℕ → ℕ → Bool
is_ipv6 b kind o = kind == 0x86dd && (nat_le (o + 40) (length b) && slice_index b o / 16 == 6)

-- TCP and UDP have ports
abbrev pub has_ports : ℕ → Bool
has_ports protocol = protocol == 6 || protocol == 17

-- IPv4: more fragments follow, or this one isn't the first
abbrev pub is_fragment : List ℕ → ℕ → Bool
is_fragment b o = not (bit_and (be16_at b (o + 6)) 0x3fff == 0)

-- the ports of an IPv4 packet, if it shows them
abbrev pub ipv4_ports : List ℕ → ℕ → Option ℕ
ipv4_ports b o =
    if has_ports (slice_index b (o + 9)) && (not (is_fragment b o) && nat_le (o + ipv4_header b o + 4) (length b))
    then Some (o + ipv4_header b o) else None

-- those of an IPv6 packet
abbrev pub ipv6_ports : List ℕ → ℕ → Option ℕ
ipv6_ports b o = if has_ports (slice_index b (o + 6)) && nat_le (o + 44) (length b) then Some (o + 40) else None

-- where the parts of the key stand: in an IPv4 packet, in an IPv6 packet, and in another frame, which has
-- its own source and destination alone
abbrev pub ipv4_layout : List ℕ → ℕ → Layout
ipv4_layout b o = record {
  protocol = slice_index b (o + 9);
  first = o + 12;
  second = o + 16;
  width = 4;
  ports = ipv4_ports b o;
}

abbrev pub ipv6_layout : List ℕ → ℕ → Layout
ipv6_layout b o = record {
  protocol = slice_index b (o + 6);
  first = o + 8;
  second = o + 24;
  width = 16;
  ports = ipv6_ports b o;
}

abbrev pub ether_layout : Layout
ether_layout = record { protocol = 0; first = 6; second = 0; width = 6; ports = None }

abbrev pub layout_at : List ℕ → ℕ → ℕ → Layout
layout_at b kind o =
    if is_ipv4 b kind o then ipv4_layout b o else (if is_ipv6 b kind o then ipv6_layout b o else ether_layout)

abbrev pub layout_of : List ℕ → Layout
layout_of b = layout_at b (ether_type b) (payload_at b)

-- a port's two bytes, and zeros where there are no ports
abbrev pub port_at : List ℕ → Option ℕ → ℕ → List ℕ
port_at b None skip = 0 ∷ 0 ∷ []
port_at b (Some ports) skip = slice_range b (ports + skip) (ports + skip + 2)

-- an end's address
abbrev pub first_address : List ℕ → Layout → List ℕ
first_address b l = slice_range b l.first (l.first + l.width)

abbrev pub second_address : List ℕ → Layout → List ℕ
second_address b l = slice_range b l.second (l.second + l.width)

-- and its port
abbrev pub first_port : List ℕ → Layout → List ℕ
first_port b l = port_at b l.ports 0

abbrev pub second_port : List ℕ → Layout → List ℕ
second_port b l = port_at b l.ports 2

-- an end is its address followed by its port
abbrev pub first_end : List ℕ → Layout → List ℕ
first_end b l = first_address b l ++ first_port b l

abbrev pub second_end : List ℕ → Layout → List ℕ
second_end b l = second_address b l ++ second_port b l

-- two ends, the smaller one first by the order of bytes
abbrev pub in_order : List ℕ → List ℕ → List ℕ
in_order x y = match_ordering (slice_cmp nat_cmp x y) (x ++ y) (x ++ y) (y ++ x)

-- the key of two ends under a type and a protocol
abbrev pub key_between : ℕ → ℕ → List ℕ → List ℕ → List ℕ
key_between kind protocol x y = to_be_bytes w16 kind ++ protocol ∷ in_order x y

-- the key of a frame that carries this type, at this place
abbrev pub key_at : List ℕ → ℕ → ℕ → List ℕ
key_at b kind o =
    let l = layout_at b kind o in key_between kind l.protocol (first_end b l) (second_end b l)

-- the key of a frame with an Ethernet header
abbrev pub framed_key : List ℕ → List ℕ
framed_key b = key_at b (ether_type b) (payload_at b)

-- the key of a frame's flow: of a frame too short for a header, its bytes
unfoldable pub key : List ℕ → List ℕ
key b = if nat_lt (length b) 14 then b else framed_key b

-- no flow has the hash 0
abbrev pub nonzero : ℕ → ℕ
nonzero hash = if hash == 0 then 1 else hash

-- the hash of a frame's flow
abbrev pub hash : List ℕ → ℕ
hash b = nonzero (fnv_of (key b))
