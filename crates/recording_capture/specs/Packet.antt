-- To be believed: what the engine must do, or what is claimed of it.
-- A capture is a classic pcap file: its header, and a packet for each whole frame, a HART-IP token-passing message in UDP in IPv4. Every number in it has its most significant byte first.
use Rattle.std.specs.Prelude.{ℕ, ◌+◌, ◌-◌, ◌*◌, ◌/◌, ◌%◌, Bool, List, [], ◌∷◌, ◌++◌, length}
use Rattle.base.specs.Choice.{when◌then◌else◌, ◌=?◌}
use Rattle.frame.specs.Delimiter.{stx, ack}
use Rattle.frame.specs.declared.Header.{Header}
use Rattle.recording_capture.specs.declared.Clock.{Clock}
use Rattle.recording_capture.specs.declared.Clock.TheVariants.{Fsk, C8psk}

-- numbers of two and of four bytes
unfoldable pub big16 : ℕ → List ℕ
big16 n = (n / 256 % 256) ∷ (n % 256) ∷ []

unfoldable pub big32 : ℕ → List ℕ
big32 n = big16 (n / 65536) ++ big16 n

-- the file's header: magic number a1b2c3d4, version 2.4, no time zone, no accuracy, packets of up to 65,535 bytes, and link type 101, IP
abbrev pub file_header : List ℕ
file_header = 161 ∷ 178 ∷ 195 ∷ 212 ∷ 0 ∷ 2 ∷ 0 ∷ 4 ∷ 0 ∷ 0 ∷ 0 ∷ 0 ∷ 0 ∷ 0 ∷ 0 ∷ 0 ∷ 0 ∷ 0 ∷ 255 ∷ 255 ∷ 0 ∷ 0 ∷ 0 ∷ 101 ∷ []

-- ---- the time of a tick: FSK has 1,200 ticks in 11 seconds, C8PSK one in a millisecond

abbrev pub seconds_of : Clock → ℕ → ℕ
seconds_of Fsk tick = tick * 11 / 1200
seconds_of C8psk tick = tick / 1000

-- the microseconds after the last whole second, rounded down
abbrev pub microseconds_of : Clock → ℕ → ℕ
microseconds_of Fsk tick = tick * 11 % 1200 * 2500 / 3
microseconds_of C8psk tick = tick % 1000 * 1000

-- a packet's own header: the time, and twice its size
unfoldable pub record_header : Clock → ℕ → ℕ → List ℕ
record_header clock tick size = big32 (seconds_of clock tick) ++ (big32 (microseconds_of clock tick) ++ (big32 size ++ big32 size))

-- ---- who speaks with whom

-- 192.168.0.1 the primary, 192.168.0.2 the secondary
abbrev pub master_address : Bool → ℕ
master_address primary = when primary then 3232235521 else 3232235522

-- 192.168.1.p of polling address p; of a unique address 10 and its last three bytes, the device's identification number
abbrev pub device_address : Bool → ℕ → ℕ
device_address long address = when long then 167772160 + address % 16777216 else 3232235776 + address % 256

-- an STX goes from the master to the device, an ACK or a BACK from the device to the master
abbrev pub source_of : Header → ℕ
source_of h = when h.kind =? stx then master_address h.primary else device_address h.long h.address

abbrev pub target_of : Header → ℕ
target_of h = when h.kind =? stx then device_address h.long h.address else master_address h.primary

-- ---- the IPv4 header: version 4 and five words of header, size, no number, not to be cut up, 64 hops, UDP, checksum, addresses

unfoldable pub ip_front : ℕ → List ℕ
ip_front size = 0x45 ∷ 0 ∷ (big16 size ++ (0 ∷ 0 ∷ 0x40 ∷ 0 ∷ 64 ∷ 17 ∷ []))

-- the sum of the header's words of 16 bits, without the checksum
abbrev pub sum_of : ℕ → ℕ → ℕ → ℕ
sum_of size source target =
    0x4500 + size % 65536 + 0x4000 + 0x4011
    + (source / 65536 % 65536 + source % 65536)
    + (target / 65536 % 65536 + target % 65536)

-- the checksum is the complement of that sum, what goes over 16 bits added to it
abbrev pub folded : ℕ → ℕ
folded sum = sum % 65536 + sum / 65536

unfoldable pub checksum_of : ℕ → ℕ → ℕ → ℕ
checksum_of size source target = 65535 - folded (folded (sum_of size source target))

unfoldable pub ip_ends : ℕ → Header → List ℕ
ip_ends size h = big16 (checksum_of size (source_of h) (target_of h)) ++ (big32 (source_of h) ++ big32 (target_of h))

-- ---- the UDP header: from and to port 5094, its size, no checksum

unfoldable pub udp_header : ℕ → List ℕ
udp_header size = big16 5094 ++ (big16 5094 ++ (big16 size ++ big16 0))

-- ---- the HART-IP header: version 1, message type, message id 3, status 0, sequence number, its size with the message

-- "message type 0 for an STX, 1 for an ACK, 2 for a BACK"
abbrev pub message_type : ℕ → ℕ
message_type frame = when frame =? stx then 0 else when frame =? ack then 1 else 2

unfoldable pub hart_header : ℕ → ℕ → ℕ → List ℕ
hart_header frame number size = 1 ∷ message_type frame ∷ 3 ∷ 0 ∷ (big16 number ++ big16 size)

-- ---- a packet: the headers, and the frame's bytes

-- by the number of these; a frame has at most 267 from its delimiter to its check byte
unfoldable pub packet_of : Clock → ℕ → ℕ → Header → ℕ → List ℕ → List ℕ
packet_of clock tick number h n message =
    record_header clock tick (n + 36)
    ++ (ip_front (n + 36)
    ++ (ip_ends (n + 36) h
    ++ (udp_header (n + 16)
    ++ (hart_header h.kind number (n + 8) ++ message))))

abbrev pub packet : Clock → ℕ → ℕ → Header → List ℕ → List ℕ
packet clock tick number h message = packet_of clock tick number h (length message % 65536) message

-- packets are numbered from 0, modulo 65,536
abbrev pub next_number : ℕ → ℕ
next_number n = (n + 1) % 65536
