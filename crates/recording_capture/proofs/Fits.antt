-- Theorem: a tick's packet has at most 319 bytes, so that with room for these nothing is left out.
use Rattle.std.proofs.Common.{◌≡◌, ℕ, ◌+◌, ◌*◌, ◌/◌, ◌%◌, ◌≤◌, List, [], ◌∷◌, ◌++◌, length, take, refl, ap, ◌∙◌, arith, length-append, length-take}
use Rattle.base.specs.Store.{stored}
use Rattle.base.proofs.Stores.{stored_front}
use Rattle.frame.specs.declared.Header.{Header}
use Rattle.line.specs.Reader.{taken}
use Rattle.line.specs.declared.Event.{Event}
use Rattle.line.specs.declared.Event.TheVariants.{Nothing, PassedOver, Broken, Frame, Damaged}
use Rattle.line.specs.declared.Heard.{Heard}
use Rattle.texts.specs.Put.{Out, out_of, PutIs}
use Rattle.texts.proofs.Puts.{put_front, put_length}
use Rattle.recording_capture.specs.Capture.{heard_text, grown, message_of, packet_by, Kept, stepped, packet_at, packets_from}
use Rattle.recording_capture.specs.Claims.{PacketsFit}
use Rattle.recording_capture.specs.Packet.{big16, big32, seconds_of, microseconds_of, record_header, source_of, target_of, ip_front, checksum_of, ip_ends, udp_header, hart_header, packet_of}
use Rattle.recording_capture.specs.Promises.{keep}
use Rattle.recording_capture.specs.declared.Clock.{Clock}

-- ---- the headers

two_long : (n : ℕ) → length (big16 n) ≡ 2
unfolding big16
two_long n = refl

four_long : (n : ℕ) → length (big32 n) ≡ 4
unfolding big32
four_long n = omega (arith, length-append (big16 (n / 65536)) (big16 n), two_long (n / 65536), two_long n)

record_long : (clock : Clock) (tick size : ℕ) → length (record_header clock tick size) ≡ 16
unfolding record_header
record_long clock tick size =
    let s = big32 (seconds_of clock tick) in
    let m = big32 (microseconds_of clock tick) in
    let z = big32 size in
    omega (
      arith,
      length-append s (m ++ (z ++ z)),
      length-append m (z ++ z),
      length-append z z,
      four_long (seconds_of clock tick),
      four_long (microseconds_of clock tick),
      four_long size,
    )

front_long : (size : ℕ) → length (ip_front size) ≡ 10
unfolding ip_front
front_long size = omega (arith, length-append (big16 size) (0 ∷ 0 ∷ 0x40 ∷ 0 ∷ 64 ∷ 17 ∷ []), two_long size)

ends_long : (size : ℕ) (h : Header) → length (ip_ends size h) ≡ 10
unfolding ip_ends
ends_long size h =
    let x = big16 (checksum_of size (source_of h) (target_of h)) in
    let s = big32 (source_of h) in
    let t = big32 (target_of h) in
    omega (
      arith,
      length-append x (s ++ t),
      length-append s t,
      two_long (checksum_of size (source_of h) (target_of h)),
      four_long (source_of h),
      four_long (target_of h),
    )

udp_long : (size : ℕ) → length (udp_header size) ≡ 8
unfolding udp_header
udp_long size =
    let p = big16 5094 in
    let z = big16 size in
    omega (
      arith,
      length-append p (p ++ (z ++ big16 0)),
      length-append p (z ++ big16 0),
      length-append z (big16 0),
      two_long 5094,
      two_long size,
      two_long 0,
    )

hart_long : (frame number size : ℕ) → length (hart_header frame number size) ≡ 8
unfolding hart_header
hart_long frame number size = omega (arith, length-append (big16 number) (big16 size), two_long number, two_long size)

-- ---- a packet

packet_long : (clock : Clock) (tick number : ℕ) (h : Header) (n : ℕ) (message : List ℕ) → length (packet_of clock tick number h n message) ≡ 52 + length message
unfolding packet_of
packet_long clock tick number h n message =
    let a = record_header clock tick (n + 36) in
    let b = ip_front (n + 36) in
    let c = ip_ends (n + 36) h in
    let d = udp_header (n + 16) in
    let e = hart_header h.kind number (n + 8) in
    omega (
      arith,
      length-append a (b ++ (c ++ (d ++ (e ++ message)))),
      length-append b (c ++ (d ++ (e ++ message))),
      length-append c (d ++ (e ++ message)),
      length-append d (e ++ message),
      length-append e message,
      record_long clock tick (n + 36),
      front_long (n + 36),
      ends_long (n + 36) h,
      udp_long (n + 16),
      hart_long h.kind number (n + 8),
    )

event_most : (clock : Clock) (tick number : ℕ) (e : Event) (message : List ℕ) → length message ≤ 267 → length (packet_by clock tick number e message) ≤ 319
event_most clock tick number Nothing message h = omega arith
event_most clock tick number PassedOver message h = omega arith
event_most clock tick number Broken message h = omega arith
event_most clock tick number (Frame w) message h = omega (arith, packet_long clock tick number w.header (length message % 65536) message)
event_most clock tick number (Damaged w m) message h = omega arith

-- ---- the packets

grown_length : (frame : List ℕ) (held : ℕ) (h : Heard) → length (grown frame held h).bytes ≡ length frame
grown_length frame held h = put_length (heard_text h) frame held (grown frame held h).at (grown frame held h).bytes (record { out = refl })

tick_most : (k : Kept) (h : Heard) → length k.message ≤ 267 → length (packet_at k h) ≤ 319
unfolding packet_at
tick_most k h e =
    let o = grown k.message k.progress.held h in
    event_most k.progress.clock k.progress.tick k.progress.number (taken k.progress.receiver h).event (message_of o)
    (omega (arith, length-take o.at o.bytes, grown_length k.message k.progress.held h))

stepped_length : (k : Kept) (h : Heard) → length (stepped k h).message ≡ length k.message
unfolding stepped
stepped_length k h = grown_length k.message k.progress.held h

packets_most : (hs : List Heard) (k : Kept) → length k.message ≤ 267 → length (packets_from k hs) ≤ 319 * length hs
unfolding packets_from
packets_most [] k e = omega arith
packets_most (h ∷ hs) k e =
    omega (arith, length-append (packet_at k h) (packets_from (stepped k h) hs), tick_most k h e, packets_most hs (stepped k h) (omega (arith, stepped_length k h)))

-- a text that was put at the front, with room for it, stands there
pub all_there : (text before : List ℕ) (r : ℕ) (out : List ℕ) → PutIs text before 0 r out → length text ≤ length before → take r out ≡ text
all_there text before r out v fits =
    let all : out_of out r ≡ out_of (stored before 0 text) (length text) = v.out ∙ put_front text before fits in
    stored_front r before out text (ap (λ (o : Out). o.bytes) all) (ap (λ (o : Out). o.at) all) (omega (arith, ap (λ (o : Out). o.at) all, fits))

pub packets_fit : PacketsFit
packets_fit p hs bytes after frame grew before r out e h v =
    all_there (packets_from (keep p bytes frame) hs) before r.at out v.text (omega (arith, packets_most hs (keep p bytes frame) e))
