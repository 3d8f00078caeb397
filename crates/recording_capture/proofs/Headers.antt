-- Laws of a packet as it is put into the output, header by header.
use Rattle.std.proofs.Common.{◌≡◌, ℕ, ◌+◌, ◌-◌, ◌*◌, ◌/◌, ◌%◌, List, [], ◌∷◌, ◌++◌, length, sym, refl, ap, ◌∙◌, arith}
use Rattle.frame.specs.declared.Header.{Header}
use Rattle.texts.specs.Put.{PutIs}
use Rattle.texts.proofs.Puts.{put_then, put_same}
use Rattle.recording_capture.specs.Packet.{big16, big32, seconds_of, microseconds_of, record_header, source_of, target_of, ip_front, sum_of, folded, checksum_of, ip_ends, udp_header, message_type, hart_header, packet_of}
use Rattle.recording_capture.specs.declared.Clock.{Clock}

-- ---- numbers

pub put_two : (n : ℕ) (before a after : List ℕ) (at i r : ℕ) → PutIs ((n / 256 % 256) ∷ []) before at i a → PutIs ((n % 256) ∷ []) a i r after → PutIs (big16 n) before at r after
unfolding big16
put_two n before a after at i r p q = put_then ((n / 256 % 256) ∷ []) ((n % 256) ∷ []) before a after at i r p q

pub put_four : (n : ℕ) (before a after : List ℕ) (at i r : ℕ) → PutIs (big16 (n / 65536)) before at i a → PutIs (big16 n) a i r after → PutIs (big32 n) before at r after
unfolding big32
put_four n before a after at i r p q = put_then (big16 (n / 65536)) (big16 n) before a after at i r p q

-- ---- the checksum

pub checksum_is : (size source target sum once twice r : ℕ) → sum ≡ sum_of size source target → once ≡ folded sum → twice ≡ folded once → r ≡ 65535 - twice → r ≡ checksum_of size source target
unfolding checksum_of
checksum_is size source target sum once twice r e f g h =
    h ∙ ap (λ (x : ℕ). 65535 - x) (g ∙ ap (λ (x : ℕ). folded x) (f ∙ ap (λ (x : ℕ). folded x) e))

-- ---- the headers

pub put_record : (clock : Clock) (tick size s m : ℕ) (before a b c after : List ℕ) (at i j k r : ℕ)
    → PutIs (big32 s) before at i a → PutIs (big32 m) a i j b → PutIs (big32 size) b j k c → PutIs (big32 size) c k r after
    → s ≡ seconds_of clock tick → m ≡ microseconds_of clock tick → PutIs (record_header clock tick size) before at r after
unfolding record_header
put_record clock tick size s m before a b c after at i j k r p q t u es em =
    put_same (big32 s ++ (big32 m ++ (big32 size ++ big32 size))) (record_header clock tick size) before at r after
    (put_then (big32 s) _ before a after at i r p
    (put_then (big32 m) _ a b after i j r q
    (put_then (big32 size) (big32 size) b c after j k r t u)))
    (λ x. big32 (es x) ++ (big32 (em x) ++ (big32 size ++ big32 size)))

pub put_ip_front : (size : ℕ) (before a b after : List ℕ) (at i j r : ℕ)
    → PutIs (69 ∷ 0 ∷ []) before at i a → PutIs (big16 size) a i j b → PutIs (0 ∷ 0 ∷ 64 ∷ 0 ∷ 64 ∷ 17 ∷ []) b j r after → PutIs (ip_front size) before at r after
unfolding ip_front
put_ip_front size before a b after at i j r p q t =
    put_then (69 ∷ 0 ∷ []) (big16 size ++ (0 ∷ 0 ∷ 64 ∷ 0 ∷ 64 ∷ 17 ∷ [])) before a after at i r p
    (put_then (big16 size) (0 ∷ 0 ∷ 64 ∷ 0 ∷ 64 ∷ 17 ∷ []) a b after i j r q t)

pub put_ip_ends : (size : ℕ) (h : Header) (x s t : ℕ) (before a b after : List ℕ) (at i j r : ℕ)
    → PutIs (big16 x) before at i a → PutIs (big32 s) a i j b → PutIs (big32 t) b j r after
    → s ≡ source_of h → t ≡ target_of h → x ≡ checksum_of size s t → PutIs (ip_ends size h) before at r after
unfolding ip_ends
put_ip_ends size h x s t before a b after at i j r p q u es et ex =
    put_same (big16 x ++ (big32 s ++ big32 t)) (ip_ends size h) before at r after
    (put_then (big16 x) _ before a after at i r p (put_then (big32 s) (big32 t) a b after i j r q u))
    (ap (λ (y : ℕ). big16 y ++ (big32 s ++ big32 t)) ex ∙ both)
  where
    both : big16 (checksum_of size s t) ++ (big32 s ++ big32 t) ≡ big16 (checksum_of size (source_of h) (target_of h)) ++ (big32 (source_of h) ++ big32 (target_of h))
    both = λ y. big16 (checksum_of size (es y) (et y)) ++ (big32 (es y) ++ big32 (et y))

pub put_udp : (size : ℕ) (before a b c after : List ℕ) (at i j k r : ℕ)
    → PutIs (big16 5094) before at i a → PutIs (big16 5094) a i j b → PutIs (big16 size) b j k c → PutIs (big16 0) c k r after → PutIs (udp_header size) before at r after
unfolding udp_header
put_udp size before a b c after at i j k r p q t u =
    put_then (big16 5094) _ before a after at i r p
    (put_then (big16 5094) _ a b after i j r q
    (put_then (big16 size) (big16 0) b c after j k r t u))

pub put_hart : (frame number size kind : ℕ) (before a b c d after : List ℕ) (at i j k m r : ℕ)
    → PutIs (1 ∷ []) before at i a → PutIs (kind ∷ []) a i j b → PutIs (3 ∷ 0 ∷ []) b j k c → PutIs (big16 number) c k m d → PutIs (big16 size) d m r after
    → kind ≡ message_type frame → PutIs (hart_header frame number size) before at r after
unfolding hart_header
put_hart frame number size kind before a b c d after at i j k m r p q t u v e =
    put_same (1 ∷ kind ∷ 3 ∷ 0 ∷ (big16 number ++ big16 size)) (hart_header frame number size) before at r after
    (put_then (1 ∷ []) (kind ∷ 3 ∷ 0 ∷ (big16 number ++ big16 size)) before a after at i r p
    (put_then (kind ∷ []) (3 ∷ 0 ∷ (big16 number ++ big16 size)) a b after i j r q
    (put_then (3 ∷ 0 ∷ []) (big16 number ++ big16 size) b c after j k r t
    (put_then (big16 number) (big16 size) c d after k m r u v))))
    (λ x. 1 ∷ e x ∷ 3 ∷ 0 ∷ (big16 number ++ big16 size))

-- ---- a packet

pub put_packet : (clock : Clock) (tick number : ℕ) (h : Header) (n : ℕ) (message before a b c d e after : List ℕ) (at i j k m o r : ℕ)
    → n ≡ length message % 65536 → PutIs (record_header clock tick (n + 36)) before at i a → PutIs (ip_front (n + 36)) a i j b → PutIs (ip_ends (n + 36) h) b j k c
    → PutIs (udp_header (n + 16)) c k m d → PutIs (hart_header h.kind number (n + 8)) d m o e → PutIs message e o r after
    → PutIs (packet_of clock tick number h (length message % 65536) message) before at r after
unfolding packet_of
put_packet clock tick number h n message before a b c d e after at i j k m o r x p q t u v w =
    put_same (packet_of clock tick number h n message) (packet_of clock tick number h (length message % 65536) message) before at r after
    (put_then (record_header clock tick (n + 36)) _ before a after at i r p
    (put_then (ip_front (n + 36)) _ a b after i j r q
    (put_then (ip_ends (n + 36) h) _ b c after j k r t
    (put_then (udp_header (n + 16)) _ c d after k m r u
    (put_then (hart_header h.kind number (n + 8)) message d e after m o r v w)))))
    (ap (λ (y : ℕ). packet_of clock tick number h y message) x)

pub ruleset put_packets = (refl, put_two, put_four, checksum_is, put_record, put_ip_front, put_ip_ends, put_udp, put_hart, put_packet)
