-- A master or a device alone, computed, held against ticks and characters that were counted by hand from document 01: in which tick a master begins behind each kind of frame, in which of its windows, and when it tries again; and every character that a device sends in its answers, its error answers and its BACKs. FSK, preamble 5.
use Prim.Native.Nat.{ℕ, suc, ◌+◌}
use mathlib.Core.Path.{◌≡◌, refl}
use mathlib.Core.Bool.{Bool, true, false}
use mathlib.Core.List.{List, [], ◌∷◌, ◌++◌}
use lib.ListN.{replicate, drop}
use Rattle.base.specs.Choice.{when◌then◌else◌}
use Rattle.base.specs.Store.{stored}
use Rattle.frame.specs.Check.{xor_from}
use Rattle.frame.specs.Delimiter.{stx, ack, back, delimiter_of}
use Rattle.frame.specs.Frame.{frame_bytes, preamble_bytes, body_bytes, protected_bytes, header_bytes}
use Rattle.frame.specs.Write.{write_buffer, write_answer}
use Rattle.line.specs.Profile.{fsk_profile}
use Rattle.line.specs.Reader.{taken, taken_data, silent_inside, at_idle, at_preamble, at_first, at_address, at_expansion, at_command, at_count, at_data, at_check}
use Rattle.line.specs.declared.Damage.TheVariants.{Parity, Overrun, Framing}
use Rattle.line.specs.declared.Heard.{Heard}
use Rattle.line.specs.declared.Heard.TheVariants.{Silence, Character, Damaged}
use Rattle.turns.specs.Master.{fresh_master, requested, requested_up_to, master_takes, master_sends}
use Rattle.turns.specs.Device.{device_takes, device_sends, answered, content_given}
use Rattle.turns.specs.Link.{no_request, requests, no_call, gives_answer, gives_content, DeviceCall, MasterSide, master_tick, device_tick}
use Rattle.turns.specs.Bursts.{DeviceInput}
use Rattle.turns.specs.Gaps.{MasterInput, master_sents, device_sents}
use Rattle.turns.specs.Settled.{device}
use Rattle.turns.specs.declared.Sent.{Sent}
use Rattle.turns.specs.declared.Sent.TheVariants.{Silent}
use Rattle.turns.specs.declared.Wish.TheVariants.{Same, On, Off}

-- ---- a master: in which tick it begins

abbrev pub master : Bool → MasterSide
master primary = record { master = fresh_master fsk_profile primary 3; frame = replicate 284 0; bytes = replicate 255 0 }

-- command 0 of polling address 0: an STX of 10 characters
abbrev pub asks : MasterInput
asks = record { heard = Silence; call = requests (record { preamble = 5; revision = 7; long = false; address = 0; command = 0 }) [] }

abbrev pub hears : Heard → MasterInput
hears heard = record { heard = heard; call = no_request }

unfoldable pub all_heard : List ℕ → List MasterInput
all_heard [] = []
all_heard (c ∷ cs) = hears (Character c) ∷ all_heard cs

-- the ticks before the first character
unfoldable pub ticks_before : List Sent → ℕ
ticks_before [] = 0
ticks_before (Silent ∷ ss) = suc (ticks_before ss)
ticks_before (Sent.Character c ∷ ss) = 0

-- a master whose host asks in tick 0 takes these bytes from tick 2 on, so that the line carries them from tick 1 on
unfoldable pub begins_behind : Bool → List ℕ → ℕ
begins_behind primary bytes = ticks_before (master_sents 255 (master primary) (asks ∷ hears Silence ∷ (all_heard bytes ++ replicate 100 (hears Silence))))

-- an STX to polling address 1, 10 characters in ticks 1 to 10
abbrev pub a_request : List ℕ
a_request = frame_bytes 5 (record { kind = stx; long = false; primary = true; burst = false; address = 1; command = 0 }) []

-- an ACK of polling address 1, 12 characters in ticks 1 to 12
abbrev pub short_ack : Bool → Bool → List ℕ
short_ack primary burst = frame_bytes 5 (record { kind = ack; long = false; primary = primary; burst = burst; address = 1; command = 0 }) (0 ∷ 0 ∷ [])

-- an ACK of this device, or a BACK of device 3, 16 characters in ticks 1 to 16
abbrev pub long_ack : Bool → Bool → ℕ → List ℕ
long_ack primary burst unique = frame_bytes 5 (record { kind = ack; long = true; primary = primary; burst = burst; address = unique; command = 3 }) (0 ∷ 0 ∷ [])

abbrev pub a_back : Bool → List ℕ
a_back primary = frame_bytes 5 (record { kind = back; long = true; primary = primary; burst = true; address = 3; command = 3 }) (0 ∷ 0 ∷ [])

-- with a wrong check byte
unfoldable pub wrong : List ℕ → List ℕ
wrong [] = []
wrong (c ∷ []) = 0x55 ∷ []
wrong (c ∷ d ∷ cs) = c ∷ wrong (d ∷ cs)

-- the same for the primary and the secondary
abbrev pub both : (Bool → List ℕ) → List ℕ
both bytes = begins_behind true (bytes true) ∷ begins_behind false (bytes false) ∷ []

abbrev pub Behind : Type 0
Behind =
    -- nothing: RT1, 33 and 41 ticks from tick 0
    (both (λ own. []) ≡ 33 ∷ 41 ∷ []) ×
    -- an STX: RT1 from tick 11
    (both (λ own. a_request) ≡ 44 ∷ 52 ∷ []) ×
    -- an ACK to the other master and a BACK with wrong check bytes: RT1 from tick 13 and from tick 17
    (both (λ own. wrong (short_ack (when own then false else true) false)) ≡ 46 ∷ 54 ∷ []) ×
    (both (λ own. wrong (a_back own)) ≡ 50 ∷ 58 ∷ []) ×
    -- a broken frame, 0xFF and 0x55 in ticks 1 and 2: RT1 from tick 3
    (both (λ own. 0xFF ∷ 0x55 ∷ []) ≡ 36 ∷ 44 ∷ []) ×
    -- an ACK to itself: RT2; to the other master: timer 1
    (both (λ own. short_ack own false) ≡ 21 ∷ 21 ∷ []) ×
    (both (λ own. short_ack (when own then false else true) false) ≡ 14 ∷ 14 ∷ []) ×
    -- a BACK to the other master: timer 1; to itself: the quiet time, 66 and 74
    (both (λ own. a_back (when own then false else true)) ≡ 18 ∷ 18 ∷ []) ×
    (both (λ own. a_back own) ≡ 83 ∷ 91 ∷ []) ×
    -- an ACK with the burst flag, to either: the quiet time
    (both (λ own. long_ack own true 3) ≡ 83 ∷ 91 ∷ []) ×
    (both (λ own. long_ack (when own then false else true) true 3) ≡ 83 ∷ 91 ∷ []) ×
    (both (λ own. short_ack own true) ≡ 79 ∷ 87 ∷ []) ×
    -- behind a BACK of device 3, an ACK without the flag: of device 3, which clears BURST, and of device 4, which does not
    (both (λ own. a_back own ++ long_ack own false 3) ≡ 41 ∷ 41 ∷ []) ×
    (both (λ own. a_back own ++ long_ack own false 4) ≡ 99 ∷ 107 ∷ []) ×
    -- a short ACK with the flag notes nothing, so that no ACK clears BURST
    (both (λ own. short_ack own true ++ long_ack own false 1) ≡ 95 ∷ 103 ∷ [])

pub behind : Behind
unfolding wrong all_heard ticks_before begins_behind master_sents master_tick requested requested_up_to master_takes master_sends taken taken_data silent_inside at_idle at_preamble at_first at_address at_expansion at_command at_count at_data at_check frame_bytes preamble_bytes body_bytes protected_bytes header_bytes xor_from delimiter_of stored when◌then◌else◌
behind = (refl, refl, refl, refl, refl, refl, refl, refl, refl, refl, refl, refl, refl, refl, refl)

-- ---- a master: its windows and its attempts

-- the host asks in this tick of a silent line
unfoldable pub begins_asked : ℕ → ℕ
begins_asked tick = ticks_before (master_sents 255 (master true) (replicate tick (hears Silence) ++ (asks ∷ replicate 40 (hears Silence))))

-- windows of HOLD ticks, 33 and 34, then again 2×RT2 ticks behind each other: 49 and 50, 65 and 66
pub windows : begins_asked 33 ∷ begins_asked 34 ∷ begins_asked 35 ∷ begins_asked 48 ∷ begins_asked 50 ∷ begins_asked 51 ∷ begins_asked 66 ∷ [] ≡ 33 ∷ 34 ∷ 49 ∷ 49 ∷ 50 ∷ 65 ∷ 66 ∷ []
unfolding ticks_before begins_asked master_sents master_tick requested requested_up_to master_takes master_sends taken taken_data silent_inside frame_bytes preamble_bytes body_bytes protected_bytes header_bytes xor_from stored when◌then◌else◌
windows = refl

unfoldable pub each : List ℕ → List Sent
each [] = []
each (c ∷ cs) = Sent.Character c ∷ each cs

-- M1's frame
abbrev pub stx_0 : List Sent
stx_0 = each (0xFF ∷ 0xFF ∷ 0xFF ∷ 0xFF ∷ 0xFF ∷ 0x02 ∷ 0x80 ∷ 0x00 ∷ 0x00 ∷ 0x82 ∷ [])

-- no answer, R 3: the STX goes out four times, each RT1 behind the one before, and not again
pub four_attempts : master_sents 255 (master true) (asks ∷ replicate 299 (hears Silence))
    ≡ replicate 33 Silent ++ (stx_0 ++ (replicate 33 Silent ++ (stx_0 ++ (replicate 33 Silent ++ (stx_0 ++ (replicate 33 Silent ++ (stx_0 ++ replicate 128 Silent)))))))
unfolding each master_sents master_tick requested requested_up_to master_takes master_sends taken taken_data silent_inside frame_bytes preamble_bytes body_bytes protected_bytes header_bytes xor_from stored when◌then◌else◌
four_attempts = refl

-- behind a BACK to the other master it begins in tick 18 with BURST set; without an answer RT1's end opens no window, and it tries again behind the quiet time
pub quiet_runs_on : master_sents 255 (master true) (asks ∷ hears Silence ∷ (all_heard (a_back false) ++ replicate 86 (hears Silence))) ≡ replicate 18 Silent ++ (stx_0 ++ (replicate 66 Silent ++ stx_0))
unfolding all_heard each master_sents master_tick requested requested_up_to master_takes master_sends taken taken_data silent_inside at_idle at_preamble at_first at_address at_expansion at_command at_count at_data at_check frame_bytes preamble_bytes body_bytes protected_bytes header_bytes xor_from delimiter_of stored when◌then◌else◌
quiet_runs_on = refl

-- what stands on the line from tick 44 on behind the STX of ticks 33 to 42: an ACK of 12 characters with this first data byte; RT2 behind it a failed attempt is repeated, an answered one is not
unfoldable pub behind_status : ℕ → List Sent
behind_status status =
    master_sents 255 (master true) (asks ∷ (replicate 44 (hears Silence) ++ (all_heard (frame_bytes 5 (record { kind = ack; long = false; primary = true; burst = false; address = 0; command = 0 }) (status ∷ 0 ∷ [])) ++ replicate 17 (hears Silence))))

pub bit_seven : (behind_status 0x80 ≡ replicate 33 Silent ++ (stx_0 ++ (replicate 21 Silent ++ stx_0))) × (behind_status 0x7F ≡ replicate 33 Silent ++ (stx_0 ++ replicate 31 Silent))
unfolding all_heard each behind_status master_sents master_tick requested requested_up_to master_takes master_sends taken taken_data silent_inside at_idle at_preamble at_first at_address at_expansion at_command at_count at_data at_check frame_bytes preamble_bytes body_bytes protected_bytes header_bytes xor_from delimiter_of stored when◌then◌else◌
bit_seven = (refl, refl)

-- characters of which the first is taken in tick 1, without a silent tick before, are passed over: a broken frame, RT1 behind it
pub passed_over : ticks_before (master_sents 255 (master true) (asks ∷ (all_heard (short_ack false false) ++ replicate 40 (hears Silence)))) ≡ 45
unfolding ticks_before all_heard master_sents master_tick requested requested_up_to master_takes master_sends taken taken_data silent_inside at_idle at_preamble at_first at_address at_expansion at_command at_count at_data at_check frame_bytes preamble_bytes body_bytes protected_bytes header_bytes xor_from delimiter_of stored when◌then◌else◌
passed_over = refl

-- behind the STX of ticks 33 to 42 a broken frame in ticks 44 and 45 fails the attempt, and RT1 behind it comes the next
pub broken_fails : master_sents 255 (master true) (asks ∷ (replicate 44 (hears Silence) ++ (all_heard (0xFF ∷ 0x55 ∷ []) ++ replicate 42 (hears Silence)))) ≡ replicate 33 Silent ++ (stx_0 ++ (replicate 36 Silent ++ stx_0))
unfolding all_heard each master_sents master_tick requested requested_up_to master_takes master_sends taken taken_data silent_inside at_idle at_preamble at_first at_address at_expansion at_command at_count at_data at_check frame_bytes preamble_bytes body_bytes protected_bytes header_bytes xor_from delimiter_of stored when◌then◌else◌
broken_fails = refl

-- a broadcast of command 3, 14 characters, is sent once
pub broadcast_once : master_sents 255 (master true) (record { heard = Silence; call = requests (record { preamble = 5; revision = 7; long = true; address = 0; command = 3 }) [] } ∷ replicate 199 (hears Silence))
    ≡ replicate 33 Silent ++ (each (0xFF ∷ 0xFF ∷ 0xFF ∷ 0xFF ∷ 0xFF ∷ 0x82 ∷ 0x80 ∷ 0x00 ∷ 0x00 ∷ 0x00 ∷ 0x00 ∷ 0x03 ∷ 0x00 ∷ 0x01 ∷ []) ++ replicate 153 Silent)
unfolding each master_sents master_tick requested requested_up_to master_takes master_sends taken taken_data silent_inside frame_bytes preamble_bytes body_bytes protected_bytes header_bytes xor_from stored when◌then◌else◌
broadcast_once = refl

-- ---- a device with polling address 0 and unique address 2: what it sends

abbrev pub takes : Heard → DeviceInput
takes heard = record { heard = heard; call = no_call }

abbrev pub calls : DeviceCall → DeviceInput
calls call = record { heard = Silence; call = call }

unfoldable pub all_taken : List ℕ → List DeviceInput
all_taken [] = []
all_taken (c ∷ cs) = takes (Character c) ∷ all_taken cs

-- tick 0 and 1, and the preamble of what it takes from tick 2 on
abbrev pub lead : List DeviceInput
lead = takes Silence ∷ takes Silence ∷ replicate 5 (takes (Character 0xFF))

abbrev pub sent : List DeviceInput → List Sent
sent inputs = device_sents 255 device (lead ++ inputs)

-- the STX's last character is on the line in tick T = 10, and is taken in tick 11
abbrev pub Errors : Type 0
Errors =
    -- a wrong check byte: the ACK of 12 characters begins at T+2, with 0x88 and 0
    (sent (all_taken (0x02 ∷ 0x80 ∷ 0x00 ∷ 0x00 ∷ 0x83 ∷ []) ++ replicate 14 (takes Silence))
    ≡ replicate 12 Silent ++ (each (0xFF ∷ 0xFF ∷ 0xFF ∷ 0xFF ∷ 0xFF ∷ 0x06 ∷ 0x80 ∷ 0x00 ∷ 0x02 ∷ 0x88 ∷ 0x00 ∷ 0x0C ∷ []) ++ replicate 2 Silent)) ×
    -- parity in the command and overrun in the check byte: 0xE0
    (sent (takes (Character 0x02) ∷ takes (Character 0x80) ∷ takes (Damaged 0x00 Parity) ∷ takes (Character 0x00) ∷ takes (Damaged 0x82 Overrun) ∷ replicate 14 (takes Silence))
    ≡ replicate 12 Silent ++ (each (0xFF ∷ 0xFF ∷ 0xFF ∷ 0xFF ∷ 0xFF ∷ 0x06 ∷ 0x80 ∷ 0x00 ∷ 0x02 ∷ 0xE0 ∷ 0x00 ∷ 0x64 ∷ []) ++ replicate 2 Silent)) ×
    -- damage in the address: no answer
    (sent (takes (Character 0x02) ∷ takes (Damaged 0x80 Framing) ∷ takes (Character 0x00) ∷ takes (Character 0x00) ∷ takes (Character 0x82) ∷ replicate 40 (takes Silence)) ≡ replicate 52 Silent) ×
    -- another polling address: no answer
    (sent (all_taken (0x02 ∷ 0x81 ∷ 0x00 ∷ 0x00 ∷ 0x82 ∷ []) ++ replicate 40 (takes Silence)) ≡ replicate 52 Silent) ×
    -- a character at T+1 drops this answer
    (sent (all_taken (0x02 ∷ 0x80 ∷ 0x00 ∷ 0x00 ∷ 0x83 ∷ 0x55 ∷ []) ++ replicate 40 (takes Silence)) ≡ replicate 53 Silent)

pub errors : Errors
unfolding each all_taken device_sents device_tick device_takes device_sends taken taken_data silent_inside at_idle at_preamble at_first at_address at_expansion at_command at_count at_data at_check write_buffer write_answer frame_bytes preamble_bytes body_bytes protected_bytes header_bytes xor_from delimiter_of stored when◌then◌else◌
errors = (refl, refl, refl, refl, refl)

-- M3's frame
abbrev pub ack_0 : List Sent
ack_0 = each (0xFF ∷ 0xFF ∷ 0xFF ∷ 0xFF ∷ 0xFF ∷ 0x06 ∷ 0x80 ∷ 0x00 ∷ 0x02 ∷ 0x00 ∷ 0x00 ∷ 0x84 ∷ [])

abbrev pub stx_bytes : List ℕ
stx_bytes = 0x02 ∷ 0x80 ∷ 0x00 ∷ 0x00 ∷ 0x82 ∷ []

abbrev pub zeros : DeviceCall
zeros = gives_answer Same (0 ∷ 0 ∷ [])

abbrev pub Answers : Type 0
Answers =
    -- an answer at T+1 begins at T+2
    (sent (all_taken (0x02 ∷ 0x80 ∷ 0x00 ∷ 0x00 ∷ []) ++ (record { heard = Character 0x82; call = zeros } ∷ replicate 13 (takes Silence))) ≡ replicate 12 Silent ++ (ack_0 ++ replicate 1 Silent)) ×
    -- one at T+2 and one at T+28 in their own tick
    (sent (all_taken stx_bytes ++ (calls zeros ∷ replicate 12 (takes Silence))) ≡ replicate 12 Silent ++ (ack_0 ++ replicate 1 Silent)) ×
    (sent (all_taken stx_bytes ++ (replicate 26 (takes Silence) ++ (calls zeros ∷ replicate 12 (takes Silence)))) ≡ replicate 38 Silent ++ (ack_0 ++ replicate 1 Silent)) ×
    -- a character before drops the request
    (sent (all_taken stx_bytes ++ (takes Silence ∷ takes (Character 0x55) ∷ calls zeros ∷ replicate 12 (takes Silence))) ≡ replicate 27 Silent) ×
    -- command 3 to its polling address, a broadcast of command 3, and expansion bytes: no answer
    (sent (all_taken (0x02 ∷ 0x80 ∷ 0x03 ∷ 0x00 ∷ 0x81 ∷ []) ++ (calls zeros ∷ replicate 12 (takes Silence))) ≡ replicate 25 Silent) ×
    (sent (all_taken (0x82 ∷ 0x80 ∷ 0x00 ∷ 0x00 ∷ 0x00 ∷ 0x00 ∷ 0x03 ∷ 0x00 ∷ 0x01 ∷ []) ++ (calls zeros ∷ replicate 12 (takes Silence))) ≡ replicate 29 Silent) ×
    (sent (all_taken (0x22 ∷ 0x80 ∷ 0x00 ∷ 0x00 ∷ 0x00 ∷ 0xA2 ∷ []) ++ (calls zeros ∷ replicate 12 (takes Silence))) ≡ replicate 26 Silent) ×
    -- behind its own ACK, in ticks 12 to 23, it passes over a request without a silent tick before it
    (sent (all_taken stx_bytes ++ (calls zeros ∷ (replicate 12 (takes Silence) ++ (replicate 5 (takes (Character 0xFF)) ++ (all_taken stx_bytes ++ (calls zeros ∷ replicate 12 (takes Silence)))))))
    ≡ replicate 12 Silent ++ (ack_0 ++ replicate 24 Silent))

pub answers : Answers
unfolding each all_taken device_sents device_tick device_takes device_sends answered taken taken_data silent_inside at_idle at_preamble at_first at_address at_expansion at_command at_count at_data at_check write_buffer write_answer frame_bytes preamble_bytes body_bytes protected_bytes header_bytes xor_from delimiter_of stored when◌then◌else◌
answers = (refl, refl, refl, refl, refl, refl, refl, refl)

-- the content is given in tick 0, a request of command 3 for device 2 is taken in ticks 2 to 15, and the answer that turns burst on is given at T+2, in tick 16: an ACK of 16 characters, and a BACK directly behind it up to tick 47
abbrev pub turned_on : List DeviceInput
turned_on =
    calls (gives_content 3 (7 ∷ 8 ∷ [])) ∷ takes Silence ∷
    (all_taken (0xFF ∷ 0xFF ∷ 0xFF ∷ 0xFF ∷ 0xFF ∷ 0x82 ∷ 0x80 ∷ 0x00 ∷ 0x00 ∷ 0x00 ∷ 0x02 ∷ 0x03 ∷ 0x00 ∷ 0x03 ∷ []) ++ (calls (gives_answer On (0 ∷ 0 ∷ [])) ∷ []))

-- The ACK has the burst flag. The BACK is for the primary, and has the content that was given before its first character though another is given in tick 40. RT2 behind it, in tick 56, comes one for the secondary with the new content. A request of the secondary in ticks 73 to 86 is answered in tick 88 with burst off: the ACK has no flag, and no BACK follows.
pub bursts : device_sents 255 device
    (turned_on ++ (replicate 23 (takes Silence) ++ (calls (gives_content 3 (9 ∷ 9 ∷ [])) ∷ (replicate 33 (takes Silence) ++
    (all_taken (0xFF ∷ 0xFF ∷ 0xFF ∷ 0xFF ∷ 0xFF ∷ 0x82 ∷ 0x00 ∷ 0x00 ∷ 0x00 ∷ 0x00 ∷ 0x02 ∷ 0x03 ∷ 0x00 ∷ 0x83 ∷ []) ++
    (calls (gives_answer Off (0 ∷ 0 ∷ [])) ∷ replicate 95 (takes Silence)))))))
    ≡ replicate 16 Silent ++
    (each (0xFF ∷ 0xFF ∷ 0xFF ∷ 0xFF ∷ 0xFF ∷ 0x86 ∷ 0xC0 ∷ 0x00 ∷ 0x00 ∷ 0x00 ∷ 0x02 ∷ 0x03 ∷ 0x02 ∷ 0x00 ∷ 0x00 ∷ 0x45 ∷ []) ++
    (each (0xFF ∷ 0xFF ∷ 0xFF ∷ 0xFF ∷ 0xFF ∷ 0x81 ∷ 0xC0 ∷ 0x00 ∷ 0x00 ∷ 0x00 ∷ 0x02 ∷ 0x03 ∷ 0x02 ∷ 0x07 ∷ 0x08 ∷ 0x4D ∷ []) ++
    (replicate 8 Silent ++
    (each (0xFF ∷ 0xFF ∷ 0xFF ∷ 0xFF ∷ 0xFF ∷ 0x81 ∷ 0x40 ∷ 0x00 ∷ 0x00 ∷ 0x00 ∷ 0x02 ∷ 0x03 ∷ 0x02 ∷ 0x09 ∷ 0x09 ∷ 0xC2 ∷ []) ++
    (replicate 16 Silent ++
    (each (0xFF ∷ 0xFF ∷ 0xFF ∷ 0xFF ∷ 0xFF ∷ 0x86 ∷ 0x00 ∷ 0x00 ∷ 0x00 ∷ 0x00 ∷ 0x02 ∷ 0x03 ∷ 0x02 ∷ 0x00 ∷ 0x00 ∷ 0x85 ∷ []) ++
    replicate 80 Silent))))))
unfolding each all_taken device_sents device_tick device_takes device_sends answered content_given taken taken_data silent_inside at_idle at_preamble at_first at_address at_expansion at_command at_count at_data at_check write_buffer write_answer frame_bytes preamble_bytes body_bytes protected_bytes header_bytes xor_from delimiter_of stored when◌then◌else◌
bursts = refl

-- the tick of its next BACK, where these bytes stand on the line from tick 49 on
unfoldable pub next_back : List ℕ → ℕ
next_back bytes = 48 + ticks_before (drop 48 (device_sents 255 device (turned_on ++ (replicate 33 (takes Silence) ++ (all_taken bytes ++ replicate 40 (takes Silence))))))

-- nothing: RT2 behind tick 47. Another's ACK, of 12 characters: timer 1 behind tick 60. Behind tick 58 of an STX, tick 60 of a damaged ACK, tick 64 of another's BACK and tick 50 of a broken frame: RT1 primary
pub due_backs : next_back [] ∷ next_back (short_ack true false) ∷ next_back a_request ∷ next_back (wrong (short_ack true false)) ∷ next_back (a_back true) ∷ next_back (0xFF ∷ 0x55 ∷ []) ∷ [] ≡ 56 ∷ 62 ∷ 92 ∷ 94 ∷ 98 ∷ 84 ∷ []
unfolding wrong ticks_before next_back all_taken device_sents device_tick device_takes device_sends answered content_given taken taken_data silent_inside at_idle at_preamble at_first at_address at_expansion at_command at_count at_data at_check write_buffer write_answer frame_bytes preamble_bytes body_bytes protected_bytes header_bytes xor_from delimiter_of stored when◌then◌else◌
due_backs = refl

-- an answer at T+1, in tick 15, that turns burst on is lost with its request, which a character drops: the ACK to the next request has no burst flag, and no BACK follows
pub wish_lost : device_sents 255 device
    (calls (gives_content 3 (7 ∷ 8 ∷ [])) ∷ takes Silence ∷
    (all_taken (0xFF ∷ 0xFF ∷ 0xFF ∷ 0xFF ∷ 0xFF ∷ 0x82 ∷ 0x80 ∷ 0x00 ∷ 0x00 ∷ 0x00 ∷ 0x02 ∷ 0x03 ∷ 0x00 ∷ []) ++
    (record { heard = Character 0x03; call = gives_answer On (0 ∷ 0 ∷ []) } ∷ takes (Character 0x55) ∷ takes Silence ∷
    (replicate 5 (takes (Character 0xFF)) ++ (all_taken stx_bytes ++ (calls zeros ∷ replicate 60 (takes Silence)))))))
    ≡ replicate 28 Silent ++ (ack_0 ++ replicate 49 Silent)
unfolding each all_taken device_sents device_tick device_takes device_sends answered content_given taken taken_data silent_inside at_idle at_preamble at_first at_address at_expansion at_command at_count at_data at_check write_buffer write_answer frame_bytes preamble_bytes body_bytes protected_bytes header_bytes xor_from delimiter_of stored when◌then◌else◌
wish_lost = refl
