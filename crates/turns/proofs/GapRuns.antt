-- Runs that show what Gaps.antt and NoGaps.antt claim, computed: from the start to a frame that is cut behind its first character, and on to what is sent behind it; an ACK that a master awaits, with a silent tick in it and with two; and a request after a frame that was cut. 1 stands for a tick in which a character is sent.
use Prim.Native.Nat.{ℕ}
use mathlib.Core.Path.{◌≡◌, refl}
use mathlib.Core.Bool.{true, false}
use mathlib.Core.List.{List, [], ◌∷◌, ◌++◌}
use lib.ListN.{replicate, take, drop}
use Rattle.base.specs.Choice.{when◌then◌else◌}
use Rattle.base.specs.Store.{stored}
use Rattle.frame.specs.Check.{xor_from}
use Rattle.frame.specs.Delimiter.{stx, ack, back, delimiter_of}
use Rattle.frame.specs.Frame.{frame_bytes, preamble_bytes, body_bytes, protected_bytes, header_bytes}
use Rattle.frame.specs.Write.{write_buffer, write_answer}
use Rattle.line.specs.Profile.{fsk_profile}
use Rattle.line.specs.Gaps.{is_sound}
use Rattle.line.specs.Reader.{taken, taken_data, silent_inside, at_idle, at_preamble, at_first, at_address, at_expansion, at_command, at_count, at_data, at_check}
use Rattle.line.specs.declared.Heard.{Heard}
use Rattle.line.specs.declared.Heard.TheVariants.{Silence, Character}
use Rattle.turns.specs.Master.{fresh_master, requested, requested_up_to, master_takes, master_sends}
use Rattle.turns.specs.Device.{fresh_device, device_takes, device_sends, answered, content_given}
use Rattle.turns.specs.Link.{MasterCall, no_request, requests, no_call, gives_answer, gives_content, MasterSide, DeviceSide, master_tick, device_tick}
use Rattle.turns.specs.Run.{count}
use Rattle.turns.specs.Told.{master_tells}
use Rattle.turns.specs.Bursts.{DeviceInput}
use Rattle.turns.specs.Gaps.{MasterInput, master_sents, master_results, master_silence, device_sents, InsideFrame, now, later, ToSend, message_waits, ToBegin, request_taken}
use Rattle.turns.specs.declared.Sent.{Sent}
use Rattle.turns.specs.declared.Wish.TheVariants.{On}

unfoldable pub marks : List Sent → List ℕ
marks [] = []
marks (s ∷ ss) = count s ∷ marks ss

-- ---- a master, FSK: RT1 33 for the primary, the quiet time 2×33

unfoldable pub primary : MasterSide
primary = record { master = fresh_master fsk_profile true 3; frame = replicate 284 0; bytes = replicate 255 0 }

unfoldable pub hears : Heard → MasterInput
hears heard = record { heard = heard; call = no_request }

-- in tick 0 its host asks for a short command 0, which is an STX of 10 characters
unfoldable pub asks : MasterInput
asks = record { heard = Silence; call = requests (record { preamble = 5; revision = 7; long = false; address = 0; command = 0 }) [] }

-- it takes a lone 0xFF in tick 2, so T is 1: the STX begins in tick 1 + 33 + 1
pub cut_clear : marks (master_sents 255 primary (asks ∷ hears Silence ∷ hears (Character 0xFF) ∷ replicate 43 (hears Silence))) ≡ replicate 35 0 ++ (replicate 10 1 ++ (0 ∷ []))
unfolding marks primary hears asks master_sents master_tick requested requested_up_to master_takes master_sends taken taken_data silent_inside at_idle at_preamble at_first at_address at_expansion at_command at_count at_data at_check frame_bytes preamble_bytes body_bytes protected_bytes header_bytes xor_from delimiter_of stored when◌then◌else◌
cut_clear = refl

-- behind tick 1 it is as the theorem asks
unfoldable pub waiting : MasterSide
waiting = (master_tick 255 (master_tick 255 primary Silence asks.call).side Silence no_request).side

pub waiting_cut : InsideFrame (Character 0xFF) waiting.master.deaf waiting.master.receiver × ToSend waiting.master
unfolding waiting primary asks master_tick requested requested_up_to master_takes master_sends taken silent_inside at_idle stored when◌then◌else◌
waiting_cut = (record { hears = refl; character = is_sound; inside = refl }, message_waits refl)

-- a free one, whose host asks so many ticks after the lone 0xFF
unfoldable pub free_cut : ℕ → ℕ → List MasterInput
free_cut n m = hears Silence ∷ hears Silence ∷ hears (Character 0xFF) ∷ (replicate n (hears Silence) ++ (asks ∷ replicate m (hears Silence)))

-- asked in tick 13, and in tick 35, in which the window opens: the STX begins in tick 35
pub cut_free : marks (master_sents 255 primary (free_cut 10 32)) ≡ replicate 35 0 ++ (replicate 10 1 ++ (0 ∷ []))
unfolding marks primary hears asks free_cut master_sents master_tick requested requested_up_to master_takes master_sends taken taken_data silent_inside at_idle at_preamble at_first at_address at_expansion at_command at_count at_data at_check frame_bytes preamble_bytes body_bytes protected_bytes header_bytes xor_from delimiter_of stored when◌then◌else◌
cut_free = refl

pub cut_free_at_window : marks (master_sents 255 primary (free_cut 32 10)) ≡ replicate 35 0 ++ (replicate 10 1 ++ (0 ∷ []))
unfolding marks primary hears asks free_cut master_sents master_tick requested requested_up_to master_takes master_sends taken taken_data silent_inside at_idle at_preamble at_first at_address at_expansion at_command at_count at_data at_check frame_bytes preamble_bytes body_bytes protected_bytes header_bytes xor_from delimiter_of stored when◌then◌else◌
cut_free_at_window = refl

-- after tick 1 it is as the theorem asks, with a request that is taken in tick 4
unfoldable pub free : MasterSide
free = (master_tick 255 (master_tick 255 primary Silence no_request).side Silence no_request).side

pub free_cut_lem : (calls : List MasterCall) → InsideFrame (Character 0xFF) free.master.deaf free.master.receiver × ToBegin 255 free (Character 0xFF) no_request (no_request ∷ asks.call ∷ calls)
unfolding free primary asks master_results master_silence master_tick requested requested_up_to master_takes master_sends taken silent_inside at_idle at_preamble stored when◌then◌else◌
free_cut_lem calls = (record { hears = refl; character = is_sound; inside = refl }, request_taken refl (later (later now)))

-- a BACK for the primary, in ticks 2 to 17, sets BURST
unfoldable pub each : List ℕ → List MasterInput
each [] = []
each (c ∷ cs) = hears (Character c) ∷ each cs

unfoldable pub a_back : List ℕ
a_back = frame_bytes 5 (record { kind = back; long = true; primary = true; burst = true; address = 2; command = 3 }) (0 ∷ 0 ∷ [])

-- the 0xFF comes in tick 18, so T is 17: the STX begins in tick 17 + 66 + 1
pub cut_set : marks (master_sents 255 primary (asks ∷ hears Silence ∷ (each a_back ++ (hears (Character 0xFF) ∷ replicate 67 (hears Silence))))) ≡ replicate 84 0 ++ (1 ∷ 1 ∷ [])
unfolding marks primary hears asks each a_back master_sents master_tick requested requested_up_to master_takes master_sends taken taken_data silent_inside at_idle at_preamble at_first at_address at_expansion at_command at_count at_data at_check frame_bytes preamble_bytes body_bytes protected_bytes header_bytes xor_from delimiter_of stored when◌then◌else◌
cut_set = refl

-- ---- an ACK that a master awaits

-- what its host is told in each tick, by its number: 1 is answered
unfoldable pub told : MasterSide → List MasterInput → List ℕ
told x [] = []
told x (i ∷ is) = (master_tells (master_tick 255 x i.heard i.call).told).number ∷ told (master_tick 255 x i.heard i.call).side is

-- its ACK, of 12 characters
unfoldable pub an_ack : List ℕ
an_ack = frame_bytes 5 (record { kind = ack; long = false; primary = true; burst = false; address = 0; command = 0 }) (0 ∷ 0 ∷ [])

-- asked in tick 0, its STX goes out in ticks 33 to 42, and it takes the ACK's first character in tick 45
unfoldable pub awaits : List MasterInput → List MasterInput
awaits answer = asks ∷ (replicate 44 (hears Silence) ++ answer)

-- with so many silent ticks behind its byte count
unfoldable pub dropped : ℕ → List MasterInput
dropped n = awaits (each (take 9 an_ack) ++ (replicate n (hears Silence) ++ each (drop 9 an_ack)))

-- whole, it is told in tick 56; with one silent tick in it, one tick later; with two, not at all
pub ack_whole : told primary (dropped 0) ≡ replicate 56 0 ++ (1 ∷ [])
unfolding told primary hears asks awaits dropped each an_ack master_tick requested requested_up_to master_takes master_sends taken taken_data silent_inside at_idle at_preamble at_first at_address at_expansion at_command at_count at_data at_check frame_bytes preamble_bytes body_bytes protected_bytes header_bytes xor_from delimiter_of stored when◌then◌else◌
ack_whole = refl

pub ack_with_gap : told primary (dropped 1) ≡ replicate 57 0 ++ (1 ∷ [])
unfolding told primary hears asks awaits dropped each an_ack master_tick requested requested_up_to master_takes master_sends taken taken_data silent_inside at_idle at_preamble at_first at_address at_expansion at_command at_count at_data at_check frame_bytes preamble_bytes body_bytes protected_bytes header_bytes xor_from delimiter_of stored when◌then◌else◌
ack_with_gap = refl

pub ack_broken : told primary (dropped 2) ≡ replicate 59 0
unfolding told primary hears asks awaits dropped each an_ack master_tick requested requested_up_to master_takes master_sends taken taken_data silent_inside at_idle at_preamble at_first at_address at_expansion at_command at_count at_data at_check frame_bytes preamble_bytes body_bytes protected_bytes header_bytes xor_from delimiter_of stored when◌then◌else◌
ack_broken = refl

-- ---- a master whose message a break ends, and which is asked after it

-- a broadcast, of 14 characters in ticks 33 to 46. It takes a lone 0xFF in tick 49, so T is 48
unfoldable pub broadcast_cut : List MasterInput
broadcast_cut =
    record { heard = Silence; call = requests (record { preamble = 5; revision = 7; long = true; address = 0; command = 3 }) [] }
    ∷ (replicate 48 (hears Silence) ++ (hears (Character 0xFF) ∷ (replicate 10 (hears Silence) ++ (asks ∷ replicate 31 (hears Silence)))))

-- reported as sent in tick 51; the request of tick 60 begins in tick 48 + 33 + 1
pub cut_broadcast : (told primary broadcast_cut ≡ replicate 51 0 ++ (3 ∷ replicate 40 0)) × (marks (master_sents 255 primary broadcast_cut) ≡ replicate 33 0 ++ (replicate 14 1 ++ (replicate 35 0 ++ replicate 10 1)))
unfolding marks told primary hears asks broadcast_cut master_sents master_tick requested requested_up_to master_takes master_sends taken taken_data silent_inside at_idle at_preamble at_first at_address at_expansion at_command at_count at_data at_check frame_bytes preamble_bytes body_bytes protected_bytes header_bytes xor_from delimiter_of stored when◌then◌else◌
cut_broadcast = (refl, refl)

-- a message whose ACK is cut after its first character in each attempt, in ticks 45, 90, 135 and 180, so that T is 179 in the end
unfoldable pub ack_cut : List MasterInput
ack_cut = replicate 44 (hears Silence) ++ (hears (Character 0xFF) ∷ [])

unfoldable pub given_up_cut : List MasterInput
given_up_cut = asks ∷ (ack_cut ++ (ack_cut ++ (ack_cut ++ (ack_cut ++ (replicate 9 (hears Silence) ++ (asks ∷ replicate 32 (hears Silence)))))))

unfoldable pub attempt : List ℕ
attempt = replicate 10 1 ++ replicate 35 0

-- given up in tick 182; the request of tick 190 begins in tick 179 + 33 + 1
pub cut_given_up : (told primary given_up_cut ≡ replicate 182 0 ++ (2 ∷ replicate 40 0)) × (marks (master_sents 255 primary given_up_cut) ≡ replicate 33 0 ++ (attempt ++ (attempt ++ (attempt ++ (attempt ++ replicate 10 1)))))
unfolding marks told primary hears asks ack_cut given_up_cut attempt master_sents master_tick requested requested_up_to master_takes master_sends taken taken_data silent_inside at_idle at_preamble at_first at_address at_expansion at_command at_count at_data at_check frame_bytes preamble_bytes body_bytes protected_bytes header_bytes xor_from delimiter_of stored when◌then◌else◌
cut_given_up = (refl, refl)

-- ---- a device, FSK: RT1 primary 33

unfoldable pub device : DeviceSide
device = record { device = fresh_device fsk_profile 5 0 2; frame = replicate 284 0; bytes = replicate 255 0; contents = replicate 255 0 }

unfoldable pub takes : Heard → DeviceInput
takes heard = record { heard = heard; call = no_call }

unfoldable pub each_taken : List ℕ → List DeviceInput
each_taken [] = []
each_taken (c ∷ cs) = takes (Character c) ∷ each_taken cs

-- a long command 3 for it, of 14 characters, in ticks 2 to 15
unfoldable pub a_request : List ℕ
a_request = frame_bytes 5 (record { kind = stx; long = true; primary = true; burst = false; address = 2; command = 3 }) []

-- its host gives burst content in tick 0, and in tick 16 an answer that turns burst on: ACK and BACK of 16 characters each, one directly behind the other. It takes a lone 0xFF in tick 50, so T is 49: the next BACK begins in tick 49 + 33 + 1
pub cut_bursting : marks (device_sents 255 device
    (record { heard = Silence; call = gives_content 3 (0 ∷ 0 ∷ []) } ∷ takes Silence ∷ (each_taken a_request ++ (record { heard = Silence; call = gives_answer On (0 ∷ 0 ∷ []) } ∷ (replicate 33 (takes Silence) ++ (takes (Character 0xFF) ∷ replicate 34 (takes Silence)))))))
    ≡ replicate 16 0 ++ (replicate 32 1 ++ (replicate 35 0 ++ (1 ∷ 1 ∷ [])))
unfolding marks device takes each_taken a_request device_sents device_tick device_takes device_sends answered content_given taken taken_data silent_inside at_idle at_preamble at_first at_address at_expansion at_command at_count at_data at_check write_buffer write_answer frame_bytes preamble_bytes body_bytes protected_bytes header_bytes xor_from delimiter_of stored when◌then◌else◌
cut_bursting = refl
