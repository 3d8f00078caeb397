-- A device with polling address 0 and unique address 2, and command 11, computed and held against characters that were worked out by hand from document 02, item 6: what TagAnswers.antt claims is met. FSK, preamble 5.
use Prim.Native.Nat.{ℕ}
use mathlib.Core.Path.{◌≡◌, refl}
use mathlib.Core.Bool.{true, false}
use mathlib.Core.List.{List, [], ◌∷◌, ◌++◌}
use lib.ListN.{replicate, drop}
use Rattle.base.specs.Choice.{when◌then◌else◌}
use Rattle.base.specs.Store.{stored}
use Rattle.frame.specs.Check.{xor_from}
use Rattle.frame.specs.Delimiter.{stx, delimiter_of}
use Rattle.frame.specs.Frame.{frame_bytes, preamble_bytes, body_bytes, protected_bytes, header_bytes}
use Rattle.frame.specs.Write.{write_buffer, write_answer}
use Rattle.line.specs.Gaps.{is_sound}
use Rattle.line.specs.Reader.{taken, taken_data, silent_inside, at_idle, at_preamble, at_first, at_address, at_expansion, at_command, at_count, at_data, at_check}
use Rattle.line.specs.declared.Heard.TheVariants.{Silence, Character}
use Rattle.turns.specs.Device.{device_takes, device_sends, answered, content_given}
use Rattle.turns.specs.Link.{gives_answer, gives_content, DeviceSide, device_tick}
use Rattle.turns.specs.Ledgers.{blank, told}
use Rattle.turns.specs.Bursts.{DeviceInput}
use Rattle.turns.specs.Gaps.{device_sents}
use Rattle.turns.specs.Settled.{device}
use Rattle.turns.specs.Tags.{command11, HearsWhole, device_after, answer_in, device_ledger}
use Rattle.turns.specs.declared.CallResult.TheVariants.{Taken, Refused}
use Rattle.turns.specs.declared.DeviceTold.{DeviceTold}
use Rattle.turns.specs.declared.Sent.TheVariants.{Silent}
use Rattle.turns.specs.declared.Wish.TheVariants.{Same, On}
use Rattle.turns.proofs.Scenes.{each, takes, calls, all_taken, lead, turned_on}

-- ---- told, and answered up to T+28

-- the primary's command 11 by broadcast, but for its check byte 0x09
unfoldable pub before_check : DeviceSide
before_check = device_after 255 device (lead ++ all_taken (0x82 ∷ 0x80 ∷ 0x00 ∷ 0x00 ∷ 0x00 ∷ 0x00 ∷ 0x0B ∷ 0x00 ∷ []))

pub hears_tag : HearsWhole before_check (Character 0x09) (record { header = command11 stx true false 0; expansion = 0; count = 0 })
unfolding before_check device_after all_taken device_tick device_takes device_sends taken taken_data silent_inside at_idle at_preamble at_first at_address at_expansion at_command at_count at_data at_check xor_from delimiter_of stored when◌then◌else◌
hears_tag = record { hears = refl; character = is_sound; whole = refl; plain = refl }

pub tag_times : answer_in 255 before_check (Character 0x09) (0 ∷ 0 ∷ []) 0 ∷ answer_in 255 before_check (Character 0x09) (0 ∷ 0 ∷ []) 27 ∷ answer_in 255 before_check (Character 0x09) (0 ∷ 0 ∷ []) 28 ∷ []
    ≡ Taken ∷ Taken ∷ Refused 8 ∷ []
unfolding answer_in before_check device_after all_taken device_tick device_takes device_sends answered taken taken_data silent_inside at_idle at_preamble at_first at_address at_expansion at_command at_count at_data at_check write_buffer write_answer frame_bytes preamble_bytes body_bytes protected_bytes header_bytes xor_from delimiter_of stored when◌then◌else◌
tag_times = refl

-- ---- a device that bursts, and the secondary's command 11 by broadcast

-- Burst is turned on by the ACK of ticks 16 to 31, and BACKs follow in ticks 32 to 47 and 56 to 71. The STX stands on the line in ticks 73 to 86, and is told in tick 87.
unfoldable pub searched : List DeviceInput
searched =
    turned_on ++ (replicate 57 (takes Silence) ++
    all_taken (0xFF ∷ 0xFF ∷ 0xFF ∷ 0xFF ∷ 0xFF ∷ 0x82 ∷ 0x00 ∷ 0x00 ∷ 0x00 ∷ 0x00 ∷ 0x00 ∷ 0x0B ∷ 0x00 ∷ 0x89 ∷ []))

-- the premises of `tag_answered`
pub is_searched :
    (device_ledger 255 blank device searched ≡ told (command11 stx false false 0)) ×
    ((device_tick 255 (device_after 255 device searched) Silence (gives_answer Same (0 ∷ 0 ∷ []))).told ≡ DeviceTold.Nothing) ×
    ((device_tick 255 (device_after 255 device searched) Silence (gives_answer Same (0 ∷ 0 ∷ []))).result ≡ Taken) ×
    ((device_after 255 device searched).device.burst ≡ true)
unfolding device_ledger searched device_after all_taken device_tick device_takes device_sends answered content_given taken taken_data silent_inside at_idle at_preamble at_first at_address at_expansion at_command at_count at_data at_check write_buffer write_answer frame_bytes preamble_bytes body_bytes protected_bytes header_bytes xor_from delimiter_of stored when◌then◌else◌
is_searched = (refl, refl, refl, refl)

-- The ACK of ticks 88 to 103 repeats the address bytes 0x00 with the burst flag, 0x40. Directly after it comes a BACK with the unique address.
pub tag_found : drop 72 (device_sents 255 device (searched ++ (calls (gives_answer Same (0 ∷ 0 ∷ [])) ∷ replicate 33 (takes Silence))))
    ≡ replicate 16 Silent ++
    (each (0xFF ∷ 0xFF ∷ 0xFF ∷ 0xFF ∷ 0xFF ∷ 0x86 ∷ 0x40 ∷ 0x00 ∷ 0x00 ∷ 0x00 ∷ 0x00 ∷ 0x0B ∷ 0x02 ∷ 0x00 ∷ 0x00 ∷ 0xCF ∷ []) ++
    (each (0xFF ∷ 0xFF ∷ 0xFF ∷ 0xFF ∷ 0xFF ∷ 0x81 ∷ 0xC0 ∷ 0x00 ∷ 0x00 ∷ 0x00 ∷ 0x02 ∷ 0x03 ∷ 0x02 ∷ 0x07 ∷ 0x08 ∷ 0x4D ∷ []) ++
    replicate 2 Silent))
unfolding searched each all_taken device_sents device_tick device_takes device_sends answered content_given taken taken_data silent_inside at_idle at_preamble at_first at_address at_expansion at_command at_count at_data at_check write_buffer write_answer frame_bytes preamble_bytes body_bytes protected_bytes header_bytes xor_from delimiter_of stored when◌then◌else◌
tag_found = refl

-- ---- command 11 to its own address

-- the content in tick 0, and the primary's STX with these address bytes and this check byte, told in tick 15
unfoldable pub asked_at : ℕ → ℕ → List DeviceInput
asked_at address check =
    calls (gives_content 3 (7 ∷ 8 ∷ [])) ∷ takes Silence ∷
    all_taken (0xFF ∷ 0xFF ∷ 0xFF ∷ 0xFF ∷ 0xFF ∷ 0x82 ∷ 0x80 ∷ 0x00 ∷ 0x00 ∷ 0x00 ∷ address ∷ 0x0B ∷ 0x00 ∷ check ∷ [])

-- the premises of `own_wish`
pub is_asked :
    (device_ledger 255 blank device (asked_at 2 0x0B) ≡ told (command11 stx true false 2)) ×
    ((device_tick 255 (device_after 255 device (asked_at 2 0x0B)) Silence (gives_answer Same (0 ∷ 0 ∷ []))).result ≡ Taken) ×
    ((device_after 255 device (asked_at 2 0x0B)).device.content.given ≡ true)
unfolding device_ledger asked_at device_after all_taken device_tick device_takes device_sends answered content_given taken taken_data silent_inside at_idle at_preamble at_first at_address at_expansion at_command at_count at_data at_check write_buffer write_answer frame_bytes preamble_bytes body_bytes protected_bytes header_bytes xor_from delimiter_of stored when◌then◌else◌
is_asked = (refl, refl, refl)

-- the wish of an answer in tick 16 is taken, and the ACK has the burst flag; by broadcast it is refused with 10
pub wish_by_address :
    (device_sents 255 device (asked_at 2 0x0B ++ (calls (gives_answer On (0 ∷ 0 ∷ [])) ∷ replicate 15 (takes Silence)))
    ≡ replicate 16 Silent ++ each (0xFF ∷ 0xFF ∷ 0xFF ∷ 0xFF ∷ 0xFF ∷ 0x86 ∷ 0xC0 ∷ 0x00 ∷ 0x00 ∷ 0x00 ∷ 0x02 ∷ 0x0B ∷ 0x02 ∷ 0x00 ∷ 0x00 ∷ 0x4D ∷ [])) ×
    ((device_tick 255 (device_after 255 device (asked_at 0 0x09)) Silence (gives_answer On (0 ∷ 0 ∷ []))).result ≡ Refused 10)
unfolding asked_at each device_after all_taken device_sents device_tick device_takes device_sends answered content_given taken taken_data silent_inside at_idle at_preamble at_first at_address at_expansion at_command at_count at_data at_check write_buffer write_answer frame_bytes preamble_bytes body_bytes protected_bytes header_bytes xor_from delimiter_of stored when◌then◌else◌
wish_by_address = (refl, refl)
