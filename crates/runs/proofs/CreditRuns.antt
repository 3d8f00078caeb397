-- The credited answer in runs, computed: a report with the ledger that it rests on; a message that is sent again, which ledgers closed at reports alone would cover with the answer to its first STX; and a message with the header of one that was given up, which ledgers closed where a master sends and at answers alone would cover with the old answer before its STX is out.
use Prim.Native.Nat.{ℕ}
use native.Mathlib.Omega.{arith}
use mathlib.Core.Path.{◌≡◌, refl}
use mathlib.Core.Bool.{true, false}
use mathlib.Core.List.{List, [], ◌∷◌, ◌++◌}
use lib.ListN.{replicate, take}
use Rattle.base.specs.Choice.{when◌then◌else◌}
use Rattle.base.specs.Store.{stored}
use Rattle.frame.specs.Check.{xor_from}
use Rattle.frame.specs.Delimiter.{stx, ack, delimiter_of}
use Rattle.frame.specs.Frame.{frame_bytes, preamble_bytes, body_bytes, protected_bytes, header_bytes}
use Rattle.frame.specs.Write.{write_buffer, write_answer}
use Rattle.frame.specs.declared.Header.{Header}
use Rattle.line.specs.Reader.{taken, taken_data, at_idle, at_preamble, at_first, at_address, at_expansion, at_command, at_count, at_data, at_check}
use Rattle.turns.specs.Master.{requested, requested_up_to, master_takes, master_sends}
use Rattle.turns.specs.Device.{device_takes, device_sends, answered, content_given}
use Rattle.turns.specs.Link.{no_request, gives_answer, Link, LinkStep, Calls, master_tick, device_tick, device_ticks, sides, carried, link_tick, link_after}
use Rattle.runs.specs.Credit.{Ledger, blank, given, ledgers_after, blanks, closed, closed_by, closed_after, booked_by, none_asked, EachCredited}
use Rattle.turns.specs.declared.CallResult.{CallResult}
use Rattle.turns.specs.declared.MasterTold.{MasterTold}
use Rattle.turns.specs.declared.MasterTold.TheVariants.{Answered, GivenUp, BroadcastSent}
use Rattle.turns.specs.declared.Wish.TheVariants.{Same}
use Rattle.turns.proofs.Example.{quiet}
use Rattle.runs.proofs.Premises.{short, short_taken, ask, one_device, one_device_starts, lone, lone_finds}
use Rattle.runs.proofs.Credit.{credit_in_a_run}

-- ---- behind a list of ticks

unfoldable pub link_behind : ℕ → Link → List Calls → Link
link_behind limit l [] = l
link_behind limit l (c ∷ cs) = link_behind limit (link_after (link_tick limit l c)) cs

-- the ledgers, kept by a rule
unfoldable pub ledgers_behind : (Calls → LinkStep → List Ledger → List Ledger) → ℕ → List Ledger → Link → List Calls → List Ledger
ledgers_behind rule limit gs l [] = gs
ledgers_behind rule limit gs l (c ∷ cs) = ledgers_behind rule limit (rule c (link_tick limit l c) gs) (link_after (link_tick limit l c)) cs

-- closed at reports alone
abbrev pub reports_close : Calls → LinkStep → List Ledger → List Ledger
reports_close c s gs = ledgers_after c.for_devices s.for_devices (closed_by s.for_primary.told (closed_by s.for_secondary.told gs))

-- closed where a master sends, and at the reports of answers alone
abbrev pub answer_closes : MasterTold → List Ledger → List Ledger
answer_closes MasterTold.Nothing gs = gs
answer_closes (Answered w) gs = closed gs
answer_closes (GivenUp n) gs = gs
answer_closes BroadcastSent gs = gs

abbrev pub answers_close : Calls → LinkStep → List Ledger → List Ledger
answers_close c s gs =
    closed_after s.for_primary.sent
    (closed_after s.for_secondary.sent
    (ledgers_after c.for_devices s.for_devices (answer_closes s.for_primary.told (answer_closes s.for_secondary.told gs))))

unfoldable pub answers : List ℕ → Calls
answers put = record { for_primary = no_request; for_secondary = no_request; for_devices = gives_answer Same put ∷ [] }

-- the message of both runs: command 3 to the device with the unique address 2
abbrev pub asked : Header
asked = record { kind = stx; long = true; primary = true; burst = false; address = 2; command = 3 }

-- ---- a report

-- the STX goes out in ticks 4 to 17 and is told in tick 18; the ACK in ticks 19 to 35
unfoldable pub answered_run : List Calls
answered_run = ask 2 [] ∷ (replicate 18 quiet ++ (answers (0 ∷ 0 ∷ 7 ∷ []) ∷ replicate 16 quiet))

-- before tick 36 the ledger holds what the host gave
pub booked_answer : ledgers_behind booked_by 255 (blanks one_device.devices) one_device answered_run ≡ given asked (0 ∷ 0 ∷ 7 ∷ []) ∷ []
unfolding ledgers_behind ledgers_after blanks closed answered_run answers ask short one_device quiet link_tick device_ticks sides carried master_tick device_tick requested requested_up_to master_takes master_sends device_takes device_sends answered content_given taken taken_data at_idle at_preamble at_first at_address at_expansion at_command at_count at_data at_check write_buffer write_answer frame_bytes preamble_bytes body_bytes protected_bytes header_bytes xor_from delimiter_of stored when◌then◌else◌
booked_answer = refl

-- and in it the primary reports its message as answered
pub reported_answer : (link_tick 255 (link_behind 255 one_device answered_run) quiet).for_primary.told
    ≡ Answered (record { header = record { kind = ack; long = true; primary = true; burst = false; address = 2; command = 3 }; expansion = 0; count = 3 })
unfolding link_behind answered_run answers ask short one_device quiet link_tick device_ticks sides carried master_tick device_tick requested requested_up_to master_takes master_sends device_takes device_sends answered content_given taken taken_data at_idle at_preamble at_first at_address at_expansion at_command at_count at_data at_check write_buffer write_answer frame_bytes preamble_bytes body_bytes protected_bytes header_bytes xor_from delimiter_of stored when◌then◌else◌
reported_answer = refl

pub reported_data : take 3 (link_tick 255 (link_behind 255 one_device answered_run) quiet).for_primary.side.bytes ≡ 0 ∷ 0 ∷ 7 ∷ []
unfolding link_behind answered_run answers ask short one_device quiet link_tick device_ticks sides carried master_tick device_tick requested requested_up_to master_takes master_sends device_takes device_sends answered content_given taken taken_data at_idle at_preamble at_first at_address at_expansion at_command at_count at_data at_check write_buffer write_answer frame_bytes preamble_bytes body_bytes protected_bytes header_bytes xor_from delimiter_of stored when◌then◌else◌
reported_data = refl

-- the run meets the premises, so each report of it is credited
pub answered_credited : EachCredited 255 none_asked (blanks one_device.devices) one_device (answered_run ++ (quiet ∷ []))
unfolding one_device blanks
answered_credited =
    credit_in_a_run 255 (omega arith) (omega arith) short 3 one_device (answered_run ++ (quiet ∷ []))
    (record { made = short_taken; starts = one_device_starts; one_bursts = lone 255 one_device _ (answered_run ++ (quiet ∷ [])) refl; one_finds = lone_finds 255 _ one_device (answered_run ++ (quiet ∷ [])) (omega arith) })
    (omega arith) (omega arith)

-- ---- a message that is sent again

-- bit 7 of the first data byte fails the attempt
unfoldable pub failing : Calls
failing = answers (0x80 ∷ 0 ∷ [])

-- the first STX, from tick 4 on, is answered so; the second goes out from tick 37 on
unfoldable pub sent_again : List Calls
sent_again = ask 2 [] ∷ (replicate 18 quiet ++ (failing ∷ replicate 20 quiet))

-- while it goes out, ledgers that are closed at reports alone hold the answer to the first
pub first_stands : ledgers_behind reports_close 255 (blanks one_device.devices) one_device sent_again ≡ given asked (0x80 ∷ 0 ∷ []) ∷ []
unfolding ledgers_behind ledgers_after blanks closed sent_again failing answers ask short one_device quiet link_tick device_ticks sides carried master_tick device_tick requested requested_up_to master_takes master_sends device_takes device_sends answered content_given taken taken_data at_idle at_preamble at_first at_address at_expansion at_command at_count at_data at_check write_buffer write_answer frame_bytes preamble_bytes body_bytes protected_bytes header_bytes xor_from delimiter_of stored when◌then◌else◌
first_stands = refl

-- in the credit's ledgers nothing stands
pub first_closed : ledgers_behind booked_by 255 (blanks one_device.devices) one_device sent_again ≡ blank ∷ []
unfolding ledgers_behind ledgers_after blanks closed sent_again failing answers ask short one_device quiet link_tick device_ticks sides carried master_tick device_tick requested requested_up_to master_takes master_sends device_takes device_sends answered content_given taken taken_data at_idle at_preamble at_first at_address at_expansion at_command at_count at_data at_check write_buffer write_answer frame_bytes preamble_bytes body_bytes protected_bytes header_bytes xor_from delimiter_of stored when◌then◌else◌
first_closed = refl

-- ---- a message with the header of one that was given up

-- the four STX go out from ticks 4, 37, 70 and 103 on, each is answered so
unfoldable pub failed_run : List Calls
failed_run =
    ask 2 []
    ∷ (replicate 18 quiet
    ++ (failing
    ∷ (replicate 32 quiet
    ++ (failing
    ∷ (replicate 32 quiet
    ++ (failing
    ∷ (replicate 32 quiet
    ++ (failing
    ∷ replicate 15 quiet))))))))

-- in tick 134 it is given up
pub given_up : (link_tick 255 (link_behind 255 one_device failed_run) quiet).for_primary.told ≡ GivenUp 4
unfolding link_behind failed_run failing answers ask short one_device quiet link_tick device_ticks sides carried master_tick device_tick requested requested_up_to master_takes master_sends device_takes device_sends answered content_given taken taken_data at_idle at_preamble at_first at_address at_expansion at_command at_count at_data at_check write_buffer write_answer frame_bytes preamble_bytes body_bytes protected_bytes header_bytes xor_from delimiter_of stored when◌then◌else◌
given_up = refl

-- in tick 135 the host requests the same again, which is taken; its first STX goes out from tick 136 on
pub asked_again : (link_tick 255 (link_behind 255 one_device (failed_run ++ (quiet ∷ []))) (ask 2 [])).for_primary.result ≡ CallResult.Taken
unfolding link_behind failed_run failing answers ask short one_device quiet link_tick device_ticks sides carried master_tick device_tick requested requested_up_to master_takes master_sends device_takes device_sends answered content_given taken taken_data at_idle at_preamble at_first at_address at_expansion at_command at_count at_data at_check write_buffer write_answer frame_bytes preamble_bytes body_bytes protected_bytes header_bytes xor_from delimiter_of stored when◌then◌else◌
asked_again = refl

unfoldable pub taken_again : List Calls
taken_again = failed_run ++ (quiet ∷ (ask 2 [] ∷ []))

-- before it goes out, ledgers that are closed where a master sends and at answers alone hold the old answer, with the new message's header
pub stale_stands : ledgers_behind answers_close 255 (blanks one_device.devices) one_device taken_again ≡ given asked (0x80 ∷ 0 ∷ []) ∷ []
unfolding ledgers_behind ledgers_after blanks closed taken_again failed_run failing answers ask short one_device quiet link_tick device_ticks sides carried master_tick device_tick requested requested_up_to master_takes master_sends device_takes device_sends answered content_given taken taken_data at_idle at_preamble at_first at_address at_expansion at_command at_count at_data at_check write_buffer write_answer frame_bytes preamble_bytes body_bytes protected_bytes header_bytes xor_from delimiter_of stored when◌then◌else◌
stale_stands = refl

-- in the credit's ledgers nothing stands
pub stale_closed : ledgers_behind booked_by 255 (blanks one_device.devices) one_device taken_again ≡ blank ∷ []
unfolding ledgers_behind ledgers_after blanks closed taken_again failed_run failing answers ask short one_device quiet link_tick device_ticks sides carried master_tick device_tick requested requested_up_to master_takes master_sends device_takes device_sends answered content_given taken taken_data at_idle at_preamble at_first at_address at_expansion at_command at_count at_data at_check write_buffer write_answer frame_bytes preamble_bytes body_bytes protected_bytes header_bytes xor_from delimiter_of stored when◌then◌else◌
stale_closed = refl
