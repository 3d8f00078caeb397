-- The premises of the theorem: runs that meet them, one with a bursting device, and for two of them a run that breaks the claim without it. Runs with command 11 stand in TagRuns.
use Prim.Native.Nat.{ℕ, ◌+◌, ◌≤◌}
use native.Mathlib.Omega.{arith}
use mathlib.Core.Path.{◌≡◌, refl, sym, subst}
use mathlib.Core.Bool.{Bool, true, false}
use mathlib.Core.List.{List, [], ◌∷◌, ◌++◌}
use lib.ListN.{length, replicate, drop}
use Rattle.base.specs.Refusal.{accepted}
use Rattle.base.specs.Choice.{when◌then◌else◌}
use Rattle.base.specs.Store.{stored}
use Rattle.frame.specs.Check.{xor_from}
use Rattle.frame.specs.Delimiter.{delimiter_of}
use Rattle.frame.specs.Frame.{frame_bytes, preamble_bytes, body_bytes, protected_bytes, header_bytes}
use Rattle.frame.specs.Write.{write_buffer, write_answer}
use Rattle.line.specs.Profile.{fsk_profile, profile_made}
use Rattle.line.specs.Reader.{taken, taken_data, at_idle, at_preamble, at_first, at_address, at_expansion, at_command, at_count, at_data, at_check}
use Rattle.line.specs.declared.Heard.{Heard}
use Rattle.line.specs.declared.Heard.TheVariants.{Silence}
use Rattle.line.specs.declared.Profile.{Profile}
use Rattle.turns.specs.Master.{fresh_master, requested, requested_up_to, master_takes, master_sends}
use Rattle.turns.specs.Device.{fresh_device, device_takes, device_sends, answered, content_given}
use Rattle.turns.specs.Link.{no_request, requests, DeviceCall, no_call, gives_answer, gives_content, Link, LinkStep, Calls, DeviceSide, DeviceStep, master_tick, device_tick, device_ticks, sides, carried, link_tick, link_after, run}
use Rattle.turns.specs.Run.{none, and, Distinct, Sole, no_one, sole_and, DeviceStarts, Starts, device_senders, senders, EachTick, no_tick, tick_and, OneBursts, NoTwoSend}
use Rattle.turns.specs.Ledgers.{Ledger, found, finders, ledgers_after, blanks, OneFinds}
use Rattle.turns.specs.Ledgers as L
use Rattle.turns.specs.declared.Wish.TheVariants.{Same, On}
use Rattle.line.proofs.Profiles.{fsk_taken}
use Rattle.turns.proofs.Example as E
use Rattle.turns.proofs.Example.{fresh, quiet, asks, ticks}
use Rattle.turns.specs.Demand3.{BeginsWithin, due_within, longer_with_burst}
use Rattle.runs.proofs.NoTwoSend.{no_two_send}
use Rattle.runs.proofs.Wait.{run_length, wait}

-- ---- the worked run meets them

device_starts_lem : DeviceStarts fsk_profile (record { device = fresh_device fsk_profile 5 0 2; frame = replicate 284 0; bytes = replicate 255 0; contents = replicate 255 0 })
unfolding when◌then◌else◌ replicate length
device_starts_lem = record { preamble = 5; polling = 0; unique = 2; starts = refl; room = omega arith; content_room = omega arith }

pub fresh_starts : Starts fsk_profile 3 fresh
unfolding fresh when◌then◌else◌ replicate length
fresh_starts = record {
  primary = record { starts = refl; room = omega arith };
  secondary = record { starts = refl; room = omega arith };
  devices = and device_starts_lem none;
  distinct = Distinct.and none Distinct.none;
}

-- of one device at most one bursts
record OneSide (ss : List DeviceStep) : Type 0 where
  side : DeviceSide
  is : sides ss ≡ side ∷ []

one_side : (limit : ℕ) (h : Heard) (xs : List DeviceSide) (x : DeviceSide) (ds : List DeviceCall) → xs ≡ x ∷ [] → OneSide (device_ticks limit h xs ds)
unfolding sides device_ticks
one_side limit h xs x ds e = subst (λ (ys : List DeviceSide). OneSide (device_ticks limit h ys ds)) (sym e) (go ds)
  where
    go : (ds : List DeviceCall) → OneSide (device_ticks limit h (x ∷ []) ds)
    go [] = record { side = (device_tick limit x h no_call).side; is = refl }
    go (d ∷ ds) = record { side = (device_tick limit x h d).side; is = refl }

pub lone : (limit : ℕ) (l : Link) (x : DeviceSide) (cs : List Calls) → l.devices ≡ x ∷ [] → EachTick OneBursts (run limit l cs)
unfolding run link_tick
lone limit l x [] e = no_tick
lone limit l x (c ∷ cs) e =
    let o = one_side limit l.line l.devices x c.for_devices e in
    tick_and (subst Sole (sym o.is) (sole_and none no_one)) (lone limit (link_after (link_tick limit l c)) o.side cs o.is)

-- and of one host at most one answers
pub finders_most : (gs : List Ledger) → finders gs ≤ length gs
unfolding finders when◌then◌else◌
finders_most [] = omega arith
finders_most (g ∷ gs) = go (found g) (finders_most gs)
  where
    go : (b : Bool) → finders gs ≤ length gs → (when b then 1 else 0) + finders gs ≤ length (g ∷ gs)
    go true e = omega arith
    go false e = omega arith

pub ledgers_most : (cs : List DeviceCall) (ss : List DeviceStep) (gs : List Ledger) → length (ledgers_after cs ss gs) ≤ length gs
unfolding ledgers_after
ledgers_most cs [] gs = omega arith
ledgers_most cs (s ∷ ss) [] = omega arith
ledgers_most [] (s ∷ ss) (g ∷ gs) = omega (arith, ledgers_most [] ss gs)
ledgers_most (c ∷ cs) (s ∷ ss) (g ∷ gs) = omega (arith, ledgers_most cs ss gs)

pub lone_finds : (limit : ℕ) (gs : List Ledger) (l : Link) (cs : List Calls) → length gs ≤ 1 → OneFinds gs cs (run limit l cs)
unfolding run
lone_finds limit gs l [] e = L.no_tick
lone_finds limit gs l (c ∷ cs) e =
    let next = ledgers_after c.for_devices (link_tick limit l c).for_devices gs in
    let most : length next ≤ 1 = omega (arith, ledgers_most c.for_devices (link_tick limit l c).for_devices gs) in
    let few : finders next ≤ 1 = omega (arith, finders_most next) in
    L.tick_and few (lone_finds limit next (link_after (link_tick limit l c)) cs most)

-- so the worked run does, and no two send in it
pub worked_alone : EachTick NoTwoSend (run 255 fresh ticks)
unfolding fresh blanks
worked_alone = no_two_send 255 (omega arith) (omega arith) fsk_profile 3 fresh ticks (record { made = fsk_taken; starts = fresh_starts; one_bursts = lone 255 fresh _ ticks refl; one_finds = lone_finds 255 _ fresh ticks (omega arith) })

-- ---- both masters' messages go out while the device bursts

-- a profile with short timers, so that the run is short
unfoldable pub short : Profile
short = record { sto = 3; hold = 1; rt2 = 2; rt1p = 4; rt1s = 6 }

-- the primary asks the device with this unique address
unfoldable pub ask : ℕ → List DeviceCall → Calls
ask unique devices = record { for_primary = requests (record { preamble = 5; revision = 7; long = true; address = unique; command = 3 }) []; for_secondary = no_request; for_devices = devices }

unfoldable pub turn_on : DeviceCall
turn_on = gives_answer On (0 ∷ 0 ∷ [])

unfoldable pub content : DeviceCall
content = gives_content 3 (0 ∷ 0 ∷ [])

unfoldable pub one_device : Link
one_device = record {
  primary = record { master = fresh_master short true 3; frame = replicate 284 0; bytes = replicate 255 0 };
  secondary = record { master = fresh_master short false 3; frame = replicate 284 0; bytes = replicate 255 0 };
  devices = record { device = fresh_device short 5 0 2; frame = replicate 284 0; bytes = replicate 255 0; contents = replicate 255 0 } ∷ [];
  line = Silence;
}

-- both masters ask the device, which turns burst on with its first answer
pub both_ask : List Calls
both_ask =
    record {
      for_primary = requests (record { preamble = 5; revision = 7; long = true; address = 2; command = 3 }) [];
      for_secondary = requests (record { preamble = 5; revision = 7; long = true; address = 2; command = 3 }) [];
      for_devices = content ∷ [];
    }
    ∷ (replicate 18 quiet ++ (record { for_primary = no_request; for_secondary = no_request; for_devices = turn_on ∷ [] } ∷ replicate 46 quiet))

-- the primary sends in ticks 4 to 17, the device its ACK and a BACK from tick 19 to 50, the secondary from tick 52 on
pub both_go_out : E.senders (run 255 one_device both_ask) ≡ replicate 4 0 ++ (replicate 14 1 ++ (0 ∷ (replicate 32 4 ++ (0 ∷ replicate 14 2))))
unfolding E.senders E.devices_sent E.one short one_device both_ask turn_on content quiet run link_tick device_ticks sides carried master_tick device_tick requested requested_up_to master_takes master_sends device_takes device_sends answered content_given taken taken_data at_idle at_preamble at_first at_address at_expansion at_command at_count at_data at_check write_buffer write_answer frame_bytes preamble_bytes body_bytes protected_bytes header_bytes xor_from delimiter_of stored when◌then◌else◌
both_go_out = refl

short_starts : DeviceStarts short (record { device = fresh_device short 5 0 2; frame = replicate 284 0; bytes = replicate 255 0; contents = replicate 255 0 })
unfolding when◌then◌else◌ replicate length
short_starts = record { preamble = 5; polling = 0; unique = 2; starts = refl; room = omega arith; content_room = omega arith }

pub one_device_starts : Starts short 3 one_device
unfolding one_device when◌then◌else◌ replicate length
one_device_starts = record {
  primary = record { starts = refl; room = omega arith };
  secondary = record { starts = refl; room = omega arith };
  devices = and short_starts none;
  distinct = Distinct.and none Distinct.none;
}

pub short_taken : profile_made short ≡ accepted short
unfolding short when◌then◌else◌
short_taken = refl

pub one_device_alone : EachTick NoTwoSend (run 255 one_device both_ask)
unfolding one_device blanks
one_device_alone = no_two_send 255 (omega arith) (omega arith) short 3 one_device both_ask (record { made = short_taken; starts = one_device_starts; one_bursts = lone 255 one_device _ both_ask refl; one_finds = lone_finds 255 _ one_device both_ask (omega arith) })

-- ---- a list that is long enough for the wait to be claimed

-- with at most 2 data bytes a frame has 31 characters, and a message of tick 0 is due within 327 ticks, 134 of them for a device that bursts meanwhile
pub rest : List Calls
rest = replicate 340 quiet

pub asked_twice : Calls
asked_twice = record {
  for_primary = requests (record { preamble = 5; revision = 7; long = true; address = 2; command = 3 }) [];
  for_secondary = requests (record { preamble = 5; revision = 7; long = true; address = 2; command = 3 }) [];
  for_devices = content ∷ [];
}

pub secondary_begins : BeginsWithin false (due_within 2 short 3 0 + longer_with_burst 2 short) (run 2 one_device (asked_twice ∷ rest))
unfolding run rest asked_twice content quiet short one_device blanks link_tick master_tick requested requested_up_to master_takes master_sends when◌then◌else◌
secondary_begins =
    (wait 2 (omega arith) (omega arith) short 3 one_device (asked_twice ∷ rest) (record { made = short_taken; starts = one_device_starts; one_bursts = lone 2 one_device _ (asked_twice ∷ rest) refl; one_finds = lone_finds 2 _ one_device (asked_twice ∷ rest) (omega arith) }) false 0 _ _ refl refl).1
    (omega (arith, run_length 2 (link_after (link_tick 2 one_device asked_twice)) rest))

-- ---- two devices with one polling address: both answer the same STX

unfoldable pub alike : Link
alike = record {
  primary = record { master = fresh_master fsk_profile true 3; frame = replicate 284 0; bytes = replicate 255 0 };
  secondary = record { master = fresh_master fsk_profile false 3; frame = replicate 284 0; bytes = replicate 255 0 };
  devices = record { device = fresh_device fsk_profile 5 0 2; frame = replicate 284 0; bytes = replicate 255 0; contents = replicate 255 0 }
      ∷ (record { device = fresh_device fsk_profile 5 0 3; frame = replicate 284 0; bytes = replicate 255 0; contents = replicate 255 0 } ∷ []);
  line = Silence;
}

unfoldable pub both_reply : Calls
both_reply = record { for_primary = no_request; for_secondary = no_request; for_devices = gives_answer Same (0 ∷ 0 ∷ []) ∷ (gives_answer Same (0 ∷ 0 ∷ []) ∷ []) }

unfoldable pub counts : List LinkStep → List ℕ
counts [] = []
counts (s ∷ ss) = senders s ∷ counts ss

-- in tick 44 two send
pub two_answer : counts (run 255 alike (asks ∷ (replicate 43 quiet ++ (both_reply ∷ [])))) ≡ replicate 33 0 ++ (replicate 10 1 ++ (0 ∷ 2 ∷ []))
unfolding counts device_senders alike both_reply asks quiet run link_tick device_ticks sides carried master_tick device_tick requested requested_up_to master_takes master_sends device_takes device_sends answered content_given taken taken_data at_idle at_preamble at_first at_address at_expansion at_command at_count at_data at_check write_buffer write_answer frame_bytes preamble_bytes body_bytes protected_bytes header_bytes xor_from delimiter_of stored when◌then◌else◌
two_answer = refl

-- ---- two devices burst: behind an STX that nobody answers both begin a BACK

unfoldable pub two_devices : Link
two_devices = record {
  primary = record { master = fresh_master short true 3; frame = replicate 284 0; bytes = replicate 255 0 };
  secondary = record { master = fresh_master short false 3; frame = replicate 284 0; bytes = replicate 255 0 };
  devices = record { device = fresh_device short 5 0 2; frame = replicate 284 0; bytes = replicate 255 0; contents = replicate 255 0 }
      ∷ (record { device = fresh_device short 5 1 3; frame = replicate 284 0; bytes = replicate 255 0; contents = replicate 255 0 } ∷ []);
  line = Silence;
}

-- both hosts give content; each device is asked once and turns burst on; a third STX is not answered
unfoldable pub both_burst : List Calls
both_burst =
    ask 2 (content ∷ (content ∷ []))
    ∷ (replicate 18 quiet
    ++ (record { for_primary = no_request; for_secondary = no_request; for_devices = turn_on ∷ [] }
    ∷ (replicate 16 quiet
    ++ (ask 3 []
    ∷ (replicate 48 quiet
    ++ (record { for_primary = no_request; for_secondary = no_request; for_devices = no_call ∷ (turn_on ∷ []) }
    ∷ (replicate 16 quiet
    ++ (ask 2 []
    ∷ replicate 52 quiet))))))))

-- in tick 154 two send
pub two_burst : drop 150 (counts (run 255 two_devices both_burst)) ≡ 0 ∷ 0 ∷ 0 ∷ 0 ∷ 2 ∷ []
unfolding counts device_senders short two_devices ask turn_on content both_burst quiet run link_tick device_ticks sides carried master_tick device_tick requested requested_up_to master_takes master_sends device_takes device_sends answered content_given taken taken_data at_idle at_preamble at_first at_address at_expansion at_command at_count at_data at_check write_buffer write_answer frame_bytes preamble_bytes body_bytes protected_bytes header_bytes xor_from delimiter_of stored when◌then◌else◌
two_burst = refl
