-- To be believed: what the engine must do, or what is claimed of it.
-- Document 01, "Timers": "A profile has five numbers in ticks"; "Refusals", the line of the profile.
use Rattle.std.specs.Prelude.{◌+◌, Bool, true, false}
use Rattle.base.specs.Choice.{when◌then◌else◌, ◌≤?◌, ◌=?◌, ◌outside◌to◌}
use Rattle.base.specs.Refusal.{Called, accepted, refused}
use Rattle.line.specs.declared.Profile.{Profile}

-- "FSK: STO 28, HOLD 2, RT2 8, RT1 33 primary and 41 secondary"
abbrev pub fsk_profile : Profile
fsk_profile = record { sto = 28; hold = 2; rt2 = 8; rt1p = 33; rt1s = 41 }

-- "C8PSK: 32, 3, 14, 42, 56"
abbrev pub c8psk_profile : Profile
c8psk_profile = record { sto = 32; hold = 3; rt2 = 14; rt1p = 42; rt1s = 56 }

-- document 02, item 13, the infrared port: "STO is 87, but 52 for commands 0 and 11, HOLD 5, RT2 13, RT1 456. There is one master": so both RT1 are 456
abbrev pub infrared_profile : Profile
infrared_profile = record { sto = 87; hold = 5; rt2 = 13; rt1p = 456; rt1s = 456 }

-- "a value is 0 or above 1,000"
abbrev pub value_refused : Profile → Bool
value_refused p =
    when p.sto outside 1 to 1000 then true else
    when p.hold outside 1 to 1000 then true else
    when p.rt2 outside 1 to 1000 then true else
    when p.rt1p outside 1 to 1000 then true else
    p.rt1s outside 1 to 1000

-- "HOLD not below RT2, RT2 or STO not below RT1 primary, or RT1 secondary not RT1 primary + RT2"
abbrev pub order_refused : Profile → Bool
order_refused p =
    when p.rt2 ≤? p.hold then true else
    when p.rt1p ≤? p.rt2 then true else
    when p.rt1p ≤? p.sto then true else
    when p.rt1s =? p.rt1p + p.rt2 then false else true

-- "1": a profile is made, or refused
abbrev pub profile_made : Profile → Called Profile
profile_made p = when value_refused p then refused 1 else when order_refused p then refused 1 else accepted p
