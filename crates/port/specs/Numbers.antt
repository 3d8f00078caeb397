-- To be believed: what the engine must do, or what is claimed of it.
-- Document 02, item 13: the infrared port's numbers. "Ticks are characters of 11 bits at 19,200 bit/s." STO, HOLD, RT2 and RT1 are `infrared_profile` of crates/line/specs/Profile.antt, beside FSK and C8PSK.
use Rattle.std.specs.Prelude.{ℕ, ◌+◌, ◌<◌, false, ◌≡◌}
use Rattle.base.specs.Choice.{when◌then◌else◌, ◌=?◌}
use Rattle.base.specs.Refusal.{refused}
use Rattle.line.specs.Profile.{infrared_profile, value_refused, profile_made}
use Rattle.line.specs.declared.Profile.{Profile}

-- "STO is 87, but 52 for commands 0 and 11"
abbrev pub identity_sto : ℕ
identity_sto = 52

abbrev pub sto_of : ℕ → ℕ
sto_of command = when command =? 0 then identity_sto else (when command =? 11 then identity_sto else infrared_profile.sto)

-- "the preamble is exactly 5"
abbrev pub port_preamble : ℕ
port_preamble = 5

-- "dozes after 20,946 quiet ticks"; "no answer's last character in the 20,946 ticks before"
abbrev pub doze_ticks : ℕ
doze_ticks = 20946

-- "358 characters of 0x00, 0xFF in turn"
abbrev pub wake_up_length : ℕ
wake_up_length = 358

-- "the profile's condition on RT1 secondary does not apply": the port's profile meets every other condition in document 01's line on profiles. It does not meet that one, so on the pair it is refused with 1. The proof is in proofs/Numbers.
pub record MeetsOthers (p : Profile) : Type 0 where
  pub no_value_refused : value_refused p ≡ false
  pub hold_below_rt2 : p.hold < p.rt2
  pub rt2_below_rt1 : p.rt2 < p.rt1p
  pub sto_below_rt1 : p.sto < p.rt1p
  pub secondary_is_not : p.rt1s ≡ p.rt1p + p.rt2 → ⊥
  pub refused_on_the_pair : profile_made p ≡ refused 1

abbrev pub InfraredConditions : Type 0
InfraredConditions = MeetsOthers infrared_profile
