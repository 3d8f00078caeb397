-- Inner contracts: nothing that is to be believed rests on them.
-- The code's link that stands ready, and the settings that start it.
use Rattle.std.specs.Prelude.{ℕ, ◌-◌, true, false, List, [], ◌∷◌, Option, Some}
use Rattle.line.specs.Profile.{fsk_profile}
use Rattle.line.specs.declared.Heard.TheVariants.{Silence}
use Rattle.turns.specs.Master.{fresh_master}
use Rattle.turns.specs.Device.{fresh_device}
use Rattle.turns.specs.declared.Device.{Device}
use Rattle.link_parties.specs.Ways.{in_slot}
use Rattle.link_parties.specs.declared.Link.{Link}
use Rattle.link_start.specs.declared.Setting.{Setting}

-- "2 to 7 devices with polling address party − 2 and unique address equal to the party"; "preamble 5"
abbrev pub setting_of : ℕ → Setting
setting_of party = record { preamble = 5; polling = party - 2; unique = party }

abbrev pub settings : List (Option Setting)
settings = Some (setting_of 2) ∷ Some (setting_of 3) ∷ Some (setting_of 4) ∷ Some (setting_of 5) ∷ Some (setting_of 6) ∷ Some (setting_of 7) ∷ []

abbrev pub slot_of : ℕ → Option Device
slot_of party = in_slot (fresh_device fsk_profile 5 (party - 2) party)

-- "FSK, R 3"
abbrev pub ready_start : Link
ready_start = record {
  masters = fresh_master fsk_profile true 3 ∷ fresh_master fsk_profile false 3 ∷ [];
  devices = slot_of 2 ∷ slot_of 3 ∷ slot_of 4 ∷ slot_of 5 ∷ slot_of 6 ∷ slot_of 7 ∷ [];
  line = Silence;
}
