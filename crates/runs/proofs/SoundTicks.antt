-- A tick of document 01's rule: where a silent tick meets every reader outside a frame, both rules say the same. That it does so in every run is said in SoundStarts.
use Prim.Native.Nat.{ℕ}
use mathlib.Core.Path.{◌≡◌, refl, sym, ap, ◌∙◌}
use mathlib.Core.List.{List, [], ◌∷◌}
use Rattle.base.specs.Choice.{when◌then◌else◌}
use Rattle.base.proofs.Choices.{if_is_false}
use Rattle.line.specs.Reader.{inside_frame}
use Rattle.line.specs.declared.Event.TheVariants.{Nothing}
use Rattle.line.specs.declared.Heard.{Heard}
use Rattle.line.specs.declared.Heard.TheVariants.{Silence, Character, Damaged}
use Rattle.line.specs.declared.Receiver.{Receiver}
use Rattle.turns.specs.Master as M
use Rattle.turns.specs.Master.{master_takes}
use Rattle.turns.specs.Device as D
use Rattle.turns.specs.Device.{device_takes}
use Rattle.turns.specs.Link.{MasterSide, master_data, DeviceSide, Link}
use Rattle.turns.specs.Run.{All, none, and}
use Rattle.runs.specs.SoundPair.{master_silence01, device_silence01, master_hears01, master_takes01, device_hears01, device_takes01}
use Rattle.turns.specs.declared.Master.{Master}
use Rattle.turns.specs.declared.MasterTaken.{MasterTaken}
use Rattle.turns.specs.declared.MasterTold.{MasterTold}
use Rattle.turns.specs.declared.Device.{Device}
use Rattle.turns.specs.declared.DeviceTaken.{DeviceTaken}
use Rattle.turns.specs.declared.DeviceTold.{DeviceTold}
use Rattle.turns.proofs.Silent.{master_outside, device_outside}
use Rattle.runs.proofs.Outside.{Outside}
use Rattle.runs.proofs.SoundPairs.{Same}

-- ---- a party whose reader is outside a frame where the line is silent takes what document 01's takes

abbrev OutsideIn : Heard → Receiver → Type 0
OutsideIn heard r = heard ≡ Silence → Outside r

module _ (m : Master) (bytes : List ℕ) where
  silent_master : Outside m.receiver → M.on_heard m Silence bytes ≡ master_silence01 m
  silent_master o = master_outside m o ∙ sym (if_is_false (inside_frame m.receiver.place) _ _ o)

  hears_same : (heard : Heard) → OutsideIn heard m.receiver → M.on_heard m heard bytes ≡ master_hears01 m heard bytes
  hears_same Silence o = silent_master (o refl)
  hears_same (Character c) o = refl
  hears_same (Damaged c kind) o = refl

  master_takes_lem : (heard : Heard) → OutsideIn heard m.receiver → master_takes m heard bytes ≡ master_takes01 m heard bytes
  unfolding master_takes master_takes01
  master_takes_lem heard o = ap (λ (t : MasterTaken). when m.deaf then M.tells m MasterTold.Nothing Nothing else t) (hears_same heard o)

module _ (d : Device) where
  silent_device : Outside d.receiver → D.on_heard d Silence ≡ device_silence01 d
  silent_device o = device_outside d o ∙ sym (if_is_false (inside_frame d.receiver.place) _ _ o)

  device_hears_same : (heard : Heard) → OutsideIn heard d.receiver → D.on_heard d heard ≡ device_hears01 d heard
  device_hears_same Silence o = silent_device (o refl)
  device_hears_same (Character c) o = refl
  device_hears_same (Damaged c kind) o = refl

  device_takes_lem : (heard : Heard) → OutsideIn heard d.receiver → device_takes d heard ≡ device_takes01 d heard
  unfolding device_takes device_takes01
  device_takes_lem heard o = ap (λ (t : DeviceTaken). when d.deaf then D.tells d DeviceTold.Nothing Nothing else t) (device_hears_same heard o)

-- ---- so does every party, where all readers are outside a frame or the line is not silent

pub record AllOutside (heard : Heard) (x y : MasterSide) (ds : List DeviceSide) : Type 0 where
  pub primary : OutsideIn heard x.master.receiver
  pub secondary : OutsideIn heard y.master.receiver
  pub devices : All (λ (d : DeviceSide). OutsideIn heard d.device.receiver) ds

outside_devices : (heard : Heard) (ds : List DeviceSide) → All (λ (d : DeviceSide). OutsideIn heard d.device.receiver) ds → All (λ (x : DeviceSide). device_takes x.device heard ≡ device_takes01 x.device heard) ds
outside_devices heard [] none = none
outside_devices heard (x ∷ xs) (and o os) = and (device_takes_lem x.device heard o) (outside_devices heard xs os)

pub same_outside : (l : Link) → AllOutside l.line l.primary l.secondary l.devices → Same l
same_outside l o = record {
  primary = master_takes_lem l.primary.master (master_data l.primary l.line) l.line o.primary;
  secondary = master_takes_lem l.secondary.master (master_data l.secondary l.line) l.line o.secondary;
  devices = outside_devices l.line l.devices o.devices;
}
