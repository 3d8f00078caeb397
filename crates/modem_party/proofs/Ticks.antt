-- Laws by which the ticks behind a chip are proved.
use Rattle.std.specs.Prelude.{Option}
use Prim.Native.Nat.{ℕ}
use mathlib.Core.List.{List}
use mathlib.Core.Path.{◌≡◌, refl, sym, ap, subst, ◌∙◌}
use Rattle.modem.specs.Chip.{arrives, tick_ends}
use Rattle.modem.specs.Driver.{hears}
use Rattle.modem.specs.declared.Carried.{Carried}
use Rattle.modem.specs.declared.Chip.{Chip}
use Rattle.modem.specs.declared.ChipHeard.{ChipHeard}
use Rattle.modem.specs.declared.TickEnded.{TickEnded}
use Rattle.turns.specs.declared.Master.{Master}
use Rattle.turns.specs.declared.Device.{Device}
use Rattle.master.specs.Tick as M
use Rattle.master.specs.declared.MasterTicked.{MasterTicked}
use Rattle.device_tick.specs.Tick as D
use Rattle.device_tick.specs.declared.DeviceCall as DC
use Rattle.device_tick.specs.declared.DeviceTicked.{DeviceTicked}
use Rattle.modem_party.specs.Behind.{says}
use Rattle.modem_party.specs.Ticks.{master_done, master_step, master_deaf, device_done, device_step, device_deaf, MasterBehindIs, DeviceBehindIs}
use Rattle.modem_party.proofs.Same.{made_behind}
use Rattle.modem_party.proofs.Masters.{master_hears_not}
use Rattle.modem_party.proofs.Devices.{device_hears_not}
use Rattle.turns.specs.declared.Request.{Request}

module _ (limit : ℕ) (x : Chip) (w : Carried) (m : Master) (call : Option Request) (put frame bytes frame_after bytes_after : List ℕ) (z y : Chip) (g : ChipHeard) (t : MasterTicked) (e : TickEnded) where
  pub master_behind : z ≡ arrives x w → g ≡ hears z → M.MasterTickIs limit m g.heard call put frame bytes t frame_after bytes_after → y ≡ says g.chip t.sent → e ≡ tick_ends y
      → MasterBehindIs limit x w m call put frame bytes (record { ticked = t; ended = e }) frame_after bytes_after
  master_behind p q i k n = record {
    ticks = subst (λ (a : ChipHeard). M.MasterTickIs limit m a.heard call put frame bytes t frame_after bytes_after) (q ∙ ap hears p) i;
    behind = made_behind (master_step limit) master_deaf (master_hears_not limit) x w (M.side_of m frame bytes) (M.call_of call put) z y g (master_done (M.step_of t frame_after bytes_after)) e p q (ap master_done i.step) k n;
  }

module _ (limit : ℕ) (x : Chip) (w : Carried) (d : Device) (call : DC.DeviceCall) (put frame bytes contents frame_after bytes_after contents_after : List ℕ) (z y : Chip) (g : ChipHeard) (t : DeviceTicked) (e : TickEnded) where
  pub device_behind : z ≡ arrives x w → g ≡ hears z → D.DeviceTickIs limit d g.heard call put frame bytes contents t frame_after bytes_after contents_after → y ≡ says g.chip t.sent → e ≡ tick_ends y
      → DeviceBehindIs limit x w d call put frame bytes contents (record { ticked = t; ended = e }) frame_after bytes_after contents_after
  device_behind p q i k n = record {
    ticks = subst (λ (a : ChipHeard). D.DeviceTickIs limit d a.heard call put frame bytes contents t frame_after bytes_after contents_after) (q ∙ ap hears p) i;
    behind = made_behind (device_step limit) device_deaf (device_hears_not limit) x w (D.side_of d frame bytes contents) (D.call_of call put) z y g (device_done (D.step_of t frame_after bytes_after contents_after)) e p q (ap device_done i.step) k n;
  }

pub ruleset ticks = (refl, master_behind, device_behind)
