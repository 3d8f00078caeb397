-- Every list of ticks is run: for any calls of bytes there is a byte string whose run does, tick by tick, what these calls do.
use Prim.Native.Nat.{ℕ}
use native.Mathlib.Omega.{arith}
use mathlib.Core.Path.{◌≡◌, ap, ◌∙◌}
use mathlib.Core.List.{List}
use Rattle.std.specs.Prelude.{Option}
use Rattle.base.specs.Refusal.{accepted}
use Rattle.line.specs.declared.Profile.{Profile}
use Rattle.turns.specs.Link.{Calls}
use Rattle.link_parties.specs.Stands.{heres}
use Rattle.link_parties.specs.declared.Link.{Link}
use Rattle.link_start.specs.Fresh.{rows_fresh, lent_fresh}
use Rattle.link_start.specs.Start.{limited_starts}
use Rattle.link_start.proofs.Started.{limited_bounds}
use Rattle.link_start.specs.declared.Setting.{Setting}
use Rattle.link_list.specs.Encode.{ticks_bytes, Bytes}
use Rattle.link_list.specs.Nearest.{nearest_ticks, TicksGive}
use Rattle.link_list.proofs.Encode.{every_list}
use Rattle.link_list.proofs.Nearest.{nearest_codable, every_run}
use Rattle.link_run.specs.Run.{run_steps, steps_by, steps_of}
use Rattle.link_run.proofs.Steps.{devices_here}

-- the bytes for these ticks
abbrev pub bytes_for : Link → List Calls → List ℕ
bytes_for l ticks = ticks_bytes (heres l.devices) (nearest_ticks (heres l.devices) ticks)

pub are_bytes : (l : Link) (ticks : List Calls) → Bytes (bytes_for l ticks)
are_bytes l ticks = (every_list (heres l.devices) (nearest_ticks (heres l.devices) ticks) (nearest_codable (heres l.devices) ticks)).are_bytes

pub every_list_runs : (limit : ℕ) (p : Profile) (retries : ℕ) (s : List (Option Setting)) (l : Link) (ticks : List Calls) → limited_starts limit p retries s ≡ accepted l → TicksGive ticks
    → steps_of limit p retries s (bytes_for l ticks) ≡ run_steps limit (lent_fresh l) ticks
unfolding steps_of
every_list_runs limit p retries s l ticks e g =
    ap (λ c. steps_by limit c (bytes_for l ticks)) e
    ∙ every_run limit (omega (arith, (limited_bounds limit p retries s l e).1)) (heres l.devices) (lent_fresh l) ticks (devices_here rows_fresh 0 l.devices) g
