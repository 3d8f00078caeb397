-- To be believed: what the engine must do, or what is claimed of it.
-- Document 02, items 1 and 14: "turns on a sound pair are those of document 01" where each master starts at a tick of its own, too. Document 01's run with these starts is written out, and from the parties' starts alone the two runs are equal; with both starts in tick 0 it is the claim of SoundPair.
use Rattle.std.specs.Prelude.{ℕ, zero, suc, ◌-◌, ◌≡◌, true, false, List, [], ◌∷◌}
use Rattle.base.specs.Refusal.{accepted}
use Rattle.line.specs.Profile.{profile_made}
use Rattle.line.specs.declared.Heard.{Heard}
use Rattle.line.specs.declared.Profile.{Profile}
use Rattle.turns.specs.Link.{MasterCall, MasterSide, MasterStep, Link, LinkStep, Calls, link_after}
use Rattle.turns.specs.Run.{All, MasterStarts}
use Rattle.runs.specs.SoundPair.{master_tick01, device_ticks01}
use Rattle.runs.specs.Late.{late_master, late_run, LatePremises, Started}

-- a master that starts in n ticks
abbrev pub late_master01 : ℕ → ℕ → MasterSide → Heard → MasterCall → MasterStep
late_master01 limit zero x heard call = master_tick01 limit x heard call
late_master01 limit (suc n) x heard call = late_master limit (suc n) x heard call

unfoldable pub late_tick01 : ℕ → ℕ → ℕ → Link → Calls → LinkStep
late_tick01 limit a b l c = record {
  for_primary = late_master01 limit a l.primary l.line c.for_primary;
  for_secondary = late_master01 limit b l.secondary l.line c.for_secondary;
  for_devices = device_ticks01 limit l.line l.devices c.for_devices;
}

unfoldable pub late_run01 : ℕ → ℕ → ℕ → Link → List Calls → List LinkStep
late_run01 limit a b l [] = []
late_run01 limit a b l (c ∷ cs) = late_tick01 limit a b l c ∷ late_run01 limit (a - 1) (b - 1) (link_after (late_tick01 limit a b l c)) cs

-- under item 14's premises
abbrev pub LateSoundPair : ℕ → Type 0
LateSoundPair limit =
    (p : Profile) (retries a b : ℕ) (l : Link) (ticks : List Calls) → LatePremises limit p retries a b l ticks
    → late_run limit a b l ticks ≡ late_run01 limit a b l ticks

-- the primary starts in tick a, the secondary in tick b, and the devices in the run's first tick or before it
abbrev pub LateSoundFromStarts : ℕ → Type 0
LateSoundFromStarts limit =
    (p : Profile) (retries a b : ℕ) (l : Link) (ticks : List Calls) → profile_made p ≡ accepted p → MasterStarts p true retries l.primary
    → MasterStarts p false retries l.secondary → All (Started limit p l.line) l.devices → late_run limit a b l ticks ≡ late_run01 limit a b l ticks
