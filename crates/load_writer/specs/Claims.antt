-- To be believed: what the engine must do, or what is claimed of it.
-- Document 02, item 4: what is claimed of every script. What is claimed of its play stands in crate load_plays.
use Rattle.std.specs.Prelude.{ℕ, ◌^◌, ◌≤◌, ◌<◌, ◌≡◌, true}
use Rattle.player_script.specs.Script.{records_of, good_script}
use Rattle.load_writer.specs.Load.{load, script_bytes}
use Rattle.load_writer.specs.Write.{most_records}

-- "which is always taken by the player": it is good, so the player's 16 is never printed for it
abbrev pub AlwaysTaken : Type 0
AlwaysTaken = (seed count : ℕ) → 1 ≤ count → count ≤ most_records → good_script (script_bytes (load seed count)) ≡ true

-- what the player reads are the records that were written
abbrev pub ReadsBack : Type 0
ReadsBack = (seed count : ℕ) → count ≤ most_records → records_of (script_bytes (load seed count)) ≡ load seed count

-- "two seeds never give one script": this holds from 13 records on, where document 02 asks it from 64 on
abbrev pub SeedsDiffer : Type 0
SeedsDiffer =
    (s t count : ℕ) → s < 2 ^ 32 → t < 2 ^ 32 → 13 ≤ count → count ≤ most_records
    → script_bytes (load s count) ≡ script_bytes (load t count) → s ≡ t
