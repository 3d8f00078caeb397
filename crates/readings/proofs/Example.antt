-- Computed runs: a table of two rows, the bits of two masters, and what the premises of the claims are for.
use Prim.Native.Nat.{ℕ}
use mathlib.Core.Bool.{Bool, true, false}
use mathlib.Core.List.{List, [], ◌∷◌}
use mathlib.Core.Path.{◌≡◌, refl}
use lib.ListN.{replicate, get_or, take}
use Rattle.base.specs.Choice.{when◌then◌else◌}
use Rattle.base.specs.Store.{stored}
use Rattle.line.specs.declared.Event.TheVariants.{Frame}
use Rattle.line.specs.declared.Whole.{Whole}
use Rattle.readings.specs.Table.{first_of, row_of, sought, entered}
use Rattle.readings.specs.History.{Op, told, Kept, after_op, after_all, fresh}
use Rattle.readings.specs.Masters.{shown_in, shown_bits, mine_of}
use Rattle.readings.specs.declared.Row.{Row}

-- an ACK of a device and command 3 with so many data bytes
abbrev ack : ℕ → ℕ → Whole
ack address count = record { header = record { kind = 6; long = true; primary = true; burst = false; address = address; command = 3 }; expansion = 0; count = count }

abbrev heard : ℕ → ℕ → ℕ → List ℕ → Op
heard tick address count bytes = told tick (Frame (ack address count)) bytes

abbrev two_rows : Kept
two_rows = fresh 2 (replicate 510 0)

-- devices 2 and 4, and device 2 again with fewer bytes
abbrev run : Kept
run = after_all (heard 10 2 3 (0x00 ∷ 0x20 ∷ 0x11 ∷ []) ∷ heard 20 4 2 (0x00 ∷ 0x01 ∷ []) ∷ heard 30 2 2 (0x00 ∷ 0x0F ∷ []) ∷ []) two_rows

run_rows : run.rows
    ≡ record { address = 2; tick = 30; place = 0; command = 3; count = 2; primary = 0; secondary = 0; spare = 0 }
    ∷ record { address = 4; tick = 20; place = 255; command = 3; count = 2; primary = 0; secondary = 0; spare = 0 } ∷ []
unfolding after_all after_op entered sought first_of stored when◌then◌else◌
run_rows = refl

-- the byte past the new count stays
run_bytes : take 3 run.area ≡ 0x00 ∷ 0x0F ∷ 0x11 ∷ []
unfolding after_all after_op entered sought first_of stored when◌then◌else◌
run_bytes = refl

-- a third device is refused
run_full : (entered run.rows run.area 40 (Frame (ack 6 2)) (0x00 ∷ 0x00 ∷ [])).refusal ≡ 20
unfolding after_all after_op entered sought first_of stored when◌then◌else◌
run_full = refl

-- a frame that is entered again after a newer one of its key puts the older back
older_back : (row_of (after_all (heard 10 2 3 (0x00 ∷ 0x20 ∷ 0x11 ∷ []) ∷ []) run).rows 0).tick ≡ 10
unfolding after_all after_op entered sought first_of stored when◌then◌else◌
older_back = refl

-- of a table that was not cleared: two rows have one key, and only the first is superseded
abbrev old_row : Row
old_row = record { address = 2; tick = 5; place = 0; command = 3; count = 2; primary = 0; secondary = 0; spare = 0 }

not_cleared : (after_all (heard 10 2 2 (0x00 ∷ 0x20 ∷ []) ∷ []) (record { rows = old_row ∷ old_row ∷ []; area = replicate 510 0; log = [] })).rows
    ≡ record { address = 2; tick = 10; place = 0; command = 3; count = 2; primary = 0; secondary = 0; spare = 0 } ∷ old_row ∷ []
unfolding after_all after_op entered sought first_of stored when◌then◌else◌
not_cleared = refl

-- of a count above 255, which no frame has: the data run into the next row's bytes
too_long : get_or (after_all (heard 10 2 256 (0x00 ∷ 0x00 ∷ replicate 254 0x33) ∷ []) two_rows).area 255 0 ≡ 0x33
unfolding after_all after_op entered sought first_of stored when◌then◌else◌
too_long = refl

-- ---- the bits of two masters

-- a BACK of device 2 and command 3 to a master, or an ACK of it
abbrev to_master : ℕ → ℕ → Bool → ℕ → List ℕ → Op
to_master tick kind primary count bytes = told tick (Frame (record {
  header = record { kind = kind; long = true; primary = primary; burst = false; address = 2; command = 3 };
  expansion = 0;
  count = count;
})) bytes

abbrev one_row : Kept
one_row = fresh 1 (replicate 255 0)

-- an ACK to the primary with both bits, then a BACK to the secondary with 0x40
abbrev both : Kept
both = after_all (to_master 10 6 true 3 (0x00 ∷ 0x50 ∷ 0x11 ∷ []) ∷ to_master 20 1 false 2 (0x00 ∷ 0x4F ∷ []) ∷ []) one_row

both_row : row_of both.rows 0 ≡ record { address = 2; tick = 20; place = 0; command = 3; count = 2; primary = 0x50; secondary = 0x40; spare = 0 }
unfolding after_all after_op entered sought first_of stored when◌then◌else◌
both_row = refl

both_bytes : take 3 both.area ≡ 0x00 ∷ 0x0F ∷ 0x11 ∷ []
unfolding after_all after_op entered sought first_of stored when◌then◌else◌
both_bytes = refl

-- each host is shown its own bits
both_shown : shown_in true both.rows both.area 0 ∷ shown_in false both.rows both.area 0 ∷ [] ≡ 0x5F ∷ 0x4F ∷ []
unfolding after_all after_op entered sought first_of stored when◌then◌else◌
both_shown = refl

-- two runs with the same frames to the primary: its host is shown the same bits, the secondary's other ones
abbrev other : Kept
other = after_all (to_master 10 1 false 2 (0x00 ∷ 0x10 ∷ []) ∷ to_master 30 6 true 2 (0x00 ∷ 0x50 ∷ []) ∷ []) one_row

same_mine : mine_of true both.log ≡ mine_of true other.log
unfolding after_all after_op entered sought first_of stored mine_of when◌then◌else◌
same_mine = refl

primary_same : shown_bits true both 0 ∷ shown_bits true other 0 ∷ [] ≡ 0x50 ∷ 0x50 ∷ []
unfolding after_all after_op entered sought first_of stored when◌then◌else◌
primary_same = refl

secondary_differs : shown_bits false both 0 ∷ shown_bits false other 0 ∷ [] ≡ 0x40 ∷ 0x10 ∷ []
unfolding after_all after_op entered sought first_of stored when◌then◌else◌
secondary_differs = refl

-- of tables that were not cleared: no frame was entered in either, and the primary's host is shown other bits
abbrev lent : ℕ → Kept
lent bits = record { rows = record { address = 2; tick = 5; place = 0; command = 3; count = 2; primary = bits; secondary = 0; spare = 0 } ∷ []; area = replicate 255 0; log = [] }

lent_differ : shown_bits true (lent 0x40) 0 ∷ shown_bits true (lent 0x10) 0 ∷ [] ≡ 0x40 ∷ 0x10 ∷ []
unfolding when◌then◌else◌
lent_differ = refl
