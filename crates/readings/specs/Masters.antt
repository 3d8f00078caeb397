-- To be believed: what the engine must do, or what is claimed of it.
-- Document 02, item 8: "From a cleared table, what one host is shown as its bits depends only on entered frames to it, on which rows exist then and on clearing."
use Rattle.std.specs.Prelude.{ℕ, ◌+◌, ◌*◌, ◌<◌, Bool, true, false, List, [], ◌∷◌, ◌≡◌, length, get_or}
use Rattle.base.specs.Choice.{when◌then◌else◌, ◌=?◌}
use Rattle.line.specs.declared.Event.TheVariants.{Frame}
use Rattle.readings.specs.Table.{row_bytes, has_key, key_of, is_empty, row_of, own_bits, kept_bits, shown_byte}
use Rattle.readings.specs.History.{Reading, Op, told, Kept, after_op, after_all, fresh, OpsFit, key_in}
use Rattle.readings.specs.declared.Key.{Key}
use Rattle.readings.specs.declared.Row.{Row}

-- what a master's host is shown of row i: the second data byte, and in it the two bits that are its own
abbrev pub shown_in : Bool → List Row → List ℕ → ℕ → ℕ
shown_in primary rows area i = shown_byte (get_or area (row_bytes * i + 1) 0) (kept_bits primary (row_of rows i))

abbrev pub shown_bits : Bool → Kept → ℕ → ℕ
shown_bits primary k i = own_bits (shown_in primary k.rows k.area i)

-- ---- the entered frames to one master

-- whether a frame is to a master: its master bit, whichever host reported it
abbrev pub is_to : Bool → Reading → Bool
is_to primary r = when primary then r.frame.header.primary else when r.frame.header.primary then false else true

-- what an entered frame says to its master alone
pub record Mine : Type 0 where
  pub key : Key
  pub bits : ℕ

abbrev pub mine : Reading → Mine
mine r = record { key = key_of r.frame; bits = own_bits (get_or r.bytes 1 0) }

-- the entered frames to a master since the table was cleared, the newest first
unfoldable pub mine_of : Bool → List Reading → List Mine
mine_of primary [] = []
mine_of primary (r ∷ log) = when is_to primary r then mine r ∷ mine_of primary log else mine_of primary log

-- the bits of the newest of an address and a command; where there is none, 0
unfoldable pub last_bits : Key → List Mine → ℕ
last_bits key [] = 0
last_bits key (m ∷ frames) =
    when (when m.key.address =? key.address then m.key.command =? key.command else false) then m.bits else
    last_bits key frames

-- ---- claims

-- from a cleared table on, in every filled row: the stored byte has neither bit, and what a host is shown as its bits is what the last entered frame of that address and command to its master says
pub record Shown (k : Kept) : Type 0 where
  pub stored : (i : ℕ) → i < length k.rows → is_empty (row_of k.rows i) ≡ false → own_bits (get_or k.area (row_bytes * i + 1) 0) ≡ 0
  pub shows : (primary : Bool) (i : ℕ) → i < length k.rows → is_empty (row_of k.rows i) ≡ false
      → shown_bits primary k i ≡ last_bits (key_in (row_of k.rows i)) (mine_of primary k.log)

-- of two tables: rows of the same address and command, at whatever numbers, show this master's host the same bits
pub record SameBits (primary : Bool) (k l : Kept) : Type 0 where
  pub same : (i j : ℕ) → i < length k.rows → j < length l.rows → is_empty (row_of k.rows i) ≡ false
      → has_key (key_in (row_of k.rows i)) (row_of l.rows j) ≡ true → shown_bits primary k i ≡ shown_bits primary l j

-- two runs from cleared tables, of any sizes, with any byte areas and any operations: where the entered frames to a master since the last clearing are the same, its host is shown the same bits
abbrev pub Apart : Type 0
Apart = (primary : Bool) (n m : ℕ) (area area₂ : List ℕ) (ops ops₂ : List Op) → OpsFit ops → OpsFit ops₂
    → mine_of primary (after_all ops (fresh n area)).log ≡ mine_of primary (after_all ops₂ (fresh m area₂)).log
    → SameBits primary (after_all ops (fresh n area)) (after_all ops₂ (fresh m area₂))

-- "must not change the other's", on any table: a frame that is not to a master leaves the bits that its host is shown, in every row that was filled
pub record OtherStays (k : Kept) (r : Reading) (primary : Bool) : Type 0 where
  pub stays : is_to primary r ≡ false → (j : ℕ) → j < length k.rows → is_empty (row_of k.rows j) ≡ false
      → shown_bits primary (after_op (told r.tick (Frame r.frame) r.bytes) k) j ≡ shown_bits primary k j
