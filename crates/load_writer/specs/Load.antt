-- To be believed: what the engine must do, or what is claimed of it.
-- Document 02, item 4: "From a 32-bit seed, draw numbers by Marsaglia's xorshift32 (left 13, right 17, left 5) and write a player script". How numbers become records is said in words in docs/LOAD.md.
use Rattle.std.specs.Prelude.{ℕ, zero, suc, ◌+◌, ◌-◌, ◌*◌, ◌/◌, ◌%◌, ◌^◌, List, [], ◌∷◌, ◌++◌}
use Rattle.std.specs.Int.Bits.{bit_xor}
use Rattle.base.specs.Choice.{when◌then◌else◌, ◌<?◌, ◌=?◌}
use Rattle.player_script.specs.declared.Entry.{Entry}

-- ---- the numbers: "Marsaglia's xorshift32 (left 13, right 17, left 5)"

-- the exclusive-or of a number and the same number shifted, in 32 bits
abbrev pub leftwards : ℕ → ℕ → ℕ
leftwards k x = bit_xor x (x * 2 ^ k % 2 ^ 32)

abbrev pub rightwards : ℕ → ℕ → ℕ
rightwards k x = bit_xor x (x / 2 ^ k)

-- the number that is drawn after a number. The first number of a load is the one drawn after its seed.
unfoldable pub draw : ℕ → ℕ
draw x = leftwards 5 (rightwards 17 (leftwards 13 x))

-- ---- the opening, which is the same in every load: "masters' requests, late answers, absent devices, burst turned on and off"

abbrev pub call : ℕ → ℕ → ℕ → ℕ → Entry
call tick party action argument = record { tick = tick; party = party; action = action; argument = argument }

unfoldable pub opening : List Entry
opening =
    -- no device has address 8
    call 0 0 3 8
    ∷ call 0 1 3 3
    ∷ call 250 0 3 2
    -- late: the secondary's request to party 3 has its last character in tick 242
    ∷ call 271 3 2 2
    -- burst on
    ∷ call 292 2 4 2
    ∷ call 330 0 3 2
    ∷ call 341 3 2 2
    -- burst off
    ∷ call 391 2 5 2
    ∷ []

-- ---- the mark: the bytes of the first number, most significant first

abbrev pub mark : ℕ → ℕ → Entry
mark x q = call 400 (4 + q) 2 (x / 2 ^ (24 - 8 * q) % 256)

abbrev pub front : ℕ → List Entry
front x = opening ++ (mark x 0 ∷ mark x 1 ∷ mark x 2 ∷ mark x 3 ∷ [])

-- ---- drawn records, two to a tick

-- the tick of a pair: eight pairs in fifteen ticks
abbrev pub pair_tick : ℕ → ℕ
pair_tick k = 401 + (2 * k - k / 8)

-- the unique address that a master asks: that of party 2 more often than the others; 0 is broadcast, and no device has 1
abbrev pub asked_of : ℕ → ℕ
asked_of v = when v <? 8 then v else when v <? 12 then 2 else v - 8

-- a master's request: by polling address, which is two less than the unique one, in one case of four
abbrev pub asks : ℕ → ℕ → ℕ → Entry
asks tick party x = when x / 256 % 4 =? 0 then call tick party 1 ((asked_of (x / 16 % 16) + 62) % 64) else call tick party 3 (asked_of (x / 16 % 16))

-- what party 2 answers with: burst on, as it is, or off
abbrev pub wish_of : ℕ → ℕ
wish_of k = when k =? 0 then 4 else when k =? 1 then 2 else 5

-- how many bytes an answer has
abbrev pub length_of : ℕ → ℕ
length_of x = 2 + x / 1024 % 32

-- the first of a pair is for a party from 0 to 3; of the devices party 2 alone is ever told to burst, "at most one device bursting"
unfoldable pub lower : ℕ → ℕ → Entry
lower tick x =
    when x % 16 <? 4 then asks tick (x % 2) x else
    when x % 16 <? 14 then call tick 2 (wish_of (x / 256 % 4)) (length_of x) else
    call tick 3 2 (length_of x)

-- the second is for a party from 4 to 7
abbrev pub upper_party : ℕ → ℕ
upper_party w = when w <? 10 then 4 else when w <? 12 then 5 else when w <? 14 then 6 else 7

unfoldable pub upper : ℕ → ℕ → Entry
upper tick x = call tick (upper_party (x % 16)) 2 (length_of x)

-- ---- "how many records, the stop among them"

-- the stop has the tick of the record whose place it takes
abbrev pub stop_at : ℕ → Entry
stop_at tick = call tick 0 0 0

-- so many records from pair k on, whose first number is x
unfoldable pub drawn_from : ℕ → ℕ → ℕ → List Entry
drawn_from k x zero = []
drawn_from k x (suc zero) = stop_at (pair_tick k) ∷ []
drawn_from k x (suc (suc zero)) = lower (pair_tick k) x ∷ stop_at (pair_tick k) ∷ []
drawn_from k x (suc (suc (suc n))) = lower (pair_tick k) x ∷ upper (pair_tick k) (draw x) ∷ drawn_from (k + 1) (draw (draw x)) (suc n)

-- so many records: first these, and after them drawn ones
unfoldable pub laid : ℕ → List Entry → ℕ → List Entry
laid x [] n = drawn_from 0 x n
laid x (e ∷ es) zero = []
laid x (e ∷ es) (suc zero) = stop_at e.tick ∷ []
laid x (e ∷ es) (suc (suc n)) = e ∷ laid x es (suc n)

-- "Seed and count fix the script"
unfoldable pub load : ℕ → ℕ → List Entry
load seed count = laid (draw (draw seed)) (front (draw seed)) count

-- ---- as bytes: "Script records are 4 bytes, most significant first: tick 16 bits, party 4, action 4, argument 8."

abbrev pub entry_bytes : Entry → List ℕ → List ℕ
entry_bytes e rest = e.tick / 256 ∷ e.tick % 256 ∷ (e.party * 16 + e.action) ∷ e.argument ∷ rest

unfoldable pub script_bytes : List Entry → List ℕ
script_bytes [] = []
script_bytes (e ∷ es) = entry_bytes e (script_bytes es)
