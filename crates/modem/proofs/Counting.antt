-- The tick count over whatever happens to a chip: behind n ticks it is n more, modulo 2^32, and two readings of it give the ticks between them.
use Rattle.std.proofs.Common.{◌≡◌, ℕ, ◌+◌, ◌%◌, ◌^◌, ◌<◌, Bool, true, false, [], ◌∷◌, refl, ap, ◌∙◌, ap₂, arith}
use Rattle.base.specs.Choice.{when◌then◌else◌}
use Rattle.modem.specs.Chip.{arrives, chip_after, elapsed}
use Rattle.modem.specs.Accesses.{Access, reads, writes, accessed}
use Rattle.modem.specs.Run.{begins, accesses, ends, chip_behind, ticks_in, CountBehind, reading, ElapsedBehind}
use Rattle.modem.specs.declared.Carried.{Carried}
use Rattle.modem.specs.declared.Carried.TheVariants.{Silence, Nine}
use Rattle.modem.specs.declared.Chip.{Chip}
use Rattle.modem.proofs.Sentences.{count_shown, elapsed_ticks}
use Rattle.modem.proofs.Accessing.{after_read, after_write}

-- ---- only a tick's end changes the count

module _ (x : Chip) where
  one_of : (b : Bool) (y z : Chip) → y.count ≡ x.count → z.count ≡ x.count → (when b then y else z).count ≡ x.count
  unfolding when◌then◌else◌
  one_of true y z p q = p
  one_of false y z p q = q

  begun : (w : Carried) → (arrives x w).count ≡ x.count
  begun Silence = refl
  begun (Nine c bit mark) = one_of x.deaf _ _ refl refl

  counted : (a : Access) → (accessed x a).count ≡ x.count
  counted (reads n) = after_read (λ (y : Chip). y.count ≡ x.count) x refl n (λ e. refl)
  counted (writes n v) = after_write (λ (y : Chip). y.count ≡ x.count) x refl n v (λ e. refl) (λ e r. refl)

-- ---- over any operations

within : (n : ℕ) → n % 2 ^ 32 < 2 ^ 32
within n = omega arith

still : (n : ℕ) → n < 2 ^ 32 → n ≡ (n + 0) % 2 ^ 32
still n h = omega arith

one_more : (n k : ℕ) → ((n + 1) % 2 ^ 32 + k) % 2 ^ 32 ≡ (n + (k + 1)) % 2 ^ 32
one_more n k = omega arith

below : (n k : ℕ) → k ≡ n → n < 2 ^ 32 → k < 2 ^ 32
below n k e h = omega arith

pub count_behind : CountBehind
unfolding chip_behind ticks_in
count_behind x [] h = still x.count h
count_behind x (ends ∷ os) h = count_behind (chip_after x) os (within (x.count + 1)) ∙ one_more x.count (ticks_in os)
count_behind x (begins w ∷ os) h = count_behind (arrives x w) os (below x.count _ (begun x w) h) ∙ ap (λ (n : ℕ). (n + ticks_in os) % 2 ^ 32) (begun x w)
count_behind x (accesses a ∷ os) h = count_behind (accessed x a) os (below x.count _ (counted x a) h) ∙ ap (λ (n : ℕ). (n + ticks_in os) % 2 ^ 32) (counted x a)

-- ---- two readings

reading_is : (x : Chip) → x.count < 2 ^ 32 → reading x ≡ x.count
unfolding when◌then◌else◌
reading_is x h = count_shown x.count h

pub elapsed_behind : ElapsedBehind
elapsed_behind x os h k =
    let behind : (chip_behind x os).count ≡ (x.count + ticks_in os) % 2 ^ 32 = count_behind x os h in
    ap₂ elapsed (reading_is x h) (reading_is (chip_behind x os) (below _ _ behind (within (x.count + ticks_in os))) ∙ behind)
    ∙ elapsed_ticks x.count (ticks_in os) h k
