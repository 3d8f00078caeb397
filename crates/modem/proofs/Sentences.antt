-- Sentences of document 02, item 5, each as a law of its own.
use Rattle.std.proofs.Common.{◌≡◌, ℕ, ◌+◌, ◌*◌, ◌/◌, ◌%◌, ◌^◌, ◌<◌, ◌≤◌, Bool, true, false, refl, ap, ◌∙◌, arith, eqb-true}
use borrow.Author.Tests.{eqb-false}
use lib.Count.{ones}
use Rattle.base.specs.Choice.{when◌then◌else◌, ◌<?◌, ◌=?◌, bit}
use Rattle.base.specs.Refusal.{Called, refused}
use Rattle.base.proofs.Choices.{true_false, if_is_true, if_is_false}
use Rattle.modem.specs.Parity.{ninth, parity_kind, kind_of}
use Rattle.modem.specs.Chip.{receives, arrives, interrupt, interrupt_ready, status, count_byte, loaded, chip_after, goes_out, elapsed}
use Rattle.modem.specs.Accesses.{register_read, register_written, looked_by, put_by, looks, puts}
use Rattle.modem.specs.Driver.{other}
use Rattle.modem.specs.declared.Mark.{Mark}
use Rattle.modem.specs.declared.Carried.{Carried}
use Rattle.modem.specs.declared.Carried.TheVariants.{Nine}
use Rattle.modem.specs.declared.Chip.{Chip}
use Rattle.modem.specs.declared.Looked.{Looked}

-- ---- "the chip adds and checks odd parity"

pub nine_odd : (c : ℕ) → (ones c + bit (ninth c)) % 2 ≡ 1
unfolding when◌then◌else◌
nine_odd c = go (ones c) (ones c % 2 =? 0) refl
  where
    go : (n : ℕ) (b : Bool) → (n % 2 =? 0) ≡ b → (n + bit b) % 2 ≡ 1
    go n true e = let z : n % 2 ≡ 0 = eqb-true (n % 2) 0 e in omega (arith, z)
    go n false e = odd n (eqb-false (n % 2) 0 e)
      where
        odd : (n : ℕ) → (n % 2 ≡ 0 → ⊥) → (n + 0) % 2 ≡ 1
        odd n f = omega (arith, f)

pub parity_right : (c : ℕ) → kind_of c (ninth c) Mark.Sound ≡ 0
unfolding when◌then◌else◌
parity_right c = go (ninth c)
  where
    go : (b : Bool) → parity_kind b b ≡ 0
    go true = refl
    go false = refl

pub parity_wrong : (c : ℕ) → kind_of c (other (ninth c)) Mark.Sound ≡ 1
unfolding when◌then◌else◌
parity_wrong c = go (ninth c)
  where
    go : (b : Bool) → parity_kind (other b) b ≡ 1
    go true = refl
    go false = refl

-- "damage 2 or 3 marked beside them and kept", whatever the ninth bit
pub marks_kept : (c : ℕ) (b : Bool) → (kind_of c b Mark.Overrun ≡ 2) × (kind_of c b Mark.Framing ≡ 3)
marks_kept c b = (refl, refl)

-- ---- "Byte 0, status"

pub record StatusBits (x : Chip) (s : ℕ) : Type 0 where
  pub carrier : s / 128 ≡ bit x.carrier
  pub clear_to_send : s / 64 % 2 ≡ x.control / 128 % 2
  pub received : s / 32 % 2 ≡ bit x.received
  pub ready : s / 16 % 2 ≡ bit x.ready
  pub interrupting : s / 8 % 2 ≡ bit (interrupt x)
  pub rest : s % 8 ≡ 0

weighed : (b : Bool) (n : ℕ) → (when b then n else 0) ≡ bit b * n
unfolding when◌then◌else◌
weighed true n = omega arith
weighed false n = omega arith

at_most_one : (b : Bool) → bit b ≤ 1
unfolding when◌then◌else◌
at_most_one true = omega arith
at_most_one false = omega arith

pub status_bits : (x : Chip) → StatusBits x (status x)
status_bits x = record {
  carrier = top _ _ _ _ _ (status x) is s_r s_d s_i;
  clear_to_send = six _ _ _ _ _ (status x) is s_r s_d s_i;
  received = five _ _ _ _ _ (status x) is s_r s_d s_i;
  ready = four _ _ _ _ _ (status x) is s_r s_d s_i;
  interrupting = three _ _ _ _ _ (status x) is s_r s_d s_i;
  rest = low _ _ _ _ _ (status x) is;
}
  where
    s_r : bit x.received ≤ 1
    s_r = at_most_one x.received

    s_d : bit x.ready ≤ 1
    s_d = at_most_one x.ready

    s_i : bit (interrupt x) ≤ 1
    s_i = at_most_one (interrupt x)

    is : status x ≡ bit x.carrier * 128 + x.control / 128 % 2 * 64 + bit x.received * 32 + bit x.ready * 16 + bit (interrupt x) * 8
    is =
        let a = weighed x.carrier 128 in
        let b = weighed x.received 32 in
        let c = weighed x.ready 16 in
        let d = weighed (interrupt x) 8 in
        omega (arith, a, b, c, d)

    top : (a k b c d s : ℕ) → s ≡ a * 128 + k % 2 * 64 + b * 32 + c * 16 + d * 8 → b ≤ 1 → c ≤ 1 → d ≤ 1 → s / 128 ≡ a
    top a k b c d s e p q r = omega arith

    six : (a k b c d s : ℕ) → s ≡ a * 128 + k % 2 * 64 + b * 32 + c * 16 + d * 8 → b ≤ 1 → c ≤ 1 → d ≤ 1 → s / 64 % 2 ≡ k % 2
    six a k b c d s e p q r = omega arith

    five : (a k b c d s : ℕ) → s ≡ a * 128 + k % 2 * 64 + b * 32 + c * 16 + d * 8 → b ≤ 1 → c ≤ 1 → d ≤ 1 → s / 32 % 2 ≡ b
    five a k b c d s e p q r = omega arith

    four : (a k b c d s : ℕ) → s ≡ a * 128 + k % 2 * 64 + b * 32 + c * 16 + d * 8 → b ≤ 1 → c ≤ 1 → d ≤ 1 → s / 16 % 2 ≡ c
    four a k b c d s e p q r = omega arith

    three : (a k b c d s : ℕ) → s ≡ a * 128 + k % 2 * 64 + b * 32 + c * 16 + d * 8 → b ≤ 1 → c ≤ 1 → d ≤ 1 → s / 8 % 2 ≡ d
    three a k b c d s e p q r = omega arith

    low : (a k b c d s : ℕ) → s ≡ a * 128 + k % 2 * 64 + b * 32 + c * 16 + d * 8 → s % 8 ≡ 0
    low a k b c d s e = omega arith

-- "6 interrupt on bit 5"
pub interrupt_received : (x : Chip) → x.received ≡ true → (x.control / 64 % 2 =? 1) ≡ true → interrupt x ≡ true
unfolding when◌then◌else◌
interrupt_received x r k =
    if_is_true x.received (when x.control / 64 % 2 =? 1 then true else interrupt_ready x) (interrupt_ready x) r ∙ if_is_true (x.control / 64 % 2 =? 1) true (interrupt_ready x) k

-- "5 interrupt on bit 4"
pub interrupt_on_ready : (x : Chip) → x.ready ≡ true → (x.control / 32 % 2 =? 1) ≡ true → interrupt x ≡ true
unfolding when◌then◌else◌
interrupt_on_ready x r k =
    ap (λ (b : Bool). when x.received then (when x.control / 64 % 2 =? 1 then true else b) else b) (ap (λ (b : Bool). when b then x.control / 32 % 2 =? 1 else false) r ∙ k)
    ∙ go x.received (x.control / 64 % 2 =? 1)
  where
    go : (b d : Bool) → (when b then (when d then true else true) else true) ≡ true
    go true true = refl
    go true false = refl
    go false d = refl

-- and clear otherwise
pub interrupt_clear : (x : Chip) → (x.received ≡ true → (x.control / 64 % 2 =? 1) ≡ false) → (x.ready ≡ true → (x.control / 32 % 2 =? 1) ≡ false) → interrupt x ≡ false
unfolding when◌then◌else◌
interrupt_clear x f g = go x.received refl
  where
    not_ready : (b : Bool) → x.ready ≡ b → (when b then x.control / 32 % 2 =? 1 else false) ≡ false
    not_ready true e = g e
    not_ready false e = refl

    go : (b : Bool) → x.received ≡ b → (when b then (when x.control / 64 % 2 =? 1 then true else interrupt_ready x) else interrupt_ready x) ≡ false
    go true e = if_is_false (x.control / 64 % 2 =? 1) true (interrupt_ready x) (f e) ∙ not_ready x.ready refl
    go false e = not_ready x.ready refl

-- "4 ready (none written this tick)": behind a write it is clear, and in the next tick set
pub ready_cleared : (x : Chip) (v : ℕ) → ((puts x 2 v).ready ≡ false) × ((chip_after (puts x 2 v)).ready ≡ true)
unfolding when◌then◌else◌ puts
ready_cleared x v = (go x.ready, refl)
  where
    go : (b : Bool) → (when b then loaded x (x.control / 128 % 2 =? 1) v else loaded x x.sending x.outgoing).ready ≡ false
    go true = refl
    go false = refl

-- ---- "Bytes 4 to 7 are a free-running tick count, most significant first, going from the largest value back to 0."

digit : (n : ℕ) → n ≡ n / 256 * 256 + n % 256
digit n = omega arith

two_digits : (n : ℕ) → n / 256 / 256 ≡ n / 65536
two_digits n = omega arith

three_digits : (n : ℕ) → n / 65536 / 256 ≡ n / 16777216
three_digits n = omega arith

highest : (n : ℕ) → n < 2 ^ 32 → n / 16777216 % 256 ≡ n / 16777216
highest n h = omega arith

four_digits : (n a b c p q r : ℕ) → n ≡ a * 256 + p → a ≡ b * 256 + q → b ≡ c * 256 + r → c * 16777216 + r * 65536 + q * 256 + p ≡ n
four_digits n a b c p q r e f g = omega arith

pub count_shown : (n : ℕ) → n < 2 ^ 32 → count_byte n 4 * 16777216 + count_byte n 5 * 65536 + count_byte n 6 * 256 + count_byte n 7 ≡ n
unfolding when◌then◌else◌
count_shown n h =
    ap (λ (k : ℕ). k * 16777216 + n / 65536 % 256 * 65536 + n / 256 % 256 * 256 + n % 256) (highest n h)
    ∙ four_digits n (n / 256) (n / 65536) (n / 16777216) (n % 256) (n / 256 % 256) (n / 65536 % 256) (digit n)
    (digit (n / 256) ∙ ap (λ (k : ℕ). k * 256 + n / 256 % 256) (two_digits n))
    (digit (n / 65536) ∙ ap (λ (k : ℕ). k * 256 + n / 65536 % 256) (three_digits n))

pub count_goes_on : (x : Chip) → (chip_after x).count ≡ (x.count + 1) % 2 ^ 32
count_goes_on x = refl

pub count_wraps : (x : Chip) → x.count ≡ 4294967295 → (chip_after x).count ≡ 0
count_wraps x e = ap (λ (n : ℕ). (n + 1) % 2 ^ 32) e

-- n ticks behind a reading of the count, across its wrap
pub elapsed_ticks : (from n : ℕ) → from < 2 ^ 32 → n < 2 ^ 32 → elapsed from ((from + n) % 2 ^ 32) ≡ n
elapsed_ticks from n h k = omega arith

-- ---- "a tick's first write goes out in it if request to send is then set, any other is lost"

pub second_lost : (x : Chip) (v : ℕ) → x.ready ≡ false → goes_out (puts x 2 v) ≡ goes_out x
unfolding when◌then◌else◌ puts
second_lost x v e = ap goes_out (if_is_false x.ready (loaded x (x.control / 128 % 2 =? 1) v) (loaded x x.sending x.outgoing) e)

pub unrequested_lost : (x : Chip) (v : ℕ) → x.ready ≡ true → (x.control / 128 % 2 =? 1) ≡ false → goes_out (puts x 2 v) ≡ Carried.Silence
unfolding when◌then◌else◌ puts
unrequested_lost x v e f =
    ap goes_out (if_is_true x.ready (loaded x (x.control / 128 % 2 =? 1) v) (loaded x x.sending x.outgoing) e)
    ∙ if_is_false (x.control / 128 % 2 =? 1) (Nine v (ninth v) Mark.Sound) Carried.Silence f

-- ---- "A character arriving before that replaces it, with damage 2."

-- two characters with no read between
pub overrun_made : (x : Chip) (c e : ℕ) (b d : Bool) (m n : Mark) → x.deaf ≡ false → x.sending ≡ false
    → arrives (chip_after (arrives x (Nine c b m))) (Nine e d n) ≡ receives (chip_after (arrives x (Nine c b m))) true e 2 true
unfolding when◌then◌else◌
overrun_made x c e b d m n hears silent = go x.deaf hears
  where
    first : Bool → Chip
    first deaf = when deaf then receives x false x.latest x.kind x.received else receives x true c (when x.received then 2 else kind_of c b m) true

    go : (deaf : Bool) → deaf ≡ false → arrives (chip_after (first deaf)) (Nine e d n) ≡ receives (chip_after (first deaf)) true e 2 true
    go true z = absurd (true_false z)
    go false z = ap (λ (s : Bool). when s then receives (chip_after (first false)) false c (when x.received then 2 else kind_of c b m) true else receives (chip_after (first false)) true e 2 true) silent

-- ---- "It refuses a write to bytes 0, 3 and 4 to 7, and any byte above 7, with 19." A refused access changes nothing.

pub write_refused : (x : Chip) (n v : ℕ) → (n =? 1) ≡ false → (n =? 2) ≡ false → (register_written x n v ≡ refused 19) × (puts x n v ≡ x)
unfolding when◌then◌else◌ puts
write_refused x n v p q = (by_number, ap (put_by x) by_number)
  where
    by_number : register_written x n v ≡ refused 19
    by_number = if_is_false (n =? 1) _ _ p ∙ if_is_false (n =? 2) _ _ q

pub read_refused : (x : Chip) (n : ℕ) → (7 <? n) ≡ true → (register_read x n ≡ refused 19) × ((looks x n).chip ≡ x)
unfolding when◌then◌else◌ looks
read_refused x n p = (by_number, ap (λ (l : Called Looked). (looked_by x l).chip) by_number)
  where
    by_number : register_read x n ≡ refused 19
    by_number = if_is_true (7 <? n) _ _ p
