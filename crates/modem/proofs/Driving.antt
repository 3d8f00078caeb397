-- What the driver hears is what a party hears without the chip.
use Rattle.std.proofs.Common.{◌≡◌, ℕ, ◌/◌, ◌%◌, Bool, true, false, refl, ap, ◌∙◌}
use Rattle.base.specs.Choice.{when◌then◌else◌, ◌=?◌, bit}
use Rattle.line.specs.declared.Damage.TheVariants.{Parity, Overrun, Framing}
use Rattle.line.specs.declared.Heard.{Heard}
use Rattle.line.specs.declared.Heard.TheVariants.{Silence, Character, Damaged}
use Rattle.modem.specs.Parity.{ninth, kind_of}
use Rattle.modem.specs.Chip.{receives, arrives, status}
use Rattle.modem.specs.Accesses.{looks}
use Rattle.modem.specs.Driver.{damaged_by, hears, other, wire}
use Rattle.modem.specs.declared.Mark.{Mark}
use Rattle.modem.specs.declared.Carried.{Carried}
use Rattle.modem.specs.declared.Carried.TheVariants.{Nine}
use Rattle.modem.specs.declared.Chip.{Chip}
use Rattle.modem.proofs.Sentences.{parity_right, parity_wrong, status_bits}

-- ---- what is heard

one_is : (b : Bool) → (bit b =? 1) ≡ b
unfolding when◌then◌else◌
one_is true = refl
one_is false = refl

pub received_read : (x : Chip) → (status x / 32 % 2 =? 1) ≡ x.received
received_read x = ap (λ (n : ℕ). n =? 1) (status_bits x).received ∙ one_is x.received

-- a character that is unread, with its damage; else silence
abbrev pub heard_by : Chip → Heard
heard_by x = when x.received then damaged_by x.latest x.kind else Silence

pub heard_is : (x : Chip) → (hears x).heard ≡ heard_by x
unfolding when◌then◌else◌ looks
heard_is x = ap (λ (b : Bool). when b then damaged_by x.latest x.kind else Silence) (received_read x)

-- "Reading byte 2 clears status bit 5.": all that the driver's reads change
pub behind_is : (x : Chip) → (hears x).chip ≡ receives x x.carrier x.latest x.kind false
unfolding when◌then◌else◌ looks
behind_is x = refl

module _ (x : Chip) (r : x.received ≡ false) where
  silent : heard_by (receives x false x.latest x.kind x.received) ≡ Silence
  unfolding when◌then◌else◌
  silent = ap (λ (b : Bool). when b then damaged_by x.latest x.kind else Silence) r

  -- a character that arrives at a chip that has none unread
  arrived : (c : ℕ) (bit : Bool) (mark : Mark) (k : ℕ) → x.deaf ≡ false → kind_of c bit mark ≡ k → heard_by (arrives x (Nine c bit mark)) ≡ damaged_by c k
  unfolding when◌then◌else◌
  arrived c bit mark k d e =
      ap (λ (b : Bool). heard_by (when b then receives x false x.latest x.kind x.received else receives x true c (when x.received then 2 else kind_of c bit mark) true)) d
      ∙ ap (λ (b : Bool). damaged_by c (when b then 2 else kind_of c bit mark)) r
      ∙ ap (damaged_by c) e

  arrived_deaf : (c : ℕ) (bit : Bool) (mark : Mark) → x.deaf ≡ true → heard_by (arrives x (Nine c bit mark)) ≡ Silence
  unfolding when◌then◌else◌
  arrived_deaf c bit mark d =
      ap (λ (b : Bool). heard_by (when b then receives x false x.latest x.kind x.received else receives x true c (when x.received then 2 else kind_of c bit mark) true)) d
      ∙ silent

  by_wire : (h : Heard) (bit : Bool) → x.deaf ≡ false → heard_by (arrives x (wire h bit)) ≡ h
  unfolding when◌then◌else◌
  by_wire Silence bit d = silent
  by_wire (Character c) bit d = arrived c (ninth c) Mark.Sound 0 d (parity_right c)
  by_wire (Damaged c Parity) bit d = arrived c (other (ninth c)) Mark.Sound 1 d (parity_wrong c)
  by_wire (Damaged c Overrun) bit d = arrived c bit Mark.Overrun 2 d refl
  by_wire (Damaged c Framing) bit d = arrived c bit Mark.Framing 3 d refl

  by_deaf : (h : Heard) (bit : Bool) → x.deaf ≡ true → heard_by (arrives x (wire h bit)) ≡ Silence
  by_deaf Silence bit d = silent
  by_deaf (Character c) bit d = arrived_deaf c (ninth c) Mark.Sound d
  by_deaf (Damaged c Parity) bit d = arrived_deaf c (other (ninth c)) Mark.Sound d
  by_deaf (Damaged c Overrun) bit d = arrived_deaf c bit Mark.Overrun d
  by_deaf (Damaged c Framing) bit d = arrived_deaf c bit Mark.Framing d

  -- a chip with no character unread hears what was heard without it, and one that sent hears nothing
  pub wire_heard : (h : Heard) (bit : Bool) → x.deaf ≡ false → (hears (arrives x (wire h bit))).heard ≡ h
  wire_heard h bit d = heard_is (arrives x (wire h bit)) ∙ by_wire h bit d

  pub deaf_heard : (h : Heard) (bit : Bool) → x.deaf ≡ true → (hears (arrives x (wire h bit))).heard ≡ Silence
  deaf_heard h bit d = heard_is (arrives x (wire h bit)) ∙ by_deaf h bit d

-- ---- what a tick's beginning leaves as it was

module _ (x : Chip) where
  pub arrived_ready : (w : Carried) → (arrives x w).ready ≡ x.ready
  unfolding when◌then◌else◌
  arrived_ready Carried.Silence = refl
  arrived_ready (Nine c bit mark) = go x.deaf
    where
      go : (b : Bool) → (when b then receives x false x.latest x.kind x.received else receives x true c (when x.received then 2 else kind_of c bit mark) true).ready ≡ x.ready
      go true = refl
      go false = refl

  pub arrived_sending : (w : Carried) → (arrives x w).sending ≡ x.sending
  unfolding when◌then◌else◌
  arrived_sending Carried.Silence = refl
  arrived_sending (Nine c bit mark) = go x.deaf
    where
      go : (b : Bool) → (when b then receives x false x.latest x.kind x.received else receives x true c (when x.received then 2 else kind_of c bit mark) true).sending ≡ x.sending
      go true = refl
      go false = refl
