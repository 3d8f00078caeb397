-- Single sentences of document 02, item 13, as laws of the definitions.
use Prim.Native.Nat.{ℕ, ◌+◌, ◌-◌, ◌≤◌, ◌<◌}
use native.Mathlib.Omega.{arith}
use mathlib.Core.Path.{◌≡◌, refl, ap, ◌∙◌}
use mathlib.Core.Bool.{true, false}
use mathlib.Core.List.{List}
use borrow.Author.Tests.{le-leb, lt-leb, eq-eqb, ne_eqb}
use Rattle.base.specs.Choice.{when◌then◌else◌, ◌=?◌}
use Rattle.base.specs.Refusal.{refused}
use Rattle.base.proofs.Choices.{if_is_true, if_is_false}
use Rattle.frame.specs.Delimiter.{back}
use Rattle.line.specs.Reader.{no_damage}
use Rattle.line.specs.declared.Damage.TheVariants.{Parity}
use Rattle.line.specs.declared.Event.TheVariants.{Damaged}
use Rattle.line.specs.declared.FrameDamage.{FrameDamage}
use Rattle.line.specs.declared.Heard.{Heard}
use Rattle.line.specs.declared.Heard.TheVariants.{Silence, Character}
use Rattle.line.specs.declared.Receiver.{Receiver}
use Rattle.line.specs.declared.Whole.{Whole}
use Rattle.turns.specs.Master.{after_break}
use Rattle.turns.specs.Device.{answered, may_answer, after_request}
use Rattle.turns.specs.declared.Change.{Change}
use Rattle.turns.specs.declared.Device.{Device}
use Rattle.turns.specs.declared.Master.{Master}
use Rattle.turns.specs.declared.MasterTaken.{MasterTaken}
use Rattle.turns.specs.declared.Request.{Request}
use Rattle.turns.specs.declared.Turn.TheVariants.{Asked}
use Rattle.turns.specs.declared.Wish.{Wish}
use Rattle.turns.proofs.Masters.{if_cases}
use Rattle.line.specs.Profile.{infrared_profile}
use Rattle.port.specs.Numbers.{sto_of, port_preamble}
use Rattle.port.specs.Master.{after_port_frame, ends_answer, port_requested}
use Rattle.port.specs.Device.{wakes, past_sto, too_late, port_answered, port_device_starts}

-- ---- "STO is 87, but 52 for commands 0 and 11": the host is told of an STX in tick T+1, and a request is in hand for 87 ticks; in tick T+k there are 88 - k left

pub request_has : (d : Device) (w : Whole) → d.profile ≡ infrared_profile → may_answer d w.header ≡ true → (after_request d w).turn ≡ Asked 87
request_has d w p e = ap (λ (c : Change). c.turn) (if_is_true (may_answer d w.header) _ _ e) ∙ ap (λ q. Asked q.sto) p

module _ (limit : ℕ) (d : Device) (wish : Wish) (count k : ℕ) (turn : d.turn ≡ Asked (88 - k)) (low : 1 ≤ k) (high : k ≤ 87) where
  pub past_sto_lem : sto_of d.request.command < k → port_answered limit d wish count ≡ refused 8
  unfolding port_answered
  past_sto_lem h = if_is_true (too_late d) _ _ (ap (past_sto d.request.command) turn ∙ le-leb (88 - k + sto_of d.request.command) 87 (omega arith))

  pub up_to_sto : k ≤ sto_of d.request.command → port_answered limit d wish count ≡ answered limit d wish count
  unfolding port_answered
  up_to_sto h = if_is_false (too_late d) _ _ (ap (past_sto d.request.command) turn ∙ lt-leb (88 - k + sto_of d.request.command) 87 (omega arith))

pub sto_of_commands : (sto_of 0 ≡ 52) × (sto_of 11 ≡ 52) × (sto_of 3 ≡ 87)
unfolding when◌then◌else◌
sto_of_commands = (refl, refl, refl)

-- ---- an answer is an undamaged ACK

pub damaged_no_answer : (w : Whole) (m : FrameDamage) → ends_answer (Damaged w m) ≡ false
damaged_no_answer w m = refl

-- ---- "a BACK counts as a damaged frame", and no frame changes BURST

pub back_damaged : (m : Master) (r : Receiver) (w : Whole) (bytes : List ℕ) → w.header.kind ≡ back → after_port_frame m r w bytes ≡ after_break m r (Damaged w no_damage)
unfolding after_port_frame
back_damaged m r w bytes e = if_is_true (w.header.kind =? back) _ _ (eq-eqb w.header.kind back e)

pub burst_stays : (m : Master) (r : Receiver) (w : Whole) (bytes : List ℕ) → (after_port_frame m r w bytes).master.burst ≡ m.burst
unfolding after_port_frame
burst_stays m r w bytes = if_cases (λ (t : MasterTaken). t.master.burst ≡ m.burst) (w.header.kind =? back) _ _ (λ q. refl) (λ q. refl)

-- ---- "another preamble with 3"

pub request_preamble : (limit : ℕ) (m : Master) (q : Request) (count : ℕ) → (q.preamble ≡ 5 → ⊥) → port_requested limit m q count ≡ refused 3
unfolding port_requested
request_preamble limit m q count f = if_is_false (q.preamble =? port_preamble) _ _ (ne_eqb q.preamble 5 f)

pub start_preamble : (preamble polling unique : ℕ) → (preamble ≡ 5 → ⊥) → port_device_starts preamble polling unique ≡ refused 3
start_preamble preamble polling unique f = if_is_false (preamble =? port_preamble) _ _ (ne_eqb preamble 5 f)

-- ---- "three wake-up bytes that alternate, or .. two characters other than 0xFF, damaged or not"

pub three_alternate : (wakes (Character 0x00) (Character 0xFF) (Character 0x00) ≡ true) × (wakes (Character 0xFF) (Character 0x00) (Character 0xFF) ≡ true)
unfolding when◌then◌else◌
three_alternate = (refl, refl)

pub two_others : (wakes Silence (Character 0x55) (Heard.Damaged 0x00 Parity) ≡ true) × (wakes Silence (Character 0x00) (Character 0x00) ≡ true)
unfolding when◌then◌else◌
two_others = (refl, refl)

-- a damaged 0xFF is neither, and a silent tick begins both counts anew
pub not_yet : (wakes (Character 0x00) (Heard.Damaged 0xFF Parity) (Character 0x00) ≡ false) × (wakes (Character 0x00) (Character 0xFF) (Character 0xFF) ≡ false) × (wakes (Character 0x55) Silence (Character 0x55) ≡ false)
unfolding when◌then◌else◌
not_yet = (refl, refl, refl)
