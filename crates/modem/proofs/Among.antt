-- The driver among further accesses that spare what is heard and sent: it hears what it hears alone, and what it sends goes out.
use Rattle.std.proofs.Common.{◌≡◌, ℕ, ◌+◌, ◌*◌, ◌/◌, ◌%◌, Bool, true, false, List, sym, refl, ap, ◌∙◌, ap₂, arith, eq-eqb}
use borrow.Author.Tests.{eqb-false}
use Rattle.base.specs.Choice.{when◌then◌else◌, ◌=?◌}
use Rattle.base.proofs.Choices.{true_false, if_is_true, if_is_false}
use Rattle.line.specs.declared.Heard.{Heard}
use Rattle.line.specs.declared.Heard.TheVariants.{Silence}
use Rattle.modem.specs.Parity.{ninth}
use Rattle.modem.specs.Chip.{arrives, loaded, goes_out}
use Rattle.modem.specs.Accesses.{looks, puts, Access, reads, writes, accessed, after_all}
use Rattle.modem.specs.Driver.{damaged_by, hears, wire}
use Rattle.modem.specs.Further.{Own, own_status_read, own_kind_read, own_data_read, own_control_read, own_control_write, own_data_write, Further, alone, hears_among, control_read, control_written, transmits_among, stays_silent_among, reads_data, writes_data, sets_request, clears_request, any_of, Spares}
use Rattle.modem.specs.declared.Mark.{Mark}
use Rattle.modem.specs.declared.Carried.{Carried}
use Rattle.modem.specs.declared.Carried.TheVariants.{Nine}
use Rattle.modem.specs.declared.Chip.{Chip}
use Rattle.modem.proofs.Driving.{received_read, heard_is}
use Rattle.modem.proofs.Accessing.{after_read, after_write, after_any, after_none}

-- ---- what accesses leave as it was

-- byte 2 stays read
pub access_stays_read : (x : Chip) (a : Access) → x.received ≡ false → (accessed x a).received ≡ false
access_stays_read x (reads n) p = after_read (λ (y : Chip). y.received ≡ false) x p n (λ e. refl)
access_stays_read x (writes n v) p = after_write (λ (y : Chip). y.received ≡ false) x p n v (λ e. p) (λ e r. p)

pub stays_read : (x : Chip) (l : List Access) → x.received ≡ false → (after_all x l).received ≡ false
stays_read = after_any (λ (y : Chip). y.received ≡ false) access_stays_read

-- with no read of byte 2: status bit 5
unread_kept : (x : Chip) (l : List Access) → any_of reads_data l ≡ false → (after_all x l).received ≡ x.received
unread_kept x l e = after_none (λ (y : Chip). y.received ≡ x.received) reads_data keeps x l e refl
  where
    keeps : (y : Chip) (a : Access) → reads_data a ≡ false → y.received ≡ x.received → (accessed y a).received ≡ x.received
    keeps y (reads n) d p = after_read (λ (z : Chip). z.received ≡ x.received) y p n (λ r. absurd (true_false (sym r ∙ d)))
    keeps y (writes n v) d p = after_write (λ (z : Chip). z.received ≡ x.received) y p n v (λ r. p) (λ r s. p)

-- with no write to byte 2: the character and its kind, and whether one was written and goes out
abbrev SameData : Chip → Chip → Type 0
SameData x y = (y.latest ≡ x.latest) × (y.kind ≡ x.kind) × (y.ready ≡ x.ready) × (y.sending ≡ x.sending)

unwritten : (x : Chip) (l : List Access) → any_of writes_data l ≡ false → SameData x (after_all x l)
unwritten x l e = after_none (SameData x) writes_data keeps x l e (refl, refl, refl, refl)
  where
    keeps : (y : Chip) (a : Access) → writes_data a ≡ false → SameData x y → SameData x (accessed y a)
    keeps y (reads n) d p = after_read (SameData x) y p n (λ r. p)
    keeps y (writes n v) d p = after_write (SameData x) y p n v (λ r. p) (λ r s. absurd (true_false (sym r ∙ d)))

both_unwritten : (x y z : Chip) → SameData x y → SameData y z → SameData x z
both_unwritten x y z p q = (q.0 ∙ p.0, q.1 ∙ p.1, q.2 ∙ p.2, q.3 ∙ p.3)

-- after the tick's first write: what goes out
abbrev SameOutgoing : Chip → Chip → Type 0
SameOutgoing x y = (y.ready ≡ false) × (y.sending ≡ x.sending) × (y.outgoing ≡ x.outgoing)

others_lost : (x : Chip) (l : List Access) → x.ready ≡ false → SameOutgoing x (after_all x l)
others_lost x l e = after_any (SameOutgoing x) keeps x l (e, refl, refl)
  where
    keeps : (y : Chip) (a : Access) → SameOutgoing x y → SameOutgoing x (accessed y a)
    keeps y (reads n) p = after_read (SameOutgoing x) y p n (λ r. p)
    keeps y (writes n v) p = after_write (SameOutgoing x) y p n v (λ r. p) (λ r s. absurd (true_false (sym s ∙ p.0)))

-- request to send, where no access clears it; and silence, where none sets it
abbrev requests : Chip → Bool
requests x = x.control / 128 % 2 =? 1

requests_on : (x : Chip) (l : List Access) → any_of clears_request l ≡ false → requests x ≡ true → requests (after_all x l) ≡ true
requests_on = after_none (λ (y : Chip). requests y ≡ true) clears_request keeps
  where
    set : (v : ℕ) → (v / 128 % 2 ≡ 0 → ⊥) → v / 32 * 32 / 128 % 2 ≡ 1
    set v f = omega (arith, f)

    keeps : (y : Chip) (a : Access) → clears_request a ≡ false → requests y ≡ true → requests (accessed y a) ≡ true
    keeps y (reads n) d p = after_read (λ (z : Chip). requests z ≡ true) y p n (λ r. p)
    keeps y (writes n v) d p =
        after_write (λ (z : Chip). requests z ≡ true) y p n v
        (λ r. eq-eqb (v / 32 * 32 / 128 % 2) 1 (set v (eqb-false (v / 128 % 2) 0 (sym (if_is_true (n =? 1) (v / 128 % 2 =? 0) false r) ∙ d))))
        (λ r s. p)

abbrev Quiet : Chip → Type 0
Quiet x = (requests x ≡ false) × (x.sending ≡ false)

quiet_on : (x : Chip) (l : List Access) → any_of sets_request l ≡ false → Quiet x → Quiet (after_all x l)
quiet_on = after_none Quiet sets_request keeps
  where
    bit_seven : (v : ℕ) → v / 32 * 32 / 128 % 2 ≡ v / 128 % 2
    bit_seven v = omega arith

    keeps : (y : Chip) (a : Access) → sets_request a ≡ false → Quiet y → Quiet (accessed y a)
    keeps y (reads n) d p = after_read Quiet y p n (λ r. p)
    keeps y (writes n v) d p =
        after_write Quiet y p n v
        (λ r. (ap (λ (k : ℕ). k =? 1) (bit_seven v) ∙ sym (if_is_true (n =? 1) (v / 128 % 2 =? 1) false r) ∙ d, p.1))
        (λ r s. (p.0, p.0))

-- ---- what is heard

-- the chip when the driver reads status, byte 3 and byte 2
abbrev pub at_status : Further → Chip → Chip
at_status f x = after_all x (f.before own_status_read)

abbrev pub at_kind : Further → Chip → Chip
at_kind f x = after_all (at_status f x) (f.before own_kind_read)

abbrev pub at_data : Further → Chip → Chip
at_data f x = after_all (at_kind f x) (f.before own_data_read)

-- the driver hears a character where status bit 5 was set when it read status
pub among_is : (f : Further) (x : Chip) (b : Bool) → (at_status f x).received ≡ b → (hears_among f x).heard ≡ (when b then damaged_by (at_data f x).latest (at_kind f x).kind else Silence)
unfolding when◌then◌else◌ looks
among_is f x b e = ap (λ (r : Bool). when r then damaged_by (at_data f x).latest (at_kind f x).kind else Silence) (received_read (at_status f x) ∙ e)

module _ (f : Further) (x : Chip) (u : (o : Own) → any_of writes_data (f.before o) ≡ false) where
  kind_kept : SameData x (at_kind f x)
  kind_kept = both_unwritten x (at_status f x) (at_kind f x) (unwritten x (f.before own_status_read) (u own_status_read)) (unwritten (at_status f x) (f.before own_kind_read) (u own_kind_read))

  data_kept : SameData x (at_data f x)
  data_kept = both_unwritten x (at_kind f x) (at_data f x) kind_kept (unwritten (at_kind f x) (f.before own_data_read) (u own_data_read))

  among_heard : (x.received ≡ true → any_of reads_data (f.before own_status_read) ≡ false) → (hears_among f x).heard ≡ (hears x).heard
  among_heard k =
      among_is f x x.received (left x.received refl)
      ∙ ap₂ (λ (c n : ℕ). when x.received then damaged_by c n else Silence) data_kept.0 kind_kept.1
      ∙ sym (heard_is x)
    where
      left : (b : Bool) → x.received ≡ b → (at_status f x).received ≡ x.received
      left true e = unread_kept x (f.before own_status_read) (k e)
      left false e = stays_read x (f.before own_status_read) e ∙ sym e

  -- the chip after the driver's reads
  pub among_ready : (hears_among f x).chip.ready ≡ x.ready
  unfolding when◌then◌else◌ looks
  among_ready = data_kept.2

  pub among_sending : (hears_among f x).chip.sending ≡ x.sending
  unfolding when◌then◌else◌ looks
  among_sending = data_kept.3

pub among_read : (f : Further) (x : Chip) → (hears_among f x).chip.received ≡ false
unfolding when◌then◌else◌ looks
among_read f x = refl

-- a chip with no character unread hears among them what it hears alone
pub spared_heard : (x : Chip) (h : Heard) (bit : Bool) (f : Further) → x.received ≡ false → Spares h f → (hears_among f (arrives x (wire h bit))).heard ≡ (hears (arrives x (wire h bit))).heard
spared_heard x h bit f r k = among_heard f (arrives x (wire h bit)) k.first_write left
  where
    left : (arrives x (wire h bit)).received ≡ true → any_of reads_data (f.before own_status_read) ≡ false
    left e = go (any_of reads_data (f.before own_status_read)) refl
      where
        go : (b : Bool) → any_of reads_data (f.before own_status_read) ≡ b → any_of reads_data (f.before own_status_read) ≡ false
        go true d = absurd (true_false (sym e ∙ ap (λ (g : Heard). (arrives x (wire g bit)).received) (k.character_left d) ∙ r))
        go false d = d

-- ---- what is sent

requested : (f : Further) (x : Chip) (n : ℕ) → requests (control_written f x (n % 128 + 128)) ≡ true
unfolding when◌then◌else◌ looks puts
requested f x n = eq-eqb _ 1 (one n)
  where
    one : (n : ℕ) → (n % 128 + 128) / 32 * 32 / 128 % 2 ≡ 1
    one n = omega arith

unrequested : (f : Further) (x : Chip) (n : ℕ) → requests (control_written f x (n % 128)) ≡ false
unfolding when◌then◌else◌ looks puts
unrequested f x n = ap (λ (k : ℕ). k =? 1) (none n)
  where
    none : (n : ℕ) → n % 128 / 32 * 32 / 128 % 2 ≡ 0
    none n = omega arith

-- a tick's first write, with request to send set
first_is : (x : Chip) (c : ℕ) → x.ready ≡ true → requests x ≡ true → puts x 2 c ≡ loaded x true c
unfolding when◌then◌else◌ puts
first_is x c r q =
    ap (λ (b : Bool). when b then loaded x (requests x) c else loaded x x.sending x.outgoing) r
    ∙ ap (λ (b : Bool). loaded x b c) q

module _ (h : Heard) (f : Further) (k : Spares h f) (x : Chip) where
  control_kept : (v : ℕ) → SameData x (control_written f x v)
  unfolding when◌then◌else◌ looks puts
  control_kept v =
      both_unwritten x y (after_all y (f.before own_control_write)) (unwritten x (f.before own_control_read) (k.first_write own_control_read))
      (unwritten y (f.before own_control_write) (k.first_write own_control_write))
    where
      y : Chip
      y = after_all x (f.before own_control_read)

  pub silent_nothing : x.sending ≡ false → (stays_silent_among f x).sending ≡ false
  silent_nothing n = go (any_of writes_data f.after_silence) refl
    where
      y : Chip
      y = control_written f x ((control_read f x).value % 128)

      still : y.sending ≡ false
      still = (control_kept ((control_read f x).value % 128)).3 ∙ n

      go : (b : Bool) → any_of writes_data f.after_silence ≡ b → (after_all y f.after_silence).sending ≡ false
      go true e = (quiet_on y f.after_silence (k.silence_kept e) (unrequested f x (control_read f x).value, still)).1
      go false e = (unwritten y f.after_silence e).3 ∙ still

  pub silence_out : x.sending ≡ false → goes_out (stays_silent_among f x) ≡ Carried.Silence
  silence_out n = if_is_false (stays_silent_among f x).sending _ _ (silent_nothing n)

  pub character_out : (c : ℕ) → x.ready ≡ true → goes_out (transmits_among f x c) ≡ Nine c (ninth c) Mark.Sound
  character_out c r =
      if_is_true (transmits_among f x c).sending _ _ (lost.1 ∙ ap (λ (q : Chip). q.sending) written)
      ∙ ap (λ (n : ℕ). Nine n (ninth n) Mark.Sound) (lost.2 ∙ ap (λ (q : Chip). q.outgoing) written)
    where
      y : Chip
      y = control_written f x ((control_read f x).value % 128 + 128)

      z : Chip
      z = after_all y (f.before own_data_write)

      written : puts z 2 c ≡ loaded z true c
      written =
          first_is z c
          ((unwritten y (f.before own_data_write) (k.first_write own_data_write)).2 ∙ (control_kept ((control_read f x).value % 128 + 128)).2 ∙ r)
          (requests_on y (f.before own_data_write) k.request_kept (requested f x (control_read f x).value))

      lost : SameOutgoing (puts z 2 c) (after_all (puts z 2 c) f.after_character)
      lost = others_lost (puts z 2 c) f.after_character (ap (λ (q : Chip). q.ready) written)

-- byte 2 stays read
module _ (f : Further) (x : Chip) (e : x.received ≡ false) where
  control_read_out : (v : ℕ) → (control_written f x v).received ≡ false
  unfolding when◌then◌else◌ looks puts
  control_read_out v = stays_read (after_all x (f.before own_control_read)) (f.before own_control_write) (stays_read x (f.before own_control_read) e)

  pub silent_read : (stays_silent_among f x).received ≡ false
  silent_read = stays_read (control_written f x ((control_read f x).value % 128)) f.after_silence (control_read_out ((control_read f x).value % 128))

  pub character_read : (c : ℕ) → (transmits_among f x c).received ≡ false
  character_read c = stays_read (puts z 2 c) f.after_character (access_stays_read z (writes 2 c) (stays_read y (f.before own_data_write) (control_read_out ((control_read f x).value % 128 + 128))))
    where
      y : Chip
      y = control_written f x ((control_read f x).value % 128 + 128)

      z : Chip
      z = after_all y (f.before own_data_write)

-- ---- no further access

pub alone_spares : (h : Heard) → Spares h alone
unfolding any_of
alone_spares h = record {
  character_left = λ e. absurd (true_false (sym e));
  first_write = λ o. refl;
  request_kept = refl;
  silence_kept = λ e. refl;
}
