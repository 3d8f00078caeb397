-- What an access leaves: what holds of a chip, and of what each access makes of it, holds after a list of accesses.
use Rattle.std.proofs.Common.{◌≡◌, ℕ, ◌/◌, ◌%◌, Bool, true, false, List, [], ◌∷◌, refl, subst}
use Rattle.base.specs.Choice.{when◌then◌else◌, ◌<?◌, ◌=?◌}
use Rattle.base.specs.Refusal.{accepted, refused}
use Rattle.base.proofs.Choices.{true_false, went_else}
use Rattle.modem.specs.Chip.{receives, register_at, controlled, loaded, data_written}
use Rattle.modem.specs.Accesses.{looked_by, put_by, looks, puts, Access, accessed, after_all}
use Rattle.modem.specs.Further.{any_of}
use Rattle.modem.specs.declared.Chip.{Chip}

-- the chip after byte 2 is read
abbrev pub read_out : Chip → Chip
read_out x = receives x x.carrier x.latest x.kind false

-- "any other is lost": it changes nothing
other_write : (x : Chip) → x.ready ≡ false → x ≡ loaded x x.sending x.outgoing
other_write x e = λ i. record {
  count = x.count;
  control = x.control;
  latest = x.latest;
  kind = x.kind;
  carrier = x.carrier;
  received = x.received;
  ready = e i;
  sending = x.sending;
  outgoing = x.outgoing;
  deaf = x.deaf;
}

-- ---- an access

module _ (P : Chip → Type 0) (x : Chip) (p : P x) where
  pub after_read : (n : ℕ) → ((n =? 2) ≡ true → P (read_out x)) → P (looks x n).chip
  unfolding when◌then◌else◌ looks
  after_read n q = go (7 <? n) (n =? 2) q
    where
      go : (b d : Bool) → (d ≡ true → P (read_out x))
          → P (looked_by x (when b then refused 19 else when d then accepted (record { value = register_at x n; chip = read_out x }) else accepted (record { value = register_at x n; chip = x }))).chip
      go true d r = p
      go false true r = r refl
      go false false r = p

  pub after_write : (n v : ℕ) → ((n =? 1) ≡ true → P (controlled x v)) → ((n =? 2) ≡ true → x.ready ≡ true → P (loaded x (x.control / 128 % 2 =? 1) v)) → P (puts x n v)
  unfolding when◌then◌else◌ puts
  after_write n v q r = go (n =? 1) (n =? 2) q r
    where
      data_written_lem : (b : Bool) → x.ready ≡ b → (x.ready ≡ true → P (loaded x (x.control / 128 % 2 =? 1) v))
          → P (when b then loaded x (x.control / 128 % 2 =? 1) v else loaded x x.sending x.outgoing)
      data_written_lem true e s = s e
      data_written_lem false e s = subst P (other_write x e) p

      go : (b d : Bool) → (b ≡ true → P (controlled x v)) → (d ≡ true → x.ready ≡ true → P (loaded x (x.control / 128 % 2 =? 1) v))
          → P (put_by x (when b then accepted (controlled x v) else when d then accepted (data_written x v) else refused 19))
      go true d s t = s refl
      go false true s t = data_written_lem x.ready refl (t refl)
      go false false s t = p

-- ---- a list of accesses

pub after_any : (P : Chip → Type 0) → ((x : Chip) (a : Access) → P x → P (accessed x a)) → (x : Chip) (l : List Access) → P x → P (after_all x l)
unfolding after_all
after_any P keeps x [] p = p
after_any P keeps x (a ∷ more) p = after_any P keeps (accessed x a) more (keeps x a p)

-- a list with no access of this kind
pub after_none : (P : Chip → Type 0) (is : Access → Bool) → ((x : Chip) (a : Access) → is a ≡ false → P x → P (accessed x a))
    → (x : Chip) (l : List Access) → any_of is l ≡ false → P x → P (after_all x l)
unfolding after_all any_of
after_none P is keeps x [] e p = p
after_none P is keeps x (a ∷ more) e p =
    let neither : (is a ≡ false) × (any_of is more ≡ false) = went_else (is a) true (any_of is more) false e true_false in
    after_none P is keeps (accessed x a) more neither.1 (keeps x a neither.0 p)
