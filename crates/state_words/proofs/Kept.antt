-- What is packed and unpacked again is what it was.
use Prim.Native.Nat.{ℕ, ◌+◌, ◌*◌, ◌/◌, ◌%◌, ◌^◌, ◌<◌}
use native.Mathlib.Nat.{mod-eq_of_lt}
use native.Mathlib.Omega.{arith}
use mathlib.Core.Bool.{Bool, true, false}
use mathlib.Core.Path.{◌≡◌, refl, ap, ◌∙◌}
use Rattle.base.specs.Choice.{when◌then◌else◌, ◌=?◌}
use Rattle.frame.specs.declared.Header.{Header}
use Rattle.line.specs.declared.FrameDamage.{FrameDamage}
use Rattle.line.specs.declared.Place.{Place}
use Rattle.line.specs.declared.Place.TheVariants.{Passing, Idle, Preamble, First, Address, Expansion, Command, Count, Data, Check}
use Rattle.line.specs.declared.Profile.{Profile}
use Rattle.line.specs.declared.Receiver.{Receiver}
use Rattle.state_words.specs.Fields.{flag_word}
use Rattle.state_words.specs.Reader.{header_words, header_at, profile_words, profile_at, place_word, place_by, place_of, damage_words, damage_at, receiver_words, receiver_at}
use Rattle.state_words.specs.Fits.{HeaderFits, ProfileFits, PlaceFits, ReceiverFits}

pub flag_kept : (on : Bool) → (flag_word on =? 1) ≡ on
flag_kept true = refl
flag_kept false = refl

-- a number of so many bits
pub number_kept : (bits n : ℕ) → n < 2 ^ bits → n % 2 ^ bits ≡ n
number_kept bits n h = mod-eq_of_lt h

-- a case's number, and what it holds
pub case_kept : {A : Type 0} (f : ℕ → ℕ → A) (bits number n : ℕ) → number < 16 → n < 2 ^ bits → f ((number + 16 * n) % 16) ((number + 16 * n) / 16 % 2 ^ bits) ≡ f number n
case_kept f bits number n h k =
    let first : (number + 16 * n) % 16 ≡ number = omega arith in
    let second : (number + 16 * n) / 16 ≡ n = omega arith in
    ap (λ (x : ℕ). f x ((number + 16 * n) / 16 % 2 ^ bits)) first
    ∙ ap (λ (x : ℕ). f number (x % 2 ^ bits)) second
    ∙ ap (λ (x : ℕ). f number x) (number_kept bits n k)

pub header_kept : (h : Header) → HeaderFits h → header_at (header_words h) 0 ≡ h
header_kept h f = λ i. record {
  kind = number_kept 8 h.kind f.kind i;
  long = flag_kept h.long i;
  primary = flag_kept h.primary i;
  burst = flag_kept h.burst i;
  address = h.address;
  command = number_kept 8 h.command f.command i;
}

pub profile_kept : (p : Profile) → ProfileFits p → profile_at (profile_words p) 0 ≡ p
profile_kept p f = λ i. record {
  sto = number_kept 16 p.sto f.sto i;
  hold = number_kept 16 p.hold f.hold i;
  rt2 = number_kept 16 p.rt2 f.rt2 i;
  rt1p = number_kept 16 p.rt1p f.rt1p i;
  rt1s = number_kept 16 p.rt1s f.rt1s i;
}

pub place_kept : (p : Place) → PlaceFits p → place_of (place_word p) ≡ p
unfolding when◌then◌else◌
place_kept Passing f = refl
place_kept Idle f = refl
place_kept (Preamble n) f = case_kept place_by 8 2 n (omega arith) f
place_kept First f = refl
place_kept (Address n) f = case_kept place_by 8 4 n (omega arith) f
place_kept (Expansion n) f = case_kept place_by 8 5 n (omega arith) f
place_kept Command f = refl
place_kept Count f = refl
place_kept (Data n) f = case_kept place_by 8 8 n (omega arith) f
place_kept Check f = refl

pub damage_kept : (m : FrameDamage) → damage_at (damage_words m) 0 ≡ m
damage_kept m = λ i. record {
  parity = flag_kept m.parity i;
  overrun = flag_kept m.overrun i;
  framing = flag_kept m.framing i;
  check = flag_kept m.check i;
  address = flag_kept m.address i;
}

pub receiver_kept : (r : Receiver) → ReceiverFits r → receiver_at (receiver_words r) 0 ≡ r
receiver_kept r f = λ i. record {
  header = header_kept r.header f.header i;
  place = place_kept r.place f.place i;
  expansion = number_kept 8 r.expansion f.expansion i;
  count = number_kept 8 r.count f.count i;
  sum = number_kept 8 r.sum f.sum i;
  gap = flag_kept r.gap i;
  damage = damage_kept r.damage i;
}
