-- The line's reader where it finds nothing, and readers that were compared: what the derived equality calls equal is equal.
use Rattle.frame.specs.contracts.HeaderPartialEq.TheImpl as HeaderEq
use Rattle.line.specs.contracts.PlacePartialEq.TheImpl as PlaceEq
use Rattle.line.specs.contracts.FrameDamagePartialEq.TheImpl as DamageEq
use mathlib.Core.Bool.{Bool, true, false, beq, ◌&&◌}
use mathlib.Core.Path.{◌≡◌, refl, sym, ap}
use borrow.Author.Tests.{eqb-true}
use Rattle.base.specs.Choice.{◌=?◌}
use Rattle.base.proofs.Choices.{true_false}
use Rattle.frame.specs.declared.Header.{Header}
use Rattle.line.specs.Reader.{idle, inside_frame, character, taken, ReaderTakeIs}
use Rattle.line.specs.Reader as R
use Rattle.line.specs.declared.Event.{Event}
use Rattle.line.specs.declared.Event.TheVariants.{Nothing, PassedOver, Broken, Frame, Damaged}
use Rattle.line.specs.declared.FrameDamage.{FrameDamage}
use Rattle.line.specs.declared.Place.{Place}
use Rattle.line.specs.declared.Place.TheVariants.{Passing, Idle, Preamble, First, Address, Expansion, Command, Count, Data, Check}
use Rattle.line.specs.declared.Receiver.{Receiver}
use Rattle.line.specs.declared.Taken.{Taken}
use Rattle.link_parties.specs.Readers.{finds_nothing, step_of, same_reader}

-- what the line's reader finds is nothing
pub quiet_step : (t : Taken) (r : Receiver) → (step_of t).reader ≡ r → (step_of t).quiet ≡ true → t ≡ R.tells r Nothing
quiet_step t r e f = by t.event refl f
  where
    by : (event : Event) → t.event ≡ event → finds_nothing event ≡ true → t ≡ R.tells r Nothing
    by Nothing k l = λ i. record { receiver = e i; event = k i }
    by PassedOver k l = absurd (true_false (sym l))
    by Broken k l = absurd (true_false (sym l))
    by (Frame w) k l = absurd (true_false (sym l))
    by (Damaged w m) k l = absurd (true_false (sym l))

-- ---- readers that were compared

-- both parts of a test
both : (s t : Bool) → (s && t) ≡ true → (s ≡ true) × (t ≡ true)
both true t e = (refl, e)
both false t e = absurd (true_false (sym e))

bits_equal : (a b : Bool) → beq a b ≡ true → a ≡ b
bits_equal true true e = refl
bits_equal true false e = absurd (true_false (sym e))
bits_equal false true e = absurd (true_false (sym e))
bits_equal false false e = refl

places_equal : (p q : Place) → PlaceEq.ghosts.eq p q ≡ true → p ≡ q
places_equal Passing Passing e = refl
places_equal Idle Idle e = refl
places_equal (Preamble n) (Preamble m) e = ap Preamble (eqb-true n m e)
places_equal First First e = refl
places_equal (Address n) (Address m) e = ap Address (eqb-true n m e)
places_equal (Expansion n) (Expansion m) e = ap Expansion (eqb-true n m e)
places_equal Command Command e = refl
places_equal Count Count e = refl
places_equal (Data n) (Data m) e = ap Data (eqb-true n m e)
places_equal Check Check e = refl
places_equal p q e = absurd (true_false (sym e))

headers_equal : (a b : Header) → HeaderEq.ghosts.eq a b ≡ true → a ≡ b
headers_equal a b e =
    let v = both (a.address =? b.address) _ e in
    let w = both (a.kind =? b.kind) _ v.1 in
    let x = both (beq a.primary b.primary) _ w.1 in
    let y = both (beq a.burst b.burst) _ x.1 in
    let z = both (beq a.long b.long) (a.command =? b.command) y.1 in
    λ i. record {
      kind = eqb-true a.kind b.kind w.0 i;
      long = bits_equal a.long b.long z.0 i;
      primary = bits_equal a.primary b.primary x.0 i;
      burst = bits_equal a.burst b.burst y.0 i;
      address = eqb-true a.address b.address v.0 i;
      command = eqb-true a.command b.command z.1 i;
    }

damages_equal : (a b : FrameDamage) → DamageEq.ghosts.eq a b ≡ true → a ≡ b
damages_equal a b e =
    let w = both (beq a.parity b.parity) _ e in
    let x = both (beq a.overrun b.overrun) _ w.1 in
    let y = both (beq a.framing b.framing) _ x.1 in
    let z = both (beq a.address b.address) (beq a.check b.check) y.1 in
    λ i. record {
      parity = bits_equal a.parity b.parity w.0 i;
      overrun = bits_equal a.overrun b.overrun x.0 i;
      framing = bits_equal a.framing b.framing y.0 i;
      check = bits_equal a.check b.check z.1 i;
      address = bits_equal a.address b.address z.0 i;
    }

pub readers_equal : (a b : Receiver) → same_reader a b ≡ true → a ≡ b
readers_equal a b e =
    let u = both (HeaderEq.ghosts.eq a.header b.header) _ e in
    let v = both (PlaceEq.ghosts.eq a.place b.place) _ u.1 in
    let w = both (a.expansion =? b.expansion) _ v.1 in
    let x = both (a.count =? b.count) _ w.1 in
    let y = both (a.sum =? b.sum) _ x.1 in
    let z = both (DamageEq.ghosts.eq a.damage b.damage) (beq a.gap b.gap) y.1 in
    λ i. record {
      place = places_equal a.place b.place v.0 i;
      header = headers_equal a.header b.header u.0 i;
      expansion = eqb-true a.expansion b.expansion w.0 i;
      count = eqb-true a.count b.count x.0 i;
      sum = eqb-true a.sum b.sum y.0 i;
      damage = damages_equal a.damage b.damage z.0 i;
      gap = bits_equal a.gap b.gap z.1 i;
    }
