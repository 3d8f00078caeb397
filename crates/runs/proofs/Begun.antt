-- One device begins its ACK or BACK: who hears it, and that BURST will agree with the devices behind that frame.
use Prim.Native.Nat.{ℕ}
use mathlib.Core.Path.{◌≡◌, refl, sym, subst, ◌∙◌}
use mathlib.Core.Bool.{Bool, true, false}
use mathlib.Core.List.{List}
use mathlib.Core.Logic.{◌⊎◌, inl, inr, ⊎_elim}
use borrow.Author.Tests.{eq-eqb, eqb-true, eqb-false}
use Rattle.base.specs.Choice.{when◌then◌else◌, ◌=?◌}
use Rattle.base.proofs.Choices.{true_false, if_is_true, if_is_false}
use Rattle.frame.specs.Delimiter.{back}
use Rattle.frame.specs.declared.Header.{Header}
use Rattle.line.specs.declared.Profile.{Profile}
use Rattle.turns.specs.Master.{is_noted, burst_after, noted_after, names_device}
use Rattle.turns.proofs.Masters.{if_cases}
use Rattle.turns.specs.Device.{answer_header, first_for}
use Rattle.turns.specs.Link.{DeviceSide, DeviceStep, sides}
use Rattle.turns.specs.Run.{All, none, and, Differ, Distinct, Sole, sole_and}
use Rattle.turns.specs.declared.Noted.{Noted}
use Rattle.turns.proofs.Lists.{Quietly, Loudly, AllQuiet, no_more, quiet_and, OneLoud, loud_here, loud_further, any_next}
use Rattle.turns.proofs.Phases.{Some, this, later, BurstIs, Bursting, Agreed}
use Rattle.runs.proofs.Beginning.{StillQuiet, AllStill, nothing_still, still_and, OneBegins, begins_here, begins_further}

-- the one that begins
pub record Picked (B : DeviceSide → DeviceStep → Type 0) : Type 0 where
  pub x : DeviceSide
  pub s : DeviceStep
  pub it : B x s

module _ {p : Profile} {g : ℕ} {h : Header} {n : ℕ} where
  -- the others, by what sets them apart from it
  still_quiet : {R : DeviceSide → Type 0} {y : DeviceSide} {xs : List DeviceSide} {ss : List DeviceStep} → ((z : DeviceSide) (t : DeviceStep) → StillQuiet p g h n z t → (z.device.unique ≡ y.device.unique → ⊥) → Quietly R z t)
      → AllStill p g h n xs ss → All (Differ y) xs → AllQuiet R xs ss
  still_quiet f nothing_still none = no_more
  still_quiet f (still_and {x = z} {s = t} q a) (and d ds) = quiet_and (f z t q (λ e. d.unique_differs (sym e))) (still_quiet f a ds)

  still_each : {Q : DeviceSide → Type 0} {burst : Bool} {noted : Noted} {next : Bool} {y : DeviceSide} {xs : List DeviceSide} {ss : List DeviceStep}
      → (u : DeviceSide) → ((z : DeviceSide) (t : DeviceStep) → StillQuiet p g h n z t → (z.device.unique ≡ y.device.unique → ⊥) → (t.side.device.burst ≡ true → u.device.burst ≡ true → ⊥) → BurstIs burst noted next z → Q t.side)
      → AllStill p g h n xs ss → All (Differ y) xs → All (λ (v : DeviceSide). u.device.burst ≡ true → v.device.burst ≡ true → ⊥) (sides ss) → All (BurstIs burst noted next) xs → All Q (sides ss)
  unfolding sides
  still_each u f nothing_still none none none = none
  still_each u f (still_and {x = z} {s = t} q a) (and d ds) (and c cs) (and b bs) = and (f z t q (λ e. d.unique_differs (sym e)) (λ e k. c k e) b) (still_each u f a ds cs bs)

  still_some : {xs : List DeviceSide} {ss : List DeviceStep} → AllStill p g h n xs ss → Some Bursting xs → Some Bursting (sides ss)
  unfolding sides
  still_some (still_and q a) (this b) = this (q.quietly.same_burst ∙ b)
  still_some (still_and q a) (later m) = later (still_some a m)
  still_some nothing_still x4 = elim x4 [ ]

  -- a device that rests and bursts is no second one
  still_alone : (u : DeviceSide) {xs : List DeviceSide} {ss : List DeviceStep} → AllStill p g h n xs ss → Some Bursting xs → All (λ (v : DeviceSide). u.device.burst ≡ true → v.device.burst ≡ true → ⊥) (sides ss) → u.device.burst ≡ true → ⊥
  unfolding sides
  still_alone u (still_and q a) (this b) (and c cs) on = c on (q.quietly.same_burst ∙ b)
  still_alone u (still_and q a) (later m) (and c cs) on = still_alone u a m cs on
  still_alone u nothing_still x10 _ on = elim x10 [ ]

module _ {p : Profile} {g : ℕ} {h : Header} {n : ℕ} {B : DeviceSide → DeviceStep → Type 0} where
  pub picked : {xs : List DeviceSide} {ss : List DeviceStep} → OneBegins p g h n B xs ss → Picked B
  picked (begins_here {x = x} {s = s} b a) = record { x = x; s = s; it = b }
  picked (begins_further q o) = picked o

  -- what is said of all is said of it
  pub before : {P : DeviceSide → Type 0} {xs : List DeviceSide} {ss : List DeviceStep} (o : OneBegins p g h n B xs ss) → All P xs → P (picked o).x
  unfolding picked
  before (begins_here b a) (and r rs) = r
  before (begins_further q o) (and r rs) = before o rs

  pub after : {P : DeviceSide → Type 0} {xs : List DeviceSide} {ss : List DeviceStep} (o : OneBegins p g h n B xs ss) → All P (sides ss) → P (picked o).s.side
  unfolding picked sides
  after (begins_here b a) (and r rs) = r
  after (begins_further q o) (and r rs) = after o rs

  pub one_from : {R L : DeviceSide → Type 0} {c : ℕ} {xs : List DeviceSide} {ss : List DeviceStep} (o : OneBegins p g h n B xs ss) → Loudly L c (picked o).x (picked o).s
      → ((z : DeviceSide) (t : DeviceStep) → StillQuiet p g h n z t → (z.device.unique ≡ (picked o).x.device.unique → ⊥) → Quietly R z t) → Distinct xs → OneLoud L R c xs ss
  unfolding picked
  one_from (begins_here b a) l f (Distinct.and d ds) = loud_here l (still_quiet f a d)
  one_from (begins_further {x = z} {s = t} q o) l f (Distinct.and d ds) = loud_further (f z t q (before o d).unique_differs) (one_from o l f ds)

  each_from : {Q : DeviceSide → Type 0} {burst : Bool} {noted : Noted} {next : Bool} {xs : List DeviceSide} {ss : List DeviceStep} (o : OneBegins p g h n B xs ss) → Q (picked o).s.side
      → ((z : DeviceSide) (t : DeviceStep) → StillQuiet p g h n z t → (z.device.unique ≡ (picked o).x.device.unique → ⊥) → (t.side.device.burst ≡ true → (picked o).s.side.device.burst ≡ true → ⊥) → BurstIs burst noted next z → Q t.side)
      → Distinct xs → Sole (sides ss) → All (BurstIs burst noted next) xs → All Q (sides ss)
  unfolding picked sides
  each_from (begins_here {s = s} b a) k f (Distinct.and d ds) (sole_and c cs) (and i is) = and k (still_each s.side f a d c is)
  each_from (begins_further {x = z} {s = t} q o) k f (Distinct.and d ds) (sole_and c cs) (and i is) = and (f z t q (before o d).unique_differs (after o c) i) (each_from o k f ds cs is)

  some_from : {xs : List DeviceSide} {ss : List DeviceStep} (o : OneBegins p g h n B xs ss) → Some Bursting xs → ((picked o).x.device.burst ≡ true) ⊎ Some Bursting (sides ss)
  unfolding picked sides
  some_from (begins_here b a) (this e) = inl e
  some_from (begins_here b a) (later m) = inr (later (still_some a m))
  some_from (begins_further q o) (this e) = inr (this (q.quietly.same_burst ∙ e))
  some_from (begins_further {ss = ss} q o) (later m) = ⊎_elim (λ e. inl e) (λ k. inr (later k)) (some_from o m)

  some_of : {xs : List DeviceSide} {ss : List DeviceStep} (o : OneBegins p g h n B xs ss) → (picked o).s.side.device.burst ≡ true → Some Bursting (sides ss)
  unfolding picked sides
  some_of (begins_here b a) e = this e
  some_of (begins_further q o) e = later (some_of o e)

  -- where a device bursts, no other turns burst on
  alone : {xs : List DeviceSide} {ss : List DeviceStep} (o : OneBegins p g h n B xs ss) → Some Bursting xs → Sole (sides ss) → (picked o).s.side.device.burst ≡ true → (picked o).x.device.burst ≡ true
  unfolding picked sides
  alone (begins_here b a) (this e) (sole_and c cs) on = e
  alone (begins_here {s = s} b a) (later m) (sole_and c cs) on = absurd (still_alone s.side a m c on)
  alone (begins_further q o) (this e) (sole_and c cs) on = absurd (after o c (q.quietly.same_burst ∙ e) on)
  alone (begins_further q o) (later m) (sole_and c cs) on = alone o m cs on

-- ---- BURST behind the frame that begins

-- an ACK of the noted address, and of another
noted_is : (n : Noted) (h : Header) → is_noted n h ≡ true → n.address ≡ h.address
noted_is n h = if_cases (λ (b : Bool). b ≡ true → n.address ≡ h.address) _ _ _ (λ l e. eqb-true n.address h.address e) (λ l e. absurd (true_false (sym e)))

not_noted : (n : Noted) (h : Header) → is_noted n h ≡ false → n.long ≡ true → n.address ≡ h.address → ⊥
not_noted n h = if_cases (λ (b : Bool). b ≡ false → n.long ≡ true → n.address ≡ h.address → ⊥) _ _ _ (λ l e m z. eqb-false n.address h.address e z) (λ l e m z. true_false (sym m ∙ l))

-- an address that names a device is long
names_long : (h : Header) → names_device h ≡ true → h.long ≡ true
names_long h = if_cases (λ (b : Bool). b ≡ true → h.long ≡ true) _ _ _ (λ q z. absurd (true_false (sym z))) (λ q z. z)

-- "The first after burst goes from off to on is for the primary": whom the next BACK is for behind an ACK's first character
abbrev pub next_after : Bool → Bool → Bool
next_after burst next = when burst then next else true

module _ {p : Profile} {g : ℕ} {h : Header} {n : ℕ} {B : DeviceSide → DeviceStep → Type 0} {burst : Bool} {noted : Noted} {next : Bool} {xs : List DeviceSide} {ss : List DeviceStep} (o : OneBegins p g h n B xs ss) (apart : Distinct xs) (sole : Sole (sides ss)) (a : Agreed burst noted next xs) where
  abbrev pub x : DeviceSide
  x = (picked o).x

  abbrev pub y : DeviceSide
  y = (picked o).s.side

  -- a device that rests is as it was noted
  kept : (z : DeviceSide) (t : DeviceStep) → StillQuiet p g h n z t → BurstIs burst noted next z → BurstIs burst noted next t.side
  kept z t q b = record {
    burst_set = λ e. b.burst_set (sym q.quietly.same_burst ∙ e);
    long_noted = λ e. b.long_noted (sym q.quietly.same_burst ∙ e);
    unique_noted = λ e. b.unique_noted (sym q.quietly.same_burst ∙ e) ∙ sym q.quietly.same.same_unique;
    next_is = λ e. q.quietly.same_primary ∙ b.next_is (sym q.quietly.same_burst ∙ e);
  }

  -- it bursts, and is noted anew: no other does
  noted_anew : (new : Noted) (for : Bool) → y.device.burst ≡ true → new.long ≡ true → new.address ≡ y.device.unique → y.device.primary ≡ for → Agreed true new for (sides ss)
  noted_anew new for on l e f = record {
    each = each_from o (record { burst_set = λ z. refl; long_noted = λ z. l; unique_noted = λ z. e; next_is = λ z. f })
        (λ z t q apart no b. record { burst_set = λ k. absurd (no k on); long_noted = λ k. absurd (no k on); unique_noted = λ k. absurd (no k on); next_is = λ k. absurd (no k on) }) apart sole a.each;
    one_bursts = λ z. some_of o on;
  }

  -- its burst is as it was
  kept_burst : y.device.burst ≡ x.device.burst → y.device.unique ≡ x.device.unique → (x.device.burst ≡ true → y.device.primary ≡ x.device.primary) → Agreed burst noted next (sides ss)
  kept_burst same same_unique same_primary = record {
    each = each_from o (record { burst_set = λ z. b.burst_set (sym same ∙ z); long_noted = λ z. b.long_noted (sym same ∙ z); unique_noted = λ z. b.unique_noted (sym same ∙ z) ∙ sym same_unique; next_is = λ z. same_primary (sym same ∙ z) ∙ b.next_is (sym same ∙ z) })
        (λ z t q apart no b. kept z t q b) apart sole a.each;
    one_bursts = λ z. ⊎_elim (λ e. some_of o (same ∙ e)) (λ m. m) (some_from o (a.one_bursts z));
  }
    where
      b : BurstIs burst noted next (picked o).x
      b = before o a.each

  -- it does not burst, and was noted: no other did
  noted_off : y.device.burst ≡ false → noted.address ≡ x.device.unique → Agreed false noted next (sides ss)
  noted_off off e = record {
    each = each_from o (record { burst_set = λ z. absurd (true_false (sym z ∙ off)); long_noted = λ z. absurd (true_false (sym z ∙ off)); unique_noted = λ z. absurd (true_false (sym z ∙ off)); next_is = λ z. absurd (true_false (sym z ∙ off)) })
        (λ z t q apart no b. none_else z t q apart b) apart sole a.each;
    one_bursts = λ z. absurd (true_false (sym z));
  }
    where
      none_else : (z : DeviceSide) (t : DeviceStep) → StillQuiet p g h n z t → (z.device.unique ≡ (picked o).x.device.unique → ⊥) → BurstIs burst noted next z → BurstIs false noted next t.side
      none_else z t q apart b =
          let no : t.side.device.burst ≡ true → ⊥ = λ k. apart (sym (b.unique_noted (sym q.quietly.same_burst ∙ k)) ∙ e) in
          record { burst_set = λ k. absurd (no k); long_noted = λ k. absurd (no k); unique_noted = λ k. absurd (no k); next_is = λ k. absurd (no k) }

  -- it does not burst, and was not noted
  others_stay : y.device.burst ≡ false → (noted.long ≡ true → noted.address ≡ x.device.unique → ⊥) → Agreed burst noted next (sides ss)
  others_stay off not = record {
    each = each_from o (record { burst_set = λ z. absurd (true_false (sym z ∙ off)); long_noted = λ z. absurd (true_false (sym z ∙ off)); unique_noted = λ z. absurd (true_false (sym z ∙ off)); next_is = λ z. absurd (true_false (sym z ∙ off)) })
        (λ z t q apart no b. kept z t q b) apart sole a.each;
    one_bursts = λ z. ⊎_elim (λ e. absurd (not ((before o a.each).long_noted e) ((before o a.each).unique_noted e))) (λ m. m) (some_from o (a.one_bursts z));
  }

  -- behind a BACK
  pub back_agreed : (header : Header) (for : Bool) → header.kind ≡ back → header.long ≡ true → header.address ≡ y.device.unique → y.device.burst ≡ true → y.device.primary ≡ for → Agreed (burst_after burst noted header) (noted_after noted header) for (sides ss)
  back_agreed header for f l e on q =
      subst (λ (c : Bool). Agreed c (noted_after noted header) for (sides ss)) (sym (if_is_true (header.kind =? back) _ _ (eq-eqb header.kind back f)))
      (subst (λ (c : Noted). Agreed true c for (sides ss)) (sym (if_is_true (header.kind =? back) _ _ (eq-eqb header.kind back f)))
      (noted_anew (record { long = header.long; address = header.address }) for on l e q))

  -- behind an ACK
  pub ack_agreed : (request : Header) (c : Bool) → y.device.burst ≡ c → y.device.unique ≡ x.device.unique → y.device.primary ≡ first_for x.device → (names_device request ≡ true → request.address ≡ x.device.unique) → (names_device request ≡ false → c ≡ x.device.burst)
      → Agreed (burst_after burst noted (answer_header request c)) (noted_after noted (answer_header request c)) (next_after burst next) (sides ss)
  unfolding when◌then◌else◌
  ack_agreed request c is same first address short = go c refl (names_device request) refl (is_noted noted (answer_header request c)) refl
    where
      was : Bool → Bool → Bool → Bool
      was c l n = when c then true else (when l then (when n then false else burst) else burst)

      new : Bool → Bool → Noted
      new c l = when c then (when l then record { long = request.long; address = request.address } else noted) else noted

      on_is : (l : Bool) → c ≡ true → names_device request ≡ l → l ≡ false → burst ≡ true
      on_is l q r f = (before o a.each).burst_set (sym (short (r ∙ f)) ∙ q)

      -- its next BACK is for the master that it was for, if it burst before
      same_next : x.device.burst ≡ true → y.device.primary ≡ x.device.primary
      same_next e = first ∙ if_is_true x.device.burst _ _ e

      -- no device bursts, or none but the one that did
      for_whom : (b : Bool) → burst ≡ b → y.device.burst ≡ true → y.device.primary ≡ next_after b next
      for_whom true e on =
          let was-on = alone o (a.one_bursts e) sole on in
          same_next was-on ∙ (before o a.each).next_is was-on
      for_whom false e on = first ∙ off x.device.burst refl
        where
          off : (t : Bool) → x.device.burst ≡ t → first_for x.device ≡ true
          off true q = absurd (true_false (sym ((before o a.each).burst_set q) ∙ e))
          off false q = if_is_false x.device.burst _ _ q

      -- whom the next BACK is for matters only where a device bursts
      turned : (b : Bool) {others : Noted} → burst ≡ b → Agreed burst others next (sides ss) → Agreed burst others (next_after burst next) (sides ss)
      turned true {others} e g = subst (λ (z : Bool). Agreed z others next (sides ss) → Agreed z others (next_after z next) (sides ss)) (sym e) (λ k. k) g
      turned false {others} e g = subst (λ (z : Bool). Agreed z others next (sides ss) → Agreed z others (next_after z next) (sides ss)) (sym e) any_next g

      go : (c' : Bool) → c ≡ c' → (l : Bool) → names_device request ≡ l → (n : Bool) → is_noted noted (answer_header request c) ≡ n → Agreed (was c' l n) (new c' l) (next_after burst next) (sides ss)
      go true q true r n u = noted_anew (record { long = request.long; address = request.address }) (next_after burst next) (is ∙ q) (names_long request r) (address r ∙ sym same) (for_whom burst refl (is ∙ q))
      go true q false r n u = subst (λ (z : Bool). Agreed z noted (next_after burst next) (sides ss)) (on_is false q r refl) (turned burst refl (kept_burst (is ∙ short r) same same_next))
      go false q false r n u = turned burst refl (kept_burst (is ∙ short r) same same_next)
      go false q true r true u = any_next (noted_off (is ∙ q) (noted_is noted (answer_header request c) u ∙ address r))
      go false q true r false u = turned burst refl (others_stay (is ∙ q) (λ k z. not_noted noted (answer_header request c) u k (z ∙ sym (address r))))
