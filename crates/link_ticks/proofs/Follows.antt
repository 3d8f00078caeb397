-- Whose reader is the line's: what the flags of the parties say while they tick, from the last to the first.
use Prim.Native.Nat.{ℕ, ◌-◌, ◌≤◌, ◌<◌}
use native.Mathlib.Omega.{arith}
use native.Mathlib.Decide.{dec_lt}
use mathlib.Core.Bool.{Bool, true, false}
use mathlib.Core.List.{List}
use mathlib.Core.Path.{◌≡◌, refl, sym, ap, subst, ◌∙◌}
use lib.ListN.{length, get_or, set, replicate, length-set, length-replicate, get_or-replicate}
use lib.Seq.{get_or-set_same, get_or-set_other}
use Rattle.std.specs.Prelude.{Option, Some, None, is_some}
use Rattle.base.proofs.Choices.{true_false}
use Rattle.line.specs.Reader.{taken, idle}
use Rattle.line.specs.Reader as R
use Rattle.line.specs.declared.Event.TheVariants.{Nothing}
use Rattle.line.specs.declared.Heard.{Heard}
use Rattle.line.specs.declared.Receiver.{Receiver}
use Rattle.turns.specs.declared.Device.{Device}
use Rattle.turns.specs.declared.Master.{Master}
use Rattle.link_parties.specs.Readers.{step_of}
use Rattle.link_parties.proofs.Readers.{quiet_step}
use Rattle.link_parties.specs.declared.LineStep.{LineStep}
use Rattle.link_ticks.proofs.Lists.{any_default}

module _ {X : Type 0} (here : X → Bool) (reader-of : X → Receiver) (size : ℕ) where
  -- between two ticks: a party with its flag set has the line's reader
  pub record Follow (flags : List Bool) (xs : List X) (reader : Receiver) : Type 0 where
    pub flags_all : length flags ≡ size
    pub parties_all : length xs ≡ size
    pub follows : (j : ℕ) (d : X) (b : Bool) → j < size → here (get_or xs j d) ≡ true → get_or flags j b ≡ true → reader-of (get_or xs j d) ≡ reader

  -- inside a tick: so has one that has not ticked, and one that has ticked has the line's reader behind it
  pub record Following (flags : List Bool) (xs : List X) (reader next : Receiver) (n : ℕ) : Type 0 where
    pub flags_all : length flags ≡ size
    pub parties_all : length xs ≡ size
    pub to_tick : n ≤ size
    pub left : (j : ℕ) (d : X) (b : Bool) → j < n → here (get_or xs j d) ≡ true → get_or flags j b ≡ true → reader-of (get_or xs j d) ≡ reader
    pub done : (j : ℕ) (d : X) (b : Bool) → n ≤ j → j < size → here (get_or xs j d) ≡ true → get_or flags j b ≡ true → reader-of (get_or xs j d) ≡ next

  pub follow_none : (xs : List X) (reader : Receiver) → length xs ≡ size → Follow (replicate size false) xs reader
  follow_none xs reader e = record {
    flags_all = length-replicate {A = Bool} size false;
    parties_all = e;
    follows = λ j d b h k l. absurd (true_false (sym l ∙ get_or-replicate {A = Bool} size j false b h));
  }

  pub follow_begins : (flags : List Bool) (xs : List X) (reader next : Receiver) → Follow flags xs reader → Following flags xs reader next size
  follow_begins flags xs reader next v = record {
    flags_all = v.flags_all;
    parties_all = v.parties_all;
    to_tick = omega arith;
    left = v.follows;
    done = λ j d b g h k l. absurd (omega (arith, g, h));
  }

  pub follow_ends : (flags : List Bool) (xs : List X) (reader next : Receiver) (n : ℕ) → Following flags xs reader next n → n ≤ 0 → Follow flags xs next
  follow_ends flags xs reader next n v e = record {
    flags_all = v.flags_all;
    parties_all = v.parties_all;
    follows = λ j d b h k l. v.done j d b (omega (arith, e)) h k l;
  }

  -- ---- a turn of the loop: the party with number n - 1

  module _ (flags : List Bool) (xs : List X) (reader next : Receiver) (n : ℕ) (v : Following flags xs reader next n) (h : 0 < n) where
    -- where only the party that ticks has another state or flag
    turned : (gs : List Bool) (ys : List X) → length gs ≡ size → length ys ≡ size
        → ((j : ℕ) (d : X) → (j ≡ n - 1 → ⊥) → get_or ys j d ≡ get_or xs j d) → ((j : ℕ) (b : Bool) → (j ≡ n - 1 → ⊥) → get_or gs j b ≡ get_or flags j b)
        → ((d : X) (b : Bool) → here (get_or ys (n - 1) d) ≡ true → get_or gs (n - 1) b ≡ true → reader-of (get_or ys (n - 1) d) ≡ next)
        → Following gs ys reader next (n - 1)
    turned gs ys lg ly states marks own = record {
      flags_all = lg;
      parties_all = ly;
      to_tick = omega (arith, v.to_tick);
      left = λ j d b g k l.
          let p = states j d (λ e. omega (arith, e, g)) in
          let q = marks j b (λ e. omega (arith, e, g)) in
          ap reader-of p ∙ v.left j d b (omega (arith, g)) (sym (ap here p) ∙ k) (sym q ∙ l);
      done = λ j d b g m k l. by j d b g m k l (dec_lt j n);
    }
      where
        by : (j : ℕ) (d : X) (b : Bool) → n - 1 ≤ j → j < size → here (get_or ys j d) ≡ true → get_or gs j b ≡ true → Dec (j < n) → reader-of (get_or ys j d) ≡ next
        by j d b g m k l (yes i) =
            let e : j ≡ n - 1 = omega (arith, g, i, h) in
            subst (λ (x : ℕ). here (get_or ys x d) ≡ true → get_or gs x b ≡ true → reader-of (get_or ys x d) ≡ next) (sym e) (own d b) k l
        by j d b g m k l (no i) =
            let p = states j d (λ e. omega (arith, e, i, h)) in
            let q = marks j b (λ e. omega (arith, e, i, h)) in
            ap reader-of p ∙ v.done j d b (omega (arith, i)) m (sym (ap here p) ∙ k) (sym q ∙ l)

    -- one that is not here
    pub follow_absent : (d : X) → here (get_or xs (n - 1) d) ≡ false → Following flags xs reader next (n - 1)
    follow_absent d a =
        turned flags xs v.flags_all v.parties_all (λ j x e. refl) (λ j b e. refl)
        (λ x b k l. absurd (true_false (sym k ∙ ap here (any_default xs (n - 1) x d (omega (arith, v.parties_all, v.to_tick, h))) ∙ a)))

    -- one that has this state and this flag now
    set_to : (f : Bool) (e : X) → (f ≡ true → reader-of e ≡ next) → Following (set flags (n - 1) f) (set xs (n - 1) e) reader next (n - 1)
    set_to f e p =
        turned (set flags (n - 1) f) (set xs (n - 1) e) (length-set flags (n - 1) f ∙ v.flags_all) (length-set xs (n - 1) e ∙ v.parties_all)
        (λ j d g. get_or-set_other xs (n - 1) j e d g) (λ j b g. get_or-set_other flags (n - 1) j f b g)
        (λ d b k l.
        ap reader-of (get_or-set_same xs (n - 1) e d (omega (arith, v.parties_all, v.to_tick, h)))
        ∙ p (sym (get_or-set_same flags (n - 1) f b (omega (arith, v.flags_all, v.to_tick, h))) ∙ l))

    -- one that has the line's reader now, and one of which it is not known
    pub follow_set : (e : X) → reader-of e ≡ next → Following (set flags (n - 1) true) (set xs (n - 1) e) reader next (n - 1)
    follow_set e p = set_to true e (λ q. p)

    pub follow_unset : (e : X) → Following (set flags (n - 1) false) (set xs (n - 1) e) reader next (n - 1)
    follow_unset e = set_to false e (λ q. absurd (true_false (sym q)))

    -- the reader of one whose flag is set
    pub follow_has : (d : X) (b : Bool) → here (get_or xs (n - 1) d) ≡ true → get_or flags (n - 1) b ≡ true → reader-of (get_or xs (n - 1) d) ≡ reader
    follow_has d b k l = v.left (n - 1) d b (omega arith) k l

-- what the line's reader finds where it finds nothing
pub line_quiet : (heard : Heard) (reader : Receiver) (s : LineStep) → s ≡ step_of (taken reader heard) → s.quiet ≡ true → taken reader heard ≡ R.tells s.reader Nothing
line_quiet heard reader s e q =
    quiet_step (taken reader heard) s.reader (sym (ap (λ (x : LineStep). x.reader) e)) (sym (ap (λ (x : LineStep). x.quiet) e) ∙ q)

abbrev pub is_here : Option Device → Bool
is_here s = is_some s

-- a slot in which no device is found has none
pub no_device_in : (s : Option Device) → ((d : Device) → s ≡ Some d → ⊥) → s ≡ None
no_device_in None n = refl
no_device_in (Some d) n = absurd (n d refl)

abbrev pub device_reader : Option Device → Receiver
device_reader None = idle
device_reader (Some d) = d.receiver

-- a master is always here
abbrev pub always : Master → Bool
always m = true

abbrev pub master_reader : Master → Receiver
master_reader m = m.receiver
