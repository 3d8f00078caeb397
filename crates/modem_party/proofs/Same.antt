-- Document 02, item 5: a party behind the chip does, tick for tick, what it does without it. For any party that is deaf after its own sending, and any further accesses that spare what is heard and sent.
use mathlib.Core.Bool.{Bool, true, false}
use mathlib.Core.List.{List, [], ◌∷◌}
use mathlib.Core.Path.{◌≡◌, refl, sym, ap, ap₂, subst, ◌∙◌}
use Rattle.base.proofs.Choices.{true_false}
use Rattle.line.specs.declared.Heard.{Heard}
use Rattle.modem.specs.Chip.{fresh_chip, arrives, chip_after, goes_out, tick_ends}
use Rattle.modem.specs.Accesses.{after_all}
use Rattle.modem.specs.Driver.{hears, wire}
use Rattle.modem.specs.Further.{Further, alone, Spares}
use Rattle.modem.specs.declared.Carried.{Carried}
use Rattle.modem.specs.declared.Chip.{Chip}
use Rattle.modem.specs.declared.ChipHeard.{ChipHeard}
use Rattle.modem.specs.declared.TickEnded.{TickEnded}
use Rattle.modem.proofs.Driving.{wire_heard, deaf_heard, arrived_ready, arrived_sending}
use Rattle.modem.proofs.Among.{among_ready, among_sending, among_read, spared_heard, silent_nothing, silence_out, character_out, silent_read, character_read, alone_spares}
use Rattle.turns.specs.declared.Sent.{Sent}
use Rattle.modem_party.specs.Behind.{Step, Tick, plain, HearsNot, says, says_among, closes, heard_in, OnLine, on_line, chipped, wire_sent, wired, Rests, none, and, BehindSame, BehindIs}

-- ---- what the driver does with what a party sends

module _ (h : Heard) (f : Further) (k : Spares h f) (x : Chip) where
  pub says_sent : x.ready ≡ true → x.sending ≡ false → (q : Sent) → goes_out (says_among f x q) ≡ wire_sent q
  says_sent r n Sent.Silent = silence_out h f k x n
  says_sent r n (Sent.Character c) = character_out h f k x c r

  says_nothing : x.sending ≡ false → (says_among f x Sent.Silent).sending ≡ false
  says_nothing n = silent_nothing h f k x n

says_read : (f : Further) (x : Chip) → x.received ≡ false → (q : Sent) → (says_among f x q).received ≡ false
says_read f x e Sent.Silent = silent_read f x e
says_read f x e (Sent.Character c) = character_read f x e c

-- with no further access
pub alone_says : (x : Chip) (q : Sent) → says_among alone x q ≡ says x q
unfolding after_all
alone_says x Sent.Silent = refl
alone_says x (Sent.Character c) = refl

-- a fresh chip rests, before any party
pub fresh_rests : (deaf : Bool) → Rests fresh_chip deaf
fresh_rests deaf = record { read_out = refl; ready = refl; nothing_left = refl; deaf_too = λ e. absurd (true_false (sym e)) }

-- ---- a tick

module _ {S C T : Type 0} (step : S → Heard → C → Step S T) (deaf : S → Bool) (p : HearsNot step deaf) (x : Chip) (s : S) (t : Tick C) (v : Rests x (deaf s)) (k : Spares t.heard t.further) where
  same_step : step s (heard_in x t).heard t.call ≡ step s t.heard t.call
  same_step = ap (λ (g : Heard). step s g t.call) (spared_heard x t.heard t.bit t.further v.read_out k) ∙ go x.deaf refl
    where
      go : (b : Bool) → x.deaf ≡ b → step s (hears (arrives x (wire t.heard t.bit))).heard t.call ≡ step s t.heard t.call
      go true e = ap (λ (g : Heard). step s g t.call) (deaf_heard x v.read_out t.heard t.bit e) ∙ sym (p.ignores s t.heard t.call (v.deaf_too e))
      go false e = ap (λ (g : Heard). step s g t.call) (wire_heard x v.read_out t.heard t.bit e)

  -- the chip after the driver's reads
  read_ready : (heard_in x t).chip.ready ≡ true
  read_ready = among_ready t.further (arrives x (wire t.heard t.bit)) k.first_write ∙ arrived_ready x (wire t.heard t.bit) ∙ v.ready

  read_sending : (heard_in x t).chip.sending ≡ false
  read_sending = among_sending t.further (arrives x (wire t.heard t.bit)) k.first_write ∙ arrived_sending x (wire t.heard t.bit) ∙ v.nothing_left

  same_sent : (q : Sent) → goes_out (says_among t.further (heard_in x t).chip q) ≡ wire_sent q
  same_sent q = says_sent t.heard t.further k (heard_in x t).chip read_ready read_sending q

  -- after a tick in which the party did `u`
  rests_after : (u : Step S T) → u ≡ step s t.heard t.call → Rests (chip_after (says_among t.further (heard_in x t).chip u.sent)) (deaf u.behind)
  rests_after u e = record {
    read_out = says_read t.further (heard_in x t).chip (among_read t.further (arrives x (wire t.heard t.bit))) u.sent;
    ready = refl;
    nothing_left = refl;
    deaf_too = too u.sent refl;
  }
    where
      too : (q : Sent) → u.sent ≡ q → (says_among t.further (heard_in x t).chip u.sent).sending ≡ true → deaf u.behind ≡ true
      too Sent.Silent f d =
          absurd (true_false
          (sym d
          ∙ ap (λ (q : Sent). (says_among t.further (heard_in x t).chip q).sending) f
          ∙ says_nothing t.heard t.further k (heard_in x t).chip read_sending))
      too (Sent.Character n) f d = ap (λ (a : Step S T). deaf a.behind) e ∙ p.sends_deaf s t.heard t.call n (ap (λ (a : Step S T). a.sent) (sym e) ∙ f)

-- ---- a tick that the code made: `z` after what the line carried, `g` after the driver's reads, `y` after its writes

module _ {S C T : Type 0} (step : S → Heard → C → Step S T) (deaf : S → Bool) (p : HearsNot step deaf) (x : Chip) (w : Carried) (s : S) (c : C) (z y : Chip) (g : ChipHeard) (u : Step S T) (e : TickEnded) where
  pub made_behind : z ≡ arrives x w → g ≡ hears z → u ≡ step s g.heard c → y ≡ says g.chip u.sent → e ≡ tick_ends y → BehindIs step deaf x w s c u e
  unfolding after_all
  made_behind a b i k n = record { ticks = ticks; ends = ends; same = same; sends = sends; rests = rests }
    where
      heard_is : g ≡ hears (arrives x w)
      heard_is = b ∙ ap hears a

      ticks : u ≡ step s (hears (arrives x w)).heard c
      ticks = i ∙ ap (λ (v : ChipHeard). step s v.heard c) heard_is

      ends : e ≡ tick_ends (says (hears (arrives x w)).chip u.sent)
      ends = n ∙ ap tick_ends (k ∙ ap (λ (v : ChipHeard). says v.chip u.sent) heard_is)

      -- the tick in which this was heard, with no further access
      in_tick : Heard → Bool → Tick C
      in_tick h bit = record { heard = h; bit = bit; call = c; further = alone }

      said : (h : Heard) (bit : Bool) → w ≡ wire h bit → says (hears (arrives x w)).chip u.sent ≡ says_among alone (heard_in x (in_tick h bit)).chip u.sent
      said h bit l = ap (λ (q : Carried). says (hears (arrives x q)).chip u.sent) l ∙ sym (alone_says (hears (arrives x (wire h bit))).chip u.sent)

      same : (h : Heard) (bit : Bool) → w ≡ wire h bit → Rests x (deaf s) → u ≡ step s h c
      same h bit l v = ticks ∙ ap (λ (q : Carried). step s (hears (arrives x q)).heard c) l ∙ same_step step deaf p x s (in_tick h bit) v (alone_spares h)

      sends : (h : Heard) (bit : Bool) → w ≡ wire h bit → Rests x (deaf s) → e.carried ≡ wire_sent u.sent
      sends h bit l v = ap (λ (q : TickEnded). q.carried) ends ∙ ap goes_out (said h bit l) ∙ same_sent step deaf p x s (in_tick h bit) v (alone_spares h) u.sent

      rests : (h : Heard) (bit : Bool) → w ≡ wire h bit → Rests x (deaf s) → Rests e.chip (deaf u.behind)
      rests h bit l v =
          subst (λ (q : Chip). Rests q (deaf u.behind)) (sym (ap (λ (q : TickEnded). q.chip) ends ∙ ap chip_after (said h bit l)))
          (rests_after step deaf p x s (in_tick h bit) v (alone_spares h) u (same h bit l v))

-- ---- a list of ticks

module _ {S C T : Type 0} (step : S → Heard → C → Step S T) (deaf : S → Bool) (p : HearsNot step deaf) where
  pub behind_chip_same : BehindSame step deaf
  unfolding chipped plain wired
  behind_chip_same x s [] v none = refl
  behind_chip_same x s (t ∷ ts) v (and k ks) =
      ap (λ (u : Step S T). on_line (closes t.further (heard_in x t).chip u) ∷ chipped step (chip_after (says_among t.further (heard_in x t).chip u.sent)) u.behind ts)
      (same_step step deaf p x s t v k)
      ∙ ap₂ (λ (w : Carried) (l : List (OnLine S T)). record { step = step s t.heard t.call; carried = w } ∷ l)
      (same_sent step deaf p x s t v k (step s t.heard t.call).sent)
      (behind_chip_same (chip_after (says_among t.further (heard_in x t).chip (step s t.heard t.call).sent)) (step s t.heard t.call).behind ts
      (rests_after step deaf p x s t v k (step s t.heard t.call) refl) ks)
