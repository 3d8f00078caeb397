-- How many send in a tick, by what the line carries behind it: "Two senders in one tick are heard as damage 3", so a line that is not damaged had one sender at most.
use Prim.Native.Nat.{ℕ, ◌+◌, ◌≤◌}
use native.Mathlib.Omega.{arith}
use mathlib.Core.Path.{◌≡◌, refl, sym, ap, subst}
use mathlib.Core.List.{List, [], ◌∷◌}
use Rattle.line.specs.declared.Heard.{Heard}
use Rattle.line.specs.declared.Heard.TheVariants.{Silence, Character, Damaged}
use Rattle.turns.specs.Link.{DeviceStep, LinkStep, link_after, carried, joins}
use Rattle.turns.specs.Run.{count, device_senders, senders, NoTwoSend}
use Rattle.turns.specs.declared.Sent.{Sent}
use Rattle.turns.specs.declared.Sent.TheVariants.{Silent}

-- the line behind a tick, from what each party sent
pub carries : (s : LinkStep) {x y : Sent} {z : Heard} → s.for_primary.sent ≡ x → s.for_secondary.sent ≡ y → carried s.for_devices ≡ z → (link_after s).line ≡ joins x (joins y z)
carries s a b c = λ i. joins (a i) (joins (b i) (c i))

-- ---- a line that is not damaged had one sender at most

pub data Plain : Heard → Type 0 where
  plain_silence : Plain Silence
  plain_character : (c : ℕ) → Plain (Character c)

-- how many sent, by what the line carries
abbrev pub most : Heard → ℕ
most Silence = 0
most (Character c) = 1
most (Damaged c k) = 1

joins_count : (s : Sent) (h : Heard) (n : ℕ) → (Plain h → n ≤ most h) → Plain (joins s h) → count s + n ≤ most (joins s h)
joins_count Silent h n f q = omega (arith, f q)
joins_count (Sent.Character c) Silence n f (plain_character e) = omega (arith, f plain_silence)
joins_count (Rattle.turns.specs.declared.Sent.TheVariants.Character c) (Character _) n f q = elim q [ ]
joins_count (Rattle.turns.specs.declared.Sent.TheVariants.Character c) (Damaged _ _) n f q = elim q [ ]

pub carried_count : (ss : List DeviceStep) → Plain (carried ss) → device_senders ss ≤ most (carried ss)
unfolding carried device_senders
carried_count [] q = omega arith
carried_count (s ∷ ss) q = joins_count s.sent (carried ss) (device_senders ss) (carried_count ss) q

most_one : (h : Heard) → most h ≤ 1
most_one Silence = omega arith
most_one (Character c) = omega arith
most_one (Damaged c k) = omega arith

pub senders_most : (s : LinkStep) → Plain (link_after s).line → senders s ≤ most (link_after s).line
senders_most s q =
    let ds = s.for_devices in
    joins_count s.for_primary.sent (joins s.for_secondary.sent (carried ds)) (count s.for_secondary.sent + device_senders ds)
    (λ r. joins_count s.for_secondary.sent (carried ds) (device_senders ds) (carried_count ds) r) q

pub one_sender : (s : LinkStep) → Plain (link_after s).line → NoTwoSend s
one_sender s q = omega (arith, senders_most s q, most_one (link_after s).line)

-- a silent line had none, and where nobody sent it is silent
pub silent_none : (s : LinkStep) → (link_after s).line ≡ Silence → senders s ≡ 0
silent_none s e = omega (arith, senders_most s (subst Plain (sym e) plain_silence), ap most e)

silent_sent : (x : Sent) → count x ≡ 0 → x ≡ Silent
silent_sent Silent z = refl
silent_sent (Sent.Character c) z = absurd (omega (arith, z))

pub none_carried : (ss : List DeviceStep) → device_senders ss ≡ 0 → carried ss ≡ Silence
unfolding carried device_senders
none_carried [] z = refl
none_carried (s ∷ ss) z = λ i. joins (silent_sent s.sent (omega (arith, z)) i) (none_carried ss (omega (arith, z)) i)

pub none_line : (s : LinkStep) → senders s ≡ 0 → (link_after s).line ≡ Silence
none_line s z = carries s (silent_sent s.for_primary.sent (omega (arith, z))) (silent_sent s.for_secondary.sent (omega (arith, z))) (none_carried s.for_devices (omega (arith, z)))
