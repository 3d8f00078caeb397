-- How long the output is: a tick has at most one line, a line at most 40 bytes.
use Prim.Native.Nat.{ℕ, zero, suc, ◌+◌, ◌*◌, ◌/◌, ◌%◌, ◌≤◌}
use native.Mathlib.Omega.{arith}
use borrow.Author.Tests.{leb-true}
use mathlib.Core.Bool.{Bool, true, false}
use mathlib.Core.Path.{◌≡◌, refl}
use mathlib.Core.List.{List, [], ◌∷◌, ◌++◌}
use lib.ListN.{length, length-append}
use Rattle.base.specs.Choice.{when◌then◌else◌, ◌<?◌, ◌=?◌}
use Rattle.texts.specs.Decimal.{decimal_of}
use Rattle.frame.specs.Delimiter.{stx, ack}
use Rattle.line.specs.Reader.{taken}
use Rattle.line.specs.declared.Event.{Event}
use Rattle.line.specs.declared.Event.TheVariants.{Nothing, PassedOver, Broken, Frame, Damaged}
use Rattle.line.specs.declared.Heard.TheVariants.{Character}
use Rattle.line.specs.declared.Receiver.{Receiver}
use Rattle.line.specs.declared.Taken.{Taken}
use Rattle.turns.specs.Run.{count}
use Rattle.turns.specs.declared.Sent.{Sent}
use Rattle.turns.specs.declared.Sent.TheVariants.{Silent}
use Rattle.player_listing.specs.Lines.{Line, frame_ends, ends_by, ends_with, one_more, listens, lines_of, senders, is_lone, tick_lines, lines_from}
use Rattle.player_listing.specs.Text.{decimal, type_name, master_digit, word, line_text, lines_text}
use Rattle.player_listing.specs.declared.Monitor.{Monitor}

-- ---- a line

pub if_most : (t : Bool) (a b : List ℕ) (n : ℕ) → length a ≤ n → length b ≤ n → length (when t then a else b) ≤ n
unfolding when◌then◌else◌
if_most true a b n h k = h
if_most false a b n h k = k

pub decimal_most : (digits n : ℕ) → length (decimal_of digits n) ≤ digits
unfolding decimal_of
decimal_most zero n = omega arith
decimal_most (suc digits) n =
    if_most (n <? 10) ((48 + n) ∷ []) (decimal_of digits (n / 10) ++ ((48 + n % 10) ∷ [])) (suc digits)
    (omega arith)
    (omega (arith, length-append (decimal_of digits (n / 10)) ((48 + n % 10) ∷ []), decimal_most digits (n / 10)))

pub type_most : (frame : ℕ) → length (type_name frame) ≤ 4
type_most frame =
    if_most (frame =? stx) _ _ 4 (omega arith) (if_most (frame =? ack) _ _ 4 (omega arith) (omega arith))

pub word_length : (text : List ℕ) → length (word text) ≡ length text + 1
word_length text = length-append text (32 ∷ [])

line_most : (l : Line) → length (line_text l) ≤ 40
unfolding line_text
line_most l =
    let tick = word (decimal l.tick) in
    let party = word (decimal l.party) in
    let type = word (type_name l.header.kind) in
    let master = word (master_digit l.header.primary ∷ []) in
    let last = decimal l.length ++ (10 ∷ []) in
    omega (
      arith,
      length-append tick (party ++ (type ++ (master ++ last))),
      length-append party (type ++ (master ++ last)),
      length-append type (master ++ last),
      length-append master last,
      length-append (decimal l.length) (10 ∷ []),
      word_length (decimal l.tick),
      word_length (decimal l.party),
      word_length (type_name l.header.kind),
      word_length (master_digit l.header.primary ∷ []),
      decimal_most 10 l.tick,
      decimal_most 10 l.party,
      type_most l.header.kind,
      decimal_most 10 l.length,
    )

lines_most : (ls : List Line) → length (lines_text ls) ≤ 40 * length ls
unfolding lines_text
lines_most [] = omega arith
lines_most (l ∷ ls) = omega (arith, length-append (line_text l) (lines_text ls), line_most l, lines_most ls)

-- ---- a tick

-- a frame's line is left out where somebody else sent
abbrev most : Bool → ℕ
most alone = when alone then 1 else 0

frame_most : (l : Line) (alone : Bool) → length (frame_ends l alone).lines ≤ most alone
unfolding frame_ends when◌then◌else◌
frame_most l true = omega arith
frame_most l false = omega arith

ends_most : (tick party n : ℕ) (alone : Bool) (r : Receiver) (e : Event) → length (ends_by tick party n alone r e).lines ≤ most alone
ends_most tick party n alone r Nothing = omega arith
ends_most tick party n alone r PassedOver = omega arith
ends_most tick party n alone r Broken = omega arith
ends_most tick party n alone r (Frame w) = frame_most _ alone
ends_most tick party n alone r (Damaged w m) = omega arith

ends_with_most : (tick party n : ℕ) (alone : Bool) (t : Taken) → length (ends_with tick party n alone t).lines ≤ most alone
unfolding ends_with
ends_with_most tick party n alone t = ends_most tick party n alone t.receiver t.event

both_most : (a b : Bool) → (most (when a then b else false) ≤ most b) × (most b ≤ 1)
unfolding when◌then◌else◌
both_most true true = (omega arith, omega arith)
both_most true false = (omega arith, omega arith)
both_most false true = (omega arith, omega arith)
both_most false false = (omega arith, omega arith)

party_most : (tick party : ℕ) (lone : Bool) (e : Monitor) (s : Sent) → (length (listens tick party lone e s).lines ≤ count s) × (length (listens tick party lone e s).lines ≤ most lone)
unfolding listens
party_most tick party lone e Silent = (omega arith, omega arith)
party_most tick party lone e (Sent.Character c) =
    let here = ends_with_most tick party (one_more e.count) (when e.alone then lone else false) (taken e.receiver (Character c)) in
    let bounds = both_most e.alone lone in
    (omega (arith, here, bounds.0, bounds.1), omega (arith, here, bounds.0))

lines_senders : (tick party : ℕ) (lone : Bool) (es : List Monitor) (ss : List Sent) → length (lines_of tick party lone es ss).lines ≤ senders ss
unfolding lines_of senders
lines_senders tick party lone [] ss = omega arith
lines_senders tick party lone (e ∷ es) [] = omega arith
lines_senders tick party lone (e ∷ es) (s ∷ ss) =
    omega (arith, length-append (listens tick party lone e s).lines (lines_of tick (party + 1) lone es ss).lines, (party_most tick party lone e s).0, lines_senders tick (party + 1) lone es ss)

lines_shared : (tick party : ℕ) (es : List Monitor) (ss : List Sent) → length (lines_of tick party false es ss).lines ≤ 0
unfolding lines_of when◌then◌else◌
lines_shared tick party [] ss = omega arith
lines_shared tick party (e ∷ es) [] = omega arith
lines_shared tick party (e ∷ es) (s ∷ ss) =
    omega (arith, length-append (listens tick party false e s).lines (lines_of tick (party + 1) false es ss).lines, (party_most tick party false e s).1, lines_shared tick (party + 1) es ss)

tick_most : (tick : ℕ) (es : List Monitor) (ss : List Sent) → length (tick_lines tick es ss).lines ≤ 1
unfolding tick_lines
tick_most tick es ss = go (is_lone ss) refl
  where
    go : (t : Bool) → is_lone ss ≡ t → length (lines_of tick 0 t es ss).lines ≤ 1
    go true e = omega (arith, leb-true (senders ss) 1 e, lines_senders tick 0 true es ss)
    go false e = omega (arith, lines_shared tick 0 es ss)

-- ---- a list of ticks

from_most : (tick : ℕ) (es : List Monitor) (ticks : List (List Sent)) → length (lines_from tick es ticks) ≤ length ticks
unfolding lines_from
from_most tick es [] = omega arith
from_most tick es (ss ∷ ticks) =
    let now = tick_lines tick es ss in
    omega (arith, length-append now.lines (lines_from (tick + 1) now.monitors ticks), tick_most tick es ss, from_most (tick + 1) now.monitors ticks)

pub text_most : (tick : ℕ) (es : List Monitor) (ticks : List (List Sent)) → length (lines_text (lines_from tick es ticks)) ≤ 40 * length ticks
text_most tick es ticks = omega (arith, lines_most (lines_from tick es ticks), from_most tick es ticks)
