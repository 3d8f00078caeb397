-- Runs that show what Attempts.antt and FirstStx.antt claim, computed: a master alone on a silent line gives its message up behind the R + 1st STX, and reports a broadcast behind the first.
use Prim.Native.Nat.{ℕ}
use mathlib.Core.Path.{◌≡◌, refl}
use mathlib.Core.Bool.{true}
use mathlib.Core.List.{List, [], ◌∷◌, ◌++◌}
use lib.ListN.{replicate}
use Rattle.base.specs.Choice.{when◌then◌else◌}
use Rattle.base.specs.Store.{stored}
use Rattle.frame.specs.Check.{xor_from}
use Rattle.frame.specs.Delimiter.{delimiter_of}
use Rattle.frame.specs.Frame.{frame_bytes, preamble_bytes, body_bytes, protected_bytes, header_bytes}
use Rattle.line.specs.Reader.{taken, taken_data, silent_inside, at_idle}
use Rattle.line.specs.declared.Heard.TheVariants.{Silence}
use Rattle.turns.specs.Master.{requested, requested_up_to, master_takes, master_sends}
use Rattle.turns.specs.Link.{requests, MasterSide, master_tick}
use Rattle.turns.specs.Gaps.{MasterInput, master_sents}
use Rattle.turns.specs.declared.Sent.TheVariants.{Silent, Character}
use Rattle.turns.specs.declared.MasterTold.{MasterTold}
use Rattle.turns.specs.declared.MasterTold.TheVariants.{Nothing, Answered, GivenUp, BroadcastSent}
use Rattle.turns.proofs.GapRuns.{marks, primary, hears, asks}

-- what its host is told, the ticks that tell nothing left out
abbrev told_then : MasterTold → List MasterTold → List MasterTold
told_then Nothing ts = ts
told_then (Answered w) ts = Answered w ∷ ts
told_then (GivenUp n) ts = GivenUp n ∷ ts
told_then BroadcastSent ts = BroadcastSent ∷ ts

unfoldable pub master_reports : ℕ → MasterSide → List MasterInput → List MasterTold
master_reports limit x [] = []
master_reports limit x (i ∷ is) = told_then (master_tick limit x i.heard i.call).told (master_reports limit (master_tick limit x i.heard i.call).side is)

-- ---- a primary, FSK, R = 3, RT1 33: an STX of 10 characters behind the first RT1, and again behind each that follows

-- what FirstStx.antt says of it: 33 silent ticks, and the STX from its first 0xFF on
pub first_stx_sent : master_sents 255 primary (asks ∷ replicate 42 (hears Silence))
    ≡ replicate 33 Silent
    ++ (Character 0xFF ∷ Character 0xFF ∷ Character 0xFF ∷ Character 0xFF ∷ Character 0xFF ∷ Character 0x02 ∷ Character 0x80 ∷ Character 0x00 ∷ Character 0x00 ∷ Character 0x82 ∷ [])
unfolding primary hears asks master_sents master_tick requested requested_up_to master_takes master_sends taken taken_data silent_inside at_idle frame_bytes preamble_bytes body_bytes protected_bytes header_bytes xor_from delimiter_of stored when◌then◌else◌
first_stx_sent = refl

unfoldable pub stx_then : List ℕ → List ℕ
stx_then ms = replicate 33 0 ++ (replicate 10 1 ++ ms)

unfoldable pub unanswered : List MasterInput
unanswered = asks ∷ replicate 209 (hears Silence)

pub sent_four_times : marks (master_sents 255 primary unanswered) ≡ stx_then (stx_then (stx_then (stx_then (replicate 38 0))))
unfolding stx_then unanswered marks primary hears asks master_sents master_tick requested requested_up_to master_takes master_sends taken taken_data silent_inside at_idle frame_bytes preamble_bytes body_bytes protected_bytes header_bytes xor_from delimiter_of stored when◌then◌else◌
sent_four_times = refl

pub given_up_after_four : master_reports 255 primary unanswered ≡ GivenUp 4 ∷ []
unfolding unanswered master_reports primary hears asks master_tick requested requested_up_to master_takes master_sends taken taken_data silent_inside at_idle frame_bytes preamble_bytes body_bytes protected_bytes header_bytes xor_from delimiter_of stored when◌then◌else◌
given_up_after_four = refl

-- ---- a broadcast, of 14 characters

unfoldable pub broadcast : List MasterInput
broadcast = record { heard = Silence; call = requests (record { preamble = 5; revision = 7; long = true; address = 0; command = 3 }) [] } ∷ replicate 89 (hears Silence)

pub sent_once : marks (master_sents 255 primary broadcast) ≡ replicate 33 0 ++ (replicate 14 1 ++ replicate 43 0)
unfolding broadcast marks primary hears master_sents master_tick requested requested_up_to master_takes master_sends taken taken_data silent_inside at_idle frame_bytes preamble_bytes body_bytes protected_bytes header_bytes xor_from delimiter_of stored when◌then◌else◌
sent_once = refl

pub reported_sent : master_reports 255 primary broadcast ≡ BroadcastSent ∷ []
unfolding broadcast master_reports primary hears master_tick requested requested_up_to master_takes master_sends taken taken_data silent_inside at_idle frame_bytes preamble_bytes body_bytes protected_bytes header_bytes xor_from delimiter_of stored when◌then◌else◌
reported_sent = refl
