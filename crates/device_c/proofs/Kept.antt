-- `unpacked (packed limit d)` is d, for every device whose numbers are values of their types.
use Prim.Native.Nat.{ℕ, ◌<◌, ◌^◌}
use mathlib.Core.Path.{◌≡◌, refl}
use native.Mathlib.Omega.{arith}
use Rattle.base.specs.Choice.{when◌then◌else◌}
use Rattle.turns.specs.declared.Device.{Device}
use Rattle.turns.specs.declared.Turn.{Turn}
use Rattle.turns.specs.declared.Turn.TheVariants.{Listens, Asked, AnswerWaits, Begins, Answers, Follows, Bursts}
use Rattle.turns.specs.declared.Wish.{Wish}
use Rattle.turns.specs.declared.Wish.TheVariants.{Same, On, Off}
use Rattle.state_words.proofs.Kept.{flag_kept, number_kept, case_kept, header_kept, profile_kept, receiver_kept}
use Rattle.device_c.specs.Words.{turn_word, turn_by, turn_of, wish_word, wish_of, packed, unpacked, limit_at}
use Rattle.device_c.specs.Fits.{TurnFits, DeviceFits}

turn_kept : (t : Turn) → TurnFits t → turn_of (turn_word t) ≡ t
unfolding when◌then◌else◌
turn_kept Listens f = refl
turn_kept (Asked n) f = case_kept turn_by 16 1 n (omega arith) f
turn_kept AnswerWaits f = refl
turn_kept Begins f = refl
turn_kept (Answers n) f = case_kept turn_by 16 4 n (omega arith) f
turn_kept Follows f = refl
turn_kept (Bursts n) f = case_kept turn_by 16 6 n (omega arith) f

wish_kept : (w : Wish) → wish_of (wish_word w) ≡ w
unfolding when◌then◌else◌
wish_kept Same = refl
wish_kept On = refl
wish_kept Off = refl

pub limit_kept : (limit : ℕ) (d : Device) → limit < 2 ^ 8 → limit_at (packed limit d) ≡ limit
limit_kept limit d f = number_kept 8 limit f

pub device_kept : (limit : ℕ) (d : Device) → DeviceFits d → unpacked (packed limit d) ≡ d
device_kept limit d f = λ i. record {
  profile = profile_kept d.profile f.profile i;
  preamble = number_kept 8 d.preamble f.numbers.preamble_fits i;
  polling = number_kept 8 d.polling f.numbers.polling_fits i;
  unique = d.unique;
  receiver = receiver_kept d.receiver f.receiver i;
  deaf = flag_kept d.deaf i;
  turn = turn_kept d.turn f.turn i;
  request = header_kept d.request f.request i;
  wish = wish_kept d.wish i;
  length = number_kept 16 d.length f.numbers.length_fits i;
  burst = flag_kept d.burst i;
  primary = flag_kept d.primary i;
  due = number_kept 32 d.due f.numbers.due_fits i;
  content = record {
    given = flag_kept d.content.given i;
    command = number_kept 8 d.content.command f.content.command i;
    count = number_kept 8 d.content.count f.content.count i;
  };
}
