-- How the code stands for what is to be believed.
-- A header, a profile and what the tick reader holds, as words.
use Rattle.std.specs.Prelude.{ℕ, ◌+◌, ◌*◌, ◌/◌, ◌%◌, ◌^◌, List, [], ◌∷◌, ◌++◌}
use Rattle.base.specs.Choice.{when◌then◌else◌, ◌=?◌}
use Rattle.frame.specs.declared.Header.{Header}
use Rattle.line.specs.declared.FrameDamage.{FrameDamage}
use Rattle.line.specs.declared.Place.{Place}
use Rattle.line.specs.declared.Place.TheVariants.{Passing, Idle, Preamble, First, Address, Expansion, Command, Count, Data, Check}
use Rattle.line.specs.declared.Profile.{Profile}
use Rattle.line.specs.declared.Receiver.{Receiver}
use Rattle.state_words.specs.Fields.{word_at, number_at, flag_word, flag_at}

-- ---- a header: 6 words

abbrev pub header_words : Header → List ℕ
header_words h = h.kind ∷ flag_word h.long ∷ flag_word h.primary ∷ flag_word h.burst ∷ h.address ∷ h.command ∷ []

abbrev pub header_at : List ℕ → ℕ → Header
header_at words i = record {
  kind = number_at 8 words i;
  long = flag_at words (i + 1);
  primary = flag_at words (i + 2);
  burst = flag_at words (i + 3);
  address = word_at words (i + 4);
  command = number_at 8 words (i + 5);
}

-- ---- a profile: 5 words

abbrev pub profile_words : Profile → List ℕ
profile_words p = p.sto ∷ p.hold ∷ p.rt2 ∷ p.rt1p ∷ p.rt1s ∷ []

abbrev pub profile_at : List ℕ → ℕ → Profile
profile_at words i = record {
  sto = number_at 16 words i;
  hold = number_at 16 words (i + 1);
  rt2 = number_at 16 words (i + 2);
  rt1p = number_at 16 words (i + 3);
  rt1s = number_at 16 words (i + 4);
}

-- ---- where the reader stands: 1 word, the place's number and 16 times the number that it holds

abbrev pub place_word : Place → ℕ
place_word Passing = 0
place_word Idle = 1
place_word (Preamble n) = 2 + 16 * n
place_word First = 3
place_word (Address n) = 4 + 16 * n
place_word (Expansion n) = 5 + 16 * n
place_word Command = 6
place_word Count = 7
place_word (Data n) = 8 + 16 * n
place_word Check = 9

-- the numbers 10 to 15 stand for the place with number 0
abbrev pub place_by : ℕ → ℕ → Place
place_by number n =
    when number =? 1 then Idle else
    when number =? 2 then Preamble n else
    when number =? 3 then First else
    when number =? 4 then Address n else
    when number =? 5 then Expansion n else
    when number =? 6 then Command else
    when number =? 7 then Count else
    when number =? 8 then Data n else
    when number =? 9 then Check else
    Passing

abbrev pub place_of : ℕ → Place
place_of word = place_by (word % 16) (word / 16 % 2 ^ 8)

-- ---- what is wrong with a frame: 5 words

abbrev pub damage_words : FrameDamage → List ℕ
damage_words m = flag_word m.parity ∷ flag_word m.overrun ∷ flag_word m.framing ∷ flag_word m.check ∷ flag_word m.address ∷ []

abbrev pub damage_at : List ℕ → ℕ → FrameDamage
damage_at words i = record {
  parity = flag_at words i;
  overrun = flag_at words (i + 1);
  framing = flag_at words (i + 2);
  check = flag_at words (i + 3);
  address = flag_at words (i + 4);
}

-- ---- the tick reader: 16 words

abbrev pub receiver_words : Receiver → List ℕ
receiver_words r = header_words r.header ++ (place_word r.place ∷ r.expansion ∷ r.count ∷ r.sum ∷ flag_word r.gap ∷ damage_words r.damage)

abbrev pub receiver_at : List ℕ → ℕ → Receiver
receiver_at words i = record {
  header = header_at words i;
  place = place_of (word_at words (i + 6));
  expansion = number_at 8 words (i + 7);
  count = number_at 8 words (i + 8);
  sum = number_at 8 words (i + 9);
  gap = flag_at words (i + 10);
  damage = damage_at words (i + 11);
}
