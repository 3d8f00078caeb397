-- How the code stands for what is to be believed.
-- A device and its data limit as 41 words of 64 bits, one for each field, in four parts: what it was started with, its reader, its answer, and its burst mode with the data limit. Whatever words a program in C lends, they stand for some device; proofs/Kept.antt says that `unpacked (packed limit d)` is d, for every device whose numbers are within their types (`DeviceFits` in specs/Fits.antt). That is every device that the code holds: its fields have these types.
use Rattle.std.specs.Prelude.{ℕ, ◌+◌, ◌*◌, ◌/◌, ◌%◌, ◌^◌, List, [], ◌∷◌, ◌++◌}
use Rattle.base.specs.Choice.{when◌then◌else◌, ◌=?◌}
use Rattle.line.specs.declared.Profile.{Profile}
use Rattle.line.specs.declared.Receiver.{Receiver}
use Rattle.turns.specs.declared.Content.{Content}
use Rattle.turns.specs.declared.Device.{Device}
use Rattle.turns.specs.declared.Turn.{Turn}
use Rattle.turns.specs.declared.Turn.TheVariants.{Listens, Asked, AnswerWaits, Begins, Answers, Follows, Bursts}
use Rattle.turns.specs.declared.Wish.{Wish}
use Rattle.turns.specs.declared.Wish.TheVariants.{Same, On, Off}
use Rattle.state_words.specs.Fields.{word_at, number_at, flag_word, flag_at}
use Rattle.state_words.specs.Reader.{header_words, header_at, profile_words, profile_at, receiver_words, receiver_at}
use Rattle.device_c.specs.declared.Settings.{Settings}
use Rattle.device_c.specs.declared.Answering.{Answering}
use Rattle.device_c.specs.declared.Bursting.{Bursting}

-- ---- a turn: its number and 16 times the number that it holds; the numbers 7 to 15 stand for the turn with number 0

abbrev pub turn_word : Turn → ℕ
turn_word Listens = 0
turn_word (Asked n) = 1 + 16 * n
turn_word AnswerWaits = 2
turn_word Begins = 3
turn_word (Answers n) = 4 + 16 * n
turn_word Follows = 5
turn_word (Bursts n) = 6 + 16 * n

abbrev pub turn_by : ℕ → ℕ → Turn
turn_by number n =
    when number =? 1 then Asked n else
    when number =? 2 then AnswerWaits else
    when number =? 3 then Begins else
    when number =? 4 then Answers n else
    when number =? 5 then Follows else
    when number =? 6 then Bursts n else
    Listens

abbrev pub turn_of : ℕ → Turn
turn_of word = turn_by (word % 16) (word / 16 % 2 ^ 16)

-- ---- a wish: its number; any other word stands for the wish with number 0

abbrev pub wish_word : Wish → ℕ
wish_word Same = 0
wish_word On = 1
wish_word Off = 2

abbrev pub wish_of : ℕ → Wish
wish_of word =
    when word =? 1 then On else
    when word =? 2 then Off else
    Same

-- ---- the four parts

-- what it was started with: 8 words
abbrev pub settings_words : Profile → ℕ → ℕ → ℕ → List ℕ
settings_words p preamble polling unique = profile_words p ++ (preamble ∷ polling ∷ unique ∷ [])

abbrev pub settings_at : List ℕ → Settings
settings_at words = record { profile = profile_at words 0; preamble = number_at 8 words 5; polling = number_at 8 words 6; unique = word_at words 7 }

-- the request in hand, and its answer: 10 words, after the reader's 16
abbrev pub answering_words : Device → List ℕ
answering_words d = flag_word d.deaf ∷ turn_word d.turn ∷ wish_word d.wish ∷ d.length ∷ header_words d.request

abbrev pub answering_at : List ℕ → Answering
answering_at words = record {
  deaf = flag_at words 24;
  turn = turn_of (word_at words 25);
  wish = wish_of (word_at words 26);
  length = number_at 16 words 27;
  request = header_at words 28;
}

-- burst mode and the data limit: 7 words
abbrev pub bursting_words : ℕ → Device → List ℕ
bursting_words limit d =
    flag_word d.burst ∷
    flag_word d.primary ∷
    d.due ∷
    flag_word d.content.given ∷
    d.content.command ∷
    d.content.count ∷
    limit ∷
    []

abbrev pub content_at : List ℕ → ℕ → Content
content_at words i = record { given = flag_at words i; command = number_at 8 words (i + 1); count = number_at 8 words (i + 2) }

abbrev pub bursting_at : List ℕ → Bursting
bursting_at words = record { burst = flag_at words 34; primary = flag_at words 35; due = number_at 32 words 36; content = content_at words 37 }

-- ---- the device

-- document 02, item 12: the data limit that it was started with
abbrev pub limit_at : List ℕ → ℕ
limit_at words = number_at 8 words 40

abbrev pub packed : ℕ → Device → List ℕ
packed limit d =
    settings_words d.profile d.preamble d.polling d.unique ++ (receiver_words d.receiver ++ (answering_words d ++ bursting_words limit d))

-- the device with these parts
abbrev pub joined : Settings → Receiver → Answering → Bursting → Device
joined s r a b = record {
  profile = s.profile;
  preamble = s.preamble;
  polling = s.polling;
  unique = s.unique;
  receiver = r;
  deaf = a.deaf;
  turn = a.turn;
  request = a.request;
  wish = a.wish;
  length = a.length;
  burst = b.burst;
  primary = b.primary;
  due = b.due;
  content = b.content;
}

abbrev pub unpacked : List ℕ → Device
unpacked words = joined (settings_at words) (receiver_at words 8) (answering_at words) (bursting_at words)
