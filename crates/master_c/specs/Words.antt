-- How the code stands for what is to be believed.
-- A master and its data limit as 40 words of 64 bits, one for each field, in the order of `packed`. Whatever words a program in C lends, they stand for some master; proofs/Kept.antt says that `unpacked (packed limit m)` is m, for every master whose numbers are within their types (`MasterFits`). That is every master that the code holds: its fields have these types.
use Rattle.std.specs.Prelude.{ℕ, ◌+◌, ◌*◌, ◌/◌, ◌%◌, ◌^◌, ◌<◌, List, [], ◌∷◌, ◌++◌}
use Rattle.base.specs.Choice.{when◌then◌else◌, ◌=?◌}
use Rattle.turns.specs.declared.Master.{Master}
use Rattle.turns.specs.declared.Message.{Message}
use Rattle.turns.specs.declared.Noted.{Noted}
use Rattle.turns.specs.declared.Stage.{Stage}
use Rattle.turns.specs.declared.Stage.TheVariants.{Free, Waiting, Sending, Awaiting}
use Rattle.turns.specs.declared.Timer.{Timer}
use Rattle.state_words.specs.Fields.{word_at, number_at, flag_word, flag_at}
use Rattle.state_words.specs.Reader.{header_words, header_at, profile_words, profile_at, receiver_words, receiver_at}
use Rattle.state_words.specs.Fits.{HeaderFits, ProfileFits, ReceiverFits}

-- a stage: its number and 16 times the number that it holds; the numbers 4 to 15 stand for the stage with number 0
abbrev pub stage_word : Stage → ℕ
stage_word Free = 0
stage_word Waiting = 1
stage_word (Sending n) = 2 + 16 * n
stage_word (Awaiting n) = 3 + 16 * n

abbrev pub stage_by : ℕ → ℕ → Stage
stage_by number n =
    when number =? 1 then Waiting else
    when number =? 2 then Sending n else
    when number =? 3 then Awaiting n else
    Free

abbrev pub stage_of : ℕ → Stage
stage_of word = stage_by (word % 16) (word / 16 % 2 ^ 16)

abbrev pub message_words : Message → List ℕ
message_words g = header_words g.header ++ (stage_word g.stage ∷ g.length ∷ g.attempts ∷ [])

abbrev pub message_at : List ℕ → ℕ → Message
message_at words i = record {
  header = header_at words i;
  stage = stage_of (word_at words (i + 6));
  length = number_at 16 words (i + 7);
  attempts = number_at 16 words (i + 8);
}

abbrev pub timer_at : List ℕ → ℕ → Timer
timer_at words i = record { next = number_at 32 words i; window = number_at 32 words (i + 1); quiet = number_at 32 words (i + 2) }

abbrev pub noted_at : List ℕ → ℕ → Noted
noted_at words i = record { long = flag_at words i; address = word_at words (i + 1) }

-- what it was started with, BURST and the timers: 12 words
abbrev pub front_words : Master → List ℕ
front_words m =
    flag_word m.primary ∷
    profile_words m.profile ++ (
    m.retries ∷
    flag_word m.deaf ∷
    flag_word m.burst ∷
    m.timer.next ∷
    m.timer.window ∷
    m.timer.quiet ∷
    [])

-- the address that BURST was set by, the message and the data limit: 12 words, after the reader's 16
abbrev pub end_words : ℕ → Master → List ℕ
end_words limit m = flag_word m.noted.long ∷ m.noted.address ∷ message_words m.message ++ (limit ∷ [])

abbrev pub packed : ℕ → Master → List ℕ
packed limit m = front_words m ++ (receiver_words m.receiver ++ end_words limit m)

-- document 02, item 12: the data limit that it was started with
abbrev pub limit_at : List ℕ → ℕ
limit_at words = number_at 8 words 39

abbrev pub unpacked : List ℕ → Master
unpacked words = record {
  primary = flag_at words 0;
  profile = profile_at words 1;
  retries = number_at 8 words 6;
  deaf = flag_at words 7;
  burst = flag_at words 8;
  timer = timer_at words 9;
  receiver = receiver_at words 12;
  noted = noted_at words 28;
  message = message_at words 30;
}

-- ---- masters whose numbers are within the types of the code's fields

abbrev pub StageFits : Stage → Type 0
StageFits Free = Unit {0}
StageFits Waiting = Unit {0}
StageFits (Sending n) = n < 2 ^ 16
StageFits (Awaiting n) = n < 2 ^ 16

pub record MessageFits (g : Message) : Type 0 where
  pub header : HeaderFits g.header
  pub stage : StageFits g.stage
  pub length : g.length < 2 ^ 16
  pub attempts : g.attempts < 2 ^ 16

pub record TimerFits (t : Timer) : Type 0 where
  pub next : t.next < 2 ^ 32
  pub window : t.window < 2 ^ 32
  pub quiet : t.quiet < 2 ^ 32

pub record MasterFits (m : Master) : Type 0 where
  pub profile : ProfileFits m.profile
  pub retries : m.retries < 2 ^ 8
  pub timer : TimerFits m.timer
  pub receiver : ReceiverFits m.receiver
  pub message : MessageFits m.message
