-- How the code stands for what is to be believed.
-- What a program in C is told where it lists a recording or joins two.
use Rattle.std.specs.Prelude.{ℕ, ◌≡◌, List, length, Result, Ok, Err}
use Rattle.base.specs.Lent.{Lent, before, after}
use Rattle.base.specs.Refusal.{number}
use Rattle.recording_join.specs.Joining.{join_answer, buffer_after, join_number, join_tick}
use Rattle.recording_list.specs.Listing.{list_answer}
use Rattle.recording_list.specs.Listing as Listing
use Rattle.base.specs.declared.Refusal.{Refusal}

-- a list: 0, or the refusal's number
abbrev pub list_number : Result ℕ Refusal → ℕ
list_number (Ok n) = 0
list_number (Err why) = number why

-- what is left in `entries`: their number, or what was there
abbrev pub list_entries : Result ℕ Refusal → ℕ → ℕ
list_entries (Ok n) was = n
list_entries (Err why) was = was

pub record ListCall (recording : List ℕ) (out : Lent (List ℕ)) (entries : Lent ℕ) (r : ℕ) : Type 0 where
  pub returns : r ≡ list_number (list_answer recording (length (before out)))
  pub out_is : after out ≡ Listing.buffer_after (list_answer recording (length (before out))) recording (before out)
  pub entries_are : after entries ≡ list_entries (list_answer recording (length (before out))) (before entries)

pub record JoinCall (first second : List ℕ) (out : Lent (List ℕ)) (tick : Lent ℕ) (r : ℕ) : Type 0 where
  pub returns : r ≡ join_number (join_answer first second (length (before out)))
  pub out_is : after out ≡ buffer_after (join_answer first second (length (before out))) first second (before out)
  pub tick_is : after tick ≡ join_tick (join_answer first second (length (before out))) (before tick)
