-- How the code stands for what is to be believed.
-- What a conversion returns and leaves in `end`, and what a load's writer returns and leaves in its buffer, where a program in C calls them.
use Rattle.std.specs.Prelude.{ℕ, ◌≡◌, List, length}
use Rattle.base.specs.Lent.{Lent, before, after}
use Rattle.base.specs.Refusal.{Called, accepted, refused}
use Rattle.load_writer.specs.Write.{load_answer, load_buffer}
use Rattle.player_convert.specs.Turn.{conversion, length_in, lent_after}

-- 0, or the refusal's number
abbrev pub returned : Called ℕ → ℕ
returned (accepted end) = 0
returned (refused why) = why

-- the result's length, or what was there
abbrev pub end_after : Called ℕ → ℕ → ℕ
end_after (accepted end) was = end
end_after (refused why) was = was

pub record ConvertCall (size : ℕ) (script : List ℕ) (out : Lent (List ℕ)) (end : Lent ℕ) (r : ℕ) : Type 0 where
  pub returns : r ≡ returned (length_in (conversion size script (length (before out))))
  pub end_is : after end ≡ end_after (length_in (conversion size script (length (before out)))) (before end)
  pub out_is : after out ≡ lent_after (conversion size script (length (before out))) (before out)

pub record LoadCall (seed count : ℕ) (buffer : Lent (List ℕ)) (r : ℕ) : Type 0 where
  pub returns : r ≡ returned (load_answer seed count (length (before buffer)))
  pub buffer_is : after buffer ≡ load_buffer seed count (before buffer)
