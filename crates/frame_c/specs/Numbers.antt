-- How the code stands for what is to be believed.
-- The numbers that stand for the writer's and the reader's answers where a program in C calls them.
use Rattle.std.specs.Prelude.{ℕ, Bool, ◌≡◌, List, [], ◌∷◌, length}
use Rattle.base.specs.Choice.{bit}
use Rattle.base.specs.Lent.{Lent, before, after}
use Rattle.base.specs.Refusal.{Called, accepted, refused}
use Rattle.frame.specs.Write.{write_answer, write_buffer}
use Rattle.frame.specs.Read.{read_frame}
use Rattle.frame.specs.declared.Header.{Header}
use Rattle.frame.specs.declared.Found.{Found}

-- the header that a write is given, field by field
abbrev pub header : ℕ → Bool → Bool → Bool → ℕ → ℕ → Header
header frame long primary burst address command =
    record { kind = frame; long = long; primary = primary; burst = burst; address = address; command = command }

-- what a write or a read returns: 0, or the refusal's number
abbrev pub returned : {A : Type 0} → Called A → ℕ
returned (accepted a) = 0
returned (refused why) = why

-- what a write leaves in `end`: where the frame ends, or what was there
abbrev pub end_after : Called ℕ → ℕ → ℕ
end_after (accepted end) was = end
end_after (refused why) was = was

pub record WriteCall (preamble : ℕ) (h : Header) (bytes : List ℕ) (buffer : Lent (List ℕ)) (place : ℕ) (end : Lent ℕ) (r : ℕ) : Type 0 where
  pub returns : r ≡ returned (write_answer preamble h (length bytes) (length (before buffer)) place)
  pub buffer_is : after buffer ≡ write_buffer preamble h bytes (before buffer) place
  pub end_is : after end ≡ end_after (write_answer preamble h (length bytes) (length (before buffer)) place) (before end)

-- the numbers of a frame, in the order of the C header's `enum nengapiko_field`
abbrev pub found_numbers : Found → List ℕ
found_numbers f =
    f.preamble ∷
    f.header.kind ∷
    bit f.header.long ∷
    bit f.header.primary ∷
    bit f.header.burst ∷
    f.header.address ∷
    f.expansion ∷
    f.header.command ∷
    f.start ∷
    f.count ∷
    f.end ∷
    []

-- what a read leaves in `fields`: the frame's numbers, or what was there
abbrev pub fields_after : Called Found → List ℕ → List ℕ
fields_after (accepted f) were = found_numbers f
fields_after (refused why) were = were

pub record ReadCall (bytes : List ℕ) (fields : Lent (List ℕ)) (r : ℕ) : Type 0 where
  pub returns : r ≡ returned (read_frame bytes)
  pub fields_are : after fields ≡ fields_after (read_frame bytes) (before fields)
