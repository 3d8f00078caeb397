-- How the code stands for what is to be believed.
-- What a party sends in a tick, and what became of its host's call, each as a number.
use Rattle.std.specs.Prelude.{ℕ, ◌+◌}
use Rattle.turns.specs.declared.CallResult.{CallResult}
use Rattle.turns.specs.declared.Sent.{Sent}
use Rattle.turns.specs.declared.Sent.TheVariants.{Silent, Character}

-- the character that is sent, with 256 added, or 0 for none
abbrev pub sent_number : Sent → ℕ
sent_number Silent = 0
sent_number (Character c) = 256 + c

-- a call's number: 0 where there was none or it was taken, or the refusal's in document 01's table
abbrev pub call_number : CallResult → ℕ
call_number CallResult.Nothing = 0
call_number CallResult.Taken = 0
call_number (CallResult.Refused why) = why
