-- Inner contracts: nothing that is to be believed rests on them.
-- One record more in a walk over a tick's records: what the code's steps are; and how many ticks have none.
use Rattle.std.specs.Prelude.{ℕ, ◌+◌, ◌-◌, Bool, List, [], ◌∷◌, get_or, drop, replicate, Option, Some, None}
use Rattle.base.specs.Choice.{when◌then◌else◌, ◌<?◌, ◌=?◌}
use Rattle.player_script.specs.Script.{entry_of, long_entry_of, records_in, call_of}
use Rattle.player_script.specs.declared.Entry.{Entry}
use Rattle.player_script.specs.declared.Form.{Form}
use Rattle.player_script.specs.declared.Form.TheVariants.{Old, New}
use Rattle.player_script.specs.declared.ScriptTick.{ScriptTick}
use Rattle.player_script.specs.declared.ScriptCall.{ScriptCall}

-- the record at a place
abbrev pub entry_at : List ℕ → ℕ → Entry
entry_at script at = entry_of (get_or script at 0) (get_or script (at + 1) 0) (get_or script (at + 2) 0) (get_or script (at + 3) 0)

abbrev pub long_entry_at : List ℕ → ℕ → Entry
long_entry_at script at =
    long_entry_of (get_or script at 0) (get_or script (at + 1) 0) (get_or script (at + 2) 0)
    (get_or script (at + 3) 0) (get_or script (at + 4) 0) (get_or script (at + 5) 0)

unfoldable pub entry_in : Form → List ℕ → ℕ → Entry
entry_in Old script at = entry_at script at
entry_in New script at = long_entry_at script at

-- what a record wants: the stop is no call
abbrev pub wanted_by : Entry → Option ScriptCall
wanted_by e = when e.action =? 0 then None else Some (call_of e)

-- a party's call stays; a party that has none takes its own
abbrev pub kept : Option ScriptCall → Bool → Option ScriptCall → Option ScriptCall
kept None own w = when own then w else None
kept (Some before) own w = Some before

-- the calls of the parties from this number on
unfoldable pub kept_from : ℕ → Entry → List (Option ScriptCall) → List (Option ScriptCall)
kept_from party e [] = []
kept_from party e (c ∷ cs) = kept c (e.party =? party) (wanted_by e) ∷ kept_from (party + 1) e cs

-- one record of so many bytes more
unfoldable pub with_record : ℕ → ScriptTick → Entry → ScriptTick
with_record w t e = record { calls = kept_from 0 e t.calls; next = t.next + w }

-- before the first record
abbrev pub no_calls : ℕ → ScriptTick
no_calls at = record { calls = replicate 8 None; next = at }

-- how many ticks from this one on have no record, before the stop; in tick 0 the burst contents are given
abbrev pub free_before : ℕ → ℕ → List Entry → ℕ
free_before tick stop [] = stop - tick
free_before tick stop (e ∷ es) = (when e.tick <? stop then e.tick else stop) - tick

unfoldable pub free_ticks : Form → List ℕ → ℕ → ℕ → ℕ → ℕ
free_ticks f script at tick stop = when tick =? 0 then 0 else free_before tick stop (records_in f (drop at script))
