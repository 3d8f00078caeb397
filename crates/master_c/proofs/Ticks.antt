-- A tick by what its parts gave, and one with what was made of its arguments.
use Rattle.std.specs.Prelude.{Option}
use Prim.Native.Nat.{ℕ, ◌<◌, ◌^◌}
use mathlib.Core.List.{List}
use mathlib.Core.Path.{◌≡◌, ap, ◌∙◌}
use Rattle.line.specs.declared.Heard.{Heard}
use Rattle.turns.specs.Link.{MasterStep, master_tick}
use Rattle.turns.specs.Master.{master_takes}
use Rattle.turns.specs.Told.{master_tells}
use Rattle.turns.specs.declared.Master.{Master}
use Rattle.master.specs.Tick.{call_of, side_of, MasterTickIs}
use Rattle.master.specs.declared.MasterTicked.{MasterTicked}
use Rattle.party.specs.Numbers.{sent_number, call_number}
use Rattle.state_words.specs.Numbers.{tick_numbers}
use Rattle.master_c.specs.Words.{packed, unpacked, limit_at, MasterFits}
use Rattle.master_c.specs.Tick.{told_attempts, StepIs}
use Rattle.master_c.proofs.Kept.{master_kept, limit_kept}
use Rattle.turns.specs.declared.Request.{Request}

-- a tick of the master that the words were
pub tick_is : (limit : ℕ) (before frame bytes : List ℕ) (m : Master) (heard : Heard) (call : Option Request) (put : List ℕ) (t : MasterTicked) (frame_after bytes_after words results : List ℕ) (sent told attempts r : ℕ)
    → limit ≡ limit_at before → limit < 2 ^ 8 → m ≡ unpacked before → MasterTickIs limit m heard call put frame bytes t frame_after bytes_after → MasterFits t.master → words ≡ packed limit t.master
    → results ≡ tick_numbers sent told attempts t.event → sent ≡ sent_number t.sent → told ≡ (master_tells t.told).number → attempts ≡ told_attempts t.told
    → r ≡ call_number t.result
    → StepIs (limit_at before) (master_tick (limit_at before) (side_of (unpacked before) frame bytes) heard (call_of call put)) (master_takes (unpacked before) heard bytes_after).event words frame_after bytes_after results r
tick_is limit before frame bytes m heard call put t frame_after bytes_after words results sent told attempts r same small d v f w n a b e q =
    let step : _ = v.step ∙ (λ i. master_tick (same i) (side_of (d i) frame bytes) heard (call_of call put)) in
    record {
      words_are = w ∙ (λ i. packed (same i) (step i).side.master);
      limit_is = ap limit_at w ∙ limit_kept limit t.master small ∙ same;
      unpacked_is = ap unpacked w ∙ master_kept limit t.master f ∙ ap (λ (s : MasterStep). s.side.master) step;
      frame_is = ap (λ (s : MasterStep). s.side.frame) step;
      bytes_are = ap (λ (s : MasterStep). s.side.bytes) step;
      results_are = n ∙ (λ i. tick_numbers
          ((a ∙ ap (λ (s : MasterStep). sent_number s.sent) step) i)
          ((b ∙ ap (λ (s : MasterStep). (master_tells s.told).number) step) i)
          ((e ∙ ap (λ (s : MasterStep). told_attempts s.told) step) i)
          ((v.found ∙ ap (λ (x : Master). (master_takes x heard bytes_after).event) d) i));
      returned = q ∙ ap (λ (s : MasterStep). call_number s.result) step;
    }
