-- Laws that docs/requests and docs/PROVING.md named when the code's proofs still cited them. The check proves that code without them; what they say stands here.
use Prim.Native.Nat.{ℕ, ◌≤◌, ◌<◌}
use native.Mathlib.Omega.{arith}
use mathlib.Core.Path.{◌≡◌, sym, ap, ◌∙◌}
use mathlib.Core.Bool.{Bool, false}
use mathlib.Core.List.{List}
use lib.ListN.{length}
use Rattle.std.specs.Prelude.{Result, Ok}
use Rattle.base.specs.Choice.{◌outside◌to◌}
use Rattle.base.proofs.Choices.{inside_high}
use Rattle.base.specs.Refusal.{called_as}
use Rattle.base.specs.declared.Refusal.{Refusal}
use Rattle.turns.specs.Device.{content_given}
use Rattle.turns.specs.Master.{if_awaiting}
use Rattle.turns.specs.declared.Device.{Device}
use Rattle.turns.proofs.Devices.{ContentView, content_view}
use Rattle.turns.proofs.Fresh.{refused_accepted}
use Rattle.turns.specs.declared.Ending.{Ending}
use Rattle.turns.specs.declared.Message.{Message}
use Rattle.turns.specs.declared.Stage.{Stage}
use Rattle.turns.specs.declared.Timer.{Timer}

-- equal parts make equal timers
pub timer_same : (a b c d e f : ℕ) → a ≡ d → b ≡ e → c ≡ f → ◌≡◌ {A = Timer} (record { next = a; window = b; quiet = c }) (record { next = d; window = e; quiet = f })
timer_same a b c d e f p q r = λ i. record { next = p i; window = q i; quiet = r i }

-- what becomes of a message whose stage is known
pub if_awaiting_at : (s t : Stage) (g : Message) (e x : Ending) → s ≡ t → x ≡ if_awaiting t g e → x ≡ if_awaiting s g e
if_awaiting_at s t g e x p q = q ∙ ap (λ (y : Stage). if_awaiting y g e) (sym p)

-- a count that is within a limit below 256 is a byte
pub count_small : (limit n : ℕ) (r : Bool) → limit < 256 → r ≡ (n outside 2 to limit) → r ≡ false → n < 256
count_small limit n r b q e = omega (arith, b, inside_high n 2 limit r q e)

-- the data of a burst content that is taken are at most 255
pub content_room : (limit : ℕ) (d : Device) (command : ℕ) (bytes : List ℕ) (c : Result Device Refusal) → called_as c ≡ content_given limit d command (length bytes)
    → (e : Device) → limit < 256 → c ≡ Ok e → length bytes ≤ 255
content_room limit d command bytes c q e b k = go (content_view limit d command (length bytes))
  where
    go : ContentView limit d command (length bytes) → length bytes ≤ 255
    go (ContentView.is_refused why g) = absurd (refused_accepted (sym g ∙ sym q ∙ ap called_as k))
    go (ContentView.is_taken low high g) = omega (arith, high, b)
