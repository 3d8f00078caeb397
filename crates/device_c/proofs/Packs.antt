-- A device's words put part by part.
use Prim.Native.Nat.{ℕ}
use mathlib.Core.List.{List, ◌++◌}
use mathlib.Core.Path.{◌≡◌, refl, sym, ap, ◌∙◌}
use lib.ListN.{length}
use Rattle.base.specs.Store.{stored}
use Rattle.turns.specs.declared.Device.{Device}
use Rattle.state_words.specs.Reader.{receiver_words}
use Rattle.state_words.proofs.Puts.{part_behind, all_put}
use Rattle.device_c.specs.Words.{settings_words, answering_words, bursting_words, packed}

abbrev front : Device → List ℕ
front d = settings_words d.profile d.preamble d.polling d.unique

pub packed_is : (limit : ℕ) (d : Device) (before first second third words settings reader answering bursting : List ℕ)
    → settings ≡ settings_words d.profile d.preamble d.polling d.unique → reader ≡ receiver_words d.receiver
    → answering ≡ answering_words d → bursting ≡ bursting_words limit d
    → first ≡ stored before 0 settings → second ≡ stored first 8 reader → third ≡ stored second 24 answering → words ≡ stored third 34 bursting → length before ≡ 41
    → words ≡ packed limit d
packed_is limit d before first second third words settings reader answering bursting s r a b p q t u n =
    let one : first ≡ stored before 0 (front d) = p ∙ ap (λ (l : List ℕ). stored before 0 l) s in
    let two : second ≡ stored before 0 (front d ++ receiver_words d.receiver) =
    part_behind 8 before first second (front d) (receiver_words d.receiver) one refl (q ∙ ap (λ (l : List ℕ). stored first 8 l) r) in
    let three : third ≡ stored before 0 ((front d ++ receiver_words d.receiver) ++ answering_words d) =
    part_behind 24 before second third (front d ++ receiver_words d.receiver) (answering_words d) two refl (t ∙ ap (λ (l : List ℕ). stored second 24 l) a) in
    let four : words ≡ stored before 0 (((front d ++ receiver_words d.receiver) ++ answering_words d) ++ bursting_words limit d) =
    part_behind 34 before third words ((front d ++ receiver_words d.receiver) ++ answering_words d) (bursting_words limit d) three refl (u ∙ ap (λ (l : List ℕ). stored third 34 l) b) in
    all_put before words (packed limit d) four (sym n)
