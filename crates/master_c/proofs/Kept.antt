-- `unpacked (packed limit m)` is m, for every master whose numbers are values of their types.
use Prim.Native.Nat.{ℕ, ◌<◌, ◌^◌}
use mathlib.Core.List.{List, ◌++◌}
use mathlib.Core.Path.{◌≡◌, refl, sym, ap, ◌∙◌}
use lib.ListN.{length}
use native.Mathlib.Omega.{arith}
use Rattle.base.specs.Choice.{when◌then◌else◌}
use Rattle.base.specs.Store.{stored}
use Rattle.turns.specs.declared.Master.{Master}
use Rattle.turns.specs.declared.Message.{Message}
use Rattle.turns.specs.declared.Stage.{Stage}
use Rattle.turns.specs.declared.Stage.TheVariants.{Free, Waiting, Sending, Awaiting}
use Rattle.state_words.specs.Reader.{receiver_words}
use Rattle.state_words.proofs.Puts.{part_behind, all_put}
use Rattle.state_words.proofs.Kept.{flag_kept, number_kept, case_kept, header_kept, profile_kept, receiver_kept}
use Rattle.master_c.specs.Words.{stage_word, stage_by, stage_of, message_words, message_at, front_words, end_words, packed, unpacked, limit_at, StageFits, MessageFits, MasterFits}

pub stage_kept : (s : Stage) → StageFits s → stage_of (stage_word s) ≡ s
unfolding when◌then◌else◌
stage_kept Free f = refl
stage_kept Waiting f = refl
stage_kept (Sending n) f = case_kept stage_by 16 2 n (omega arith) f
stage_kept (Awaiting n) f = case_kept stage_by 16 3 n (omega arith) f

message_kept : (g : Message) → MessageFits g → message_at (message_words g) 0 ≡ g
message_kept g f = λ i. record {
  header = header_kept g.header f.header i;
  stage = stage_kept g.stage f.stage i;
  length = number_kept 16 g.length f.length i;
  attempts = number_kept 16 g.attempts f.attempts i;
}

pub master_kept : (limit : ℕ) (m : Master) → MasterFits m → unpacked (packed limit m) ≡ m
master_kept limit m f = λ i. record {
  primary = flag_kept m.primary i;
  profile = profile_kept m.profile f.profile i;
  retries = number_kept 8 m.retries f.retries i;
  deaf = flag_kept m.deaf i;
  burst = flag_kept m.burst i;
  timer = record {
    next = number_kept 32 m.timer.next f.timer.next i;
    window = number_kept 32 m.timer.window f.timer.window i;
    quiet = number_kept 32 m.timer.quiet f.timer.quiet i;
  };
  receiver = receiver_kept m.receiver f.receiver i;
  noted = record { long = flag_kept m.noted.long i; address = m.noted.address };
  message = message_kept m.message f.message i;
}

-- packed, part by part
pub limit_kept : (limit : ℕ) (m : Master) → limit < 2 ^ 8 → limit_at (packed limit m) ≡ limit
limit_kept limit m f = number_kept 8 limit f

pub packed_is : (limit : ℕ) (m : Master) (before first second words front reader end : List ℕ)
    → front ≡ front_words m → reader ≡ receiver_words m.receiver → end ≡ end_words limit m
    → first ≡ stored before 0 front → second ≡ stored first 12 reader → words ≡ stored second 28 end → length before ≡ 40
    → words ≡ packed limit m
packed_is limit m before first second words front reader end f r e p q t n =
    let one : first ≡ stored before 0 (front_words m) = p ∙ ap (λ (l : List ℕ). stored before 0 l) f in
    let two : second ≡ stored before 0 (front_words m ++ receiver_words m.receiver) =
    part_behind 12 before first second (front_words m) (receiver_words m.receiver) one refl (q ∙ ap (λ (l : List ℕ). stored first 12 l) r) in
    let three : words ≡ stored before 0 ((front_words m ++ receiver_words m.receiver) ++ end_words limit m) =
    part_behind 28 before second words (front_words m ++ receiver_words m.receiver) (end_words limit m) two refl (t ∙ ap (λ (l : List ℕ). stored second 28 l) e) in
    all_put before words (packed limit m) three (sym n)
