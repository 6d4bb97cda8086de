-- The text of a made world is the answer of `make`.
use Rattle.std.proofs.Common.{◌≡◌, ℕ, List, ◌∙◌, ap}
use Rattle.net_base.specs.declared.world.World.{World}
use Rattle.net_model.specs.Answers.{Answer}
use Rattle.world_writer.specs.Made.{made_world}
use Rattle.world_writer.specs.Written.{world_file_text}
use Rattle.netsh.specs.Built.{made}

pub made_answer : (messages : ℕ) (w : World) (text : List ℕ) (answer : Answer) → w ≡ made_world messages → text ≡ world_file_text w
    → answer ≡ record { status = 0; text = text } → answer ≡ made messages
unfolding made
made_answer messages w text answer is_made is_text is = is ∙ ap (λ (t : List ℕ). record { status = 0; text = t }) (is_text ∙ ap world_file_text is_made)
