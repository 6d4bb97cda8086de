use Rattle.std.proofs.Common.{List, ℕ, Option, subst}
use Rattle.world_file.specs.SessionText.{Feeds}
use Rattle.world_file.specs.SessionTold.{TakenAs}
use Rattle.world_file.proofs.session_text.Told.take_word.Goals as goal

pub returns : goal.returns
returns c line =
    subst (λ (bytes : Option (List ℕ)). TakenAs (Feeds bytes) c.args.self.now c.take_feed.new.self c.args.number line c.take_feed.result) c.in_ok-bytes.ensures (c.take_feed.ensures line)
