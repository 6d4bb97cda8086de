use Rattle.world_file.specs.SessionText.{Feeds, session_row}
use Rattle.world_file.specs.SessionTold.{word_seen}
use Rattle.world_file.proofs.SessionTaken.{taken_by}
use Rattle.world_file.proofs.session_text.Told.take_line.Goals as goal

pub returns-in-Feeds : goal.returns-in-Feeds
returns-in-Feeds c =
    taken_by (Feeds (word_seen c.in-Feeds.word)) (session_row c.args.self.now.draft c.args.line.now) c.args.self.now c.take_word.new.self c.args.number c.args.line.now c.take_word.result c.in-Feeds.ensures
    (c.take_word.ensures c.args.line.now)
