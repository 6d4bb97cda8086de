use Rattle.net_model.proofs.WorldBack.{spelled}
use Rattle.world_writer.specs.Written.{world_file_text}
use Rattle.net_model.proofs.world_law.written_worlds_read_back.Goals as goal

pub returns-clause-spelled : goal.returns-clause-spelled
returns-clause-spelled c = spelled c.written_databases_read_back.ensures.whole c.worlds_have_texts.ensures

pub returns-clause-read : goal.returns-clause-read
returns-clause-read c = λ w world whole.
    c.worlds_are_spelled.ensures.complete (world_file_text w) w
    (spelled c.written_databases_read_back.ensures.whole c.worlds_have_texts.ensures w world whole)
