use Rattle.session_script.proofs.Tags.{replied_tag, said_tag}
use Rattle.session_script.proofs.law.answers_have_the_tag.Goals as goal

pub returns-clause-said : goal.returns-clause-said
returns-clause-said c = said_tag

pub returns-clause-replied : goal.returns-clause-replied
returns-clause-replied c = replied_tag
