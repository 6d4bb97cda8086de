use Rattle.session_answers.proofs.Short.{grant_short}
use Rattle.session_answers.proofs.printed.is_grant.Goals as goal

pub returns-clause-short : goal.returns-clause-short
returns-clause-short c =
    grant_short c.args.pair.now c.args.start c.args.limit c.is_address-local.ensures.few.0 c.is_address-local.ensures.few.1 c.is_address-remote.ensures.few.0 c.is_address-remote.ensures.few.1
    c.is_number-first.ensures.few c.is_number-last.ensures.few
