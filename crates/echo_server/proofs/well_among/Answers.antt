use Rattle.std.proofs.Common.{rules}
use Rattle.std.proofs.lemmas.Iterator.{YieldsList-from_slice}
use Rattle.std.proofs.lemmas.Iterator.Consumers.{YieldsList-from_filter, count_from_yields_List}
use Rattle.echo_server.specs.Reading.{is_well_client}
use Rattle.echo_server.proofs.well_among.Goals as goal

pub returns : goal.returns
returns c =
    count_from_yields_List c.filter.result c.count.result c.count.ensures.ran
    (YieldsList-from_filter _ is_well_client (YieldsList-from_slice c.args.tasks.now (cc)) c.filter.ensures.closure (λ x r q k. search rules))
