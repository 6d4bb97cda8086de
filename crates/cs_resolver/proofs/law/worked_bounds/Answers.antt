use Rattle.cs_resolver.proofs.WorkedCounts.{near_is_three, query_is_eight}
use Rattle.cs_resolver.proofs.law.worked_bounds.Goals as goal

pub returns-clause-closest : goal.returns-clause-closest
returns-clause-closest c = near_is_three

pub returns-clause-query : goal.returns-clause-query
returns-clause-query c = query_is_eight
