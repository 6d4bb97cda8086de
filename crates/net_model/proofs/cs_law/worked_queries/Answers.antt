use Rattle.std.proofs.Common.{refl}
use Rattle.std.specs.Fmt.{digits}
use Rattle.net_model.proofs.cs_law.worked_queries.Goals as goal

pub returns-clause-helix : goal.returns-clause-helix
unfolding digits
returns-clause-helix c = refl

pub returns-clause-closest_server : goal.returns-clause-closest_server
unfolding digits
returns-clause-closest_server c = refl

pub returns-clause-domain : goal.returns-clause-domain
unfolding digits
returns-clause-domain c = refl

pub returns-clause-any_address : goal.returns-clause-any_address
unfolding digits
returns-clause-any_address c = refl

pub returns-clause-leading_zeros : goal.returns-clause-leading_zeros
unfolding digits
returns-clause-leading_zeros c = refl

pub returns-clause-no_query : goal.returns-clause-no_query
unfolding digits
returns-clause-no_query c = refl

pub returns-clause-no_net : goal.returns-clause-no_net
unfolding digits
returns-clause-no_net c = refl

pub returns-clause-no_host : goal.returns-clause-no_host
unfolding digits
returns-clause-no_host c = refl

pub returns-clause-no_service : goal.returns-clause-no_service
unfolding digits
returns-clause-no_service c = refl

pub returns-clause-no_value : goal.returns-clause-no_value
unfolding digits
returns-clause-no_value c = refl
