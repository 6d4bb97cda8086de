use Rattle.prefix_law.proofs.Holders.{holds_it, is_peer, mutual_peers, one_gift, one_holder}
use Rattle.prefix_law.proofs.law.a_pair_has_one_holder.Goals as goal

pub returns : goal.returns
returns c = record { once = one_holder; pair = one_gift; holder = holds_it; peer = is_peer; each_other = mutual_peers }
