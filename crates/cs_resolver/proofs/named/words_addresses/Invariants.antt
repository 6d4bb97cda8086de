use Rattle.std.proofs.Common.{◌≡◌, ◌+◌, ◌≤◌, take}
use Rattle.std.specs.Prelude.{flat_map}
use Rattle.std.specs.List.{sum_by}
use Rattle.net_base.specs.Cs.{once_each, word_addresses}
use Rattle.cs_resolver.specs.Gathering.{TuplesRead, SpotsRead, words_seen}
use Rattle.cs_resolver.specs.Probes.{word_found}
use Rattle.cs_resolver.proofs.named.words_addresses.Given as goal

abbrev pub invariant-loop-word : goal.invariant-loop-word
invariant-loop-word g l = record {
  ips : once_each l.ips.items ≡ once_each (flat_map (word_addresses l.index) (words_seen (take l.word-index l.word-items)));
  tuples : TuplesRead l.index l.read.tuples.keys l.ips.items;
  spots : SpotsRead l.index l.read.spots.keys l.ips.items;
  cost : l.steps ≤ l.initial.steps + sum_by (word_found l.index) (words_seen (take l.word-index l.word-items));
}
