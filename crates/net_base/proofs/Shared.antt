-- What other crates cite of these proofs.

-- whether one of a list passes a test, looked for from the first on
pub use Rattle.net_base.proofs.Among.{find-here, find-on, neither, own-default}
-- a number below a bound is met once, going through the numbers up to there
pub use Rattle.net_base.proofs.Belows.{once_below, one_if, times_below}
-- which caller a number is of
pub use Rattle.net_base.proofs.CallerNames.{script_at, script_is}
-- lists in a row, by where they end: what is added behind them, and which one stands at a place
pub use Rattle.net_base.proofs.Cuts.{slice-length, slice-more, slice-rest}
-- runs that grow by a pair, by the end of a line and by the end of a tuple
pub use Rattle.net_base.proofs.Growth.{drop-all}
-- bytes in hexadecimal: what is read of a word is what it spells, and what is spelled is read
pub use Rattle.net_base.proofs.HexTexts.{byte-small, digit-is, digit-other, hex-back, hex-spelled, hex-without}
-- what a slice holds after texts were copied into it, one behind the other
pub use Rattle.net_base.proofs.Laid.{laid, laid_more}
-- the least of moments
pub use Rattle.net_base.proofs.Leasts.{least_min, within_each, within_last}
-- members of lists, and what stands at places
pub use Rattle.net_base.proofs.Members.{append_one, first_of, get_set, get_set_other, in_back, in_filter, in_flat, in_front, in_of_get, in_parts, length_map, next_one, no_cons, none_first, none_is, past_all, there_at}
-- numbers and addresses as words: what is read of a word is what it spells, and what is spelled is read
pub use Rattle.net_base.proofs.NumberTexts.{address-back, address-dotted, in-range, number-back, number_in-spelled, within-is}
-- a path that names a node is walked to it, and no other is
pub use Rattle.net_base.proofs.PathNames.{proto_back, walks_exactly}
-- tests, and which numbers of a range pass them
pub use Rattle.net_base.proofs.Ranges.{all_range, cond_false, cond_true, fails_range, found_in_range, none_in_range, none_more, none_range, not_below, passed_range, some_range, unpassed}
-- the tests of names that are the same: of protocols, actors, addresses and pairs
pub use Rattle.net_base.proofs.SameNames.{same_actor_is, same_itself, same_pair_is, same_pair_itself, same_proto_is, same_proto_itself}
-- where the pair with a number stands, by where lines and tuples end
pub use Rattle.net_base.proofs.Spots.{lines-length}
-- tests of numbers and of texts, and tests of which one side is known
pub use Rattle.net_base.proofs.Tests.{and_none, apart_turned, equal_texts, number_itself, or_none, or_true, same_text}
-- texts of numbers and addresses, cut at their separators
pub use Rattle.net_base.proofs.Texts.{IsWithout, cut_at, decimal_without, dotted_without, four_parts, one_part, some_part, value_of, without_one}
