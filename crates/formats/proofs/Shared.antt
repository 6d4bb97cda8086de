-- What other crates cite of these proofs.

-- a packet's bytes read back as the packet
pub use Rattle.formats.proofs.DatagramLaws.{packet_again, spells_datagram, spells_il_body, spells_udp_body}
-- an IL message's fields stand where they are read, and what is read is spelled so
pub use Rattle.formats.proofs.IlLaws.{IsSoundIl, spells_dport, spells_il_read, spells_il_sound, spells_message, spells_sport}
-- a header's fields stand where they are read, and what is read is spelled so
pub use Rattle.formats.proofs.Ipv4Laws.{spells_header, spells_ipv4_read, spells_ipv4_sound, spells_payload}
-- a user datagram's fields stand where they are read, and what is read is spelled so
pub use Rattle.formats.proofs.UdpLaws.{IsSoundUdp, spells_fields, spells_udp_read, spells_udp_sound}
-- numbers as bytes and back, and a list by its first bytes
pub use Rattle.formats.proofs.WireNumbers.{IsBytes, by_items, items, long_0, long_1, long_2, long_3, long_again, word_again, word_high, word_low}
-- sums of words: over lists end to end, and over bytes with a zero in the sum field
pub use Rattle.formats.proofs.WireSums.{IsBytes-append, IsBytes-blanked, IsBytes-drop, IsBytes-high_first, IsBytes-take, sum-words-append, sum-words-blanked, sum_of-zeros}
-- what a line without faults reads as is what it is spelled as
pub use Rattle.formats.proofs.NdbComplete.{cons_none, false_true, some_of}
-- what the lines of a file are spelled as is what they read as
pub use Rattle.formats.proofs.NdbFiles.{EachSpelled, and_not, and_not_true, begins_no_file, cause-alone, cause-none, file_is_spelled, file_reads_once, first-good, goes_on-at, going_on-at, least-none, line_has_no_cause, line_is_spelled, not_alone, percent_of_file, some_once, spelled_is_read, starts-at, told-none, tuples_read, tuples_spelled}
-- lists of which no element passes a test
pub use Rattle.formats.proofs.NdbLists.{before_first-none, some_none}
-- a line without a quote has the words that white space parts
pub use Rattle.formats.proofs.NdbPlain.{before_first-cons, none-drop, one_add, or_false, or_false_first, or_false_rest, words-hash, words-white, words-word, words_of-plain}
-- what a line is spelled as is what it reads as
pub use Rattle.formats.proofs.NdbSound.{line_reads, line_reads_once}
-- the labels that bytes begin with, found and spelled
pub use Rattle.formats.proofs.Found.{label_few, name_short, name_valid}
-- the question that is found is the one that is spelled
pub use Rattle.formats.proofs.QuestionLaws.{is_found, is_read, read_at_front}
