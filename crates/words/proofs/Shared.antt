-- What other crates cite of these proofs.

-- numbers in decimal, a digit more at a time
pub use Rattle.words.proofs.Numerals.{addresses_alike, decimal_is_numeral, numeral_by_steps, numeral_one}
