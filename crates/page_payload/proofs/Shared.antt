-- What other crates use of these proofs.

-- texts that a page may have
pub use Rattle.page_payload.proofs.Plainness.{input_plain, plain_all, plain_both, plain_numeral, plain_one}
pub use Rattle.page_payload.proofs.Payloads.{payload_plain, plain_word}
-- an input is read back from its lines, and from its payload
pub use Rattle.page_payload.proofs.ReadBack.{lines_back}
pub use Rattle.page_payload.proofs.Payloads.{payload_back}
