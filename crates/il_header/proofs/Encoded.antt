-- What is in a slice once a message was laid there and its sum was written in front.
use Rattle.std.proofs.Common.{◌≡◌, ℕ, ◌+◌, ◌-◌, ◌^◌, ◌<◌, List, ◌++◌, length, take, drop, ap, ◌∙◌, arith}
use Rattle.std.proofs.lemmas.List.{take_at}
use Rattle.std.specs.Int.{bytes_high_first}
use borrow.Rule.Slice.PartMut.{put_mid}
use Rattle.net_base.specs.declared.il.IlMsg.{IlMsg}
use Rattle.formats.specs.Sum.{sum_of}
use Rattle.formats.specs.IlWire.{IsMessage, SpellsIl, il_with, il_bytes}
use Rattle.net_base.proofs.Shared.{laid}

pub encoded : (sport dport : ℕ) (m : IlMsg) (front old : List ℕ) → length front ≡ 18 → front ++ m.text ≡ il_with 0 sport dport m
    → bytes_high_first 2 (sum_of (take (18 + length m.text) (put_mid 18 (18 + length m.text - 18) (front ++ drop 18 old) m.text))) ++ drop 2 (put_mid 18 (18 + length m.text - 18) (front ++ drop 18 old) m.text)
    ≡ il_bytes sport dport m ++ drop (18 + length m.text) old
unfolding il_bytes
encoded sport dport m front old e h =
    let whole : put_mid 18 (18 + length m.text - 18) (front ++ drop 18 old) m.text ≡ il_with 0 sport dport m ++ drop (18 + length m.text) old =
    laid 18 front m.text old e ∙ ap (λ (x : List ℕ). x ++ drop (18 + length m.text) old) h in
    let long : length (il_with 0 sport dport m) ≡ 18 + length m.text = omega arith in
    ap (λ (x : List ℕ). bytes_high_first 2 (sum_of (take (18 + length m.text) x)) ++ drop 2 x) whole
    ∙ ap (λ (x : List ℕ). bytes_high_first 2 (sum_of x) ++ drop 2 (il_with 0 sport dport m ++ drop (18 + length m.text) old)) (take_at (il_with 0 sport dport m) (drop (18 + length m.text) old) (18 + length m.text) long)

pub spells_encoded : (sport dport : ℕ) (m : IlMsg) (rest new : List ℕ) → sport < 2 ^ 16 → dport < 2 ^ 16 → IsMessage m → 18 + length m.text < 2 ^ 16 → new ≡ il_bytes sport dport m ++ rest → SpellsIl sport dport m (take (18 + length m.text) new)
unfolding il_bytes
spells_encoded sport dport m rest new s d fits short e = record {
  sport_fits = s;
  dport_fits = d;
  message = fits;
  fits = short;
  spelled = ap (take (18 + length m.text)) e ∙ take_at (il_bytes sport dport m) rest (18 + length m.text) (omega arith);
}
