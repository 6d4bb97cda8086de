use Rattle.std.proofs.Common.{◌≡◌, ℕ, ◌≤◌, arith, rules, Bool, true, false, None, Some, cond, not, unwrap_or, ltb, length, refl, ap, ◌∙◌}
use Rattle.std.specs.List.{position_or_len}
use Rattle.std.proofs.lemmas.Iterator.{YieldsList-from_slice}
use Rattle.std.proofs.lemmas.Iterator.Search.{position_from_yields_List}
use Rattle.std.proofs.lemmas.List.Sums.{prefix_len-le-length}
use Rattle.std.proofs.lemmas.Bool.Decides.{nat_tests}
use borrow.Author.Tests.{tests}
use Rattle.ndb_reader.specs.Told.{is_break}
use Rattle.ndb_reader.proofs.words.attr_len.Goals as goal

at_or_length_if : (i n : ℕ) (b : Bool) → ltb i n ≡ b → i ≤ n → unwrap_or (cond b (Some i) None) n ≡ i
at_or_length_if i n true e h = refl
at_or_length_if i n false e h = grind (arith, nat_tests)

pub returns-clause-value : goal.returns-clause-value
returns-clause-value c =
    let e = position_from_yields_List is_break _ _ _ c.position.ensures.ran (YieldsList-from_slice c.args.bytes.now cc) (λ x r q k. search (rules, tests)) in
    let le = prefix_len-le-length (λ b. not (is_break b)) c.args.bytes.now in
    c.unwrap_or.ensures
    ∙ (ap (λ r. unwrap_or r (length c.args.bytes.now)) e ∙ at_or_length_if (position_or_len is_break c.args.bytes.now) (length c.args.bytes.now) _ refl le)

pub returns-clause-within : goal.returns-clause-within
returns-clause-within c = omega (arith, returns-clause-value c, prefix_len-le-length (λ b. not (is_break b)) c.args.bytes.now)
