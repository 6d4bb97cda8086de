use Rattle.std.proofs.Common.{◌-◌, ap, sym, ◌∙◌, length, drop, arith, length-drop, List, ℕ, ◌++◌}
use Rattle.std.specs.Option.{option_map}
use Rattle.std.proofs.lemmas.List.{take_all}
use Rattle.net_base.specs.Hexadecimal as spec
use Rattle.words.proofs.HexPairs.{hex-step}
use Rattle.words.proofs.hexadecimal.hex_bytes.Goals as goal

pub loop-rest-preserved : goal.loop-rest-preserved
loop-rest-preserved c =
    let rest = c.loop-rest.rest.now in
    let whole = take_all (length rest - 2) (drop 2 rest) (omega (arith, length-drop {A = ℕ})) in
    let step = hex-step c.loop-rest.bytes.items rest c.in-Some-Some.high c.in-Some-Some.low c.in-len2-up.len_at_least (sym c.hex_value.ensures ∙ c.in-Some-Some.is-0) (sym c.hex_value-in-len2-up.ensures ∙ c.in-Some-Some.is-1) in
    c.loop-rest.invariant ∙ (step ∙ (ap (λ (bytes : List ℕ). option_map (λ (more : List ℕ). bytes ++ more) (spec.hex_bytes (drop 2 rest))) (sym c.in_ok-push.ensures.items)
    ∙ ap (λ (left : List ℕ). option_map (λ (more : List ℕ). c.push.new.self.items ++ more) (spec.hex_bytes left)) (sym whole)))
