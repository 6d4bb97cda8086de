use Rattle.std.proofs.Common.{sym, ap, ◌∙◌, ◌++◌, List, [], ◌∷◌, ℕ}
use Rattle.std.specs.Prelude.{option_map}
use Rattle.net_base.specs.Addresses.{parts_at}
use Rattle.history_reader.specs.Fields as spec
use Rattle.history_reader.proofs.Loops.{cut_on}
use Rattle.history_reader.proofs.texts.cut_texts.Goals as goal

pub loop-rest-preserved : goal.loop-rest-preserved
loop-rest-preserved c =
    cut_on _ c.loop-rest.texts c.loop-rest.rest.now c.in-Some.text.now c.in-Some.behind.now c.loop-rest.invariant c.in-Some.ensures.cut
    ∙ ap (λ (ts : List (List ℕ)). option_map (λ (more : List (List ℕ)). ts ++ more) (spec.cut_texts (parts_at 10 c.in-Some.behind.now))) (ap (λ (t : List ℕ). c.loop-rest.texts ++ t ∷ []) (sym c.in_ok-from_slice.ensures) ∙ sym c.in_ok-push.ensures.ok)
