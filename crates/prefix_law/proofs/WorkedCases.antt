-- What the definitions compute of the worked entries.
use Rattle.std.proofs.Common.{◌≡◌, [], ◌∷◌, refl}
use Rattle.std.specs.Prelude.{codes, map}
use Rattle.net_base.specs.declared.names.Mode.TheVariants.{Both}
use Rattle.net_base.specs.declared.reply.Reply.TheVariants as reply
use Rattle.prefix_law.specs.ImportLaw.{own_of_data, read_in_all, written_in_all}
use Rattle.prefix_law.specs.Phases.{Reads, answers_in_turn, on_own, requests}
use Rattle.net_base.specs.Exports.{exports}
use Rattle.prefix_law.specs.Spans.{RunsSpan, span_entries}
use Rattle.prefix_law.specs.Worked.{counting, far_end, worked}

runs : RunsSpan (exports counting (own_of_data far_end (codes "e") Both) 5 0) (span_entries worked)
runs = (refl, (refl, (refl, (refl, (refl, (refl, tt))))))

stamps : map (λ x. x.0) (on_own counting (Reads 0) worked) ≡ 20 ∷ 24 ∷ 30 ∷ 31 ∷ 40 ∷ []
stamps = refl

heard : read_in_all far_end (on_own counting (Reads 0) worked) ≡ codes "r" ∷ codes "x" ∷ []
heard = refl

said : written_in_all far_end (on_own counting (Reads 0) worked) ≡ (7 ∷ []) ∷ (1 ∷ codes "x") ∷ []
said = refl

asked : requests counting (Reads 0) worked ≡ record { text = codes "r"; replies = reply.Slot 7 1 ∷ [] } ∷ record { text = codes "x"; replies = [] } ∷ []
asked = refl

answered : answers_in_turn counting 0 (requests counting (Reads 0) worked) ≡ (7 ∷ []) ∷ (1 ∷ codes "x") ∷ []
answered = refl
