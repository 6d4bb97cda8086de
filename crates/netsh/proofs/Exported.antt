-- The text of a run with the answers of sessions.
use Rattle.std.proofs.Common.{◌≡◌, ℕ, suc, List, [], ◌∷◌, ◌++◌, length, refl, ap, subst, ◌∙◌}
use Rattle.net_base.specs.declared.history.Entry.{Entry}
use Rattle.net_base.specs.declared.world.World.{World}
use Rattle.net_base.specs.Summary.{summary}
use Rattle.net_base.specs.Transcript.{history_text}
use Rattle.net_model.specs.Answers.{Answer}
use Rattle.session_script.specs.declared.world.Session.{Session}
use Rattle.session_script.specs.declared.world.SessionWorld.{SessionWorld}
use Rattle.session_script.specs.Worlds.{IsTranslated}
use Rattle.net_export.specs.Answered.{AreAnswersOf}
use Rattle.netsh.specs.AnswerLines.{answer_lines}
use Rattle.netsh.specs.Built.{IsExported}

-- there are answers of each session
pub same_count : (w : World) (h : List Entry) (xs : List Session) (all : List (List (List ℕ))) → AreAnswersOf w h xs all → length all ≡ length xs
same_count w h [] [] are = refl
same_count w h [] (lines ∷ all) are = absurd are
same_count w h (x ∷ xs) [] are = absurd are
same_count w h (x ∷ xs) (lines ∷ all) are = ap (λ n. suc n) (same_count w h xs all are.1)

pub export_text : (w : World) (h : List Entry) (xs : List Session) (all : List (List (List ℕ))) (first second third : List ℕ) → first ≡ history_text h → second ≡ first ++ summary w h
    → third ≡ second ++ answer_lines xs all → third ≡ history_text h ++ summary w h ++ answer_lines xs all
export_text w h xs all first second third one two three =
    three ∙ ap (λ (t : List ℕ). t ++ answer_lines xs all) (two ∙ ap (λ (t : List ℕ). t ++ summary w h) one)

-- a run over the translated world, where the sessions are as they were
pub exported : (s : SessionWorld) (w : World) (sessions : List Session) → IsTranslated s w → sessions ≡ s.sessions → (answer : Answer) → IsExported w sessions answer
    → (v : World) × IsTranslated s v × IsExported v s.sessions answer
exported s w sessions translated same answer is = (w, translated, subst (λ (xs : List Session). IsExported w xs answer) same is)
