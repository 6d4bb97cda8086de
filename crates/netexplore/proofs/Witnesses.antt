-- The answers that print one history.
use Rattle.std.proofs.Common.{◌≡◌, ℕ, ◌⊎◌, List, [], ◌∷◌, ◌++◌, Option, Some, None, refl, sym, ap, subst, ◌∙◌, inl}
use Rattle.std.specs.Prelude.{codes, ◌≤◌}
use Rattle.std.specs.List.{list_all}
use Rattle.net_base.specs.declared.history.Entry.{Entry}
use Rattle.net_base.specs.declared.world.World.{World}
use Rattle.net_base.specs.Net.{after}
use Rattle.net_base.specs.Summary.{end_word, summary}
use Rattle.net_base.specs.Transcript.{history_text}
use Rattle.net_model.specs.Answers.{Answer, lines_answer}
use Rattle.transcript.specs.RunStatus.{run_end_word}
use Rattle.turn_orders.specs.Preemptions.{preemptions}
use Rattle.world_writer.specs.Written.{world_file_text}
use Rattle.order_search.specs.declared.ended.Ended.{Ended}
use Rattle.order_search.specs.declared.losses.Frame.{Frame}
use Rattle.order_search.specs.Losses.{without}
use Rattle.order_search.specs.Tellings.{IsEndedRun, IsKin, IsWitness}
use Rattle.netexplore.specs.Answers.{IsLostAnswer, IsWithinAnswer}
use Rattle.netexplore.specs.Lines.{word_status}

-- of a world itself
pub witness_answer : (w : World) (p : ℕ) (e : Ended) (answer : Answer) → answer.text ≡ history_text e.history ++ e.summary
    → answer.status ≡ word_status (run_end_word e.end) → IsWitness w None p e → IsWithinAnswer w p answer ⊎ (answer ≡ lines_answer [])
witness_answer w p e answer text status is = inl (record {
  history = e.history;
  legal = run.legal;
  timed = run.timed;
  ended = run.ended;
  bounded = bounded;
  text = text ∙ ap (λ (s : List ℕ). history_text e.history ++ s) run.summary_is;
  status = status ∙ ap word_status run.end_is;
})
  where
    run : IsEndedRun w e
    run = subst (λ (v : World). IsEndedRun v e) is.searched.world_is is.run

    bounded : preemptions w e.history ≤ p
    bounded = subst (λ (v : World). preemptions v e.history ≤ p) is.searched.world_is is.bounded

-- of a world that loses frames
pub lost_answer : (w v u : World) (k p : ℕ) (e : Ended) (answer : Answer) → u ≡ without v e.lost.items
    → answer.text ≡ world_file_text u ++ (codes "%history\n" ++ (history_text e.history ++ e.summary))
    → answer.status ≡ word_status (run_end_word e.end) → IsKin w (Some k) v → IsWitness w (Some k) p e
    → IsLostAnswer w k p answer ⊎ (answer ≡ lines_answer [])
lost_answer w v u k p e answer same text status kin is = inl (record {
  lost = e.lost.items;
  frames = is.searched.frames;
  few = is.searched.few;
  history = e.history;
  within = record { legal = run.legal; timed = run.timed; bounded = bounded; ended = run.ended };
  laid = is.laid;
  text = text
      ∙ (ap (λ (x : World). world_file_text x ++ (codes "%history\n" ++ (history_text e.history ++ e.summary))) (same ∙ kin e.lost.items)
      ∙ ap (λ (s : List ℕ). world_file_text (without w e.lost.items) ++ (codes "%history\n" ++ (history_text e.history ++ s))) run.summary_is);
  status = status ∙ ap word_status run.end_is;
})
  where
    run : IsEndedRun (without w e.lost.items) e
    run = subst (λ (x : World). IsEndedRun x e) is.searched.world_is is.run

    bounded : preemptions (without w e.lost.items) e.history ≤ p
    bounded = subst (λ (x : World). preemptions x e.history ≤ p) is.searched.world_is is.bounded
