-- The outcome of a history: its summary, and the result of each step of each script.
use Rattle.std.specs.Prelude.{ℕ, ◌&&◌, Bool, List, [], ◌∷◌, drop, map, Option, Some, None, codes, bytes_eq, if◌then◌else◌}
use Rattle.std.specs.List.{enumerate_from}
use Rattle.std.specs.Cmp.Lexicographic.{pointwise}
use Rattle.net_base.specs.declared.history.Entry.{Entry}
use Rattle.net_base.specs.declared.reply.Reply.{Reply}
use Rattle.net_base.specs.declared.reply.Reply.TheVariants as reply
use Rattle.net_base.specs.declared.world.Script.{Script}
use Rattle.net_base.specs.declared.world.Step.{Step}
use Rattle.net_base.specs.declared.world.World.{World}
use Rattle.net_base.specs.Next.{own_replies, zone_of}
use Rattle.net_base.specs.Scripts.{Kept, at_first, heard_replies, kept_after, step_play}
use Rattle.net_base.specs.Steps.{Names, Stand, Asking, Finished, is_accepted, stands}
use Rattle.net_base.specs.Summary.{summary}
use Rattle.net_base.specs.Transcript.{dash, reply_words, spaced}

-- The result of a step.

-- the reply to its last own event; if that is accepted and the reply before it refuses, the reply before it
abbrev pub telling : Option Reply → Reply → Reply
telling None last = last
telling (Some before) last = if is_accepted last then (if is_accepted before then last else before) else last

abbrev pub result_from : Option Reply → Reply → List Reply → Reply
result_from before last [] = telling before last
result_from before last (r ∷ rs) = result_from (Some last) r rs

-- by the replies to the events of a step
abbrev pub step_result : List Reply → Option Reply
step_result [] = None
step_result (r ∷ rs) = Some (result_from None r rs)

-- if the step is not finished, neither this step nor a later one has a result
abbrev pub results_by : Stand → List Reply → List Step → (Names → List Reply → List (Option Reply)) → List (Option Reply)
results_by (Asking ask) heard steps go_on = map (λ (s : Step). None) steps
results_by (Finished names later) heard steps go_on = step_result heard ∷ go_on names later

-- the result of each step of a host's script, by the replies to the script's own entries
abbrev pub step_results : ℕ → List Step → Kept → List Reply → List (Option Reply)
step_results h [] k rs = []
step_results h (s ∷ ss) k rs =
    results_by (stands (step_play h k s) rs) (heard_replies (step_play h k s) rs) (s ∷ ss)
    (λ (names : Names) (later : List Reply).
    step_results h ss (kept_after k s names (heard_replies (step_play h k s) rs)) later)

abbrev pub script_results : World → List Entry → ℕ × Script → List (Option Reply)
script_results w h cs = step_results cs.1.host cs.1.steps (at_first (zone_of w)) (own_replies h cs.0)

-- of each script, in order
abbrev pub results : World → List Entry → List (List (Option Reply))
results w h = map (script_results w h) (enumerate_from 0 w.scripts)

-- Its text.

-- a reply as histories print it, without the numbers of a conversation
abbrev pub result_words : Reply → List (List ℕ)
result_words (reply.Slot n g) = codes "slot" ∷ []
result_words (reply.Call n g) = codes "call" ∷ []
result_words (reply.Opened g) = codes "opened" ∷ []
result_words r = reply_words r

abbrev pub result_text : Option Reply → List ℕ
result_text None = dash
result_text (Some r) = drop 1 (spaced (result_words r))

-- The outcome.

pub record RunOutcome : Type 0 where
  pub summary : List ℕ
  -- of each step of each script
  pub results : List (List (List ℕ))

abbrev pub outcome_of : World → List Entry → RunOutcome
outcome_of w h = record { summary = summary w h; results = map (map result_text) (results w h) }

abbrev pub same_outcome : RunOutcome → RunOutcome → Bool
same_outcome a b = bytes_eq a.summary b.summary && pointwise (pointwise bytes_eq) a.results b.results
