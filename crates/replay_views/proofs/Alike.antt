-- The line of a step and its row say the same.
use Rattle.std.proofs.Common.{◌≡◌, ℕ, ◌==◌, Bool, true, false, List, [], ◌++◌, Option, Some, None, slice_get, nat_lt, refl}
use Rattle.std.specs.Prelude.{codes, if◌then◌else◌}
use Rattle.net_base.specs.declared.history.Entry.{Entry}
use Rattle.net_base.specs.declared.world.Script.{Script}
use Rattle.net_base.specs.declared.world.World.{World}
use Rattle.net_base.specs.Calm.{owes}
use Rattle.net_base.specs.Net.{after}
use Rattle.net_base.specs.Next.{next_recorded}
use Rattle.net_base.specs.Numeral.{numeral}
use Rattle.net_base.specs.Steps.{Ask}
use Rattle.net_base.specs.Summary.{answered_by}
use Rattle.net_base.specs.Transcript.{actor_word}
use Rattle.history_words.specs.Labels.{event_label}
use Rattle.replay_views.specs.declared.ending.Ending.{Ending}
use Rattle.replay_views.specs.declared.recorded.Latest.{Latest}
use Rattle.replay_views.specs.declared.steps.Form.TheVariants as form
use Rattle.replay_views.specs.Alike.{AreAlike}
use Rattle.replay_views.specs.Endings.{ending_of, kind_of}
use Rattle.replay_views.specs.Recorded.{latest_of, stamps_of}
use Rattle.replay_views.specs.Steps.{ahead_step, ended_step, reply_text, state_text, verdict, waiting_step, waiting_text, waiting_words}

ended_alike : (h : List Entry) (l : Option Latest) (e : Option Ending) → AreAlike h (ended_step form.Row h l e) (ended_step form.Line h l e)
ended_alike h l None = record {
  word = codes "answered";
  moment = None;
  latest = l;
  reply = None;
  behind = [];
  row_is = refl;
  line_is = refl;
  says = tt;
}
ended_alike h l (Some e) = record {
  word = verdict e.refused;
  moment = Some e.moment;
  latest = l;
  reply = Some e.reply;
  behind = codes " at " ++ numeral e.moment ++ codes ", " ++ reply_text (slice_get h e.reply);
  row_is = refl;
  line_is = by e.refused;
  says = refl;
}
  where
    by : (b : Bool)
        → verdict b ++ codes " at " ++ numeral e.moment ++ codes ", " ++ reply_text (slice_get h e.reply)
        ≡ verdict b ++ (codes " at " ++ numeral e.moment ++ codes ", " ++ reply_text (slice_get h e.reply))
    by true = refl
    by false = refl

waiting_alike : (h : List Entry) (owing : Bool) (o : Option Ask) (l : Option Latest) → AreAlike h (waiting_words owing l) (waiting_text owing o)
waiting_alike h true o l = record {
  word = codes "owes";
  moment = None;
  latest = l;
  reply = None;
  behind = [];
  row_is = refl;
  line_is = refl;
  says = tt;
}
waiting_alike h false None l = record {
  word = codes "waits";
  moment = None;
  latest = l;
  reply = None;
  behind = [];
  row_is = refl;
  line_is = refl;
  says = tt;
}
waiting_alike h false (Some ask) l = record {
  word = codes "waits";
  moment = None;
  latest = l;
  reply = None;
  behind = codes " for " ++ actor_word ask.actor ++ codes " " ++ event_label ask.event;
  row_is = refl;
  line_is = refl;
  says = tt;
}

ahead_alike : (h : List Entry) → AreAlike h (ahead_step form.Row) (ahead_step form.Line)
ahead_alike h = record {
  word = codes "ahead";
  moment = None;
  latest = None;
  reply = None;
  behind = [];
  row_is = refl;
  line_is = refl;
  says = tt;
}

chosen : (h : List Entry) (b : Bool) (row other line more : List ℕ) → AreAlike h row line → AreAlike h other more
    → AreAlike h (if b then row else other) (if b then line else more)
chosen h true row other line more p q = p
chosen h false row other line more p q = q

pub told_alike : (w : World) (h : List Entry) (cs : ℕ × Script) (n : ℕ) → AreAlike h (state_text form.Row w h cs n) (state_text form.Line w h cs n)
told_alike w h cs n =
    let l = latest_of h (stamps_of w h cs.0 cs.1 n) in
    let e = ending_of (kind_of (slice_get cs.1.steps n)) h l in
    chosen h (nat_lt n (answered_by w h cs)) (ended_step form.Row h l e) _ (ended_step form.Line h l e) _ (ended_alike h l e)
    (chosen h (n == answered_by w h cs) (waiting_step form.Row w h cs.0 l) (ahead_step form.Row) (waiting_step form.Line w h cs.0 l) (ahead_step form.Line)
    (waiting_alike h (owes (after w h) cs.0) (next_recorded w h cs.0) l)
    (ahead_alike h))
