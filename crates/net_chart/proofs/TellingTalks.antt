-- Crosses and arrows of conversations, entry by entry.
use Rattle.std.proofs.Common.{◌≡◌, ℕ, ◌+◌, ◌&&◌, Bool, true, false, not, cond, List, [], ◌∷◌, ◌++◌, Option, Some, None, is_some, refl, ap, sym, ◌∙◌}
use Rattle.net_base.specs.declared.history.Entry.{Entry}
use Rattle.net_chart.specs.declared.frame.Frame.{Frame}
use Rattle.net_chart.specs.declared.place.Place.{Place}
use Rattle.net_chart.specs.declared.sight.Sight.{Sight}
use Rattle.net_chart.specs.declared.sight.Sight.TheVariants.{Laid, Came, Did, Nothing}
use Rattle.net_chart.specs.declared.thing.Thing.TheVariants.{Cross}
use Rattle.net_chart.specs.Frames.{frame_at}
use Rattle.net_chart.specs.Laws.{drawn_at, is_arrow, is_cross}
use Rattle.net_chart.specs.Sights.{sight_of}
use Rattle.net_chart.specs.TalkLaws.{between_from, is_between, is_lost_talk, lost_talks}
use Rattle.net_chart.specs.Talks.{Talks, arrow_between, column_of, cross_from, end_at, operation_in, talk_start, talked_by, talks_drawn, talks_drawn_from, talks_of}
use Rattle.net_chart.specs.Things.{Drawn, Past, arrives_in, arrow_to, drawn_of, laid_by, no_past, past_after, past_at, thing_by}
use Rattle.net_chart.proofs.Telling.{Knows, knows_by, laid_last}

-- Crosses.

no_cross : (x : Entry) (at : Place) (c : Option ℕ) (rest : List Drawn) → drawn_at is_cross (drawn_of x (operation_in at c) ++ rest) ≡ drawn_at is_cross rest
no_cross x at None rest = refl
no_cross x at (Some c) rest = refl

cross_one : (h : List Entry) (t : Talks) (i : ℕ) (p : Past) (x : Entry) (s : Sight) (rest : List Drawn) (more : List Entry) → drawn_at is_cross rest ≡ more
    → drawn_at is_cross (drawn_of x (talked_by t i x s (thing_by h p x s)) ++ rest) ≡ cond (is_lost_talk h t s) (x ∷ more) more
cross_one h t i p x (Laid m k to) rest more e = by (arrives_in h (m, k))
  where
    started : (o : Option ℕ) → drawn_at is_cross (drawn_of x (cross_from (laid_by h p.frames x k to p.place) o) ++ rest) ≡ cond (is_some o) (x ∷ more) more
    started None = e
    started (Some c) = ap (λ es. x ∷ es) e

    by : (b : Bool) → drawn_at is_cross (drawn_of x (talked_by t i x (Laid m k to) (cond b None (Some (Cross (laid_by h p.frames x k to p.place))))) ++ rest)
        ≡ cond (not b && is_some (talk_start t.starts (m, k))) (x ∷ more) more
    by true = e
    by false = started (talk_start t.starts (m, k))
cross_one h t i p x (Came m k) rest more e = by (frame_at p.frames (m, k))
  where
    between : (f : Frame) (from to : Option ℕ) → drawn_at is_cross (drawn_of x (arrow_between f p.place from to) ++ rest) ≡ more
    between f (Some a) (Some b) = e
    between f (Some a) None = e
    between f None to = e

    by : (o : Option Frame) → drawn_at is_cross (drawn_of x (talked_by t i x (Came m k) (arrow_to p.place o)) ++ rest) ≡ more
    by None = e
    by (Some f) = between f (talk_start t.starts (m, k)) (end_at t.ends i)
cross_one h t i p x (Did host) rest more e = no_cross x p.place (column_of t.columns x.actor) rest ∙ e
cross_one h t i p x Nothing rest more e = e

crosses : (brief : Bool) (h : List Entry) (t : Talks) (i : ℕ) (p : Past) (xs : List Entry)
    → drawn_at is_cross (talks_drawn_from brief h t p i xs) ≡ lost_talks h t xs
crosses brief h t i p [] = refl
crosses brief h t i p (x ∷ xs) =
    cross_one h t i (past_at brief p x) x (sight_of x) (talks_drawn_from brief h t (past_after brief h p x) (i + 1) xs) (lost_talks h t xs)
    (crosses brief h t (i + 1) (past_after brief h p x) xs)

pub all_crosses : (brief : Bool) (h : List Entry) → drawn_at is_cross (talks_drawn brief h (talks_of h)) ≡ lost_talks h (talks_of h) h
all_crosses brief h = crosses brief h (talks_of h) 0 no_past h

-- Arrows.

no_arrow : (x : Entry) (at : Place) (c : Option ℕ) (rest : List Drawn) → drawn_at is_arrow (drawn_of x (operation_in at c) ++ rest) ≡ drawn_at is_arrow rest
no_arrow x at None rest = refl
no_arrow x at (Some c) rest = refl

arrow_one : (h past : List Entry) (t : Talks) (i : ℕ) (p : Past) (x : Entry) (s : Sight) (rest : List Drawn) (more : List Entry) → Knows past p.frames
    → drawn_at is_arrow rest ≡ more
    → drawn_at is_arrow (drawn_of x (talked_by t i x s (thing_by h p x s)) ++ rest) ≡ cond (is_between past t i s) (x ∷ more) more
arrow_one h past t i p x (Laid m k to) rest more knows e = by (arrives_in h (m, k))
  where
    started : (o : Option ℕ) → drawn_at is_arrow (drawn_of x (cross_from (laid_by h p.frames x k to p.place) o) ++ rest) ≡ more
    started None = e
    started (Some c) = e

    by : (b : Bool) → drawn_at is_arrow (drawn_of x (talked_by t i x (Laid m k to) (cond b None (Some (Cross (laid_by h p.frames x k to p.place))))) ++ rest) ≡ more
    by true = e
    by false = started (talk_start t.starts (m, k))
arrow_one h past t i p x (Came m k) rest more knows e =
    by (frame_at p.frames (m, k))
    ∙ ap (λ b. cond (b && (is_some (talk_start t.starts (m, k)) && is_some (end_at t.ends i))) (x ∷ more) more) (knows (m, k))
  where
    between : (f : Frame) (from to : Option ℕ)
        → drawn_at is_arrow (drawn_of x (arrow_between f p.place from to) ++ rest) ≡ cond (is_some from && is_some to) (x ∷ more) more
    between f (Some a) (Some b) = ap (λ es. x ∷ es) e
    between f (Some a) None = e
    between f None to = e

    by : (o : Option Frame) → drawn_at is_arrow (drawn_of x (talked_by t i x (Came m k) (arrow_to p.place o)) ++ rest)
        ≡ cond (is_some o && (is_some (talk_start t.starts (m, k)) && is_some (end_at t.ends i))) (x ∷ more) more
    by None = e
    by (Some f) = between f (talk_start t.starts (m, k)) (end_at t.ends i)
arrow_one h past t i p x (Did host) rest more knows e = no_arrow x p.place (column_of t.columns x.actor) rest ∙ e
arrow_one h past t i p x Nothing rest more knows e = e

arrows : (brief : Bool) (h past : List Entry) (t : Talks) (i : ℕ) (p : Past) (xs : List Entry) → Knows past p.frames
    → drawn_at is_arrow (talks_drawn_from brief h t p i xs) ≡ between_from past t i xs
arrows brief h past t i p [] knows = refl
arrows brief h past t i p (x ∷ xs) knows =
    arrow_one h past t i (past_at brief p x) x (sight_of x) (talks_drawn_from brief h t (past_after brief h p x) (i + 1) xs)
    (between_from (past ++ x ∷ []) t (i + 1) xs) knows
    (arrows brief h (past ++ x ∷ []) t (i + 1) (past_after brief h p x) xs
    (λ key. knows_by h past (past_at brief p x) x (sight_of x) knows key ∙ sym (laid_last past x key)))

pub all_arrows : (brief : Bool) (h : List Entry) → drawn_at is_arrow (talks_drawn brief h (talks_of h)) ≡ between_from [] (talks_of h) 0 h
all_arrows brief h = arrows brief h [] (talks_of h) 0 no_past h (λ key. refl)
