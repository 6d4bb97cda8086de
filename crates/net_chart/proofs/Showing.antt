-- The ways that arrows show, entry by entry.
use Rattle.std.proofs.Common.{◌≡◌, ℕ, Bool, true, false, cond, List, [], ◌∷◌, ◌++◌, Option, Some, None, refl, ap, sym, subst, ◌∙◌}
use Rattle.std.specs.Prelude.{option_map}
use Rattle.std.specs.Map.{lookup}
use Rattle.std.proofs.lemmas.Bool.{false≢true}
use Rattle.indexmap.specs.IndexMap.{insert_entry}
use Rattle.net_base.specs.declared.history.Entry.{Entry}
use Rattle.net_chart.specs.declared.frame.Frame.{Frame}
use Rattle.net_chart.specs.declared.place.Place.{Place}
use Rattle.net_chart.specs.declared.sight.Sight.{Sight}
use Rattle.net_chart.specs.declared.sight.Sight.TheVariants.{Laid, Came, Did, Nothing}
use Rattle.net_chart.specs.declared.thing.Thing.TheVariants.{Cross}
use Rattle.net_chart.specs.Frames.{Laid_frames, frame_at, same_frame}
use Rattle.net_chart.specs.Laws.{lays_sight}
use Rattle.net_chart.specs.Places.{above_all, place_after}
use Rattle.net_chart.specs.Sights.{sight_of}
use Rattle.net_chart.specs.Things.{Drawn, Past, arrives_in, arrow_to, came_by, drawn_of, laid_by, no_past, past_after, past_at, past_by, thing_by, things_from, things_of}
use Rattle.net_chart.specs.Ways.{Flight, Laying, Standing, flight_to, flights_by, flights_from, flights_of, laid_in, laying_of, losses_by, losses_from, losses_of}
use Rattle.net_chart.proofs.Telling.{same_is}

-- Frames by their keys.

-- a frame more
at_more : (es : Laid_frames) (k q : ℕ × ℕ) (f : Frame) → frame_at (insert_entry same_frame es k f) q ≡ cond (same_frame q k) (Some f) (frame_at es q)
at_more [] k q f = refl
at_more (e ∷ es) k q f = by (same_frame k e.0) refl (at_more es k q f)
  where
    -- the key stands here
    here : (b : Bool) → cond b (Some f) (frame_at es q) ≡ cond b (Some f) (cond b (Some e.1) (frame_at es q))
    here true = refl
    here false = refl

    -- another key stands here
    other : (b : Bool) → same_frame q k ≡ b → same_frame k e.0 ≡ false → same_frame q e.0 ≡ true → Some e.1 ≡ cond b (Some f) (Some e.1)
    other true same apart is =
        absurd (false≢true (sym apart ∙ subst (λ (key : ℕ × ℕ). same_frame key e.0 ≡ true) (same_is q k same) is))
    other false same apart is = refl

    later : (b : Bool) → same_frame q e.0 ≡ b → same_frame k e.0 ≡ false
        → frame_at (insert_entry same_frame es k f) q ≡ cond (same_frame q k) (Some f) (frame_at es q)
        → cond b (Some e.1) (frame_at (insert_entry same_frame es k f) q) ≡ cond (same_frame q k) (Some f) (cond b (Some e.1) (frame_at es q))
    later true is apart rest = other (same_frame q k) refl apart is
    later false is apart rest = rest

    by : (b : Bool) → same_frame k e.0 ≡ b → frame_at (insert_entry same_frame es k f) q ≡ cond (same_frame q k) (Some f) (frame_at es q)
        → lookup (same_frame q) (cond b ((e.0, f) ∷ es) (e ∷ insert_entry same_frame es k f)) ≡ cond (same_frame q k) (Some f) (frame_at (e ∷ es) q)
    by true is rest =
        here (same_frame q e.0) ∙ ap (λ (key : ℕ × ℕ). cond (same_frame q key) (Some f) (frame_at (e ∷ es) q)) (sym (same_is k e.0 is))
    by false is rest = later (same_frame q e.0) refl is rest

-- The frames so far are those that were laid, where they were laid.

abbrev laying_at : ℕ → ℕ → Place → Laying
laying_at k to at = record { number = k; to = to; at = at }

abbrev laying_in : Frame → Laying
laying_in f = laying_at f.number f.to f.at

abbrev flight_in : Frame → Place → Flight
flight_in f at = record { start = laying_in f; came = at }

abbrev stands : Entry → Place → Standing
stands x at = record { entry = x; place = at }

abbrev Knows : List Standing → Laid_frames → Type 0
Knows past frames = (key : ℕ × ℕ) → option_map laying_in (frame_at frames key) ≡ laid_in past key

knows_by : (h : List Entry) (past : List Standing) (p : Past) (x : Entry) (s : Sight) → Knows past p.frames
    → (key : ℕ × ℕ) → option_map laying_in (frame_at (past_by h p x s).frames key) ≡ cond (lays_sight key s) (laying_of s p.place) (laid_in past key)
knows_by h past p x (Laid m k to) knows key =
    ap (λ (o : Option Frame). option_map laying_in o) (at_more p.frames (m, k) key (laid_by h p.frames x k to p.place)) ∙ by (same_frame key (m, k))
  where
    by : (b : Bool) → option_map laying_in (cond b (Some (laid_by h p.frames x k to p.place)) (frame_at p.frames key))
        ≡ cond b (Some (laying_at k to p.place)) (laid_in past key)
    by true = refl
    by false = knows key
knows_by h past p x (Came m k) knows key = by (frame_at p.frames (m, k)) refl ∙ knows key
  where
    -- the frame is known as before
    again : (f : Frame) (b : Bool) → same_frame key (m, k) ≡ b → frame_at p.frames (m, k) ≡ Some f
        → option_map laying_in (cond b (Some (record f { came = true })) (frame_at p.frames key)) ≡ option_map laying_in (frame_at p.frames key)
    again f true is there =
        sym (ap (λ (o : Option Frame). option_map laying_in o)
        (subst (λ (q : ℕ × ℕ). frame_at p.frames q ≡ Some f) (sym (same_is key (m, k) is)) there))
    again f false is there = refl

    by : (o : Option Frame) → frame_at p.frames (m, k) ≡ o
        → option_map laying_in (frame_at (came_by (m, k) o p).frames key) ≡ option_map laying_in (frame_at p.frames key)
    by None there = refl
    by (Some f) there =
        ap (λ (o : Option Frame). option_map laying_in o) (at_more p.frames (m, k) key (record f { came = true }))
        ∙ again f (same_frame key (m, k)) refl there
knows_by h past p x (Did host) knows key = knows key
knows_by h past p x Nothing knows key = knows key

-- what is seen moves no row
place_kept : (h : List Entry) (p : Past) (x : Entry) (s : Sight) → (past_by h p x s).place ≡ p.place
place_kept h p x (Laid m k to) = refl
place_kept h p x (Came m k) = by (frame_at p.frames (m, k))
  where
    by : (o : Option Frame) → (came_by (m, k) o p).place ≡ p.place
    by None = refl
    by (Some f) = refl
place_kept h p x (Did host) = refl
place_kept h p x Nothing = refl

-- Arrows.

flight_one : (h : List Entry) (past : List Standing) (p : Past) (x : Entry) (s : Sight) (rest : List Drawn) (more : List Flight) → Knows past p.frames
    → flights_of rest ≡ more → flights_of (drawn_of x (thing_by h p x s) ++ rest) ≡ flights_by past s p.place ++ more
flight_one h past p x (Laid m k to) rest more knows e = by (arrives_in h (m, k))
  where
    by : (b : Bool) → flights_of (drawn_of x (cond b None (Some (Cross (laid_by h p.frames x k to p.place)))) ++ rest) ≡ more
    by true = e
    by false = e
flight_one h past p x (Came m k) rest more knows e =
    by (frame_at p.frames (m, k)) ∙ ap (λ (o : Option Laying). flight_to p.place o ++ more) (knows (m, k))
  where
    by : (o : Option Frame) → flights_of (drawn_of x (arrow_to p.place o) ++ rest) ≡ flight_to p.place (option_map laying_in o) ++ more
    by None = e
    by (Some f) = ap (λ (fs : List Flight). flight_in f p.place ∷ fs) e
flight_one h past p x (Did host) rest more knows e = e
flight_one h past p x Nothing rest more knows e = e

flights : (brief : Bool) (h : List Entry) (past : List Standing) (p : Past) (xs : List Entry) → Knows past p.frames
    → flights_of (things_from brief h p xs) ≡ flights_from brief past p.place xs
flights brief h past p [] knows = refl
flights brief h past p (x ∷ xs) knows =
    flight_one h past (past_at brief p x) x (sight_of x) (things_from brief h (past_after brief h p x) xs)
    (flights_from brief (stands x (place_after brief p.place x) ∷ past) (place_after brief p.place x) xs) knows
    (flights brief h (stands x (place_after brief p.place x) ∷ past) (past_after brief h p x) xs
    (λ key. knows_by h past (past_at brief p x) x (sight_of x) knows key)
    ∙ ap (λ (q : Place). flights_from brief (stands x (place_after brief p.place x) ∷ past) q xs)
    (place_kept h (past_at brief p x) x (sight_of x)))

pub all_flights : (brief : Bool) (h : List Entry) → flights_of (things_of brief h) ≡ flights_from brief [] above_all h
all_flights brief h = flights brief h [] no_past h (λ key. refl)

-- Crosses.

loss_one : (h : List Entry) (p : Past) (x : Entry) (s : Sight) (rest : List Drawn) (more : List Laying) → losses_of rest ≡ more
    → losses_of (drawn_of x (thing_by h p x s) ++ rest) ≡ losses_by h s p.place ++ more
loss_one h p x (Laid m k to) rest more e = by (arrives_in h (m, k))
  where
    by : (b : Bool) → losses_of (drawn_of x (cond b None (Some (Cross (laid_by h p.frames x k to p.place)))) ++ rest)
        ≡ cond b [] (laying_at k to p.place ∷ []) ++ more
    by true = e
    by false = ap (λ (ls : List Laying). laying_at k to p.place ∷ ls) e
loss_one h p x (Came m k) rest more e = by (frame_at p.frames (m, k))
  where
    by : (o : Option Frame) → losses_of (drawn_of x (arrow_to p.place o) ++ rest) ≡ more
    by None = e
    by (Some f) = e
loss_one h p x (Did host) rest more e = e
loss_one h p x Nothing rest more e = e

losses : (brief : Bool) (h : List Entry) (p : Past) (xs : List Entry) → losses_of (things_from brief h p xs) ≡ losses_from brief h p.place xs
losses brief h p [] = refl
losses brief h p (x ∷ xs) =
    loss_one h (past_at brief p x) x (sight_of x) (things_from brief h (past_after brief h p x) xs)
    (losses_from brief h (place_after brief p.place x) xs)
    (losses brief h (past_after brief h p x) xs
    ∙ ap (λ (q : Place). losses_from brief h q xs) (place_kept h (past_at brief p x) x (sight_of x)))

pub all_losses : (brief : Bool) (h : List Entry) → losses_of (things_of brief h) ≡ losses_from brief h above_all h
all_losses brief h = losses brief h no_past h
