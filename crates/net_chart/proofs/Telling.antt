-- Crosses and arrows, entry by entry.
use Rattle.std.proofs.Common.{◌≡◌, ℕ, ◌==◌, ◌&&◌, ◌||◌, Bool, true, false, not, cond, List, [], ◌∷◌, ◌++◌, Option, Some, None, is_some, refl, ap, sym, subst, ◌∙◌}
use Rattle.std.specs.Map.{lookup}
use Rattle.std.proofs.lemmas.Bool.{eqb-true, false≢true}
use Rattle.indexmap.specs.IndexMap.{insert_entry}
use Rattle.net_base.specs.declared.history.Entry.{Entry}
use Rattle.net_chart.specs.declared.frame.Frame.{Frame}
use Rattle.net_chart.specs.declared.sight.Sight.{Sight}
use Rattle.net_chart.specs.declared.sight.Sight.TheVariants.{Laid, Came, Did, Nothing}
use Rattle.net_chart.specs.declared.thing.Thing.TheVariants.{Cross}
use Rattle.net_chart.specs.Frames.{Laid_frames, frame_at, same_frame}
use Rattle.net_chart.specs.Laws.{copies_from, drawn_at, is_arrow, is_copy_of, is_cross, is_lost, lays_sight, lost_in, was_laid}
use Rattle.net_chart.specs.Sights.{sight_of}
use Rattle.net_chart.specs.Things.{Drawn, Past, arrives_in, arrow_to, came_by, drawn_of, laid_by, no_past, past_after, past_at, past_by, thing_by, things_from, things_of}

-- Crosses.

cross_one : (h : List Entry) (p : Past) (x : Entry) (s : Sight) (rest : List Drawn) (more : List Entry) → drawn_at is_cross rest ≡ more
    → drawn_at is_cross (drawn_of x (thing_by h p x s) ++ rest) ≡ cond (is_lost h s) (x ∷ more) more
cross_one h p x (Laid m k to) rest more e = by (arrives_in h (m, k))
  where
    by : (b : Bool) → drawn_at is_cross (drawn_of x (cond b None (Some (Cross (laid_by h p.frames x k to p.place)))) ++ rest) ≡ cond (not b) (x ∷ more) more
    by true = e
    by false = ap (λ es. x ∷ es) e
cross_one h p x (Came m k) rest more e = by (frame_at p.frames (m, k))
  where
    by : (o : Option Frame) → drawn_at is_cross (drawn_of x (arrow_to p.place o) ++ rest) ≡ more
    by None = e
    by (Some f) = e
cross_one h p x (Did host) rest more e = e
cross_one h p x Nothing rest more e = e

crosses : (brief : Bool) (h : List Entry) (p : Past) (xs : List Entry) → drawn_at is_cross (things_from brief h p xs) ≡ lost_in h xs
crosses brief h p [] = refl
crosses brief h p (x ∷ xs) =
    cross_one h (past_at brief p x) x (sight_of x) (things_from brief h (past_after brief h p x) xs) (lost_in h xs) (crosses brief h (past_after brief h p x) xs)

pub all_crosses : (brief : Bool) (h : List Entry) → drawn_at is_cross (things_of brief h) ≡ lost_in h h
all_crosses brief h = crosses brief h no_past h

-- Keys.

abbrev found : Laid_frames → ℕ × ℕ → Bool
found frames key = is_some (frame_at frames key)

pub same_is : (a b : ℕ × ℕ) → same_frame a b ≡ true → a ≡ b
same_is a b e = by (a.0 == b.0) (a.1 == b.1) refl refl e
  where
    by : (u v : Bool) → (a.0 == b.0) ≡ u → (a.1 == b.1) ≡ v → (u && v) ≡ true → a ≡ b
    by true true first second e = pair (eqb-true a.0 b.0 first) (eqb-true a.1 b.1 second)
      where
        pair : {i j m n : ℕ} → i ≡ j → m ≡ n → ◌≡◌ {A = ℕ × ℕ} (i, m) (j, n)
        pair one two = rw (one, two) refl
    by true false first second e = absurd (false≢true e)
    by false v first second e = absurd (false≢true e)

-- a frame more
found_more : (es : Laid_frames) (k q : ℕ × ℕ) (f : Frame) → found (insert_entry same_frame es k f) q ≡ (same_frame q k || found es q)
found_more [] k q f = by (same_frame q k)
  where
    by : (b : Bool) → is_some (cond b (Some f) None) ≡ (b || false)
    by true = refl
    by false = refl
found_more (e ∷ es) k q f = by (same_frame k e.0) refl (found_more es k q f)
  where
    -- the key stands here
    here : (b : Bool) → is_some (cond b (Some f) (lookup (same_frame q) es)) ≡ (b || is_some (cond b (Some e.1) (lookup (same_frame q) es)))
    here true = refl
    here false = refl

    -- it stands later, or nowhere
    later : (b : Bool) → found (insert_entry same_frame es k f) q ≡ (same_frame q k || found es q)
        → is_some (cond b (Some e.1) (lookup (same_frame q) (insert_entry same_frame es k f)))
        ≡ (same_frame q k || is_some (cond b (Some e.1) (lookup (same_frame q) es)))
    later true rest = sym (any (same_frame q k))
      where
        any : (b : Bool) → (b || true) ≡ true
        any true = refl
        any false = refl
    later false rest = rest

    by : (b : Bool) → same_frame k e.0 ≡ b → found (insert_entry same_frame es k f) q ≡ (same_frame q k || found es q)
        → is_some (lookup (same_frame q) (cond b ((e.0, f) ∷ es) (e ∷ insert_entry same_frame es k f))) ≡ (same_frame q k || found (e ∷ es) q)
    by true is rest =
        here (same_frame q e.0) ∙ ap (λ (key : ℕ × ℕ). same_frame q key || found (e ∷ es) q) (sym (same_is k e.0 is))
    by false is rest = later (same_frame q e.0) rest

-- The frames so far are those that were laid.

abbrev pub Knows : List Entry → Laid_frames → Type 0
Knows past frames = (key : ℕ × ℕ) → found frames key ≡ was_laid past key

pub laid_last : (past : List Entry) (x : Entry) (key : ℕ × ℕ) → was_laid (past ++ x ∷ []) key ≡ (was_laid past key || lays_sight key (sight_of x))
laid_last [] x key = by (lays_sight key (sight_of x))
  where
    by : (b : Bool) → (b || false) ≡ b
    by true = refl
    by false = refl
laid_last (y ∷ ys) x key = by (lays_sight key (sight_of y)) (laid_last ys x key)
  where
    by : (b : Bool) → was_laid (ys ++ x ∷ []) key ≡ (was_laid ys key || lays_sight key (sight_of x))
        → (b || was_laid (ys ++ x ∷ []) key) ≡ ((b || was_laid ys key) || lays_sight key (sight_of x))
    by true e = refl
    by false e = e

turned : (a b : Bool) → (a || b) ≡ (b || a)
turned true true = refl
turned true false = refl
turned false true = refl
turned false false = refl

unchanged : (a : Bool) → a ≡ (a || false)
unchanged true = refl
unchanged false = refl

pub knows_by : (h past : List Entry) (p : Past) (x : Entry) (s : Sight) → Knows past p.frames
    → (key : ℕ × ℕ) → found (past_by h p x s).frames key ≡ (was_laid past key || lays_sight key s)
knows_by h past p x (Laid m k to) knows key =
    found_more p.frames (m, k) key (laid_by h p.frames x k to p.place)
    ∙ ap (λ b. same_frame key (m, k) || b) (knows key)
    ∙ turned (same_frame key (m, k)) (was_laid past key)
knows_by h past p x (Came m k) knows key = by (frame_at p.frames (m, k)) refl ∙ knows key ∙ unchanged (was_laid past key)
  where
    again : (b : Bool) → same_frame key (m, k) ≡ b → found p.frames (m, k) ≡ true → (b || found p.frames key) ≡ found p.frames key
    again true is there = sym (subst (λ (q : ℕ × ℕ). found p.frames q ≡ true) (sym (same_is key (m, k) is)) there)
    again false is there = refl

    by : (o : Option Frame) → frame_at p.frames (m, k) ≡ o → found (came_by (m, k) o p).frames key ≡ found p.frames key
    by None at = refl
    by (Some f) at = found_more p.frames (m, k) key (record f { came = true }) ∙ again (same_frame key (m, k)) refl (ap is_some at)
knows_by h past p x (Did host) knows key = knows key ∙ unchanged (was_laid past key)
knows_by h past p x Nothing knows key = knows key ∙ unchanged (was_laid past key)

-- Arrows.

arrow_one : (h past : List Entry) (p : Past) (x : Entry) (s : Sight) (rest : List Drawn) (more : List Entry) → Knows past p.frames
    → drawn_at is_arrow rest ≡ more → drawn_at is_arrow (drawn_of x (thing_by h p x s) ++ rest) ≡ cond (is_copy_of past s) (x ∷ more) more
arrow_one h past p x (Laid m k to) rest more knows e = by (arrives_in h (m, k))
  where
    by : (b : Bool) → drawn_at is_arrow (drawn_of x (cond b None (Some (Cross (laid_by h p.frames x k to p.place)))) ++ rest) ≡ more
    by true = e
    by false = e
arrow_one h past p x (Came m k) rest more knows e =
    by (frame_at p.frames (m, k)) ∙ ap (λ b. cond b (x ∷ more) more) (knows (m, k))
  where
    by : (o : Option Frame) → drawn_at is_arrow (drawn_of x (arrow_to p.place o) ++ rest) ≡ cond (is_some o) (x ∷ more) more
    by None = e
    by (Some f) = ap (λ es. x ∷ es) e
arrow_one h past p x (Did host) rest more knows e = e
arrow_one h past p x Nothing rest more knows e = e

arrows : (brief : Bool) (h past : List Entry) (p : Past) (xs : List Entry) → Knows past p.frames
    → drawn_at is_arrow (things_from brief h p xs) ≡ copies_from past xs
arrows brief h past p [] knows = refl
arrows brief h past p (x ∷ xs) knows =
    arrow_one h past (past_at brief p x) x (sight_of x) (things_from brief h (past_after brief h p x) xs) (copies_from (past ++ x ∷ []) xs) knows
    (arrows brief h (past ++ x ∷ []) (past_after brief h p x) xs
    (λ key. knows_by h past (past_at brief p x) x (sight_of x) knows key ∙ sym (laid_last past x key)))

pub all_arrows : (brief : Bool) (h : List Entry) → drawn_at is_arrow (things_of brief h) ≡ copies_from [] h
all_arrows brief h = arrows brief h [] no_past h (λ key. refl)
