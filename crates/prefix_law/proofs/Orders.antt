-- Where a script's entries stand in order, each step's entries are what its play asks for.
use Rattle.std.proofs.Common.{◌≡◌, ℕ, zero, suc, ◌+◌, ◌==◌, Bool, true, false, List, [], ◌∷◌, ◌++◌, refl, sym, ap, subst, ◌∙◌}
use Rattle.std.specs.Prelude.{filter, is_none}
use Rattle.net_base.specs.declared.history.Entry.{Entry}
use Rattle.net_base.specs.Legal.{asked_by}
use Rattle.net_base.specs.Steps.{Names, Play, Asks, Ends}
use Rattle.net_base.specs.Next.{own_entries}
use Rattle.prefix_law.specs.Order.{Begins, IsPlayRecorded, StandInOrder}
use Rattle.prefix_law.specs.Spans.{EachRuns, RunsSpan, Scripted, bound_in_span, span_entries, is_own_of, kept_in_span, left_by_span, entries_numbered, own_stamped, recorded, span_replies, spans_from}

-- own entries with and without stamps

without_stamps : (n c : ℕ) (h : List Entry) → span_entries (filter (is_own_of c) (entries_numbered n h)) ≡ own_entries h c
without_stamps n c [] = refl
without_stamps n c (x ∷ h) = go (x.caller == c) (is_none x.cites) refl refl (without_stamps (n + 1) c h)
  where
    go : (a b : Bool) → (x.caller == c) ≡ a → is_none x.cites ≡ b → span_entries (filter (is_own_of c) (entries_numbered (n + 1) h)) ≡ own_entries h c
        → span_entries (filter (is_own_of c) (entries_numbered n (x ∷ h))) ≡ own_entries (x ∷ h) c
    go true true same none rest = rw (same, none) (ap (λ (xs : List Entry). x ∷ xs) rest)
    go true false same none rest = rw (same, none) rest
    go false true same none rest = rw same rest
    go false false same none rest = rw same rest

pub own_is : (h : List Entry) (c : ℕ) → span_entries (own_stamped h c) ≡ own_entries h c
own_is h c = without_stamps 0 c h

-- A step that isn't over has all the entries.

begins_recorded : (p : Play) (xs : List (ℕ × Entry)) → Begins p (span_entries xs) → (recorded p xs ≡ xs) × (left_by_span p xs ≡ []) × RunsSpan p (span_entries xs)
begins_recorded (Ends names) xs first = absurd first
begins_recorded (Asks a e next) [] first = (refl, refl, tt)
begins_recorded (Asks a e next) (x ∷ xs) first =
    let rest = begins_recorded (next x.1.reply) xs first.1 in
    (ap (λ (ys : List (ℕ × Entry)). x ∷ ys) rest.0, rest.1, (first.0, rest.2))

-- A step that is over has its own.

record IsOver (p : Play) (xs : List (ℕ × Entry)) (own rest : List Entry) (bound : Names) : Type 0 where
  own_is : span_entries (recorded p xs) ≡ own
  runs : RunsSpan p (span_entries (recorded p xs))
  rest_is : span_entries (left_by_span p xs) ≡ rest
  bound_is : bound_in_span p xs ≡ bound

played_recorded : (p : Play) (xs : List (ℕ × Entry)) (own rest : List Entry) (bound : Names) → span_entries xs ≡ own ++ rest → IsPlayRecorded p own bound → IsOver p xs own rest bound
played_recorded (Ends names) xs [] rest bound all played = record { own_is = refl; runs = tt; rest_is = all; bound_is = played }
played_recorded (Ends names) xs (y ∷ own) rest bound all played = absurd played
played_recorded (Asks a e next) xs [] rest bound all played = absurd played
played_recorded (Asks a e next) [] (y ∷ own) rest bound all played = absurd (no_cons y (own ++ rest) all)
  where
    no_cons : (z : Entry) (zs : List Entry) → [] ≡ z ∷ zs → ⊥
    no_cons z zs same = cc same
played_recorded (Asks a e next) (x ∷ xs) (y ∷ own) rest bound all played =
    let parts = same_cons x.1 y (span_entries xs) (own ++ rest) all in
    let over = played_recorded (next x.1.reply) xs own rest bound parts.1 (subst (λ (z : Entry). IsPlayRecorded (next z.reply) own bound) (sym parts.0) played.1) in
    record { own_is = ap (λ (zs : List Entry). x.1 ∷ zs) over.own_is ∙ ap (λ (z : Entry). z ∷ own) parts.0; runs = (ap asked_by parts.0 ∙ played.0, over.runs); rest_is = over.rest_is; bound_is = over.bound_is }
  where
    same_cons : (z u : Entry) (zs us : List Entry) → z ∷ zs ≡ u ∷ us → (z ≡ u) × (zs ≡ us)
    same_cons z u zs us same = (cc same, cc same)

-- steps without entries
none_run : {N T : Type 0} (script : Scripted N T) (ss : List T) (k : N) → EachRuns script.play (spans_from script ss k [])
none_run script [] k = tt
none_run {N} {T} script (s ∷ ss) k =
    (nothing (script.play k s), subst (λ (xs : List (ℕ × Entry)). EachRuns script.play (spans_from script ss (kept_in_span script k s []) xs)) (sym (none_left (script.play k s))) (none_run script ss (kept_in_span script k s [])))
  where
    nothing : (p : Play) → RunsSpan p (span_entries (recorded p []))
    nothing (Ends bound) = tt
    nothing (Asks a e next) = tt

    none_left : (p : Play) → left_by_span p [] ≡ []
    none_left (Ends bound) = refl
    none_left (Asks a e next) = refl

pub each_runs : {N T : Type 0} (script : Scripted N T) (k : N) (ss : List T) (n : ℕ) (xs : List (ℕ × Entry))
    → StandInOrder script k ss n (span_entries xs) → EachRuns script.play (spans_from script ss k xs)
each_runs script k [] n xs there = tt
each_runs script k (s ∷ ss) zero xs first =
    let p = script.play k s in
    let all = begins_recorded p xs first in (
      subst (λ (ys : List (ℕ × Entry)). RunsSpan p (span_entries ys)) (sym all.0) all.2,
      subst (λ (ys : List (ℕ × Entry)). EachRuns script.play (spans_from script ss (kept_in_span script k s xs) ys)) (sym all.1) (none_run script ss (kept_in_span script k s xs)),
    )
each_runs {N} {T} script k (s ∷ ss) (suc n) xs f =
    let p = script.play k s in
    let over = played_recorded p xs f.own f.rest f.bound f.all f.played in
    let kept : script.after k s f.bound (span_replies f.own) ≡ kept_in_span script k s xs =
    ap (λ (bound : Names). script.after k s bound (span_replies f.own)) (sym over.bound_is) ∙ ap (λ (ys : List Entry). script.after k s (bound_in_span p xs) (span_replies ys)) (sym over.own_is) in (
      over.runs,
      subst (λ (j : N). EachRuns script.play (spans_from script ss j (left_by_span p xs))) kept
          (each_runs script (script.after k s f.bound (span_replies f.own)) ss n (left_by_span p xs)
          (subst (StandInOrder script (script.after k s f.bound (span_replies f.own)) ss n) (sym over.rest_is) f.later)),
    )
