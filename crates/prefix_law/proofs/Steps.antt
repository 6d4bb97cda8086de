-- The entries of a script's steps stand in the history, in order; what the plays ask for holds of them.
use Rattle.std.proofs.Common.{◌≡◌, ℕ, zero, suc, Bool, true, false, List, [], ◌∷◌, ◌++◌, Some, inl, inr, refl, sym, ap, subst, ◌∙◌}
use Rattle.std.specs.Prelude.{slice_get, if◌then◌else◌}
use Rattle.std.specs.List.{flat_map}
use Rattle.std.proofs.lemmas.Option.{none-some, same_Some}
use Rattle.net_base.specs.declared.history.Entry.{Entry}
use Rattle.net_base.specs.Stamped.{In}
use Rattle.net_base.specs.Steps.{Ask, Play, Asks, Ends}
use Rattle.prefix_law.specs.ImportLaw.{of_steps}
use Rattle.prefix_law.specs.LongReads.{ReadsLong, ReadsWhole}
use Rattle.prefix_law.specs.Phases.{Phase, next_phase, is_own_file, on_own}
use Rattle.net_base.specs.Server.{Server}
use Rattle.prefix_law.specs.Spans.{EachRuns, RunsSpan, Scripted, Span, span_entries, kept_in_span, left_by_span, entries_numbered, own_stamped, is_own_of, recorded, spans, spans_from}
use Rattle.prefix_law.proofs.Parts.{Part, no_part, part_itself, part_of_part, parts_joined, part_filtered}
use Rattle.net_base.proofs.Shared.{in_parts}

-- Where they stand.

pub cut : (p : Play) (xs : List (ℕ × Entry)) → Part (recorded p xs ++ left_by_span p xs) xs
cut (Ends names) xs = part_itself xs
cut (Asks a e next) [] = refl
cut (Asks a e next) (x ∷ xs) = inr (recorded (next x.1.reply) xs ++ left_by_span (next x.1.reply) xs, refl, cut (next x.1.reply) xs)

abbrev all_of : {N T : Type 0} → List (Span N T) → List (ℕ × Entry)
all_of {N} {T} ps = flat_map (λ (p : Span N T). p.entries) ps

all_stand : {N T : Type 0} (script : Scripted N T) (ss : List T) (k : N) (xs : List (ℕ × Entry)) → Part (all_of (spans_from script ss k xs)) xs
all_stand script [] k xs = no_part xs
all_stand script (s ∷ ss) k xs =
    let p = script.play k s in
    let later = all_of (spans_from script ss (kept_in_span script k s xs) (left_by_span p xs)) in
    part_of_part (recorded p xs ++ later) (recorded p xs ++ left_by_span p xs) xs
    (parts_joined (recorded p xs) (recorded p xs) later (left_by_span p xs) (part_itself (recorded p xs)) (all_stand script ss (kept_in_span script k s xs) (left_by_span p xs)))
    (cut p xs)

some_of_all : {N T : Type 0} (is : T → Bool) (ps : List (Span N T)) → Part (of_steps is ps) (all_of ps)
some_of_all is [] = refl
some_of_all {N} {T} is (p ∷ ps) = parts_joined (if is p.step then p.entries else []) p.entries (of_steps is ps) (all_of ps) (one (is p.step)) (some_of_all is ps)
  where
    one : (b : Bool) → Part (if b then p.entries else []) p.entries
    one true = part_itself p.entries
    one false = no_part p.entries

one_of_all : {N T : Type 0} (ps : List (Span N T)) (i : ℕ) (p : Span N T) → slice_get ps i ≡ Some p → Part p.entries (all_of ps)
one_of_all [] i p is = absurd (none-some p is)
one_of_all {N} {T} (q ∷ ps) zero p is =
    subst (λ (r : Span N T). Part r.entries (q.entries ++ all_of ps)) (same_Some q p is)
    (at_front q.entries (all_of ps))
  where
    at_front : (xs ys : List (ℕ × Entry)) → Part xs (xs ++ ys)
    at_front [] ys = no_part ys
    at_front (x ∷ xs) ys = inr (xs, refl, at_front xs ys)
one_of_all (q ∷ ps) (suc i) p is = parts_joined [] q.entries p.entries (all_of ps) (no_part q.entries) (one_of_all ps i p is)

own_stand : (h : List Entry) (c : ℕ) → Part (own_stamped h c) (entries_numbered 0 h)
own_stand h c = part_filtered (is_own_of c) (entries_numbered 0 h)

-- the entries of the steps of a kind, and those of one step, stand in the history
pub steps_stand : {N T : Type 0} (script : Scripted N T) (is : T → Bool) (h : List Entry) (c : ℕ) → Part (of_steps is (spans script (own_stamped h c))) (entries_numbered 0 h)
steps_stand script is h c =
    part_of_part (of_steps is (spans script (own_stamped h c))) (own_stamped h c) (entries_numbered 0 h)
    (part_of_part (of_steps is (spans script (own_stamped h c))) (all_of (spans script (own_stamped h c))) (own_stamped h c)
    (some_of_all is (spans script (own_stamped h c))) (all_stand script script.steps script.start (own_stamped h c)))
    (own_stand h c)

pub step_stands : {N T : Type 0} (script : Scripted N T) (h : List Entry) (c i : ℕ) (p : Span N T) → slice_get (spans script (own_stamped h c)) i ≡ Some p → Part p.entries (entries_numbered 0 h)
step_stands script h c i p is =
    part_of_part p.entries (own_stamped h c) (entries_numbered 0 h)
    (part_of_part p.entries (all_of (spans script (own_stamped h c))) (own_stamped h c) (one_of_all (spans script (own_stamped h c)) i p is) (all_stand script script.steps script.start (own_stamped h c)))
    (own_stand h c)

pub own_part : {S : Type 0} (v : Server S (List ℕ)) (p : Phase S) (xs : List (ℕ × Entry)) → Part (on_own v p xs) xs
own_part v p [] = refl
own_part {S} v p (x ∷ xs) = go (is_own_file p) (own_part v (next_phase v p x.1.reply) xs)
  where
    go : (b : Bool) → Part (on_own v (next_phase v p x.1.reply) xs) xs
        → Part (if b then x ∷ on_own v (next_phase v p x.1.reply) xs else on_own v (next_phase v p x.1.reply) xs) (x ∷ xs)
    go true rest = inr (on_own v (next_phase v p x.1.reply) xs, refl, rest)
    go false rest = inl rest

-- What is asked.

pub run_of : {N T : Type 0} (play : N → T → Play) (ps : List (Span N T)) (i : ℕ) (p : Span N T) → EachRuns play ps → slice_get ps i ≡ Some p → RunsSpan (play p.kept p.step) (span_entries p.entries)
run_of play [] i p each is = absurd (none-some p is)
run_of {N} {T} play (q ∷ ps) zero p each is = subst (λ (r : Span N T). RunsSpan (play r.kept r.step) (span_entries r.entries)) (same_Some q p is) each.0
run_of play (q ∷ ps) (suc i) p each is = run_of play ps i p each.1 is

-- each read of a play that reads whole messages is long
pub reads_long : (p : Play) (xs : List (ℕ × Entry)) → ReadsWhole p → RunsSpan p (span_entries xs) → (x : ℕ × Entry) → In x xs → ReadsLong x.1.event
reads_long p [] whole runs x there = absurd there
reads_long (Ends names) (y ∷ xs) whole runs x there = absurd runs
reads_long (Asks a e next) (y ∷ xs) whole runs x (inl here) =
    subst ReadsLong (sym (ap (λ (z : ℕ × Entry). z.1.event) here ∙ ap (λ (ask : Ask). ask.event) runs.0)) whole.0
reads_long (Asks a e next) (y ∷ xs) whole runs x (inr later) = reads_long (next y.1.reply) xs (whole.1 y.1.reply) runs.1 x later

pub steps_read_long : {N T : Type 0} (play : N → T → Play) (is : T → Bool) (ps : List (Span N T))
    → ((k : N) (step : T) → is step ≡ true → ReadsWhole (play k step)) → EachRuns play ps
    → (x : ℕ × Entry) → In x (of_steps is ps) → ReadsLong x.1.event
steps_read_long play is [] whole each x there = absurd there
steps_read_long {N} {T} play is (p ∷ ps) whole each x there =
    elim (in_parts x (if is p.step then p.entries else []) (of_steps is ps) there) [
      | inl one ↦ of_one (is p.step) refl one
      | inr two ↦ steps_read_long play is ps whole each.1 x two
    ]
  where
    of_one : (b : Bool) → is p.step ≡ b → In x (if b then p.entries else []) → ReadsLong x.1.event
    of_one true passes one = reads_long (play p.kept p.step) p.entries (whole p.kept p.step passes) each.0 x one
    of_one false passes one = absurd one
