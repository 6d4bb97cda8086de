-- The number of events that a script owes is the count by its entries.
use Rattle.std.proofs.Common.{◌≡◌, ◌≢◌, ℕ, ◌+◌, ◌-◌, ◌<◌, ◌≤◌, ◌==◌, Bool, true, false, List, [], ◌∷◌, ◌++◌, length, drop, Option, Some, None, slice_get, if◌then◌else◌, refl, sym, ap, subst, ◌∙◌, length-append, arith}
use Rattle.std.specs.Prelude.{IsSome}
use Rattle.std.specs.Option.{option_map}
use Rattle.std.proofs.lemmas.Bool.{eqb-true, eq-eqb, ne_eqb, false≢true}
use Rattle.std.proofs.lemmas.List.{drop_all, length-drop}
use Rattle.std.proofs.lemmas.Option.{none-some, same_Some}
use Rattle.net_base.specs.declared.history.Entry.{Entry}
use Rattle.net_base.specs.declared.world.Script.{Script}
use Rattle.net_base.specs.declared.world.World.{World}
use Rattle.net_base.specs.ActorStep.{Step}
use Rattle.net_base.specs.Actors.{Actor}
use Rattle.net_base.specs.Callers.{Caller, IsScript, caller_of}
use Rattle.net_base.specs.Duties.{Duty, duties}
use Rattle.net_base.specs.Legal.{IsAsked, IsLegal, MayFollow, Shown, Shows, asked_by}
use Rattle.net_base.specs.Net.{Net, after, net_after, next_net, owed, step_of, work_of}
use Rattle.net_base.specs.Next.{next_of, own_replies, zone_of}
use Rattle.net_base.specs.Scripts.{at_first, position}
use Rattle.net_base.specs.Steps.{Ask}
use Rattle.history_laws.proofs.Shared.{after_push, by_entries, Each, each_append, IsNextEvent}
use Rattle.net_export.specs.Counted.{brought, count_after, follow_ups, counts_put, releases}
use Rattle.net_export.proofs.FreeEvents.{IsFree, IsFreeDuty, duties_free, script_free}
use Rattle.net_export.proofs.Lengths.{duties_length}
use Rattle.net_base.proofs.Shared.{next_one, script_at}

-- The count of one entry more.

abbrev counted : World → ℕ → ℕ → Entry → ℕ
counted w c n x = if x.caller == c then (n - 1) + brought w x else n

count_push : (w : World) (c n : ℕ) (h : List Entry) (x : Entry) → count_after w c n (h ++ x ∷ []) ≡ counted w c (count_after w c n h) x
count_push w c n [] x = refl
count_push w c n (y ∷ h) x = count_push w c (counted w c n y) h x

-- .. of the one at a stamp
counted_next : (w : World) (c n : ℕ) (h : List Entry) (k : ℕ) (x : Entry) → slice_get h k ≡ Some x
    → count_after w c n (drop k h) ≡ count_after w c (if x.caller == c then (n - 1) + brought w x else n) (drop (k + 1) h)
counted_next w c n h k x is = ap (count_after w c n) (next_one h k x is)

-- .. where it is the caller's own
pub counted_own : (w : World) (c n : ℕ) (h : List Entry) (k : ℕ) (x : Entry) → slice_get h k ≡ Some x → x.caller ≡ c
    → count_after w c n (drop k h) ≡ count_after w c ((n - 1) + brought w x) (drop (k + 1) h)
counted_own w c n h k x is own =
    counted_next w c n h k x is
    ∙ ap (λ (b : Bool). count_after w c (if b then (n - 1) + brought w x else n) (drop (k + 1) h)) (eq-eqb x.caller c own)

-- .. or another's
pub counted_other : (w : World) (c n : ℕ) (h : List Entry) (k : ℕ) (x : Entry) → slice_get h k ≡ Some x → x.caller ≢ c
    → count_after w c n (drop k h) ≡ count_after w c n (drop (k + 1) h)
counted_other w c n h k x is other =
    counted_next w c n h k x is
    ∙ ap (λ (b : Bool). count_after w c (if b then (n - 1) + brought w x else n) (drop (k + 1) h)) (ne_eqb x.caller c other)

-- .. and behind the last
pub counted_all : (w : World) (c n : ℕ) (h : List Entry) (k : ℕ) → length h ≤ k → count_after w c n (drop k h) ≡ n
counted_all w c n h k past = ap (count_after w c n) (drop_all k h past)

-- What a script records is free.

next_free : (s : Script) (o : Option Ask) (x : Entry) → IsNextEvent (λ a e. IsFree e) o → o ≡ Some (asked_by x) → IsFree x.event
next_free s None x free is = absurd (none-some _ is)
next_free s (Some ask) x free is = subst (λ (a : Ask). IsFree a.event) (same_Some ask (asked_by x) is) free

-- its first duty, or its next event
asked_free : (w : World) (ds : List Duty) (k : Caller) (s : Script) (h : List Entry) (c : ℕ) (x : Entry) → k ≡ IsScript s → Each IsFreeDuty ds
    → IsAsked ds k (next_of w k h c) x → IsFree x.event
asked_free w (d ∷ ds) k s h c x script free is = subst (λ (a : Ask). IsFree a.event) is free.0
asked_free w [] k s h c x script free is =
    next_free s (position s.host s.steps (at_first (zone_of w)) (own_replies h c)).next x (script_free (zone_of w) s (own_replies h c))
    (subst (λ (l : Caller). IsAsked [] l (next_of w l h c) x) script is)

-- An entry more.

by_other : (w : World) (net : Net) (x : Entry) (c : ℕ) (o : Option (Step Actor)) → (x.caller == c) ≡ false → (net_after w net x o).owed c ≡ net.owed c
by_other w net x c None other = refl
by_other w net x c (Some s) other = rw other refl

by_itself : (w : World) (net : Net) (x : Entry) (c : ℕ) (o : Option (Step Actor)) → step_of w net x ≡ o → (x.caller == c) ≡ true → IsFree x.event
    → Shows (option_map (λ (s : Step Actor). s.outcome) o) x → IsSome (option_map (λ (s : Step Actor). s.outcome) o)
    → length ((net_after w net x o).owed c) ≡ (length (net.owed c) - 1) + brought w x
by_itself w net x c None is own free shows ready = absurd (false≢true ready)
by_itself w net x c (Some s) is own free shows ready =
    let new : List Duty = duties w net.actors x.actor (length net.past) (work_of net x) s in
    let brings : length new ≡ brought w x =
    duties_length w net.actors x.actor net.moment (length net.past) (work_of net x) s free is
    ∙ sym (ap (λ (y : Shown). (counts_put w x.actor y.emits + follow_ups x.actor x.event y.reply) + releases x.actor y.ended) shows) in
    rw own (length-append (drop 1 (net.owed c)) new ∙ omega (arith, brings, length-drop 1 (net.owed c)))

free_after : (w : World) (net : Net) (x : Entry) (c : ℕ) (o : Option (Step Actor)) → Each IsFreeDuty (net.owed c)
    → Each IsFreeDuty ((net_after w net x o).owed c)
free_after w net x c None free = free
free_after w net x c (Some s) free = by (x.caller == c)
  where
    rest : (ds : List Duty) → Each IsFreeDuty ds → Each IsFreeDuty (drop 1 ds)
    rest [] all = tt
    rest (d ∷ ds) all = all.1

    by : (b : Bool) → Each IsFreeDuty (if b then drop 1 (net.owed c) ++ duties w net.actors x.actor (length net.past) (work_of net x) s else net.owed c)
    by true = each_append IsFreeDuty (drop 1 (net.owed c)) _ (rest (net.owed c) free) (duties_free w net.actors x.actor (length net.past) (work_of net x) s)
    by false = free

-- Of each history.

record IsCounted (w : World) (c : ℕ) (h : List Entry) : Type 0 where
  count : length (owed w h c) ≡ count_after w c 0 h
  free : Each IsFreeDuty (owed w h c)

pushed : (w : World) (c : ℕ) → c < length w.scripts → (h : List Entry) (x : Entry) → MayFollow w h x → IsCounted w c h → (b : Bool) → (x.caller == c) ≡ b
    → length ((next_net w (after w h) x).owed c) ≡ (if b then (count_after w c 0 h - 1) + brought w x else count_after w c 0 h)
pushed w c below h x may kept false other = ap (λ (ds : List Duty). length ds) (by_other w (after w h) x c (step_of w (after w h) x) other) ∙ kept.count
pushed w c below h x may kept true own =
    let script = script_at w c below in
    let same : x.caller ≡ c = eqb-true x.caller c own in
    let asked : IsAsked (owed w h c) (caller_of w c) (next_of w (caller_of w c) h c) x =
    subst (λ (d : ℕ). IsAsked (owed w h d) (caller_of w d) (next_of w (caller_of w d) h d) x) same may.is_asked in
    let free : IsFree x.event = asked_free w (owed w h c) (caller_of w c) script.0 h c x script.1 kept.free asked in
    by_itself w (after w h) x c (step_of w (after w h) x) refl own free may.answers may.is_ready
    ∙ ap (λ (n : ℕ). (n - 1) + brought w x) kept.count

push : (w : World) (c : ℕ) → c < length w.scripts → (h : List Entry) (x : Entry) → IsLegal w h → MayFollow w h x → IsCounted w c h → IsCounted w c (h ++ x ∷ [])
push w c below h x legal may kept =
    record {
      count =
          ap (λ (net : Net). length (net.owed c)) (after_push w h x)
          ∙ (pushed w c below h x may kept (x.caller == c) refl ∙ sym (count_push w c 0 h x));
      free = subst (λ (net : Net). Each IsFreeDuty (net.owed c)) (sym (after_push w h x)) (free_after w (after w h) x c (step_of w (after w h) x) kept.free);
    }

pub owed_is_counted : (w : World) (h : List Entry) (c : ℕ) → IsLegal w h → c < length w.scripts → length (owed w h c) ≡ count_after w c 0 h
owed_is_counted w h c legal below = (by_entries w (IsCounted w c) (record { count = refl; free = tt }) (push w c below) h legal).count
