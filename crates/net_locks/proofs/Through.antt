-- Whether scripts are through, by what they record next.
use Rattle.std.proofs.Common.{◌≡◌, ℕ, zero, suc, ◌+◌, ◌<◌, ◌&&◌, ◌||◌, inl, inr, nat_lt, Bool, true, false, List, [], ◌∷◌, length, Option, Some, None, is_some, slice_get, refl, ap, sym, subst, ◌∙◌, arith}
use Rattle.std.specs.List.{enumerate_from, list_any}
use Rattle.std.specs.Option.{option_map, option_map_or}
use Rattle.std.proofs.lemmas.Bool.{false≢true, lt-ltb, ltb-true, true≢false, and_parts}
use Rattle.std.proofs.lemmas.Option.{none-some, same_Some}
use Rattle.net_base.specs.declared.actor.ActorName.{ActorName}
use Rattle.net_base.specs.declared.history.Entry.{Entry}
use Rattle.net_base.specs.declared.history.Work.{Work}
use Rattle.net_base.specs.declared.reply.Reply.{Reply}
use Rattle.net_base.specs.declared.world.Script.{Script}
use Rattle.net_base.specs.declared.world.Step.{Step}
use Rattle.net_base.specs.declared.world.World.{World}
use Rattle.net_base.specs.Callers.{Caller, IsScript, caller_count, caller_of, other_caller}
use Rattle.net_base.specs.Calm.{unfinished_by}
use Rattle.net_base.specs.Net.{Net}
use Rattle.net_base.specs.Next.{is_left, is_unfinished_by, next_of_by, place_next, zone_of}
use Rattle.net_base.specs.Stamped.{In}
use Rattle.net_base.specs.Scripts.{Kept, at_first, heard_replies, kept_after, position, step_play}
use Rattle.net_base.specs.Steps.{Names, Stand, Asking, Finished, position_by, stands}
use Rattle.net_base.specs.Tasks.{Asking as OwnAsking, Tasks}
use Rattle.net_base.specs.Versions.{Tuples}
use Rattle.journal.specs.declared.law.Roster.{Roster}
use Rattle.journal.specs.declared.tokens.Sight.{Sight}
use Rattle.net_locks.specs.Works.{entries, noted_net}
use Rattle.net_locks.specs.declared.clock.Standing.{Standing}
use Rattle.net_locks.specs.Standings.{AllStand, StandsAt, standing_ask, has_left}
use Rattle.net_base.proofs.Shared.{there_at}

-- A script has something to record next exactly where a step is left.

some_left : (n : ℕ) → nat_lt 0 (suc n) ≡ true
some_left n = lt-ltb 0 (suc n) (omega arith)

left_is : (h : ℕ) (ss : List Step) (k : Kept) (rs : List Reply) → nat_lt 0 (length (position h ss k rs).left) ≡ is_some (position h ss k rs).next
left_is h [] k rs = refl
left_is h (s ∷ ss) k rs = by_stand (stands (step_play h k s) rs) (λ after later. left_is h ss (kept_after k s after (heard_replies (step_play h k s) rs)) later)
  where
    by_stand : (t : Stand)
        → ((after : Names) (later : List Reply)
        → nat_lt 0 (length (position h ss (kept_after k s after (heard_replies (step_play h k s) rs)) later).left) ≡ is_some (position h ss (kept_after k s after (heard_replies (step_play h k s) rs)) later).next)
        → nat_lt 0 (length (position_by t (s ∷ ss) (λ (after : Names) (later : List Reply). position h ss (kept_after k s after (heard_replies (step_play h k s) rs)) later)).left)
        ≡ is_some (position_by t (s ∷ ss) (λ (after : Names) (later : List Reply). position h ss (kept_after k s after (heard_replies (step_play h k s) rs)) later)).next
    by_stand (Asking ask) rest = some_left (length ss)
    by_stand (Finished after later) rest = rest after later

-- and so has what is played in its place
left_by : (own : Option OwnAsking) (zone : Tuples) (s : Script) (rs : List Reply) → is_left own zone s rs ≡ is_some (place_next own zone s rs)
left_by None zone s rs = left_is s.host s.steps (at_first zone) rs
left_by (Some asks) zone s rs = refl

-- Tests of a row with its numbers.

module _ (test : ℕ × Script → Bool) where
  none_of : (xs : List Script) (n : ℕ) → ((k : ℕ) (s : Script) → slice_get xs k ≡ Some s → test (n + k, s) ≡ false) → list_any test (enumerate_from n xs) ≡ false
  none_of [] n none = refl
  none_of (x ∷ xs) n none =
      let here : n + zero ≡ n = omega arith in
      rw (subst (λ (i : ℕ). test (i, x) ≡ false) here (none zero x refl))
      (none_of xs (n + 1) (λ k s is. let next : n + suc k ≡ n + 1 + k = omega arith in subst (λ (i : ℕ). test (i, s) ≡ false) next (none (suc k) s is)))

  some_of : (xs : List Script) (n k : ℕ) (s : Script) → slice_get xs k ≡ Some s → test (n + k, s) ≡ true → list_any test (enumerate_from n xs) ≡ true
  some_of [] n k s is passes = absurd (none-some s is)
  some_of (x ∷ xs) n zero s is passes =
      let here : n + zero ≡ n = omega arith in
      rw (subst (λ (i : ℕ). test (i, x) ≡ true) here (ap (λ (t : Script). test (n + zero, t)) (same_Some x s is) ∙ passes)) refl
  some_of (x ∷ xs) n (suc k) s is passes =
      let next : n + suc k ≡ n + 1 + k = omega arith in
      later (test (n, x)) (some_of xs (n + 1) k s is (subst (λ (i : ℕ). test (i, s) ≡ true) next passes))
    where
      later : (b : Bool) → list_any test (enumerate_from (n + 1) xs) ≡ true → (b || list_any test (enumerate_from (n + 1) xs)) ≡ true
      later true rest = refl
      later false rest = rest

-- one that passes stands in the list
passed : (test : Standing → Bool) (ss : List Standing) → list_any test ss ≡ true → (s : Standing) × In s ss × (test s ≡ true)
passed test [] is = absurd (false≢true is)
passed test (x ∷ ss) is = by_first (test x) refl is (passed test ss)
  where
    by_first : (b : Bool) → test x ≡ b → (b || list_any test ss) ≡ true → (list_any test ss ≡ true → (s : Standing) × In s ss × (test s ≡ true)) → (s : Standing) × In s (x ∷ ss) × (test s ≡ true)
    by_first true here is rest = (x, inl refl, here)
    by_first false here is rest = let s = rest is in (s.0, inr s.1, s.2)

unpassed : (test : Standing → Bool) (ss : List Standing) → list_any test ss ≡ false → (s : Standing) → In s ss → test s ≡ false
unpassed test [] is s there = absurd there
unpassed test (x ∷ ss) is s there = by_first (test x) refl is there (unpassed test ss)
  where
    by_first : (b : Bool) → test x ≡ b → (b || list_any test ss) ≡ false → In s (x ∷ ss) → (list_any test ss ≡ false → (t : Standing) → In t ss → test t ≡ false) → test s ≡ false
    by_first true here is there rest = absurd (true≢false is)
    by_first false here is (inl same) rest = ap test same ∙ here
    by_first false here is (inr later) rest = rest is s later

within : (xs : List Script) (k : ℕ) (s : Script) → slice_get xs k ≡ Some s → k < length xs
within [] k s is = absurd (none-some s is)
within (x ∷ xs) zero s is = omega arith
within (x ∷ xs) (suc k) s is = omega (arith, within xs k s is)

and_second : (a b : Bool) → (a && b) ≡ false → a ≡ true → b ≡ false
and_second a b is left = sym (ap (λ (x : Bool). x && b) left) ∙ is

mapped : (o : Option (ActorName × Work)) → is_some (option_map standing_ask o) ≡ is_some o
mapped None = refl
mapped (Some x) = refl

module _ (ts : Tasks) (w : World) (r : Roster) (p : Sight) (ss : List Standing) (stand : AllStand ts w r p ss) (callers : r.callers ≡ caller_count w)
    (past : (noted_net w p.seen).past ≡ entries p.seen) where
  abbrev net : Net
  net = noted_net w p.seen

  -- a script, or the task in its place, is unfinished where its standing has something next
  unfinished_so : (s : Standing) → StandsAt ts w r p s → (script : Script) → slice_get w.scripts s.caller ≡ Some script → is_unfinished_by ts w net.past s.caller script ≡ is_some s.next
  unfinished_so s st script is =
      let caller : caller_of w s.caller ≡ IsScript script = ap (λ (o : Option Script). option_map_or (λ (t : Script). IsScript t) o (other_caller w s.caller)) is in
      ap (λ (h : List Entry). is_unfinished_by ts w h s.caller script) past
      ∙ (left_by (ts s.caller) (zone_of w) script _
      ∙ (ap (λ (k : Caller). is_some (next_of_by ts w k (entries p.seen) s.caller)) (sym caller) ∙ (ap is_some (sym st.next_is) ∙ mapped s.next)))

  abbrev unfinished_at : ℕ × Script → Bool
  unfinished_at s = is_unfinished_by ts w net.past s.0 s.1

  -- no script is unfinished where none has something left
  pub all_through : list_any (has_left (length w.scripts)) ss ≡ false → unfinished_by ts w net ≡ false
  all_through none =
      none_of unfinished_at w.scripts 0
      (λ k script is.
      let lt : k < caller_count w = omega (arith, within w.scripts k script is) in
      let s = stand.all k (subst (λ (n : ℕ). k < n) (sym callers) lt) in
      let st = stand.each s.0 s.1 in
      let at : slice_get w.scripts s.0.caller ≡ Some script = ap (slice_get w.scripts) s.2 ∙ is in
      let first : nat_lt s.0.caller (length w.scripts) ≡ true = lt-ltb s.0.caller (length w.scripts) (within w.scripts s.0.caller script at) in
      let here : s.0.caller ≡ 0 + k = omega (arith, s.2) in
      subst (λ (i : ℕ). is_unfinished_by ts w net.past i script ≡ false) here
      (unfinished_so s.0 st script at
      ∙ and_second (nat_lt s.0.caller (length w.scripts)) (is_some s.0.next) (unpassed (has_left (length w.scripts)) ss none s.0 s.1) first))

  pub some_unfinished : list_any (has_left (length w.scripts)) ss ≡ true → unfinished_by ts w net ≡ true
  some_unfinished some =
      let s = passed (has_left (length w.scripts)) ss some in
      let both = and_parts (nat_lt s.0.caller (length w.scripts)) (is_some s.0.next) s.2 in
      let script = there_at w.scripts s.0.caller (ltb-true s.0.caller (length w.scripts) both.0) in
      let here : s.0.caller ≡ 0 + s.0.caller = omega arith in
      some_of unfinished_at w.scripts 0 s.0.caller script.0 script.1
      (subst (λ (i : ℕ). is_unfinished_by ts w net.past i script.0 ≡ true) here (unfinished_so s.0 (stand.each s.0 s.1) script.0 script.1 ∙ both.1))
