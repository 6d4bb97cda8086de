-- A search without losses: what is found, history by history and pass by pass.
use Rattle.std.proofs.Common.{◌≡◌, ℕ, zero, suc, ◌+◌, ◌-◌, ◌*◌, ◌<◌, ◌≤◌, ◌^◌, inl, inr, Bool, true, false, not, cond, List, [], ◌∷◌, ◌++◌, length, take, Option, Some, None, nat_le, refl, sym, ap, subst, ◌∙◌, append-nil, append_assoc, length-append, take_all, arith, eq-eqb}
use Rattle.std.specs.Prelude.{Err, IfOk, Ok, Result, map, option_to_list}
use Rattle.std.specs.List.{list_all}
use Rattle.std.proofs.lemmas.Bool.{false≢true, le-leb, ne_eqb}
use Rattle.std.proofs.lemmas.Bool.Decides.{nat_tests}
use Rattle.std.proofs.lemmas.List.{map-append}
use Rattle.net_base.specs.declared.history.Entry.{Entry}
use Rattle.net_base.specs.declared.world.World.{World}
use Rattle.net_base.specs.Legal.{IsLegal}
use Rattle.net_base.specs.Net.{after}
use Rattle.net_base.specs.Summary.{end_word, summary}
use Rattle.net_base.specs.World.{IsWorld}
use Rattle.net_base.proofs.Shared.{length_map}
use Rattle.transcript.specs.RunStatus.{run_end_word}
use Rattle.turn_orders.specs.Orders.{Told, first_told, histories, histories_with, if_spent, is_told, refuses_with, told_of, told_onto, told_with, too_many}
use Rattle.turn_orders.specs.Paths.{ahead, beginning, left, refused_ahead, refused_to_come, to_come}
use Rattle.turn_orders.specs.Preemptions.{preemptions}
use Rattle.turn_orders.specs.Results.{outcome_of}
use Rattle.turn_orders.specs.Turns.{IsEnded, callers_of, with_turns}
use Rattle.turn_orders.proofs.Shared.{first_pass, histories_more, is_short, last_pass, next_pass, onto-append, refusals_begin, refusals_end, search_begins, search_ends, told_new}
use Rattle.order_search.specs.declared.losses.Frame.{Frame}
use Rattle.order_search.specs.declared.path.Fork.{Fork}
use Rattle.order_search.specs.declared.path.Path.{Path}
use Rattle.order_search.specs.declared.search.Found.{Found}
use Rattle.order_search.specs.declared.search.Pass.{Pass}
use Rattle.order_search.specs.declared.search.Sought.{Sought}
use Rattle.order_search.specs.declared.tellings.Telling.{Telling}
use Rattle.order_search.specs.declared.trail.Trail.{Trail}
use Rattle.order_search.specs.declared.walk.Walk.{Walk}
use Rattle.order_search.specs.Choices.{AreForks, GoesBack, IsFinished, IsKept, IsPath, IsPending, KeepsToCome, TurnsTo, callers_in, choices}
use Rattle.order_search.specs.Exact.{EndsPath, HasFound, IsCut, IsExact, IsFull, IsPlain, IsSearching, IsWhole, Looks, LooksOn, Report, Takes, entries_in, report_of, reported}
use Rattle.order_search.specs.Known.{is_among, text_of, text_told, texts_in, with_text}
use Rattle.order_search.specs.Marks.{results_text}
use Rattle.order_search.specs.Tellings.{IsKin, IsLastPass, IsTellingOf, NextPass}
use Rattle.order_search.specs.Walks.{IsWalk}
use Rattle.order_search.proofs.Choosing.{begins_so, left_so}
use Rattle.order_search.proofs.Forking.{forks_kept}
use Rattle.order_search.proofs.Lines.{among_told}

-- ---- what was found

entries_more : (seen : List (List Entry)) (h : List Entry) → entries_in (seen ++ h ∷ []) ≡ entries_in seen + length h
entries_more [] h = omega arith
entries_more (g ∷ seen) h = omega (arith, entries_more seen h)

-- other fields make no difference
pub same_found : (w : World) (limit : ℕ) (seen : List (List Entry)) (old new : Found) → HasFound w limit seen old → new.told.items ≡ old.told.items
    → texts_in new.known.keys ≡ texts_in old.known.keys → new.histories ≡ old.histories → new.entries ≡ old.entries → new.whole ≡ old.whole → HasFound w limit seen new
same_found w limit seen old new is told known histories entries whole = record {
  told_are = ap (map reported) told ∙ is.told_are;
  known_are = known ∙ is.known_are;
  histories_are = histories ∙ is.histories_are;
  entries_are = entries ∙ is.entries_are;
  within = is.within;
  few = is.few;
  whole_is = whole ∙ is.whole_is;
}

pub nothing_found : (w : World) (limit : ℕ) (f : Found) → f.told.items ≡ [] → texts_in f.known.keys ≡ [] → f.histories ≡ 0 → f.entries ≡ 0 → f.whole ≡ true → HasFound w limit [] f
nothing_found w limit f told known histories entries whole = record {
  told_are = ap (map reported) told;
  known_are = known;
  histories_are = histories;
  entries_are = entries;
  within = omega arith;
  few = omega arith;
  whole_is = whole;
}

pub full : (w : World) (limit : ℕ) (seen : List (List Entry)) (old new : Found) → HasFound w limit seen old → limit ≤ old.histories → new.told.items ≡ old.told.items
    → new.histories ≡ old.histories → new.entries ≡ old.entries → new.whole ≡ false → IsFull w limit seen new
full w limit seen old new is reached told histories entries whole = record {
  told_are = ap (map reported) told ∙ is.told_are;
  histories_are = histories ∙ is.histories_are;
  entries_are = entries ∙ is.entries_are;
  at_limit = omega (arith, reached, is.histories_are, is.within);
  whole_is = whole;
}

-- ---- a history more

abbrev reporting : ℕ → List ℕ → List ℕ → List ℕ → Report
reporting n s r e = record { preemptions = n; summary = s; results = r; end = e }

telling_reported : (w : World) (q : ℕ) (h : List Entry) (t : Telling) → IsTellingOf w q h t → reported t ≡ report_of w (told_of w h)
telling_reported w q h t is =
    ap (λ (n : ℕ). reporting n t.summary t.results (run_end_word t.end)) is.preemptions_are
    ∙ (ap (λ (s : List ℕ). reporting (preemptions w h) s t.results (run_end_word t.end)) is.summary_is
    ∙ (ap (λ (r : List ℕ). reporting (preemptions w h) (summary w h) r (run_end_word t.end)) is.results_are
    ∙ ap (λ (e : List ℕ). reporting (preemptions w h) (summary w h) (results_text (outcome_of w h)) e) is.end_is))

module _ (w : World) (limit q : ℕ) (seen : List (List Entry)) (h : List Entry) (old : Found) (t : Telling) (world : IsWorld w) (is : HasFound w limit seen old)
    (telling : IsTellingOf w q h t) (room : old.histories < limit) (bound : old.histories + 1 < 2 ^ 64) where
  key_is : t.results ++ t.summary ≡ text_of (outcome_of w h)
  key_is = ap (λ (r : List ℕ). r ++ t.summary) telling.results_are ∙ ap (λ (s : List ℕ). results_text (outcome_of w h) ++ s) telling.summary_is

  now : first_told w (seen ++ h ∷ []) ≡ told_with w (first_told w seen) h
  now = onto-append w [] seen (h ∷ [])

  among : is_among (texts_in old.known.keys) (t.results ++ t.summary) ≡ is_told (first_told w seen) (outcome_of w h)
  among =
      ap (λ (ts : List (List ℕ)). is_among ts (t.results ++ t.summary)) is.known_are
      ∙ (ap (is_among (map text_told (first_told w seen))) key_is
      ∙ among_told w (first_told w seen) h (λ u there. let new = told_new w seen u there in (new.0, new.2)))

  -- the texts that are known, by whether the outcome was
  known_by : (b : Bool) → is_told (first_told w seen) (outcome_of w h) ≡ b
      → with_text (texts_in old.known.keys) (t.results ++ t.summary) ≡ map text_told (cond b (first_told w seen) (first_told w seen ++ told_of w h ∷ []))
  known_by b e =
      ap (λ (a : Bool). cond a (texts_in old.known.keys) (texts_in old.known.keys ++ (t.results ++ t.summary) ∷ [])) (among ∙ e) ∙ by b
    where
      by : (a : Bool) → cond a (texts_in old.known.keys) (texts_in old.known.keys ++ (t.results ++ t.summary) ∷ [])
          ≡ map text_told (cond a (first_told w seen) (first_told w seen ++ told_of w h ∷ []))
      by true = is.known_are
      by false =
          ap (λ (ts : List (List ℕ)). ts ++ (t.results ++ t.summary) ∷ []) is.known_are
          ∙ (ap (λ (k : List ℕ). map text_told (first_told w seen) ++ k ∷ []) key_is
          ∙ sym (map-append text_told (first_told w seen) (told_of w h ∷ [])))

  module _ (new : Found) (histories : new.histories ≡ old.histories + 1)
      (entries : old.entries + length h < 2 ^ 128 → new.entries ≡ old.entries + length h) (whole : new.whole ≡ old.whole)
      (known : texts_in new.known.keys ≡ with_text (texts_in old.known.keys) (t.results ++ t.summary)) where
    takes_by : (b : Bool) → is_told (first_told w seen) (outcome_of w h) ≡ b
        → map reported new.told.items ≡ map (report_of w) (cond b (first_told w seen) (first_told w seen ++ told_of w h ∷ [])) → HasFound w limit (seen ++ h ∷ []) new
    takes_by b e told = record {
      told_are = told ∙ ap (map (report_of w)) (sym (now ∙ by));
      known_are = known ∙ (known_by b e ∙ ap (map text_told) (sym (now ∙ by)));
      histories_are = omega (arith, histories, is.histories_are, length-append seen (h ∷ []));
      entries_are = omega (arith, entries small, is.entries_are, entries_more seen h);
      within = omega (arith, room, is.histories_are, length-append seen (h ∷ []));
      few = omega (arith, short, is.few, entries_more seen h, length-append seen (h ∷ []));
      whole_is = whole ∙ is.whole_is;
    }
      where
        by : told_with w (first_told w seen) h ≡ cond b (first_told w seen) (first_told w seen ++ told_of w h ∷ [])
        by = ap (λ (a : Bool). cond a (first_told w seen) (first_told w seen ++ told_of w h ∷ [])) e

        short : length h < too_many
        short = is_short w h world telling.within.legal

        small : old.entries + length h < 2 ^ 128
        small = omega (arith, short, is.entries_are, is.few, is.histories_are, bound)

    known_is : (fresh : Bool) → fresh ≡ not (is_among (texts_in old.known.keys) (t.results ++ t.summary)) → (b : Bool) → fresh ≡ not b → is_told (first_told w seen) (outcome_of w h) ≡ b
    known_is fresh is_fresh b e = by (is_told (first_told w seen) (outcome_of w h)) b (sym (is_fresh ∙ ap not among) ∙ e)
      where
        by : (x y : Bool) → not x ≡ not y → x ≡ y
        by true true n = refl
        by false false n = refl
        by true false n = absurd (false≢true n)
        by false true n = absurd (false≢true (sym n))

    -- a known outcome
    pub takes_known : (fresh : Bool) → fresh ≡ not (is_among (texts_in old.known.keys) (t.results ++ t.summary)) → fresh ≡ false → new.told.items ≡ old.told.items
        → HasFound w limit (seen ++ h ∷ []) new
    takes_known fresh is_fresh no_ told = takes_by true (known_is fresh is_fresh true no_) (ap (map reported) told ∙ is.told_are)

    -- a new one
    pub takes_new : (fresh : Bool) → fresh ≡ not (is_among (texts_in old.known.keys) (t.results ++ t.summary)) → fresh ≡ true → new.told.items ≡ old.told.items ++ t ∷ []
        → HasFound w limit (seen ++ h ∷ []) new
    takes_new fresh is_fresh yes_ told =
        takes_by false (known_is fresh is_fresh false yes_)
        (ap (map reported) told
        ∙ (map-append reported old.told.items (t ∷ [])
        ∙ (ap (λ (rs : List Report). rs ++ reported t ∷ []) is.told_are
        ∙ (ap (λ (r : Report). map (report_of w) (first_told w seen) ++ r ∷ []) (telling_reported w q h t telling)
        ∙ sym (map-append (report_of w) (first_told w seen) (told_of w h ∷ []))))))

-- the entries that are counted
pub counted : (a b e l : ℕ) → e ≡ l → (a + e < 2 ^ 128 → b ≡ a + e) → a + l < 2 ^ 128 → b ≡ a + l
counted a b e l same so small = so (omega (arith, same, small)) ∙ ap (λ (n : ℕ). a + n) same

-- ---- the end of a run

module _ (w : World) (p : ℕ) (walk : Walk) (is : IsWalk w walk) (r s : Bool) (old new : Path) (end : EndsPath w p r old s new walk.runner.history.entries)
    (ended : IsEnded w walk.runner.history.entries) where
  choices_are : choices new ≡ callers_of walk.runner.history.entries
  choices_are = ap (λ (o : Option ℕ). callers_in new.forks.items ++ option_to_list o) end.no_pending ∙ (append-nil (callers_in new.forks.items) ∙ end.callers_are)

  short : length (callers_of walk.runner.history.entries) < too_many
  short = omega (arith, is_short w walk.runner.history.entries is.tracks.history.world is.tracks.history.legal, length_map (λ (x : Entry). x.caller) walk.runner.history.entries)

  ends_there : IsEnded w (with_turns w [] (callers_of walk.runner.history.entries))
  ends_there = subst (IsEnded w) (sym (begins_so w p walk is)) ended

  pub length_now : length new.forks.items ≤ too_many - 1
  length_now = omega (arith, short, ap (λ (cs : List ℕ). length cs) end.callers_are, length_map (λ (f : Fork). f.caller) new.forks.items)

  pub run_ends : to_come w p (choices old) ≡ if_spent (p - preemptions w walk.runner.history.entries) walk.runner.history.entries ++ ahead w p (callers_in new.forks.items)
  run_ends =
      sym end.keeps.to_come_stays
      ∙ (ap (to_come w p) choices_are
      ∙ (search_ends w p (callers_of walk.runner.history.entries) short ends_there
      ∙ (ap (λ (k : ℕ). if_spent k (beginning w (callers_of walk.runner.history.entries)) ++ ahead w p (callers_of walk.runner.history.entries)) (left_so w p walk is end.within)
      ∙ (ap (λ (g : List Entry). if_spent (p - preemptions w walk.runner.history.entries) g ++ ahead w p (callers_of walk.runner.history.entries)) (begins_so w p walk is)
      ∙ ap (λ (cs : List ℕ). if_spent (p - preemptions w walk.runner.history.entries) walk.runner.history.entries ++ ahead w p cs) (sym end.callers_are)))))

  pub refusals_left : s ≡ false → refused_ahead w p (callers_in new.forks.items) ≡ refused_to_come w p (choices old)
  refusals_left unrefused =
      ap (refused_ahead w p) end.callers_are
      ∙ (sym (refusals_end w p (callers_of walk.runner.history.entries) short ends_there)
      ∙ (ap (refused_to_come w p) (sym choices_are) ∙ end.keeps.refusals_stay unrefused))

module _ (w : World) (p limit : ℕ) (walk : Walk) (is : IsWalk w walk) (old new : Trail) (end : EndsPath w p old.refused old.path new.refused new.path walk.runner.history.entries)
    (ended : IsEnded w walk.runner.history.entries) (seen : List (List Entry)) where
  looks_by : (seen_now : List (List Entry)) (f : Found) → HasFound w limit seen_now f
      → seen_now ++ ahead w p (callers_in new.path.forks.items) ≡ seen ++ to_come w p (choices old.path) → LooksOn w p limit seen old new f
  looks_by seen_now f found rest = record {
    seen_now = seen_now;
    found = found;
    path = end.path;
    no_pending = end.no_pending;
    short = length_now w p walk is old.refused new.refused old.path new.path end ended;
    rest = rest;
    no_refusal = end.keeps.no_refusal;
    refusals = refusals_left w p walk is old.refused new.refused old.path new.path end ended;
  }

  -- one with fewer preemptions
  pub looks_past : (f : Found) → HasFound w limit seen f → (walk.preemptions ≡ p → ⊥) → LooksOn w p limit seen old new f
  looks_past f found fewer = looks_by seen f found (ap (λ (hs : List (List Entry)). seen ++ hs) (sym (run_ends w p walk is old.refused new.refused old.path new.path end ended ∙ none)))
    where
      none : if_spent (p - preemptions w walk.runner.history.entries) walk.runner.history.entries ++ ahead w p (callers_in new.path.forks.items) ≡ ahead w p (callers_in new.path.forks.items)
      none = ap (λ (b : Bool). cond b (walk.runner.history.entries ∷ []) [] ++ ahead w p (callers_in new.path.forks.items))
          (ne_eqb (p - preemptions w walk.runner.history.entries) 0 (λ e. fewer (omega (arith, e, end.within, is.count_is))))

  whole : walk.preemptions ≡ p → to_come w p (choices old.path) ≡ walk.runner.history.entries ∷ ahead w p (callers_in new.path.forks.items)
  whole all =
      run_ends w p walk is old.refused new.refused old.path new.path end ended
      ∙ ap (λ (b : Bool). cond b (walk.runner.history.entries ∷ []) [] ++ ahead w p (callers_in new.path.forks.items))
      (eq-eqb (p - preemptions w walk.runner.history.entries) 0 (omega (arith, all, is.count_is)))

  -- one of the pass
  pub looks_at : (f : Found) (more : Bool) → walk.preemptions ≡ p → Takes w limit seen walk.runner.history.entries f more → Looks w p limit seen old new f more
  looks_at f true all found =
      looks_by (seen ++ walk.runner.history.entries ∷ []) f found
      (append_assoc seen (walk.runner.history.entries ∷ []) (ahead w p (callers_in new.path.forks.items)) ∙ ap (λ (hs : List (List Entry)). seen ++ hs) (sym (whole all)))
  looks_at f false all full = record {
    full = full;
    next = walk.runner.history.entries;
    others = ahead w p (callers_in new.path.forks.items);
    all_are = ap (λ (hs : List (List Entry)). seen ++ hs) (whole all);
  }

pub looked_at : {E : Type 0} (given : Result Bool E) (w : World) (s : Sought) (pass : Pass) (lost : List Frame) (walk : Walk) (is : IsWalk w walk) (old new : Trail) (f mid g : Found)
    → (pass.losses ≡ 0 → IsWhole old.deal.part → IsPath w pass.preemptions old.refused old.path
    → EndsPath w pass.preemptions old.refused old.path new.refused new.path walk.runner.history.entries)
    → (IsWhole old.deal.part → IsEnded w walk.runner.history.entries) → walk.preemptions ≡ pass.preemptions
    → ((seen : List (List Entry)) → HasFound w s.limit seen f → HasFound w s.limit seen mid)
    → IfOk given (λ (more : Bool). s.until ≡ None → (seen : List (List Entry)) → HasFound w s.limit seen mid → Takes w s.limit seen walk.history g more)
    → IfOk given (λ (more : Bool). s.until ≡ None → pass.losses ≡ 0 → lost ≡ [] → IsWhole old.deal.part → IsPath w pass.preemptions old.refused old.path
    → (seen : List (List Entry)) → HasFound w s.limit seen f → Looks w pass.preemptions s.limit seen old new g more)
looked_at (Ok more) w s pass lost walk is old new f mid g end ended all same so = λ none no_losses no_frames whole paths seen found.
    looks_at w pass.preemptions s.limit walk is old new (end no_losses whole paths) (ended whole) seen g more all
    (subst (λ (h : List Entry). Takes w s.limit seen h g more) is.history_is (so none seen (same seen found)))
looked_at (Err e) w s pass lost walk is old new f mid g end ended all same so = so

-- ---- a world without losses

pub kin_none : (losses : Option ℕ) (w v : World) → losses ≡ None → IsKin w losses v → v ≡ w
kin_none losses w v none kin = subst (λ (o : Option ℕ). IsKin w o v) none kin

pub looked : {E : Type 0} (given : Result Bool E) (w v : World) (s : Sought) (pass : Pass) (lost : List Frame) (old new : Trail) (f g : Found)
    → (s.losses ≡ None → v ≡ w) → (IsKept old.path.forks.items → lost ≡ [])
    → IfOk given (λ (more : Bool). s.until ≡ None → pass.losses ≡ 0 → lost ≡ [] → IsWhole old.deal.part → IsPath v pass.preemptions old.refused old.path
    → (seen : List (List Entry)) → HasFound v s.limit seen f → Looks v pass.preemptions s.limit seen old new g more)
    → IfOk given (λ (more : Bool). IsPlain s → pass.losses ≡ 0 → IsWhole old.deal.part → IsPath w pass.preemptions old.refused old.path
    → (seen : List (List Entry)) → HasFound w s.limit seen f → Looks w pass.preemptions s.limit seen old new g more)
looked (Ok more) w v s pass lost old new f g world kept so = λ plain no_losses whole paths seen found.
    let same : v ≡ w = world plain.no_losses in
    subst (λ (u : World). Looks u pass.preemptions s.limit seen old new g more) same
    (so plain.no_end no_losses (kept (forks_kept w [] pass.preemptions old.refused old.path.forks.items paths.forks)) whole
    (subst (λ (u : World). IsPath u pass.preemptions old.refused old.path) (sym same) paths) seen (subst (λ (u : World). HasFound u s.limit seen f) (sym same) found))
looked (Err e) w v s pass lost old new f g world kept so = so

-- ---- passes

pub begins_pass : (w : World) (p limit : ℕ) (seen : List (List Entry)) (trail : Trail) (f : Found) → HasFound w limit seen f → seen ++ histories_with w p ≡ histories w p
    → trail.path.forks.items ≡ [] → trail.path.pending ≡ None → IsSearching w p limit seen trail f
begins_pass w p limit seen trail f found all forks pending = record {
  found = found;
  path = record {
    forks = subst (λ (fs : List Fork). AreForks w [] p trail.refused fs) (sym forks) tt;
    pending = subst (IsPending w (beginning w (callers_in trail.path.forks.items)) (left w p (callers_in trail.path.forks.items))) (sym pending) tt;
  };
  rest = ap (λ (cs : List ℕ). seen ++ to_come w p cs) none ∙ (ap (λ (hs : List (List Entry)). seen ++ hs) (sym (search_begins w p)) ∙ all);
  refusals = λ unrefused. ap (refused_to_come w p) none ∙ sym (refusals_begin w p);
}
  where
    none : choices trail.path ≡ []
    none =
        ap (λ (fs : List Fork). callers_in fs ++ option_to_list trail.path.pending) forks
        ∙ ap (λ (o : Option ℕ). option_to_list o) pending

pub begins_search : (w : World) (limit : ℕ) (trail : Trail) (f : Found) → HasFound w limit [] f → trail.path.forks.items ≡ [] → trail.path.pending ≡ None
    → IsSearching w 0 limit [] trail f
begins_search w limit trail f found forks pending = begins_pass w 0 limit [] trail f found (sym (first_pass w)) forks pending

-- the rest of a pass after a history
module _ (w : World) (p limit : ℕ) (seen : List (List Entry)) (old new : Trail) (f : Found) (searching : IsSearching w p limit seen old f) (g : Found)
    (on : LooksOn w p limit seen old new g) where
  all_are : on.seen_now ++ ahead w p (callers_in new.path.forks.items) ≡ histories w p
  all_are = on.rest ∙ searching.rest

  refusals_are : new.refused ≡ false → refused_ahead w p (callers_in new.path.forks.items) ≡ refuses_with w p
  refusals_are unrefused = on.refusals unrefused ∙ searching.refusals (on.no_refusal unrefused)

  pub searches_on : (next : Trail) → next.refused ≡ new.refused → TurnsTo w p new.refused new.path next.path → IsSearching w p limit on.seen_now next g
  searches_on next same turns = record {
    found = on.found;
    path = subst (λ (r : Bool). IsPath w p r next.path) (sym same) turns.path;
    rest = ap (λ (hs : List (List Entry)). on.seen_now ++ hs) (sym turns.to_come_is) ∙ all_are;
    refusals = λ unrefused. sym (turns.refusals_are (sym same ∙ unrefused)) ∙ refusals_are (sym same ∙ unrefused);
  }

  pub pass_is : IsFinished w p new.refused new.path → on.seen_now ≡ histories w p
  pass_is finished = sym (append-nil on.seen_now) ∙ (ap (λ (hs : List (List Entry)). on.seen_now ++ hs) (sym finished.nothing) ∙ all_are)

  pub next_pass_begins : (next : Trail) → IsFinished w p new.refused new.path → next.path.forks.items ≡ [] → next.path.pending ≡ None → IsSearching w (p + 1) limit on.seen_now next g
  next_pass_begins next finished forks pending =
      begins_pass w (p + 1) limit on.seen_now next g on.found
      (ap (λ (hs : List (List Entry)). hs ++ histories_with w (p + 1)) (pass_is finished) ∙ sym (next_pass w p)) forks pending

  pub last_is : (s : Sought) (pass : Pass) → pass.preemptions ≡ p → p ≤ s.preemptions → IsFinished w p new.refused new.path → IsLastPass s pass new.refused
      → histories w s.preemptions ≡ on.seen_now
  last_is s pass at le finished (inl unrefused) =
      last_pass w p s.preemptions (sym (refusals_are unrefused) ∙ finished.no_refusal unrefused) le ∙ sym (pass_is finished)
  last_is s pass at le finished (inr above) =
      let same : s.preemptions ≡ p = omega (arith, at, le, above) in ap (histories w) same ∙ sym (pass_is finished)

-- the search so far
pub record Explores (w : World) (s : Sought) (pass : Pass) (trail : Trail) (f : Found) : Type 0 where
  pub no_losses : pass.losses ≡ 0
  pub whole : IsWhole trail.deal.part
  pub seen : List (List Entry)
  pub searching : IsSearching w pass.preemptions s.limit seen trail f

-- ---- the result

pub exact_whole : (w : World) (q limit : ℕ) (seen : List (List Entry)) (f : Found) → HasFound w limit seen f → histories w q ≡ seen → IsExact w q limit f
exact_whole w q limit seen f found all = record {
  told_are = found.told_are ∙ ap (λ (hs : List (List Entry)). map (report_of w) (first_told w hs)) (sym taken);
  histories_are = found.histories_are ∙ ap (λ (hs : List (List Entry)). length hs) (sym taken);
  entries_are = found.entries_are ∙ ap entries_in (sym taken);
  whole_is = found.whole_is ∙ sym (ap (λ (hs : List (List Entry)). nat_le (length hs) limit) all ∙ le-leb (length seen) limit found.within);
}
  where
    taken : take limit (histories w q) ≡ seen
    taken = ap (take limit) all ∙ take_all limit seen found.within

take_front : (seen more : List (List Entry)) (n : ℕ) → length seen ≡ n → take n (seen ++ more) ≡ seen
take_front [] more zero e = refl
take_front [] more (suc n) e = absurd (omega (arith, e))
take_front (h ∷ seen) more zero e = absurd (omega (arith, e))
take_front (h ∷ seen) more (suc n) e = ap (λ (hs : List (List Entry)). h ∷ hs) (take_front seen more n (omega (arith, e)))

pub exact_cut : (w : World) (p q limit : ℕ) (seen all : List (List Entry)) (f : Found) → IsCut w limit seen all f → all ≡ histories w p → p ≤ q → IsExact w q limit f
exact_cut w p q limit seen all f cut is le =
    let more = histories_more w p q le in
    let whole : histories w q ≡ seen ++ (cut.next ∷ (cut.others ++ more.0)) =
    more.1 ∙ (ap (λ (hs : List (List Entry)). hs ++ more.0) (sym is ∙ cut.all_are) ∙ append_assoc seen (cut.next ∷ cut.others) more.0) in
    let taken : take limit (histories w q) ≡ seen = ap (take limit) whole ∙ take_front seen (cut.next ∷ (cut.others ++ more.0)) limit cut.full.at_limit in
    let longer : nat_le (length (histories w q)) limit ≡ false =
    above (length (histories w q)) limit
    (omega (arith, ap (λ (hs : List (List Entry)). length hs) whole, length-append seen (cut.next ∷ (cut.others ++ more.0)), cut.full.at_limit)) in record {
      told_are = cut.full.told_are ∙ ap (λ (hs : List (List Entry)). map (report_of w) (first_told w hs)) (sym taken);
      histories_are = cut.full.histories_are ∙ ap (λ (hs : List (List Entry)). length hs) (sym taken);
      entries_are = cut.full.entries_are ∙ ap entries_in (sym taken);
      whole_is = cut.full.whole_is ∙ sym longer;
    }
  where
    above : (a b : ℕ) → b < a → nat_le a b ≡ false
    above a b lt = grind (arith, nat_tests, lt)

-- ---- the steps of the search

pub looked_so : (w v : World) (s : Sought) (pass : Pass) (old new : Trail) (f g : Found) (more : Bool) (plain : IsPlain s) (state : Explores w s pass old f) → IsKin w s.losses v
    → (IsPlain s → pass.losses ≡ 0 → IsWhole old.deal.part → IsPath v pass.preemptions old.refused old.path → (seen : List (List Entry)) → HasFound v s.limit seen f
    → Looks v pass.preemptions s.limit seen old new g more)
    → Looks w pass.preemptions s.limit state.seen old new g more
looked_so w v s pass old new f g more plain state kin look =
    let same : v ≡ w = kin_none s.losses w v plain.no_losses kin in
    subst (λ (u : World). Looks u pass.preemptions s.limit state.seen old new g more) same
    (look plain state.no_losses state.whole (subst (λ (u : World). IsPath u pass.preemptions old.refused old.path) (sym same) state.searching.path) state.seen
    (subst (λ (u : World). HasFound u s.limit state.seen f) (sym same) state.searching.found))

pub explored_cut : (w : World) (s : Sought) (pass : Pass) (old new : Trail) (f g : Found) (more : Bool) (state : Explores w s pass old f)
    → Looks w pass.preemptions s.limit state.seen old new g more → more ≡ false → pass.preemptions ≤ s.preemptions → IsExact w s.preemptions s.limit g
explored_cut w s pass old new f g more state looks no_ le =
    exact_cut w pass.preemptions s.preemptions s.limit state.seen (state.seen ++ to_come w pass.preemptions (choices old.path)) g
    (subst (Looks w pass.preemptions s.limit state.seen old new g) no_ looks) state.searching.rest le

pub looked_on : (w : World) (s : Sought) (pass : Pass) (old new : Trail) (f g : Found) (more : Bool) (state : Explores w s pass old f)
    → Looks w pass.preemptions s.limit state.seen old new g more → more ≡ true → LooksOn w pass.preemptions s.limit state.seen old new g
looked_on w s pass old new f g more state looks yes_ = subst (Looks w pass.preemptions s.limit state.seen old new g) yes_ looks

-- what going back leaves
pub goes_back : (w : World) (p limit : ℕ) (seen : List (List Entry)) (old mid : Trail) (g : Found) (next : Path) (b : Bool) → LooksOn w p limit seen old mid g
    → ((v : World) (q : ℕ) (r : Bool) → AreForks v [] q r mid.path.forks.items → mid.path.pending ≡ None → length mid.path.forks.items < too_many
    → GoesBack v q r mid.path next b)
    → GoesBack w p mid.refused mid.path next b
goes_back w p limit seen old mid g next b on back = back w p mid.refused on.path.forks on.no_pending (omega (arith, on.short))

pub turned_back : (w : World) (p : ℕ) (r : Bool) (old new : Path) (b : Bool) → GoesBack w p r old new b → b ≡ true → TurnsTo w p r old new
turned_back w p r old new b back yes_ = subst (GoesBack w p r old new) yes_ back

pub finished_back : (w : World) (p : ℕ) (r : Bool) (old new : Path) (b : Bool) → GoesBack w p r old new b → b ≡ false → IsFinished w p r old
finished_back w p r old new b back no_ = subst (GoesBack w p r old new) no_ back

-- what is reported stays
pub record IsSameFound (old new : Found) : Type 0 where
  pub told : new.told.items ≡ old.told.items
  pub known : texts_in new.known.keys ≡ texts_in old.known.keys
  pub histories : new.histories ≡ old.histories
  pub entries : new.entries ≡ old.entries
  pub whole : new.whole ≡ old.whole

module _ (w : World) (s : Sought) (pass : Pass) (old mid : Trail) (f g h : Found) (state : Explores w s pass old f)
    (on : LooksOn w pass.preemptions s.limit state.seen old mid g) (part : mid.deal.part ≡ old.deal.part) (same : IsSameFound g h) where
  found_now : HasFound w s.limit on.seen_now h
  found_now = same_found w s.limit on.seen_now g h on.found same.told same.known same.histories same.entries same.whole

  pub explores_on : (next : Trail) → next.deal.part ≡ mid.deal.part → next.refused ≡ mid.refused → TurnsTo w pass.preemptions mid.refused mid.path next.path
      → Explores w s pass next h
  explores_on next part_stays refused turns =
      let searching = searches_on w pass.preemptions s.limit state.seen old mid f state.searching g on next refused turns in record {
        no_losses = state.no_losses;
        whole = subst IsWhole (sym (part_stays ∙ part)) state.whole;
        seen = on.seen_now;
        searching = record { found = found_now; path = searching.path; rest = searching.rest; refusals = searching.refusals };
      }

  pub explores_next : (next : Trail) (then_ : Pass) → next.deal.part ≡ mid.deal.part → next.path.forks.items ≡ [] → next.path.pending ≡ None
      → IsFinished w pass.preemptions mid.refused mid.path → NextPass s pass then_ → Explores w s then_ next h
  explores_next next then_ part_stays forks pending finished passes =
      let searching = next_pass_begins w pass.preemptions s.limit state.seen old mid f state.searching g on next finished forks pending in record {
        no_losses = passes.same_losses ∙ state.no_losses;
        whole = subst IsWhole (sym (part_stays ∙ part)) state.whole;
        seen = on.seen_now;
        searching = subst (λ (p : ℕ). IsSearching w p s.limit on.seen_now next h) (sym passes.one_more)
            (record { found = found_now; path = searching.path; rest = searching.rest; refusals = searching.refusals });
      }

  pub explored_all : pass.preemptions ≤ s.preemptions → IsFinished w pass.preemptions mid.refused mid.path → IsLastPass s pass mid.refused → IsExact w s.preemptions s.limit h
  explored_all le finished last =
      exact_whole w s.preemptions s.limit on.seen_now h found_now
      (last_is w pass.preemptions s.limit state.seen old mid f state.searching g on s pass refl le finished last)
