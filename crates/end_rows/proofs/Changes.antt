-- Rows of ends, where a run follows a history.
use Rattle.std.proofs.Common.{◌≡◌, ℕ, suc, ◌+◌, ◌<◌, ◌≤◌, ◌&&◌, Bool, true, List, [], ◌∷◌, ◌++◌, length, take, drop, get_or, Option, Some, None, Result, OnOk, slice_get, refl, sym, ap, subst, ◌∙◌, append_assoc, arith, nat_lt}
use Rattle.std.proofs.lemmas.Result.{on_ok_weaker}
use Rattle.std.proofs.lemmas.List.{append-nil, drop_more, take_more}
use Rattle.net_base.specs.declared.actor.ActorName.{ActorName}
use Rattle.net_base.specs.declared.actor.ActorName.TheVariants as name
use Rattle.net_base.specs.declared.history.Entry.{Entry}
use Rattle.net_base.specs.declared.history.With.{With}
use Rattle.net_base.specs.declared.history.With.TheVariants as given
use Rattle.net_base.specs.declared.world.World.{World}
use Rattle.net_base.specs.Actors.{Actor, has_actor}
use Rattle.net_base.specs.Duties.{Duty, due_of}
use Rattle.net_base.specs.Net.{Net, after, next_net, opening_net, owed, with_of}
use Rattle.net_base.proofs.Shared.{past_all}
use Rattle.history_laws.proofs.Shared.{after_push}
use Rattle.net_actors.specs.Together.{AreActors, Numbered, has_name}
use Rattle.plain_runner.specs.Callers.{IsCallerKept}
use Rattle.plain_runner.specs.Followed.{Followed, FollowsRun}
use Rattle.plain_runner.specs.declared.caller.Caller.{Caller}
use Rattle.plain_runner.specs.declared.runner.Runner.{Runner}
use Rattle.end_rows.specs.declared.ends.EndName.{EndName}
use Rattle.end_rows.specs.Ends.{CountedEnds, end_named, ends_with}
use Rattle.end_rows.specs.EndRows.{change_text, end_rows, end_rows_from, ends_after, ends_by, row_by, row_of, shown_end}
use Rattle.end_rows.specs.Following.{AddsRow, AddsRowIn}

-- What a cause gives.

with_first : (ds : List Duty) (d : Duty) → slice_get ds 0 ≡ Some d → with_of ds ≡ d.with
with_first [] d is = absurd (none_some d is)
  where
    none_some : (d : Duty) → None ≡ Some d → ⊥
    none_some d is = cc
with_first (e ∷ ds) d is = ap (λ (x : Duty). x.with) (some_is e d is)
  where
    some_is : (e d : Duty) → Some e ≡ Some d → e ≡ d
    some_is e d is = cc

with_none : (ds : List Duty) → slice_get ds 0 ≡ None → with_of ds ≡ given.Nothing
with_none [] is = refl
with_none (e ∷ ds) is = absurd (some_none e is)
  where
    some_none : (d : Duty) → Some d ≡ None → ⊥
    some_none d is = cc

-- the ends after an entry, by what its cause gives
pub taken_first : (e : EndName) (x : Entry) (ds owes : List Duty) (d : Duty) (old new : CountedEnds) → ds ≡ owes → slice_get ds 0 ≡ Some d
    → new ≡ ends_with e x d.with old → new ≡ ends_with e x (with_of owes) old
taken_first e x ds owes d old new same is more = more ∙ ap (λ (g : With). ends_with e x g old) (sym (with_first ds d is) ∙ ap with_of same)

pub taken_none : (e : EndName) (x : Entry) (ds owes : List Duty) (old new : CountedEnds) → ds ≡ owes → slice_get ds 0 ≡ None
    → new ≡ ends_with e x given.Nothing old → new ≡ ends_with e x (with_of owes) old
taken_none e x ds owes old new same is more = more ∙ ap (λ (g : With). ends_with e x g old) (sym (with_none ds is) ∙ ap with_of same)

pub given_first : {T E : Type 0} (r : Result T E) (e : EndName) (x : Entry) (k : Caller) (d : Duty) (old new : CountedEnds) → slice_get k.owed.list 0 ≡ Some d
    → OnOk r (new ≡ ends_with e x d.with old)
    → OnOk r ((w : World) (h : List Entry) (c : ℕ) → IsCallerKept w h c k → new ≡ ends_with e x (with_of (owed w h c)) old)
given_first r e x k d old new first is =
    on_ok_weaker r
    (λ (more : new ≡ ends_with e x d.with old). λ (w : World) (h : List Entry) (c : ℕ) (kept : IsCallerKept w h c k).
    taken_first e x k.owed.list (owed w h c) d old new kept.owes first more)
    is

pub given_none : {T E : Type 0} (r : Result T E) (e : EndName) (x : Entry) (k : Caller) (old new : CountedEnds) → slice_get k.owed.list 0 ≡ None
    → OnOk r (new ≡ ends_with e x given.Nothing old)
    → OnOk r ((w : World) (h : List Entry) (c : ℕ) → IsCallerKept w h c k → new ≡ ends_with e x (with_of (owed w h c)) old)
given_none r e x k old new first is =
    on_ok_weaker r
    (λ (more : new ≡ ends_with e x given.Nothing old). λ (w : World) (h : List Entry) (c : ℕ) (kept : IsCallerKept w h c k).
    taken_none e x k.owed.list (owed w h c) old new kept.owes first more)
    is

-- The actors of a run.

named_by : (w : World) (v : Numbered) (a : ActorName) → v.hosts ≡ length w.hosts → v.media ≡ length w.media → has_actor w a ≡ true → has_name v a ≡ true
named_by w v (name.Desk h) hosts media has = ap (λ (k : ℕ). nat_lt h k) hosts ∙ has
named_by w v (name.Dir h p) hosts media has = ap (λ (k : ℕ). nat_lt h k) hosts ∙ has
named_by w v (name.Conv h p n) hosts media has = ap (λ (k : ℕ). nat_lt h k && nat_lt n 32) hosts ∙ has
named_by w v (name.Medium m) hosts media has = ap (λ (k : ℕ). nat_lt m k) media ∙ has
named_by w v name.Clock hosts media has = refl

-- the actor of an entry that may come next is one of the run's, and its caller is, too
pub has_it : (w : World) (r : Runner) (x : Entry) → FollowsRun w r x → has_name r.net x.actor ≡ true
has_it w r x f = named_by w r.net x.actor f.tracks.are.hosts_are f.tracks.are.media_are f.may.is_known.0

pub has_it_then : (w : World) (h : List Entry) (old new : Runner) (x : Entry) → FollowsRun w old x → Followed w h new → has_name new.net x.actor ≡ true
has_it_then w h old new x f after = named_by w new.net x.actor after.tracks.are.hosts_are after.tracks.are.media_are f.may.is_known.0

pub has_caller : (w : World) (r : Runner) (x : Entry) → FollowsRun w r x → x.caller < length r.callers.items
has_caller w r x f = omega (arith, f.may.is_known.1, f.tracks.callers_are.count)

-- The row of an entry.

pub row_is : (w : World) (past : List Entry) (now : Net) (x : Entry) (e : EndName) (ends later : CountedEnds) (s : ℕ) (due due2 : Option ℕ)
    (before behind out new : List ℕ)
    → end_named x.actor ≡ Some e → now ≡ next_net w (after w past) x → due ≡ due_of ((after w past).actors x.actor) → due2 ≡ due_of (now.actors x.actor)
    → later ≡ ends_with e x (with_of (owed w past x.caller)) ends → before ≡ shown_end ends e due → behind ≡ shown_end later e due2
    → new ≡ out ++ change_text s e before behind → new ≡ out ++ row_of w (after w past) ends s x
row_is w past now x e ends later s due due2 before behind out new named now_is due_is due2_is later_is before_is behind_is is =
    let net : Net = after w past in
    let with_e : CountedEnds = ends_with e x (with_of (net.owed x.caller)) ends in
    let first : before ≡ shown_end ends e (due_of (net.actors x.actor)) = before_is ∙ ap (λ (d : Option ℕ). shown_end ends e d) due_is in
    let second : behind ≡ shown_end with_e e (due_of ((next_net w net x).actors x.actor)) =
    behind_is
    ∙ ap (λ (d : Option ℕ). shown_end later e d) (due2_is ∙ ap (λ (m : Net). due_of (m.actors x.actor)) now_is)
    ∙ ap (λ (l : CountedEnds). shown_end l e (due_of ((next_net w net x).actors x.actor))) later_is in
    is
    ∙ ap (λ (b : List ℕ). out ++ change_text s e b behind) first
    ∙ ap (λ (b : List ℕ). out ++ change_text s e (shown_end ends e (due_of (net.actors x.actor))) b) second
    ∙ ap (λ (o : Option EndName). out ++ row_by net (next_net w net x) ends (ends_by net ends x o) s x o) (sym named)

pub ends_are : (w : World) (past : List Entry) (x : Entry) (e : EndName) (ends later : CountedEnds) → end_named x.actor ≡ Some e
    → later ≡ ends_with e x (with_of (owed w past x.caller)) ends → later ≡ ends_after (after w past) ends x
ends_are w past x e ends later named is = is ∙ ap (λ (o : Option EndName). ends_by (after w past) ends x o) (sym named)

-- an entry of another actor has no row
pub other_row : (w : World) (old new : Runner) (x : Entry) (ends : CountedEnds) (s : ℕ) (out : List ℕ) → end_named x.actor ≡ None
    → Followed w (old.history.entries ++ x ∷ []) new → AddsRowIn w old new ends ends s x out out
other_row w old new x ends s out none followed =
    let net : Net = after w old.history.entries in record {
      followed = followed;
      ends_are = ap (λ (o : Option EndName). ends_by net ends x o) (sym none);
      row = sym (append-nil out) ∙ ap (λ (o : Option EndName). out ++ row_by net (next_net w net x) ends (ends_by net ends x o) s x o) (sym none);
    }

-- The loop.

-- what a run has written so far, and what is still to write
pub record Written (w : World) (h : List Entry) (s : ℕ) (r : Runner) (ends : CountedEnds) (out all : List ℕ) : Type 0 where
  pub followed : Followed w (take s h) r
  pub rest : out ++ end_rows_from w (after w (take s h)) ends s (drop s h) ≡ all

pub written_none : (w : World) (h : List Entry) (r : Runner) (ends : CountedEnds) (out : List ℕ) → Followed w [] r → ends ≡ []
    → Written w h 0 r ends out (out ++ end_rows w h)
written_none w h r ends out followed none = record {
  followed = followed;
  rest = ap (λ (l : CountedEnds). out ++ end_rows_from w (opening_net w) l 0 h) none;
}

pub written_more : (w : World) (h : List Entry) (s : ℕ) (x : Entry) (old new : Runner) (ends later : CountedEnds) (out more all : List ℕ) → s < length h
    → x ≡ get_or h s x → Written w h s old ends out all → AddsRowIn w old new ends later s x out more → Written w h (s + 1) new later more all
written_more w h s x old new ends later out more all lt at before adds =
    let past_is = before.followed.history_is in
    let taken : take s h ++ x ∷ [] ≡ take (s + 1) h = ap (λ (y : Entry). take s h ++ y ∷ []) at ∙ sym (take_more h s x lt) in
    let dropped : drop s h ≡ x ∷ drop (s + 1) h = drop_more h s x lt ∙ ap (λ (y : Entry). y ∷ drop (s + 1) h) (sym at) in
    let net : Net = after w (take s h) in
    let grown : after w (take (s + 1) h) ≡ next_net w net x = ap (after w) (sym taken) ∙ after_push w (take s h) x in
    let row_is : more ≡ out ++ row_of w net ends s x = adds.row ∙ ap (λ (p : List Entry). out ++ row_of w (after w p) ends s x) past_is in
    let ends_is : later ≡ ends_after net ends x = adds.ends_are ∙ ap (λ (p : List Entry). ends_after (after w p) ends x) past_is in record {
      followed = record {
        tracks = adds.followed.tracks;
        history_is = adds.followed.history_is ∙ ap (λ (p : List Entry). p ++ x ∷ []) past_is ∙ taken;
      };
      rest =
          ap (λ (m : Net). more ++ end_rows_from w m later (s + 1) (drop (s + 1) h)) grown
          ∙ ap (λ (l : CountedEnds). more ++ end_rows_from w (next_net w net x) l (s + 1) (drop (s + 1) h)) ends_is
          ∙ ap (λ (o : List ℕ). o ++ end_rows_from w (next_net w net x) (ends_after net ends x) (s + 1) (drop (s + 1) h)) row_is
          ∙ append_assoc out (row_of w net ends s x) (end_rows_from w (next_net w net x) (ends_after net ends x) (s + 1) (drop (s + 1) h))
          ∙ ap (λ (ys : List Entry). out ++ end_rows_from w net ends s ys) (sym dropped)
          ∙ before.rest;
    }

pub written_all : (w : World) (h items : List Entry) (s : ℕ) (r : Runner) (ends : CountedEnds) (front out : List ℕ) → items ≡ h → length items ≤ s
    → Written w items s r ends out (front ++ end_rows w items) → out ≡ front ++ end_rows w h
written_all w h items s r ends front out same past all =
    sym (append-nil out)
    ∙ ap (λ (ys : List Entry). out ++ end_rows_from w (after w (take s items)) ends s ys) (sym (past_all items s past))
    ∙ all.rest
    ∙ ap (λ (ys : List Entry). front ++ end_rows w ys) same

-- The row of an end.

pub end_added : {T E : Type 0} (r : Result T E) (old new : Runner) (x : Entry) (e : EndName) (k : Caller) (ends later : CountedEnds) (s : ℕ) (due due2 : Option ℕ)
    (before behind out more : List ℕ)
    → end_named x.actor ≡ Some e
    → ((w : World) → FollowsRun w old x → Followed w (old.history.entries ++ x ∷ []) new)
    → ((w : World) (states : ActorName → Actor) → AreActors w old.net states → due ≡ due_of (states x.actor))
    → ((w : World) (states : ActorName → Actor) → AreActors w new.net states → due2 ≡ due_of (states x.actor))
    → ((w : World) (h : List Entry) (c : ℕ) → IsCallerKept w h c k → later ≡ ends_with e x (with_of (owed w h c)) ends)
    → slice_get old.callers.items x.caller ≡ Some k → before ≡ shown_end ends e due → behind ≡ shown_end later e due2
    → OnOk r (more ≡ out ++ change_text s e before behind) → OnOk r (AddsRow old new ends later s x out more)
end_added r old new x e k ends later s due due2 before behind out more named follows dues dues2 given caller before_is behind_is is =
    on_ok_weaker r
    (λ (row : more ≡ out ++ change_text s e before behind). λ (w : World) (f : FollowsRun w old x).
    let past : List Entry = old.history.entries in
    let followed : Followed w (past ++ x ∷ []) new = follows w f in
    let later_is : later ≡ ends_with e x (with_of (owed w past x.caller)) ends = given w past x.caller (f.tracks.callers_are.each x.caller k caller) in
    let now_is : after w new.history.entries ≡ next_net w (after w past) x = ap (after w) followed.history_is ∙ after_push w past x in
    record {
      followed = followed;
      ends_are = ends_are w past x e ends later named later_is;
      row = row_is w past (after w new.history.entries) x e ends later s due due2 before behind out more named now_is
          (dues w (after w past).actors f.tracks.are) (dues2 w (after w new.history.entries).actors followed.tracks.are) later_is before_is behind_is row;
    })
    is
