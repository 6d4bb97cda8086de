-- The choices of a path: one more, one less, and what is to come after them.
use Rattle.std.proofs.Common.{◌≡◌, ℕ, zero, suc, ◌+◌, ◌-◌, ◌<◌, ◌≤◌, Bool, true, false, List, [], ◌∷◌, ◌++◌, length, Option, Some, None, refl, sym, ap, subst, ◌∙◌, length-append, get_or, arith}
use Rattle.std.specs.Prelude.{map, option_to_list}
use Rattle.std.proofs.lemmas.Bool.{false≢true}
use Rattle.std.proofs.lemmas.List.{map-append}
use Rattle.net_base.specs.declared.history.Entry.{Entry}
use Rattle.net_base.specs.declared.world.World.{World}
use Rattle.net_base.specs.Stamped.{In}
use Rattle.net_base.proofs.Shared.{length_map}
use Rattle.turn_orders.specs.Orders.{too_many}
use Rattle.turn_orders.specs.Paths.{IsFirst, IsLowest, IsNone, ahead, beginning, left, left_of, refused_ahead, refused_to_come, to_come}
use Rattle.turn_orders.specs.Preemptions.{cost}
use Rattle.turn_orders.specs.Turns.{comes, with_turn, with_turns}
use Rattle.turn_orders.proofs.Shared.{lowest_first, refusals_go_back, refusals_turn, search_goes_back, search_turns}
use Rattle.order_search.specs.declared.losses.Frame.{Frame}
use Rattle.order_search.specs.declared.path.Fork.{Fork}
use Rattle.order_search.specs.declared.path.Loss.{Loss}
use Rattle.order_search.specs.declared.path.Loss.TheVariants as loss
use Rattle.order_search.specs.declared.path.Path.{Path}
use Rattle.order_search.specs.Choices.{AreForks, IsFinished, IsFork, IsKept, IsNextChoice, IsPath, IsPending, KeepsToCome, NobodyFrom, TurnsTo, callers_in, choices, fork_kept}

-- ---- lists of choices

pub callers_push : (fs : List Fork) (f : Fork) → callers_in (fs ++ f ∷ []) ≡ callers_in fs ++ f.caller ∷ []
callers_push fs f = map-append (λ (g : Fork). g.caller) fs (f ∷ [])

pub forks_push : (w : World) (h : List Entry) (p : ℕ) (r : Bool) (fs : List Fork) (f : Fork) → AreForks w h p r fs
    → IsFork w (with_turns w h (callers_in fs)) (left_of w h p (callers_in fs)) r f → AreForks w h p r (fs ++ f ∷ [])
forks_push w h p r [] f are is = (is, tt)
forks_push w h p r (g ∷ fs) f are is = (are.0, forks_push w (with_turn w h g.caller) (p - cost w h g.caller) r fs f are.1 is)

pub forks_front : (w : World) (h : List Entry) (p : ℕ) (r : Bool) (fs gs : List Fork) → AreForks w h p r (fs ++ gs) → AreForks w h p r fs
forks_front w h p r [] gs are = tt
forks_front w h p r (f ∷ fs) gs are = (are.0, forks_front w (with_turn w h f.caller) (p - cost w h f.caller) r fs gs are.1)

pub forks_behind : (w : World) (h : List Entry) (p : ℕ) (r : Bool) (fs gs : List Fork) → AreForks w h p r (fs ++ gs)
    → AreForks w (with_turns w h (callers_in fs)) (left_of w h p (callers_in fs)) r gs
forks_behind w h p r [] gs are = are
forks_behind w h p r (f ∷ fs) gs are = forks_behind w (with_turn w h f.caller) (p - cost w h f.caller) r fs gs are.1

next_weaker : (w : World) (h : List Entry) (p : ℕ) (r s : Bool) (c : ℕ) (o : Option ℕ) → (s ≡ false → r ≡ false) → IsNextChoice w h p r c o → IsNextChoice w h p s c o
next_weaker w h p r s c None so is = (is.0, λ none. is.1 (so none))
next_weaker w h p r s c (Some d) so is = is

-- once a choice is refused, less is known
pub forks_weaker : (w : World) (h : List Entry) (p : ℕ) (r s : Bool) (fs : List Fork) → (s ≡ false → r ≡ false) → AreForks w h p r fs → AreForks w h p s fs
forks_weaker w h p r s [] so are = tt
forks_weaker w h p r s (f ∷ fs) so are = (
  record { there = are.0.there; paid = are.0.paid; kept = are.0.kept; next_is = next_weaker w h p r s f.caller f.next so are.0.next_is },
  forks_weaker w (with_turn w h f.caller) (p - cost w h f.caller) r s fs so are.1,
)

pub forks_kept : (w : World) (h : List Entry) (p : ℕ) (r : Bool) (fs : List Fork) → AreForks w h p r fs → IsKept fs
forks_kept w h p r [] are = tt
forks_kept w h p r (f ∷ fs) are = (are.0.kept, forks_kept w (with_turn w h f.caller) (p - cost w h f.caller) r fs are.1)

-- ---- going back

-- the choices that are left are those of a beginning, and what is to come after it is the same
pub record IsBack (w : World) (p : ℕ) (r : Bool) (initial now : Path) : Type 0 where
  pub forks : AreForks w [] p r now.forks.items
  pub pending : now.pending ≡ None
  pub short : length now.forks.items < too_many
  pub ahead_stays : ahead w p (callers_in initial.forks.items) ≡ ahead w p (callers_in now.forks.items)
  pub refusals_stay : r ≡ false → refused_ahead w p (callers_in initial.forks.items) ≡ refused_ahead w p (callers_in now.forks.items)

length_callers : (fs : List Fork) → length (callers_in fs) ≡ length fs
length_callers fs = length_map (λ (f : Fork). f.caller) fs

-- the last choice, and those before it
module _ (w : World) (p : ℕ) (r : Bool) (initial old : Path) (fs : List Fork) (f : Fork) (is : IsBack w p r initial old) (last : old.forks.items ≡ fs ++ f ∷ []) where
  whole : AreForks w [] p r (fs ++ f ∷ [])
  whole = subst (AreForks w [] p r) last is.forks

  pub rest : AreForks w [] p r fs
  rest = forks_front w [] p r fs (f ∷ []) whole

  pub this : IsFork w (beginning w (callers_in fs)) (left w p (callers_in fs)) r f
  this = (forks_behind w [] p r fs (f ∷ []) whole).0

  callers_are : callers_in old.forks.items ≡ callers_in fs ++ f.caller ∷ []
  callers_are = ap callers_in last ∙ callers_push fs f

  short : length (callers_in fs) < too_many
  short = omega (arith, is.short, ap (λ (gs : List Fork). length gs) last, length-append fs (f ∷ []), length_callers fs)

  next_as : (o : Option ℕ) → f.next ≡ o → IsNextChoice w (beginning w (callers_in fs)) (left w p (callers_in fs)) r f.caller o
  next_as o e = subst (IsNextChoice w (beginning w (callers_in fs)) (left w p (callers_in fs)) r f.caller) e this.next_is

  -- no other can come in its place
  pub goes_on : (now : Path) → now.forks.items ≡ fs → now.pending ≡ None → f.next ≡ None → IsBack w p r initial now
  goes_on now forks none no_next = record {
    forks = subst (AreForks w [] p r) (sym forks) rest;
    pending = none;
    short = omega (arith, short, length_callers fs, ap (λ (gs : List Fork). length gs) forks);
    ahead_stays =
        is.ahead_stays
        ∙ (ap (ahead w p) callers_are
        ∙ (search_goes_back w p (callers_in fs) f.caller short (next_as None no_next).0
        ∙ ap (λ (gs : List Fork). ahead w p (callers_in gs)) (sym forks)));
    refusals_stay = λ unrefused.
        is.refusals_stay unrefused
        ∙ (ap (refused_ahead w p) callers_are
        ∙ (refusals_go_back w p (callers_in fs) f.caller short ((next_as None no_next).1 unrefused)
        ∙ ap (λ (gs : List Fork). refused_ahead w p (callers_in gs)) (sym forks)));
  }

  choices_are : (now : Path) (d : ℕ) → now.forks.items ≡ fs → now.pending ≡ Some d → choices now ≡ callers_in fs ++ d ∷ []
  choices_are now d forks some =
      ap (λ (gs : List Fork). callers_in gs ++ option_to_list now.pending) forks
      ∙ ap (λ (o : Option ℕ). callers_in fs ++ option_to_list o) some

  -- another one comes
  pub turns : (now : Path) (d : ℕ) → now.forks.items ≡ fs → now.pending ≡ Some d → f.next ≡ Some d → TurnsTo w p r initial now
  turns now d forks some a_next =
      let found = next_as (Some d) a_next in record {
        path = record {
          forks = subst (AreForks w [] p r) (sym forks) rest;
          pending =
              subst (λ (gs : List Fork). IsPending w (beginning w (callers_in gs)) (left w p (callers_in gs)) now.pending) (sym forks)
              (subst (IsPending w (beginning w (callers_in fs)) (left w p (callers_in fs))) (sym some) (found.1.there, found.0));
        };
        to_come_is =
            is.ahead_stays
            ∙ (ap (ahead w p) callers_are
            ∙ (search_turns w p (callers_in fs) f.caller d short
            (lowest_first w (beginning w (callers_in fs)) (left w p (callers_in fs)) (f.caller + 1) d found.1)
            ∙ ap (to_come w p) (sym (choices_are now d forks some))));
        refusals_are = λ unrefused.
            is.refusals_stay unrefused
            ∙ (ap (refused_ahead w p) callers_are
            ∙ (refusals_turn w p (callers_in fs) f.caller d short found.1
            ∙ ap (refused_to_come w p) (sym (choices_are now d forks some))));
      }

pub begins_back : (w : World) (p : ℕ) (r : Bool) (path : Path) → AreForks w [] p r path.forks.items → path.pending ≡ None
    → length path.forks.items < too_many → IsBack w p r path path
begins_back w p r path are none short = record { forks = are; pending = none; short = short; ahead_stays = refl; refusals_stay = λ unrefused. refl }

pub ends_back : (w : World) (p : ℕ) (r : Bool) (initial now : Path) → IsBack w p r initial now → now.forks.items ≡ [] → IsFinished w p r initial
ends_back w p r initial now is none = record {
  nothing = is.ahead_stays ∙ ap (λ (gs : List Fork). ahead w p (callers_in gs)) none;
  no_refusal = λ unrefused. is.refusals_stay unrefused ∙ ap (λ (gs : List Fork). refused_ahead w p (callers_in gs)) none;
}

-- ---- a choice that loses no frame

abbrev is_kept : Loss → Bool
is_kept loss.Kept = true
is_kept _ = false

pub not_open : {A : Type 0} (f : Fork) (frame : Frame) → f.loss ≡ loss.Kept → f.loss ≡ loss.Open frame → A
not_open f frame kept is = absurd (false≢true (ap is_kept (sym is ∙ kept)))

pub not_lost : {A : Type 0} (f : Fork) (frame : Frame) → f.loss ≡ loss.Kept → f.loss ≡ loss.Lost frame → A
not_lost f frame kept is = absurd (false≢true (ap is_kept (sym is ∙ kept)))

pub kept_at : (fs : List Fork) (n : ℕ) (d : Fork) → IsKept fs → d.loss ≡ loss.Kept → (get_or fs n d).loss ≡ loss.Kept
kept_at [] n d are is = is
kept_at (f ∷ fs) zero d are is = are.0
kept_at (f ∷ fs) (suc n) d are is = kept_at fs n d are.1 is

pub none_lost : {A : Type 0} (fs gs : List Fork) (n : ℕ) (frame : Frame) → gs ≡ fs → IsKept fs → (get_or gs n (fork_kept 0 None)).loss ≡ loss.Lost frame → A
none_lost fs gs n frame same are is = not_lost (get_or gs n (fork_kept 0 None)) frame (kept_at gs n (fork_kept 0 None) (subst IsKept (sym same) are) refl) is
