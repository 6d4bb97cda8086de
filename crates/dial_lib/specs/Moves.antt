-- What every task of this crate keeps.
use Rattle.std.proofs.Common.{◌≡◌, ℕ, Bool, true, false, List, [], Option, Some, None, if◌then◌else◌, refl, sym, subst, ap, ◌∙◌, rules}
use Rattle.net_base.specs.declared.names.Mode.{Mode}
use Rattle.net_base.specs.declared.reply.Reply.{Reply}
use Rattle.net_base.specs.declared.reply.Reply.TheVariants as reply
use Rattle.net_base.specs.Paths.{walk}
use Rattle.net_base.specs.Steps.{Ask, Names, Fid, Play, Asks, Ends, is_bound, uses, opens, bind, opened_fid, openable, is_accepted, reply_lines}
use Rattle.net_base.specs.declared.request.Request.{Request}
use Rattle.net_base.specs.declared.request.Request.TheVariants as request
use Rattle.script_task.specs.Fitting.{fits}
use Rattle.net_base.specs.Requests.{head, request_play, settled, settles, bound_after}
use Rattle.script_task.specs.Task.{Heads, MovesSo, follow, fits_play}
use Rattle.dial_lib.specs.Names.{bind_slots, unbind_slots}
use Rattle.dial_lib.specs.Openings.{Gave, Opens, Refuses, gave_open, path_range}
use Rattle.dial_lib.specs.Slots.{HaveSlots}

-- after a reply to its request, if it has one, a task stands for the rest of the play
abbrev pub MovesBy : (T : Type 0) → (T → Names → Option Request) → (T → Reply → T) → (ℕ → Names → T → Play → Type 0) → Type 0
MovesBy T asks after Stands =
    (h : ℕ) (names : Names) (t : T) (p : Play) (q : Request) (r : Reply)
    → Stands h names t p → asks t names ≡ Some q → fits_play p r ≡ true
    → Stands h (settles names (asks t names) r) (after t r) (follow p r)

pub moves_from : (T : Type 0) (asks : T → Names → Option Request) (after : T → Reply → T) (Stands : ℕ → Names → T → Play → Type 0)
    → MovesBy T asks after Stands → MovesSo T asks after Stands
moves_from T asks after Stands moves h names t p q r stands asked fit =
    subst (λ (o : Option Request). Stands h (settles names o r) (after t r) (follow p r)) asked (moves h names t p q r stands asked fit)

-- by a test, if it is so and if it isn't
pub by_test : (P : Bool → Play → Type 0) (b : Bool) (next refused : Play) → P true next → P false refused → P b (if b then next else refused)
by_test P true next refused yes_so no_so = yes_so
by_test P false next refused yes_so no_so = no_so

-- a branch of a test
pub chosen_play : (b : Bool) (p other : Play) (ask : Ask) → b ≡ true → head p ≡ Some ask → head (if b then p else other) ≡ Some ask
chosen_play true p other ask is heads = heads
chosen_play false p other ask is heads = absurd (search (rules, is))

-- a reply without lines
pub no_lines : (r : Reply) → is_accepted r ≡ false → reply_lines r ≡ []
no_lines (reply.Lines lines) is = absurd (search (rules, is))
no_lines r is = refl

-- Slots.

abbrev event_fits : Option Ask → Reply → Bool
event_fits None r = true
event_fits (Some ask) r = fits ask.event r

head_fits : (p : Play) (r : Reply) → fits_play p r ≡ event_fits (head p) r
head_fits (Asks a e next) r = refl
head_fits (Ends names) r = refl

-- plays with the same event have the same replies
pub fits_alike : (p other : Play) (r : Reply) → head p ≡ head other → fits_play p r ≡ true → fits_play other r ≡ true
fits_alike p other r same fit = head_fits other r ∙ ap (λ o. event_fits o r) (sym same) ∙ sym (head_fits p r) ∙ fit

opened_slots : (called : List ℕ) (names : Names) (m : Mode) (o : Option Fid) (r : Reply) → HaveSlots names → Gave m o r → HaveSlots (bound_after called names o)
opened_slots called names m o r slots (Opens made is mode slot opening) = subst (λ (f : Option Fid). HaveSlots (bound_after called names f)) (sym is) (bind_slots called made names slot slots)
opened_slots called names m o r slots (Refuses is opening) = subst (λ (f : Option Fid). HaveSlots (bound_after called names f)) (sym is) slots

open_slots : (h : ℕ) (names : Names) (called path : List ℕ) (m : Mode) (r : Reply) (b : Bool) → HaveSlots names
    → fits_play (if b then uses h called names else opens h path m (Ends names) (λ (f : Fid). Ends (bind called f names))) r ≡ true
    → HaveSlots (if b then names else bound_after called names (opened_fid m (openable (walk path) m) r))
open_slots h names called path m r true slots fit = slots
open_slots h names called path m r false slots fit = opened_slots called names m (opened_fid m (openable (walk path) m) r) r slots (gave_open path m (openable (walk path) m) r (path_range path m) fit)

-- names keep their slots
pub settle_slots : (h : ℕ) (names : Names) (q : Request) (r : Reply) → HaveSlots names → fits_play (request_play h names q) r ≡ true → HaveSlots (settled names q r)
settle_slots h names (request.Open called path m) r slots fit = open_slots h names called path m r (is_bound names called) slots fit
settle_slots h names (request.Close called) r slots fit = unbind_slots called names slots
settle_slots h names (request.Read called count) r slots fit = slots
settle_slots h names (request.Write called text) r slots fit = slots
settle_slots h names (request.Cs query) r slots fit = slots
settle_slots h names (request.Ls path) r slots fit = slots
settle_slots h names (request.Until moment) r slots fit = slots
settle_slots h names request.Refresh r slots fit = slots
settle_slots h names (request.Hear called count heard) r slots fit = slots
settle_slots h names (request.Wait called) r slots fit = slots
settle_slots h names (request.Unbound called) r slots fit = slots
settle_slots h names (request.Misuse called) r slots fit = slots

-- the names of a task keep their slots
pub heads_slots : (h : ℕ) (names : Names) (q : Request) (p : Play) (r : Reply) → HaveSlots names → Heads h names (Some q) p → fits_play p r ≡ true → HaveSlots (settled names q r)
heads_slots h names q p r slots heads fit = settle_slots h names q r slots (fits_alike p (request_play h names q) r (heads.1 ∙ sym heads.2) fit)
