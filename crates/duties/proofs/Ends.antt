-- A conversation that ends in an event is of the event's generation.
use Rattle.std.proofs.Common.{◌≡◌, ℕ, suc, ◌+◌, ◌==◌, Bool, true, false, ◌&&◌, Option, Some, None, if◌then◌else◌, refl, sym, ap, subst, ◌∙◌, arith}
use Rattle.std.specs.Prelude.{IfSome}
use Rattle.std.specs.Option.{option_map}
use Rattle.std.proofs.lemmas.Bool.{true≢false}
use Rattle.std.proofs.lemmas.Bool.Decides.{nat_tests}
use Rattle.std.proofs.lemmas.Option.{none-some, same_Some}
use Rattle.net_base.specs.declared.actor.ActorName.{ActorName}
use Rattle.net_base.specs.declared.actor.ActorName.TheVariants as name
use Rattle.net_base.specs.declared.address.Proto.{Proto}
use Rattle.net_base.specs.declared.event.Event.{Event}
use Rattle.net_base.specs.declared.history.With.{With}
use Rattle.net_base.specs.declared.history.Work.{Work}
use Rattle.net_base.specs.declared.world.World.{World}
use Rattle.net_base.specs.ActorStep.{Step, when}
use Rattle.net_base.specs.Actors.{Actor, IsConv, table_step}
use Rattle.net_base.specs.Conversation.{Conv, conv_step, core_name, is_closed_name, is_over}
use Rattle.net_base.specs.Duties.{release}
use Rattle.duties.specs.Releasing.{release_of, released}
use Rattle.history_laws.specs.ConvRows.{ConvRow, generation_in}
use Rattle.history_laws.specs.ConvRows as row
use Rattle.history_laws.proofs.Shared.{conv_rows, map_some}

-- where it ended, this is its generation
abbrev EndsIn : Option ℕ → Step Conv → Type 0
EndsIn g s = s.outcome.ended ≡ true → g ≡ Some s.state.generation

-- where nothing changes it doesn't end
never : (b : Bool) → (if b then false else b) ≡ true → ⊥
never true ended = absurd (true≢false (sym ended))
never false ended = absurd (true≢false (sym ended))

-- with an open file it doesn't end
still_open : (b x : Bool) (n : ℕ) → (if b then false else (x && (suc n + 1 == 0))) ≡ true → ⊥
still_open true x n ended = absurd (true≢false (sym ended))
still_open false x n ended =
    let open_files : (suc n + 1 == 0) ≡ false = grind (arith, nat_tests) in
    absurd (true≢false (sym ended ∙ (ap (λ (y : Bool). x && y) open_files ∙ and_false x)))
  where
    and_false : (x : Bool) → (x && false) ≡ false
    and_false true = refl
    and_false false = refl

row_ends : (slot now : ℕ) (c : Conv) (e : Event) (with : With) (s : Step Conv) → ConvRow slot now c e with s → EndsIn (generation_in e) s
row_ends slot now c e with s (row.Stale names old) = λ ended. absurd (never (is_over c) ended)
row_ends slot now c e with s (row.OpensNot none) = λ ended. absurd (never (is_over c) ended)
row_ends slot now c e with s (row.Opens {n = n} some) = λ ended. absurd (still_open (is_over c) (is_closed_name (core_name c.core)) n ended)
row_ends slot now c e with s row.ListsNot = λ ended. absurd (never (is_over c) ended)
row_ends slot now c e with s row.Lists = λ ended. absurd (never (is_over c) ended)
row_ends slot now c e with s _ = λ ended. refl

ends : (slot : ℕ) (e : Event) (with : With) (now : ℕ) (c : Conv) → IfSome (conv_step slot e with now c) (EndsIn (generation_in e))
ends slot e with now c = map_some (conv_step slot e with now c) _ _ (conv_rows slot now c e with) (row_ends slot now c e with)

-- What it owes then.

-- what is given where the work is of the kind that is asked for
pub given_when : {A : Type 0} (b : Bool) (o : Option A) (x : A) → when b o ≡ Some x → o ≡ Some x
given_when true o x is = is
given_when false o x is = absurd (none-some x is)

release_by : (h : ℕ) (p : Proto) (n s : ℕ) (e : Event) (c : Conv) (ended : Bool) → (ended ≡ true → generation_in e ≡ Some c.generation)
    → release (name.Conv h p n) s (IsConv c) ended ≡ released (name.Conv h p n) s e ended
release_by h p n s e c true own = sym (ap (λ (g : Option ℕ). release_of h p n s g) (own refl))
release_by h p n s e c false own = refl

release_after : (h : ℕ) (p : Proto) (n s : ℕ) (e : Event) (o : Option (Step Conv)) (step : Step Actor) → IfSome o (EndsIn (generation_in e))
    → option_map (λ (t : Step Conv). record { state = IsConv t.state; outcome = t.outcome }) o ≡ Some step
    → release (name.Conv h p n) s step.state step.outcome.ended ≡ released (name.Conv h p n) s e step.outcome.ended
release_after h p n s e None step ends is = absurd (none-some step is)
release_after h p n s e (Some t) step ends is =
    subst (λ (u : Step Actor). release (name.Conv h p n) s u.state u.outcome.ended ≡ released (name.Conv h p n) s e u.outcome.ended)
    (same_Some _ step is) (release_by h p n s e t.state t.outcome.ended ends)

-- an actor's step owes the release of the generation that its event names
pub release_is : (w : World) (a : ActorName) (s : ℕ) (before : Actor) (now : ℕ) (work : Work) (step : Step Actor) → table_step w a before now work ≡ Some step
    → release a s step.state step.outcome.ended ≡ released a s work.event step.outcome.ended
release_is w (name.Conv h p n) s (IsConv c) now work step is =
    release_after h p n s work.event (conv_step n work.event work.with now c) step (ends n work.event work.with now c) is
release_is w (name.Conv h p n) s _ now work step is = absurd (none-some step is)
release_is w _ s _ now work step is = refl
