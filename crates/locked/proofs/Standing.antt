-- A machine and its book stay together over one entry more, and what the call that made it says.
use Rattle.std.proofs.Common.{◌≡◌, ℕ, List, [], ◌∷◌, ◌++◌, map, refl, ap, sym, subst, ◌∙◌}
use Rattle.std.specs.Prelude.{Option, Some}
use Rattle.net_base.specs.declared.actor.ActorName.{ActorName}
use Rattle.net_base.specs.declared.history.Entry.{Entry}
use Rattle.net_base.specs.declared.history.Outcome.{Outcome}
use Rattle.net_base.specs.declared.history.Work.{Work}
use Rattle.net_base.specs.declared.noted.Noted.{Noted}
use Rattle.net_base.specs.ActorStep.{Step}
use Rattle.net_base.specs.Stamped.{matches, clock, moment_noted}
use Rattle.journal.specs.Rule.{gain}
use Rattle.journal.specs.declared.law.Roster.{Roster}
use Rattle.journal.specs.declared.tokens.Sight.{Sight}
use Rattle.journal.specs.declared.tokens.Volume.{Volume}
use Rattle.journal.specs.Tokens.{noted_work, RecordedInBook}
use Rattle.locked.specs.Acts.{left_by, act_without_copy, made, state, Keeps, Replays, Stands, IsDone}

module _ {S : Type 0} (begin : ActorName → S) (answer : S → ℕ → Work → Option (Step S)) where
  state-snoc : (s : S) (xs : List (ℕ × Noted)) (y : ℕ × Noted)
      → state begin answer s (xs ++ y ∷ []) ≡ left_by (state begin answer s xs) (answer (state begin answer s xs) y.1.entry.moment y.1.work)
  state-snoc s [] y = refl
  state-snoc s (x ∷ xs) y = state-snoc (left_by s (answer s x.1.entry.moment x.1.work)) xs y

  replays-snoc : (s : S) (xs : List (ℕ × Noted)) (y : ℕ × Noted) → Replays begin answer s xs → Keeps begin answer (state begin answer s xs) y.1 → Replays begin answer s (xs ++ y ∷ [])
  replays-snoc s [] y r k = (k, tt)
  replays-snoc s (x ∷ xs) y r k = (r.0, replays-snoc (left_by s (answer s x.1.entry.moment x.1.work)) xs y r.1 k)

  pub stands_same : (m : S) (b b' : Volume) → Stands begin answer m b → b'.actor ≡ b.actor → b'.list ≡ b.list → Stands begin answer m b'
  stands_same m b b' s actor list = record {
    state_is = s.state_is ∙ (ap (state begin answer (begin b.actor)) (sym list) ∙ ap (λ a. state begin answer (begin a) b'.list) (sym actor));
    replays = subst (λ (a : ActorName). Replays begin answer (begin a) b'.list) (sym actor) (subst (λ l. Replays begin answer (begin b.actor) l) (sym list) s.replays);
  }

  -- the call's entry
  module _ (r : Roster) (c now : ℕ) (work : Work) (cites : Option ℕ) (p p' : Sight) (b b' : Volume) (m m' : S) (o out : Outcome) (e : Entry) (n : ℕ)
      (stands : Stands begin answer m b) (ready : answer m now work ≡ Some record { state = m'; outcome = o }) (entry : e ≡ (made b.actor c now work cites o).entry)
      (d : RecordedInBook r b p (noted_work e work) n b' p') where
    whole_entry : noted_work e work ≡ made b.actor c now work cites o
    whole_entry = ap (λ (z : Entry). noted_work z work) entry

    pub stands_after : Stands begin answer m' b'
    stands_after =
        let x : Noted = made b.actor c now work cites o in
        let there : S = state begin answer (begin b.actor) b.list in
        let keeps : Keeps begin answer m x = record { step = record { state = m'; outcome = o }; ready = ready; event = refl; reply = refl; emits = refl; ended = refl } in
        let list : b'.list ≡ b.list ++ (n, x) ∷ [] = d.book_list ∙ ap (λ (z : Noted). b.list ++ (n, z) ∷ []) whole_entry in
        let up : m' ≡ left_by m (answer m now work) = sym (ap (λ (t : Option (Step S)). left_by m t) ready) in
        record {
          state_is = up ∙ ap (λ z. left_by z (answer z now work)) stands.state_is ∙ sym (state-snoc (begin b.actor) b.list (n, x))
              ∙ ap (state begin answer (begin b.actor)) (sym list) ∙ ap (λ a. state begin answer (begin a) b'.list) (sym d.book_actor.0);
          replays = subst (λ (a : ActorName). Replays begin answer (begin a) b'.list) (sym d.book_actor.0)
              (subst (λ l. Replays begin answer (begin b.actor) l) (sym list)
              (replays-snoc (begin b.actor) b.list (n, x) stands.replays (subst (λ z. Keeps begin answer z x) stands.state_is keeps)));
        }

    pub is_done : out ≡ act_without_copy o → now ≡ moment_noted p.seen → IsDone begin answer r b.actor c now work cites p n out p'
    is_done given here =
        let same : noted_work e work ≡ made b.actor c now work cites out = whole_entry ∙ ap (made b.actor c now work cites) (sym given) in
        record {
          past = d.past;
          stamp_is = d.stamp_is;
          before = d.pass_before;
          seen = d.seen ∙ ap (λ (z : Noted). d.past ++ z ∷ []) same;
          held = d.held ∙ ap (λ (z : Noted). map (gain n z) p.held) same;
          lists = d.lists;
          step = record { state = m'; outcome = o };
          ready = ap (λ l. answer (state begin answer (begin b.actor) l) now work) d.actor_list ∙ (ap (λ s. answer s now work) (sym stands.state_is) ∙ ready);
          outcome = given;
          moment_is = d.moment_is ∙ sym here;
          moment_kept = λ other. d.moment_kept (ap (matches clock) whole_entry ∙ other);
          whole = d.whole;
          lawful = d.lawful;
        }
