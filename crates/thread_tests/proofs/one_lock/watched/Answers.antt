use Rattle.std.proofs.Common.{◌≡◌, ℕ, ◌<◌, List, [], ◌∷◌, ◌++◌, filter, inl, inr, refl, ap, sym, subst, arith, ◌∙◌}
use Rattle.net_base.specs.declared.actor.ActorName.{ActorName}
use Rattle.net_base.specs.declared.actor.ActorName.TheVariants as name
use Rattle.net_base.specs.declared.noted.Noted.{Noted}
use Rattle.net_base.specs.declared.noted.Number.TheVariants as number
use Rattle.net_base.specs.Stamped.{moment_noted, In}
use Rattle.journal.specs.Rule.{Held, caller_numbers, same_number}
use Rattle.journal.specs.declared.tokens.Volume.{Volume}
use Rattle.journal.specs.Tokens.{HoldsPass, AreBlank}
use Rattle.locked.proofs.Shared.{first_blank, below_one}
use Rattle.thread_tests.proofs.one_lock.watched.Goals as goal

pub act_once-told-requires-clause-held : goal.act_once-told-requires-clause-held
act_once-told-requires-clause-held g c =
    let given = c.split_pass-pass.ensures.given in
    let all : c.in_ok-journal.idle.held ≡ caller_numbers 1 = c.in_ok-journal.ensures.held ∙ ap caller_numbers c.requires.callers in
    let mine : c.split_pass-pass.result.held ≡ (number.Caller 0, []) ∷ [] = given.1 ∙ ap (filter (λ (h : Held). same_number h.0 (number.Caller 0))) all in
    let own = subst (λ (hs : List Held). In (number.Caller 0, []) hs) (sym mine) (inl refl) in
    ([], subst (λ (n : ℕ). HoldsPass c.split_pass-pass.result n []) (sym c.asked_by.ensures.caller) own, omega arith)

pub act_once-told-requires-clause-moment : goal.act_once-told-requires-clause-moment
act_once-told-requires-clause-moment g c = ap moment_noted (c.split_pass-pass.ensures.given.0 ∙ c.in_ok-journal.ensures.seen)

pub act_once-told-requires-clause-actor : goal.act_once-told-requires-clause-actor
act_once-told-requires-clause-actor g c =
    let blank = subst (λ (as' : List ActorName). AreBlank 0 as' c.in_ok-journal.books.items) c.requires.actors c.in_ok-journal.ensures.books in
    let items = c.in-Some-Some.ensures.items ∙ ap (λ (bs : List Volume). bs ++ c.in-Some-Some.second ∷ []) c.in-Some-Some.ensures'.items in
    c.new-desk.ensures.actor ∙ first_blank 0 (name.Desk 0) name.Clock c.pop-2.new.self.items c.in-Some-Some.first c.in-Some-Some.second (subst (λ (bs : List Volume). AreBlank 0 (name.Desk 0 ∷ name.Clock ∷ []) bs) items blank)

pub act_once-told-requires-2-clause-actor : goal.act_once-told-requires-2-clause-actor
act_once-told-requires-2-clause-actor g c =
    let blank = subst (λ (as' : List ActorName). AreBlank 0 as' c.in_ok-journal.books.items) c.requires.actors c.in_ok-journal.ensures.books in
    let items = c.in-Some-Some.ensures.items ∙ ap (λ (bs : List Volume). bs ++ c.in-Some-Some.second ∷ []) c.in-Some-Some.ensures'.items in
    c.new-desk.ensures.actor ∙ first_blank 0 (name.Desk 0) name.Clock c.pop-2.new.self.items c.in-Some-Some.first c.in-Some-Some.second (subst (λ (bs : List Volume). AreBlank 0 (name.Desk 0 ∷ name.Clock ∷ []) bs) items blank)

pub act_once-told-requires-3-clause-actor : goal.act_once-told-requires-3-clause-actor
act_once-told-requires-3-clause-actor g c =
    let blank = subst (λ (as' : List ActorName). AreBlank 0 as' c.in_ok-journal.books.items) c.requires.actors c.in_ok-journal.ensures.books in
    let items = c.in-Some-Some.ensures.items ∙ ap (λ (bs : List Volume). bs ++ c.in-Some-Some.second ∷ []) c.in-Some-Some.ensures'.items in
    c.new-desk.ensures.actor ∙ first_blank 0 (name.Desk 0) name.Clock c.pop-2.new.self.items c.in-Some-Some.first c.in-Some-Some.second (subst (λ (bs : List Volume). AreBlank 0 (name.Desk 0 ∷ name.Clock ∷ []) bs) items blank)

pub act-moved-requires-clause-timely : goal.act-moved-requires-clause-timely
act-moved-requires-clause-timely g c =
    let h = c.act_once-told-3.ensures.held in
    let own = subst (λ (n : ℕ). HoldsPass c.act_once-told-3.result.1 n h.0) c.asked_by-3.ensures.caller h.1 in
    inr (λ k lt. below_one (λ q. (es : List (ℕ × Noted)) × HoldsPass c.act_once-told-3.result.1 q es) (h.0, own) k (subst (λ (n : ℕ). k < n) c.requires.callers lt))
