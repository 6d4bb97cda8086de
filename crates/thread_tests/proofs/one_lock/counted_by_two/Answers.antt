use Rattle.std.proofs.Common.{◌≡◌, ℕ, ◌<◌, List, [], ◌∷◌, ◌++◌, true, map, filter, not, inl, refl, ap, sym, subst, ◌∙◌, rules}
use Rattle.net_base.specs.declared.actor.ActorName.{ActorName}
use Rattle.net_base.specs.declared.actor.ActorName.TheVariants as name
use Rattle.net_base.specs.declared.noted.Noted.{Noted}
use Rattle.net_base.specs.declared.noted.Number.TheVariants as number
use Rattle.net_base.specs.Stamped.{same_actor, In}
use Rattle.journal.specs.Rule.{Held, caller_numbers, same_number}
use Rattle.journal.specs.declared.tokens.Volume.{Volume}
use Rattle.journal.specs.Tokens.{HoldsPass, AreBlank}
use Rattle.locked.proofs.Shared.{below_two, only_blank}
use Rattle.thread_tests.proofs.one_lock.counted_by_two.Goals as goal
use Rattle.net_base.proofs.Shared.{in_front, in_back, same_actor_is}

pub join-one-requires-after_bounds : goal.join-one-requires-after_bounds
join-one-requires-after_bounds g c =
    let made = c.in_ok-journal.ensures in
    let split = c.split_pass-two.ensures in
    let all : c.in_ok-journal.one.held ≡ caller_numbers 2 = made.held ∙ ap caller_numbers c.requires.callers in
    let mine : c.split_pass-two.new.pass.held ≡ (number.Caller 0, []) ∷ [] = split.kept.1 ∙ ap (filter (λ (h : Held). not (same_number h.0 (number.Caller 1)))) all in
    let theirs : c.split_pass-two.result.held ≡ (number.Caller 1, []) ∷ [] = split.given.1 ∙ ap (filter (λ (h : Held). same_number h.0 (number.Caller 1))) all in
    let blank = subst (λ (as' : List ActorName). AreBlank 0 as' c.in_ok-journal.books.items) c.requires.actors made.books in
    let actor : c.new-desk.result.actor ≡ name.Desk 0 = c.new-desk.ensures.actor ∙ only_blank 0 (name.Desk 0) c.pop.new.self.items c.in-Some.book (subst (λ (bs : List Volume). AreBlank 0 (name.Desk 0 ∷ []) bs) c.in-Some.ensures.items blank) in
    let one : HoldsPass c.split_pass-two.new.pass 0 [] = subst (λ (hs : List Held). In (number.Caller 0, []) hs) (sym mine) (inl refl) in
    let one_seen : c.split_pass-two.new.pass.seen ≡ [] = split.kept.0 ∙ made.seen in
    let two : HoldsPass c.split_pass-two.result 1 [] = subst (λ (hs : List Held). In (number.Caller 1, []) hs) (sym theirs) (inl refl) in
    let two_seen : c.split_pass-two.result.seen ≡ [] = split.given.0 ∙ made.seen in
    search (one, one_seen, two, two_seen, actor)

pub close-requires-clause-actors : goal.close-requires-clause-actors
close-requires-clause-actors g c =
    let book : Volume = c.into_parts-machine.result.1 in
    let items : c.push.new.self.items ≡ book ∷ [] = c.in_ok-push.ensures.items ∙ ap (λ (bs : List Volume). bs ++ book ∷ []) c.new-books.ensures.items in
    let same : same_actor book.actor (name.Desk 0) ≡ true = search rules in
    ap (map (λ (b : Volume). b.actor)) items ∙ (ap (λ (a : ActorName). a ∷ []) (same_actor_is book.actor (name.Desk 0) same) ∙ sym c.requires.actors)

pub room-requires : goal.room-requires
room-requires g c =
    let f = c.join-one.ensures.first in
    (f.0, subst (λ (hs : List Held). In (number.Caller 0, f.0) hs) (sym (c.look.ensures.held ∙ c.meet.ensures.held)) (in_front _ _ _ f.1))

pub room-requires-2 : goal.room-requires-2
room-requires-2 g c =
    let f = c.join-one.ensures.second in
    (f.0, subst (λ (hs : List Held). In (number.Caller 1, f.0) hs) (sym (c.look.ensures.held ∙ c.meet.ensures.held)) (in_back _ _ _ f.1))

pub close-requires-clause-callers : goal.close-requires-clause-callers
close-requires-clause-callers g c k lt =
    let f = c.join-one.ensures.first in
    let s = c.join-one.ensures.second in
    let held = c.look.ensures.held ∙ c.meet.ensures.held in
    below_two (λ q. (es : List (ℕ × Noted)) × HoldsPass c.look.new.pass q es)
    (f.0, subst (λ (hs : List Held). In (number.Caller 0, f.0) hs) (sym held) (in_front _ _ _ f.1))
    (s.0, subst (λ (hs : List Held). In (number.Caller 1, s.0) hs) (sym held) (in_back _ _ _ s.1))
    k (subst (λ (n : ℕ). k < n) c.requires.callers lt)
