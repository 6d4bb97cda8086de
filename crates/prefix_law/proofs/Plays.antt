-- Entries of plays and of steps: one entry more, fewer entries, and how many steps are finished.
use Rattle.std.proofs.Common.{◌≡◌, ℕ, zero, suc, ◌+◌, ◌-◌, ◌<◌, nat_lt, Bool, true, false, List, [], ◌∷◌, ◌++◌, length, map, take, Some, ◌⊎◌, inl, inr, refl, sym, ap, subst, ◌∙◌, arith, append_assoc, append-nil}
use Rattle.std.proofs.lemmas.Bool.{ltb-true, ltb-false}
use Rattle.std.proofs.lemmas.List.{map-append, take-append-le}
use Rattle.std.proofs.lemmas.Option.{none-some, same_Some}
use Rattle.std.proofs.Math.Seq.{take-append-add}
use Rattle.net_base.specs.declared.actor.ActorName.{ActorName}
use Rattle.net_base.specs.declared.event.Event.{Event}
use Rattle.net_base.specs.declared.history.Entry.{Entry}
use Rattle.net_base.specs.declared.reply.Reply.{Reply}
use Rattle.net_base.specs.declared.world.Script.{Script}
use Rattle.net_base.specs.declared.world.Step.{Step}
use Rattle.net_base.specs.Legal.{asked_by}
use Rattle.net_base.specs.Scripts.{Kept, heard_replies, kept_after, position, step_play}
use Rattle.net_base.specs.Steps.{Ask, Names, Play, Asks, Ends, Position, Stand, Asking, Finished, position_by, stands}
use Rattle.prefix_law.specs.Order.{Begins, Finishes, IsPlayRecorded, StandInOrder}
use Rattle.net_base.specs.Versions.{Tuples}
use Rattle.prefix_law.specs.Scripted.{scripted}

abbrev pub replies : List Entry → List Reply
replies xs = map (λ (x : Entry). x.reply) xs

-- Plays.

-- a play that isn't over asks
pub begins_asks : (p : Play) (xs : List Entry) → Begins p xs → (ask : Ask) × (stands p (replies xs) ≡ Asking ask)
begins_asks (Ends names) xs first = absurd first
begins_asks (Asks a e next) [] first = (record { actor = a; event = e }, refl)
begins_asks (Asks a e next) (x ∷ xs) first = begins_asks (next x.reply) xs first.1

pub played_finishes : (p : Play) (xs : List Entry) (bound : Names) (rs : List Reply) → IsPlayRecorded p xs bound → stands p (replies xs ++ rs) ≡ Finished bound rs
played_finishes (Ends names) [] bound rs played = ap (λ (ns : Names). Finished ns rs) played
played_finishes (Ends names) (x ∷ xs) bound rs played = absurd played
played_finishes (Asks a e next) [] bound rs played = absurd played
played_finishes (Asks a e next) (x ∷ xs) bound rs played = played_finishes (next x.reply) xs bound rs played.1

played_heard : (p : Play) (xs : List Entry) (bound : Names) (rs : List Reply) → IsPlayRecorded p xs bound → heard_replies p (replies xs ++ rs) ≡ replies xs
played_heard (Ends names) [] bound rs played = refl
played_heard (Ends names) (x ∷ xs) bound rs played = absurd played
played_heard (Asks a e next) [] bound rs played = absurd played
played_heard (Asks a e next) (x ∷ xs) bound rs played = ap (λ (ys : List Reply). x.reply ∷ ys) (played_heard (next x.reply) xs bound rs played.1)

-- the play isn't over after these entries, or it is
abbrev Goes : Play → List Entry → Type 0
Goes p xs = Begins p xs ⊎ ((bound : Names) × IsPlayRecorded p xs bound)

no_entry : (p : Play) → Goes p []
no_entry (Ends names) = inr (names, refl)
no_entry (Asks a e next) = inl tt

one_before : (a : ActorName) (e : Event) (next : Reply → Play) (x : Entry) (xs : List Entry)
    → asked_by x ≡ record { actor = a; event = e } → Goes (next x.reply) xs → Goes (Asks a e next) (x ∷ xs)
one_before a e next x xs asked (inl first) = inl (asked, first)
one_before a e next x xs asked (inr over) = inr (over.0, (asked, over.1))

abbrev ask_in : Stand → Ask → Ask
ask_in (Asking ask) other = ask
ask_in (Finished bound rs) other = other

play_push : (p : Play) (xs : List Entry) (x : Entry) → Begins p xs → stands p (replies xs) ≡ Asking (asked_by x) → Goes p (xs ++ x ∷ [])
play_push (Ends names) xs x first is = absurd first
play_push (Asks a e next) [] x first is =
    one_before a e next x [] (sym (ap (λ (s : Stand). ask_in s (asked_by x)) is)) (no_entry (next x.reply))
play_push (Asks a e next) (y ∷ ys) x first is =
    one_before a e next y (ys ++ x ∷ []) first.0 (play_push (next y.reply) ys x first.1 is)

begins_take : (p : Play) (xs : List Entry) (k : ℕ) → Begins p xs → Begins p (take k xs)
begins_take (Ends names) xs k first = absurd first
begins_take (Asks a e next) [] zero first = tt
begins_take (Asks a e next) [] (suc k) first = tt
begins_take (Asks a e next) (x ∷ xs) zero first = tt
begins_take (Asks a e next) (x ∷ xs) (suc k) first = (first.0, begins_take (next x.reply) xs k first.1)

played_take : (p : Play) (xs : List Entry) (bound : Names) (k : ℕ) → k < length xs → IsPlayRecorded p xs bound → Begins p (take k xs)
played_take (Ends names) [] bound k lt played = absurd (omega (arith, lt))
played_take (Ends names) (x ∷ xs) bound k lt played = absurd played
played_take (Asks a e next) [] bound k lt played = absurd played
played_take (Asks a e next) (x ∷ xs) bound zero lt played = tt
played_take (Asks a e next) (x ∷ xs) bound (suc k) lt played = (played.0, played_take (next x.reply) xs bound k (omega (arith, lt)) played.1)

-- Steps.

-- the entries stand in order, some of the steps finished
abbrev pub Stood : Tuples → Script → Kept → List Step → List Entry → Type 0
Stood zone sc k ss xs = (n : ℕ) × StandInOrder (scripted zone sc) k ss n xs

pub none_stood : (zone : Tuples) (sc : Script) (k : Kept) (ss : List Step) → Stood zone sc k ss []
none_stood zone sc k [] = (0, (refl, refl))
none_stood zone sc k (s ∷ ss) = by (no_entry (step_play sc.host k s)) (λ bound. none_stood zone sc (kept_after k s bound []) ss)
  where
    by : Goes (step_play sc.host k s) [] → ((bound : Names) → Stood zone sc (kept_after k s bound []) ss []) → Stood zone sc k (s ∷ ss) []
    by (inl first) later = (0, first)
    by (inr over) later =
        let rest = later over.0 in
        (suc rest.0, record { own = []; rest = []; bound = over.0; all = refl; played = over.1; later = rest.1 })

position_at : (zone : Tuples) (sc : Script) (k : Kept) (s : Step) (ss : List Step) (rs : List Reply) (at : Stand) → stands (step_play sc.host k s) rs ≡ at
    → position sc.host (s ∷ ss) k rs ≡ position_by at (s ∷ ss) (λ (bound : Names) (later : List Reply). position sc.host ss (kept_after k s bound (heard_replies (step_play sc.host k s) rs)) later)
position_at zone sc k s ss rs at is = ap (λ (stand : Stand). position_by stand (s ∷ ss) (λ (bound : Names) (later : List Reply). position sc.host ss (kept_after k s bound (heard_replies (step_play sc.host k s) rs)) later)) is

-- where a step is finished, the later steps go on by the other replies
pub goes_on : (zone : Tuples) (sc : Script) (k : Kept) (s : Step) (ss : List Step) (n : ℕ) (xs : List Entry)
    → (f : Finishes (step_play sc.host k s) (λ bound own rest. StandInOrder (scripted zone sc) (kept_after k s bound (replies own)) ss n rest) xs) → position sc.host (s ∷ ss) k (replies xs) ≡ position sc.host ss (kept_after k s f.bound (replies f.own)) (replies f.rest)
goes_on zone sc k s ss n xs f =
    position_at zone sc k s ss (replies xs) (Finished f.bound (replies f.rest)) finished
    ∙ ap (λ (rs : List Reply). position sc.host ss (kept_after k s f.bound rs) (replies f.rest)) heard_own
  where
    heard_own : heard_replies (step_play sc.host k s) (replies xs) ≡ replies f.own
    heard_own =
        ap (λ (ys : List Entry). heard_replies (step_play sc.host k s) (replies ys)) f.all
        ∙ (ap (λ (rs : List Reply). heard_replies (step_play sc.host k s) rs) (map-append (λ (x : Entry). x.reply) f.own f.rest)
        ∙ played_heard (step_play sc.host k s) f.own f.bound (replies f.rest) f.played)

    finished : stands (step_play sc.host k s) (replies xs) ≡ Finished f.bound (replies f.rest)
    finished =
        ap (λ (ys : List Entry). stands (step_play sc.host k s) (replies ys)) f.all
        ∙ (ap (λ (rs : List Reply). stands (step_play sc.host k s) rs) (map-append (λ (x : Entry). x.reply) f.own f.rest)
        ∙ played_finishes (step_play sc.host k s) f.own f.bound (replies f.rest) f.played)

pub stood_push : (zone : Tuples) (sc : Script) (k : Kept) (ss : List Step) (n : ℕ) (xs : List Entry) (x : Entry)
    → StandInOrder (scripted zone sc) k ss n xs → (position sc.host ss k (replies xs)).next ≡ Some (asked_by x) → Stood zone sc k ss (xs ++ x ∷ [])
stood_push zone sc k [] n xs x there is = absurd (none-some (asked_by x) is)
stood_push zone sc k (s ∷ ss) zero xs x first is = by (play_push (step_play sc.host k s) xs x first asks)
  where
    asking : (ask : Ask) × (stands (step_play sc.host k s) (replies xs) ≡ Asking ask)
    asking = begins_asks (step_play sc.host k s) xs first

    asks : stands (step_play sc.host k s) (replies xs) ≡ Asking (asked_by x)
    asks =
        asking.1
        ∙ ap (λ (ask : Ask). Asking ask)
        (same_Some asking.0 (asked_by x) (sym (ap (λ (p : Position). p.next) (position_at zone sc k s ss (replies xs) (Asking asking.0) asking.1)) ∙ is))

    by : Goes (step_play sc.host k s) (xs ++ x ∷ []) → Stood zone sc k (s ∷ ss) (xs ++ x ∷ [])
    by (inl more) = (0, more)
    by (inr over) =
        let rest = none_stood zone sc (kept_after k s over.0 (replies (xs ++ x ∷ []))) ss in
        (suc rest.0, record { own = xs ++ x ∷ []; rest = []; bound = over.0; all = sym (append-nil (xs ++ x ∷ [])); played = over.1; later = rest.1 })
stood_push zone sc k (s ∷ ss) (suc n) xs x f is =
    let rest = stood_push zone sc (kept_after k s f.bound (replies f.own)) ss n f.rest x f.later (sym (ap (λ (p : Position). p.next) (goes_on zone sc k s ss n xs f)) ∙ is) in (
      suc rest.0,
      record {
        own = f.own;
        rest = f.rest ++ x ∷ [];
        bound = f.bound;
        all = ap (λ (ys : List Entry). ys ++ x ∷ []) f.all ∙ append_assoc f.own f.rest (x ∷ []);
        played = f.played;
        later = rest.1;
      },
    )

-- the steps that aren't finished are left
pub counted : (zone : Tuples) (sc : Script) (k : Kept) (ss : List Step) (n : ℕ) (xs : List Entry)
    → StandInOrder (scripted zone sc) k ss n xs → length (position sc.host ss k (replies xs)).left + n ≡ length ss
counted zone sc k [] n xs there = omega (arith, there.0)
counted zone sc k (s ∷ ss) zero xs first =
    let asking = begins_asks (step_play sc.host k s) xs first in
    let left : length (position sc.host (s ∷ ss) k (replies xs)).left ≡ length (s ∷ ss) =
    ap (λ (p : Position). length p.left) (position_at zone sc k s ss (replies xs) (Asking asking.0) asking.1) in
    omega (arith, left)
counted zone sc k (s ∷ ss) (suc n) xs f =
    let rest = counted zone sc (kept_after k s f.bound (replies f.own)) ss n f.rest f.later in
    let left : length (position sc.host (s ∷ ss) k (replies xs)).left ≡ length (position sc.host ss (kept_after k s f.bound (replies f.own)) (replies f.rest)).left =
    ap (λ (p : Position). length p.left) (goes_on zone sc k s ss n xs f) in
    omega (arith, rest, left)

-- the first entries stand in order too
pub stood_take : (zone : Tuples) (sc : Script) (k : Kept) (ss : List Step) (n : ℕ) (xs : List Entry) (many : ℕ) → StandInOrder (scripted zone sc) k ss n xs → Stood zone sc k ss (take many xs)
stood_take zone sc k [] n xs many there = (0, (refl, ap (λ (ys : List Entry). take many ys) there.1 ∙ of_none many))
  where
    of_none : (j : ℕ) → take {A = Entry} j [] ≡ []
    of_none zero = refl
    of_none (suc j) = refl
stood_take zone sc k (s ∷ ss) zero xs many first = (0, begins_take (step_play sc.host k s) xs many first)
stood_take zone sc k (s ∷ ss) (suc n) xs many f = by (nat_lt many (length f.own)) refl (λ j. stood_take zone sc (kept_after k s f.bound (replies f.own)) ss n f.rest j f.later)
  where
    cut : take many xs ≡ take many (f.own ++ f.rest)
    cut = ap (λ (ys : List Entry). take many ys) f.all

    by : (b : Bool) → nat_lt many (length f.own) ≡ b → ((j : ℕ) → Stood zone sc (kept_after k s f.bound (replies f.own)) ss (take j f.rest)) → Stood zone sc k (s ∷ ss) (take many xs)
    by true is later =
        let lt = ltb-true many (length f.own) is in (
          0,
          subst (Begins (step_play sc.host k s)) (sym (cut ∙ take-append-le many f.own f.rest (omega (arith, lt))))
              (played_take (step_play sc.host k s) f.own f.bound many lt f.played),
        )
    by false is later =
        let le = ltb-false many (length f.own) is in
        let rest = later (many - length f.own) in
        let far : many ≡ length f.own + (many - length f.own) = omega (arith, le) in (
          suc rest.0,
          record {
            own = f.own;
            rest = take (many - length f.own) f.rest;
            bound = f.bound;
            all = cut ∙ (ap (λ (j : ℕ). take j (f.own ++ f.rest)) far ∙ take-append-add f.own f.rest (many - length f.own));
            played = f.played;
            later = rest.1;
          },
        )
