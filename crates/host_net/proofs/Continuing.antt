-- A script's own entries, and what comes next in its place.
use Rattle.std.proofs.Common.{◌≡◌, ℕ, ◌+◌, ◌==◌, Bool, true, false, List, [], ◌∷◌, ◌++◌, map, filter, Option, Some, None, is_none}
use Rattle.std.proofs.Common.{if◌then◌else◌, refl, ap, sym, ◌∙◌}
use Rattle.std.proofs.lemmas.List.{append-nil}
use Rattle.net_base.specs.declared.actor.ActorName.{ActorName}
use Rattle.net_base.specs.declared.history.Entry.{Entry}
use Rattle.net_base.specs.declared.history.Work.{Work}
use Rattle.net_base.specs.declared.noted.Noted.{Noted}
use Rattle.net_base.specs.declared.noted.Number.{Number}
use Rattle.net_base.specs.declared.noted.Number.TheVariants as number
use Rattle.net_base.specs.declared.reply.Reply.{Reply}
use Rattle.net_base.specs.declared.world.Script.{Script}
use Rattle.net_base.specs.declared.world.World.{World}
use Rattle.net_base.specs.ActorStep.{Step}
use Rattle.net_base.specs.Actors.{Actor, actor_step, opening_actor}
use Rattle.net_base.specs.Callers.{Caller, IsScript, caller_of}
use Rattle.net_base.specs.Net as nets
use Rattle.net_base.specs.Net.{played, stepped_to}
use Rattle.net_base.specs.Next.{next_by, next_of_by, own_replies, place_next, zone_of}
use Rattle.net_base.specs.Stamped.{at, at_from, matches}
use Rattle.net_base.specs.Tasks.{Tasks}
use Rattle.locked.specs.Acts.{state, state_at}
use Rattle.script_task.specs.Fitting.{fits}
use Rattle.net_locks.specs.Named.{Named, answer_in, named, named_opening}
use Rattle.net_locks.specs.Works.{entries, noted_net}
use Rattle.net_base.proofs.Shared.{number_itself}
use Rattle.net_locks.proofs.Shared.{named_left}

-- The own entries.

abbrev replies_of : List (ℕ × Noted) → List Reply
replies_of [] = []
replies_of (x ∷ xs) = if is_none x.1.entry.cites then x.1.entry.reply ∷ replies_of xs else replies_of xs

one_reply : (x : Entry) (xs : List Entry) (rs : List Reply) (b d : Bool)
    → map (λ (e : Entry). e.reply) (filter (λ (e : Entry). is_none e.cites) xs) ≡ rs
    → is_none x.cites ≡ d
    → map (λ (e : Entry). e.reply) (filter (λ (e : Entry). is_none e.cites) (if b then x ∷ xs else xs))
    ≡ (if b then (if d then x.reply ∷ rs else rs) else rs)
one_reply x xs rs false d rec is = rec
one_reply x xs rs true true rec is =
    ap (λ (b : Bool). map (λ (e : Entry). e.reply)
    (if b then x ∷ filter (λ (e : Entry). is_none e.cites) xs else filter (λ (e : Entry). is_none e.cites) xs)) is
    ∙ ap (λ (l : List Reply). x.reply ∷ l) rec
one_reply x xs rs true false rec is =
    ap (λ (b : Bool). map (λ (e : Entry). e.reply)
    (if b then x ∷ filter (λ (e : Entry). is_none e.cites) xs else filter (λ (e : Entry). is_none e.cites) xs)) is
    ∙ rec

if_list : (n : ℕ) (x : Noted) (xs : List (ℕ × Noted)) (b : Bool)
    → (if b then (if is_none x.entry.cites then x.entry.reply ∷ replies_of xs else replies_of xs) else replies_of xs)
    ≡ replies_of (if b then (n, x) ∷ xs else xs)
if_list n x xs true = refl
if_list n x xs false = refl

own_from : (c n : ℕ) (log : List Noted) → own_replies (entries log) c ≡ replies_of (at_from (number.Caller c) n log)
own_from c n [] = refl
own_from c n (x ∷ xs) =
    one_reply x.entry (filter (λ (e : Entry). e.caller == c) (entries xs)) (replies_of (at_from (number.Caller c) (n + 1) xs)) (x.entry.caller == c)
    (is_none x.entry.cites)
    (own_from c (n + 1) xs) refl
    ∙ if_list n x (at_from (number.Caller c) (n + 1) xs) (x.entry.caller == c)

-- a script's replies are those of its own entries
own_at : (c : ℕ) (log : List Noted) → own_replies (entries log) c ≡ replies_of (at (number.Caller c) log)
own_at c log = own_from c 0 log

-- where its own entries stay, so do they
pub own_stays : (c : ℕ) (a b : List Noted) → at (number.Caller c) b ≡ at (number.Caller c) a → own_replies (entries b) c ≡ own_replies (entries a) c
own_stays c a b same = own_at c b ∙ (ap replies_of same ∙ sym (own_at c a))

at_from-push : (k : Number) (n : ℕ) (xs : List Noted) (x : Noted) → matches k x ≡ true → (m : ℕ) × (at_from k n (xs ++ x ∷ []) ≡ at_from k n xs ++ (m, x) ∷ [])
at_from-push k n [] x is = (n, ap (λ (b : Bool). if b then (n, x) ∷ [] else []) is)
at_from-push k n (y ∷ ys) x is = by_first (matches k y) (at_from-push k (n + 1) ys x is)
  where
    by_first : (b : Bool) → (m : ℕ) × (at_from k (n + 1) (ys ++ x ∷ []) ≡ at_from k (n + 1) ys ++ (m, x) ∷ [])
        → (m : ℕ) × ((if b then (n, y) ∷ at_from k (n + 1) (ys ++ x ∷ []) else at_from k (n + 1) (ys ++ x ∷ []))
        ≡ (if b then (n, y) ∷ at_from k (n + 1) ys else at_from k (n + 1) ys) ++ (m, x) ∷ [])
    by_first true rec = (rec.0, ap (λ (l : List (ℕ × Noted)). (n, y) ∷ l) rec.1)
    by_first false rec = rec

-- an entry of the caller more
pub own_push : (c : ℕ) (log : List Noted) (x : Noted) → x.entry.caller ≡ c
    → (m : ℕ) × (at (number.Caller c) (log ++ x ∷ []) ≡ at (number.Caller c) log ++ (m, x) ∷ [])
own_push c log x is = at_from-push (number.Caller c) 0 log x (ap (λ (d : ℕ). d == c) is ∙ number_itself c)

replies_push : (xs : List (ℕ × Noted)) (x : ℕ × Noted) → replies_of (xs ++ x ∷ []) ≡ replies_of xs ++ replies_of (x ∷ [])
replies_push [] x = refl
replies_push (y ∷ ys) x = by_first (is_none y.1.entry.cites) (replies_push ys x)
  where
    by_first : (b : Bool) → replies_of (ys ++ x ∷ []) ≡ replies_of ys ++ replies_of (x ∷ [])
        → (if b then y.1.entry.reply ∷ replies_of (ys ++ x ∷ []) else replies_of (ys ++ x ∷ []))
        ≡ (if b then y.1.entry.reply ∷ replies_of ys else replies_of ys) ++ replies_of (x ∷ [])
    by_first true rec = ap (λ (l : List Reply). y.1.entry.reply ∷ l) rec
    by_first false rec = rec

append_nothing : {A : Type 0} (xs : List A) → xs ++ [] ≡ xs
append_nothing xs = append-nil xs

-- a duty is none of them
pub duty_replies : (c stamp : ℕ) (log : List Noted) (x : Noted) → x.entry.caller ≡ c → x.entry.cites ≡ Some stamp
    → own_replies (entries (log ++ x ∷ [])) c ≡ own_replies (entries log) c
duty_replies c stamp log x is cites =
    let push = own_push c log x is in
    own_at c (log ++ x ∷ []) ∙ (ap replies_of push.1 ∙ (replies_push (at (number.Caller c) log) (push.0, x)
    ∙ (ap (λ (o : Option ℕ). replies_of (at (number.Caller c) log) ++ (if is_none o then x.entry.reply ∷ [] else [])) cites
    ∙ (append_nothing (replies_of (at (number.Caller c) log)) ∙ sym (own_at c log)))))

-- another entry is
pub own_reply : (c : ℕ) (log : List Noted) (x : Noted) → x.entry.caller ≡ c → x.entry.cites ≡ None
    → own_replies (entries (log ++ x ∷ [])) c ≡ own_replies (entries log) c ++ x.entry.reply ∷ []
own_reply c log x is cites =
    let push = own_push c log x is in
    own_at c (log ++ x ∷ []) ∙ (ap replies_of push.1 ∙ (replies_push (at (number.Caller c) log) (push.0, x)
    ∙ (ap (λ (o : Option ℕ). replies_of (at (number.Caller c) log) ++ (if is_none o then x.entry.reply ∷ [] else [])) cites
    ∙ ap (λ (l : List Reply). l ++ x.entry.reply ∷ []) (sym (own_at c log)))))

-- An actor is the fold of its works, so its replies fit.

abbrev plays_of : List (ℕ × Noted) → List nets.WorkAt
plays_of xs = map (λ (x : ℕ × Noted). record { moment = x.1.entry.moment; work = x.1.work }) xs

-- what is known of what lies under a lock, and of replies
abbrev pub KeepsActors : Type 0
KeepsActors = (w : World) (log : List Noted) (a : ActorName) → state_at (named_opening w) (answer_in w) a log ≡ named a ((noted_net w log).actors a)

abbrev pub FitWorks : Type 0
FitWorks = (w : World) (a : ActorName) (ps : List nets.WorkAt) (now : ℕ) (work : Work) (t : Step Actor)
    → actor_step w a (played w a (opening_actor w.timers a) ps) now work ≡ Some t → fits work.event t.outcome.reply ≡ true

module _ (w : World) (a : ActorName) where
  state_played : (s : Actor) (xs : List (ℕ × Noted)) → state (named_opening w) (answer_in w) (named a s) xs ≡ named a (played w a s (plays_of xs))
  state_played s [] = refl
  state_played s (x ∷ xs) =
      let t = actor_step w a s x.1.entry.moment x.1.work in
      ap (λ (n : Named). state (named_opening w) (answer_in w) n xs) (named_left a s t) ∙ state_played (stepped_to s t) xs

  pub fits_there : KeepsActors → FitWorks → (log : List Noted) (now : ℕ) (work : Work) (t : Step Actor)
      → actor_step w a ((noted_net w log).actors a) now work ≡ Some t → fits work.event t.outcome.reply ≡ true
  fits_there keeps fit log now work t is =
      let ps = plays_of (at (number.Actor a) log) in
      let same : (noted_net w log).actors a ≡ played w a (opening_actor w.timers a) ps =
      ap (λ (n : Named). n.actor) (sym (keeps w log a) ∙ state_played (opening_actor w.timers a) (at (number.Actor a) log)) in
      fit w a ps now work t (ap (λ (s : Actor). actor_step w a s now work) (sym same) ∙ is)

-- what a script records next is what is recorded next in its place
pub script_next : (ts : Tasks) (w : World) (c : ℕ) (log : List Noted) (s : Script) → caller_of w c ≡ IsScript s
    → next_by ts w (entries log) c ≡ place_next (ts c) (zone_of w) s (own_replies (entries log) c)
script_next ts w c log s is = ap (λ (k : Caller). next_of_by ts w k (entries log) c) is
