-- The answers of a session, by the replies to its caller's entries and by whether that owes something.
use Rattle.std.proofs.Common.{◌≡◌, ℕ, ◌+◌, ◌<◌, ◌≤◌, Bool, List, [], ◌∷◌, ◌++◌, take, Some, slice_get, get_or, length, refl, arith, sym, ap, subst, ◌∙◌}
use Rattle.std.specs.Prelude.{Result, IfOk}
use Rattle.std.proofs.lemmas.List.{take_all, take_more}
use Rattle.std.proofs.lemmas.Option.{slice_get_read}
use Rattle.std.proofs.lemmas.Result.{IfOk-weaker}
use Rattle.net_base.specs.declared.history.Entry.{Entry}
use Rattle.net_base.specs.declared.world.Script.{Script}
use Rattle.net_base.specs.declared.world.World.{World}
use Rattle.net_base.specs.Calm.{owes}
use Rattle.net_base.specs.Net.{after}
use Rattle.net_base.specs.Next.{own_replies}
use Rattle.net_base.specs.declared.ninep.Tmsg.{Tmsg}
use Rattle.session_answers.specs.Served.{answered_of}
use Rattle.session_answers.specs.Told.{AreTold}
use Rattle.session_script.specs.declared.world.Session.{Session}
use Rattle.net_base.specs.SessionScript.{AreMessages}
use Rattle.net_base.specs.Server.{answers_to}
use Rattle.net_base.specs.Session.{first, session}
use Rattle.session_script.specs.InHistory.{answers_in_history}
use Rattle.net_export.specs.Answered.{AreAnswersOf, AreAnswersTo, ArePlayed, IsPlayed}
use Rattle.net_export.proofs.Placing.{in_all}

-- the lines answer the messages by these replies
abbrev pub AreBy : ℕ → List ℕ → Bool → List Entry → ℕ → List (List ℕ) → Type 0
AreBy host bytes owing h c lines = (ms : List Tmsg) → AreMessages bytes ms → AreTold (own_replies h c) → lines ≡ answers_to (session host) first ms (answered_of owing h c)

-- .. and in the history
abbrev pub AreIn : World → List ℕ → List Entry → ℕ → List (List ℕ) → Type 0
AreIn w bytes h c lines = (ms : List Tmsg) (s : Script) → AreMessages bytes ms → slice_get w.scripts c ≡ Some s → lines ≡ answers_in_history w s.host ms c h

are_in : (w : World) (h : List Entry) (bytes : List ℕ) (c host : ℕ) (owing : Bool) (lines : List (List ℕ)) → owing ≡ owes (after w h) c → AreTold (own_replies h c)
    → ((s : Script) → slice_get w.scripts c ≡ Some s → host ≡ s.host)
    → AreBy host bytes owing h c lines → AreIn w bytes h c lines
are_in w h bytes c host owing lines owed told hosts by ms s are stands =
    by ms are told
    ∙ (ap (λ (n : ℕ). answers_to (session n) first ms (answered_of owing h c)) (hosts s stands)
    ∙ ap (λ (b : Bool). answers_to (session s.host) first ms (answered_of b h c)) owed)

-- by the replies in a history
pub in_history : {E : Type 0} (w : World) (h : List Entry) (bytes : List ℕ) (c host : ℕ) (owing : Bool) (r : Result (List (List ℕ)) E)
    → owing ≡ owes (after w h) c → AreTold (own_replies h c)
    → ((s : Script) → slice_get w.scripts c ≡ Some s → host ≡ s.host) → IfOk r (AreBy host bytes owing h c) → IfOk r (AreIn w bytes h c)
in_history w h bytes c host owing r owed told hosts by =
    IfOk-weaker r (AreBy host bytes owing h c) (AreIn w bytes h c) (λ lines. are_in w h bytes c host owing lines owed told hosts) by

-- A session of the world.

-- its own host is the script's
pub answers_one : {E : Type 0} (w : World) (h : List Entry) (x : Session) (bytes : List ℕ) (r : Result (List (List ℕ)) E) → bytes ≡ x.stream → IsPlayed w x
    → IfOk r (AreIn w bytes h x.place) → IfOk r (AreAnswersTo w h x)
answers_one w h x bytes r same plays are =
    IfOk-weaker r (AreIn w bytes h x.place) (AreAnswersTo w h x)
    (λ lines given.
    let ms : List Tmsg = plays.plays.0 in
    let of_bytes : AreMessages bytes ms = subst (λ (b : List ℕ). AreMessages b ms) (sym same) plays.plays.1 in
    (ms, plays.plays.1, given ms plays.as_script of_bytes plays.stands ∙ ap (λ (n : ℕ). answers_in_history w n ms x.place h) plays.host)) are

-- Sessions in turn.

answers_more : (w : World) (h : List Entry) (xs : List Session) (x : Session) (all : List (List (List ℕ))) (lines : List (List ℕ))
    → AreAnswersOf w h xs all → AreAnswersTo w h x lines
    → AreAnswersOf w h (xs ++ x ∷ []) (all ++ lines ∷ [])
answers_more w h [] x [] lines before here = (here, tt)
answers_more w h (y ∷ xs) x (line ∷ all) lines before here = (before.0, answers_more w h xs x all lines before.1 here)
answers_more w h [] x (line ∷ all) lines before here = absurd before
answers_more w h (y ∷ xs) x [] lines before here = absurd before

-- one more of a loop over them
pub answers_next : (w : World) (h : List Entry) (ss items : List Session) (n : ℕ) (x : Session) (all now : List (List (List ℕ))) (lines : List (List ℕ))
    → items ≡ ss → n < length items → x ≡ get_or items n x → now ≡ all ++ lines ∷ []
    → AreAnswersOf w h (take n ss) all → AreAnswersTo w h x lines → AreAnswersOf w h (take (n + 1) ss) now
answers_next w h ss items n x all now lines same below is added before here =
    let taken : take (n + 1) items ≡ take n items ++ x ∷ [] = take_more items n x below ∙ ap (λ (y : Session). take n items ++ y ∷ []) (sym is) in
    subst (λ (xs : List Session). AreAnswersOf w h (take (n + 1) xs) now) same
    (rw (added, taken) (answers_more w h (take n items) x all lines (subst (λ (xs : List Session). AreAnswersOf w h (take n xs) all) (sym same) before) here))

pub plays_at : (w : World) (ss items : List Session) (n : ℕ) (x : Session) → items ≡ ss → n < length items → x ≡ get_or items n x → ArePlayed w ss
    → IsPlayed w x
plays_at w ss items n x same below is played =
    played x (in_all ss n x (subst (λ (xs : List Session). slice_get xs n ≡ Some x) same (slice_get_read items (length items) n x refl below is)))

pub answers_whole : (w : World) (h : List Entry) (ss items : List Session) (n : ℕ) (all : List (List (List ℕ))) → items ≡ ss → length items ≤ n
    → AreAnswersOf w h (take n ss) all → AreAnswersOf w h ss all
answers_whole w h ss items n all same past before =
    subst (λ (xs : List Session). AreAnswersOf w h xs all) (take_all n ss (omega (arith, past, ap (λ (xs : List Session). length xs) same))) before
