-- Where the replies are those of a session, its messages are answered as they are to be.
use Rattle.std.proofs.Common.{◌≡◌, ℕ, zero, suc, ◌-◌, ◌&&◌, ◌||◌, Bool, true, false, cond, List, [], ◌∷◌, take, length, Option, Some, None, refl, ap, ◌∙◌}
use Rattle.std.specs.List.{list_all}
use Rattle.std.proofs.lemmas.Bool.{and_parts}
use Rattle.net_base.specs.declared.history.Entry.{Entry}
use Rattle.net_base.specs.declared.reply.Reply.{Reply}
use Rattle.net_base.specs.declared.world.Step.{Step}
use Rattle.net_base.specs.Next.{own_replies}
use Rattle.net_base.specs.Steps.{Asks, Ends, Names, Play, play_of}
use Rattle.net_base.specs.declared.ninep.Rmsg.{Rmsg}
use Rattle.net_base.specs.declared.ninep.Rmsg.TheVariants as r
use Rattle.net_base.specs.declared.ninep.Tmsg.{Tmsg}
use Rattle.net_base.specs.NinepMessages.{r_bytes, t_tag}
use Rattle.net_base.specs.SessionAnswers.{found_by, granted, is_granting, printed, replied}
use Rattle.net_base.specs.SessionScript.{AreMessages, table_next, message_step}
use Rattle.net_base.specs.Server.{Answered, Doing, Does, Gives, Outcome, Waits, answers_by, answers_to, doing_of, outcome_by}
use Rattle.net_base.specs.Session as spec
use Rattle.net_base.specs.Session.{State, first}
use Rattle.net_base.specs.SessionTable.{Table}
use Rattle.session_answers.specs.Served.{answered_of}
use Rattle.session_answers.specs.Told.{AreTold, last_by, is_brief, is_reply_told, steps_by, session_of, told_by_reply}

parts : (x : Reply) (rs : List Reply) → AreTold (x ∷ rs) → (is_reply_told x ≡ true) × AreTold rs
parts x rs told = and_parts (is_reply_told x) (list_all is_reply_told rs) told

pub same_reply : (table : Table) (m : Tmsg) (x : Reply) → is_reply_told x ≡ true → told_by_reply table m x ≡ replied table m x
same_reply table m x told = by (is_granting x) (is_brief x) told
  where
    by : (g b : Bool) → (g || b) ≡ true
        → cond g (granted table m x) (r.Error (t_tag m) (cond b (printed x) [])) ≡ cond g (granted table m x) (r.Error (t_tag m) (printed x))
    by true b told = refl
    by false true told = refl
    by false false told = absurd (cc)

-- the last reply, where there is one, is told
abbrev LastTold : Option Reply → Type 0
LastTold None = Unit {0}
LastTold (Some x) = is_reply_told x ≡ true

same_end : (s : State) (m : Tmsg) (names : Names) (last : Option Reply) → LastTold last → last_by s m names last ≡ spec.by_last s m names last
same_end s m names None told = refl
same_end s m names (Some x) told =
    ap (λ (answer : Rmsg). Gives (r_bytes answer) (record { table = table_next s.table m; found = found_by s.table s.found m x; names = names })) (same_reply s.table m x told)

same_play : (s : State) (m : Tmsg) (p : Play) (last : Option Reply) (rs : List Reply) → LastTold last → AreTold rs
    → outcome_by (doing_of p last (last_by s m)) rs ≡ outcome_by (doing_of p last (spec.by_last s m)) rs
same_play s m (Ends names) last rs one told = ap (λ (d : Doing State). outcome_by d rs) (same_end s m names last one)
same_play s m (Asks a e next) last [] one told = refl
same_play s m (Asks a e next) last (x ∷ rs) one told = let t = parts x rs told in same_play s m (next x) (Some x) rs t.0 t.1

-- one message is served the same
same_serve : (h : ℕ) (s : State) (m : Tmsg) (o : Option Step) (rs : List Reply) → AreTold rs → outcome_by (steps_by h s m o) rs ≡ outcome_by (spec.serves_by h s m o) rs
same_serve h s m None rs told = refl
same_serve h s m (Some step) rs told = same_play s m (play_of h s.names step) None rs tt told

-- the replies that are left are told too
abbrev LeavesTold : Outcome State → Type 0
LeavesTold Waits = Unit {0}
LeavesTold (Answered answer s left) = AreTold left

leaves : (d : Doing State) (rs : List Reply) → AreTold rs → LeavesTold (outcome_by d rs)
leaves (Gives answer s) rs told = told
leaves (Does ask next) [] told = tt
leaves (Does ask next) (x ∷ rs) told = leaves (next x) rs (parts x rs told).1

same_after : (o : Outcome State) (f g : State → List Reply → List (List ℕ)) → LeavesTold o → ((s : State) (rs : List Reply) → AreTold rs → f s rs ≡ g s rs) → answers_by o f ≡ answers_by o g
same_after Waits f g told each = refl
same_after (Answered answer s left) f g told each = ap (λ (xs : List (List ℕ)). answer ∷ xs) (each s left told)

same_answers : (h : ℕ) (ms : List Tmsg) (s : State) (rs : List Reply) → AreTold rs → answers_to (session_of h) s ms rs ≡ answers_to (spec.session h) s ms rs
same_answers h [] s rs told = refl
same_answers h (m ∷ ms) s rs told =
    ap (λ (o : Outcome State). answers_by o (λ (next : State) (later : List Reply). answers_to (session_of h) next ms later)) (same_serve h s m (message_step s.table m) rs told)
    ∙ same_after (outcome_by (spec.serves_by h s m (message_step s.table m)) rs)
    (λ (next : State) (later : List Reply). answers_to (session_of h) next ms later)
    (λ (next : State) (later : List Reply). answers_to (spec.session h) next ms later)
    (leaves (spec.serves_by h s m (message_step s.table m)) rs told)
    (λ next later. same_answers h ms next later)

-- ---- the replies of a caller

taken : (n : ℕ) (rs : List Reply) → AreTold rs → AreTold (take n rs)
taken zero rs told = refl
taken (suc n) [] told = refl
taken (suc n) (x ∷ rs) told =
    let t = parts x rs told in
    both (is_reply_told x) (list_all is_reply_told (take n rs)) t.0 (taken n rs t.1)
  where
    both : (a b : Bool) → a ≡ true → b ≡ true → (a && b) ≡ true
    both a b p q = rw (p, q) refl

answered_told : (owes : Bool) (h : List Entry) (c : ℕ) → AreTold (own_replies h c) → AreTold (answered_of owes h c)
answered_told true h c told = taken (length (own_replies h c) - 1) (own_replies h c) told
answered_told false h c told = told

-- what was answered so is what is to be answered
pub answers_are : (h : ℕ) (bytes : List ℕ) (owes : Bool) (entries : List Entry) (c : ℕ) (answers : List (List ℕ))
    → ((ms : List Tmsg) → AreMessages bytes ms → answers ≡ answers_to (session_of h) first ms (answered_of owes entries c))
    → (ms : List Tmsg) → AreMessages bytes ms → AreTold (own_replies entries c) → answers ≡ answers_to (spec.session h) first ms (answered_of owes entries c)
answers_are h bytes owes entries c answers are ms stream told = are ms stream ∙ same_answers h ms first (answered_of owes entries c) (answered_told owes entries c told)
