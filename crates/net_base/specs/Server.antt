-- Servers: what a request of one does, and what it is answered.
use Rattle.std.specs.Prelude.{ℕ, List, [], ◌∷◌, Option, Some}
use Rattle.net_base.specs.declared.reply.Reply.{Reply}
use Rattle.net_base.specs.Steps.{Ask, Names, Play, Asks, Ends}

-- what a request does: it asks and goes on by the reply, or it gives an answer and the state of the session after it
pub data Doing (S : Type 0) : Type 0 where
  Does : Ask → (Reply → Doing S) → Doing S
  Gives : List ℕ → S → Doing S

-- a session: its state at first, the names that are bound in a state, what it does with a request, and what is played at its end
pub record Server (S R : Type 0) : Type 0 where
  pub opening : S
  pub names : S → Names
  pub serves : S → R → Doing S
  pub closes : S → Play

-- the play of a step as what a request does, which goes on by the names and the last reply
abbrev pub doing_of : {S : Type 0} → Play → Option Reply → (Names → Option Reply → Doing S) → Doing S
doing_of (Ends names) last go_on = go_on names last
doing_of (Asks a e next) last go_on = Does (record { actor = a; event = e }) (λ (r : Reply). doing_of (next r) (Some r) go_on)

-- how a request ended: it waits for a reply, or it was answered, and these replies belong to later ones
pub data Outcome (S : Type 0) : Type 0 where
  Waits : Outcome S
  Answered : List ℕ → S → List Reply → Outcome S

abbrev pub outcome_by : {S : Type 0} → Doing S → List Reply → Outcome S
outcome_by (Gives answer s) rs = Answered answer s rs
outcome_by (Does ask next) [] = Waits
outcome_by (Does ask next) (r ∷ rs) = outcome_by (next r) rs

abbrev pub answers_by : {S : Type 0} → Outcome S → (S → List Reply → List (List ℕ)) → List (List ℕ)
answers_by Waits go_on = []
answers_by (Answered answer s rs) go_on = answer ∷ go_on s rs

-- the answers to requests in order, by the replies to what they ask; none from the first on that waits
abbrev pub answers_to : {S R : Type 0} → Server S R → S → List R → List Reply → List (List ℕ)
answers_to v s [] rs = []
answers_to v s (q ∷ qs) rs = answers_by (outcome_by (v.serves s q) rs) (λ (after : _) (later : List Reply). answers_to v after qs later)
