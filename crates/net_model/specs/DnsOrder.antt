-- What a script writes in a step that answers questions of the domain name system.
use Rattle.std.specs.Prelude.{ℕ, ◌≡◌, List, [], ◌∷◌, ◌++◌, Some, None, slice_get, take}
use Rattle.net_base.specs.declared.event.Event.TheVariants as event
use Rattle.net_base.specs.declared.history.Entry.{Entry}
use Rattle.net_base.specs.declared.world.Script.{Script}
use Rattle.net_base.specs.declared.world.Step.{Step}
use Rattle.net_base.specs.declared.world.Step.TheVariants as step
use Rattle.net_base.specs.declared.world.World.{World}
use Rattle.net_base.specs.DomainAnswers.{dns_answer}
use Rattle.net_base.specs.Next.{own_entries, standing, zone_of}
use Rattle.net_base.specs.Steps.{bytes_in}
use Rattle.net_base.specs.Versions.{Tuples}

-- the last of these entries is a read of at most 8,192 bytes at the writer's conversation, and this text is the database's answer to
-- what it read
pub record AnswersRead (zone : Tuples) (own : List Entry) (x : Entry) (text : List ℕ) : Type 0 where
  pub front : List Entry
  pub question : Entry
  pub generation : ℕ
  pub all : own ≡ front ++ question ∷ []
  pub actor_is : question.actor ≡ x.actor
  pub event_is : question.event ≡ event.Read generation 8192
  pub answer : dns_answer zone (bytes_in question.reply) ≡ Some text

-- the entry of a script's caller is a write of this text, recorded while the script stands in a `dns` step
pub record WritesInDns (w : World) (h : List Entry) (c k : ℕ) (s : Script) (x : Entry) (text : List ℕ) : Type 0 where
  pub stands : slice_get h k ≡ Some x
  pub caller_is : x.caller ≡ c
  pub cites_is : x.cites ≡ None
  pub generation : ℕ
  pub event_is : x.event ≡ event.Write generation text
  pub called : List ℕ
  pub times : ℕ
  pub behind : List Step
  pub step_is : (standing w (take k h) c s).left ≡ step.Dns called times ∷ behind

-- each text that a script writes in a `dns` step is the answer of the database's first version to what its entry before has read
abbrev pub AnswersQuestions : World → List Entry → ℕ → Script → Type 0
AnswersQuestions w h c s =
    (k : ℕ) (x : Entry) (text : List ℕ) → WritesInDns w h c k s x text → AnswersRead (zone_of w) (own_entries (take k h) c) x text
