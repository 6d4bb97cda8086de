-- Tasks of two kinds as one.
use Rattle.std.specs.Prelude.{List, [], ◌∷◌, ◌++◌, Option}
use Rattle.net_base.specs.declared.reply.Reply.{Reply}
use Rattle.net_base.specs.declared.request.Request.{Request}
use Rattle.net_base.specs.Steps.{Names}
use Rattle.played_task.specs.declared.either.EitherTask.{EitherTask}
use Rattle.played_task.specs.declared.either.EitherTask.TheVariants as either

module _ {A B : Type 0} (asks_one : A → Names → Option Request) (asks_other : B → Names → Option Request) where
  abbrev pub asks : EitherTask A B → Names → Option Request
  asks (either.One t) names = asks_one t names
  asks (either.Other t) names = asks_other t names

module _ {A B : Type 0} (after_one : A → Reply → A) (after_other : B → Reply → B) where
  abbrev pub after : EitherTask A B → Reply → EitherTask A B
  after (either.One t) r = either.One (after_one t r)
  after (either.Other t) r = either.Other (after_other t r)

module _ {A B : Type 0} (Keeps_one : A → List Reply → Type 0) (Keeps_other : B → List Reply → Type 0) where
  abbrev pub Keeps : EitherTask A B → List Reply → Type 0
  Keeps (either.One t) rs = Keeps_one t rs
  Keeps (either.Other t) rs = Keeps_other t rs

  module _ (after_one : A → Reply → A) (after_other : B → Reply → B)
      (one : (t : A) (rs : List Reply) (r : Reply) → Keeps_one t rs → Keeps_one (after_one t r) (rs ++ r ∷ []))
      (other : (t : B) (rs : List Reply) (r : Reply) → Keeps_other t rs → Keeps_other (after_other t r) (rs ++ r ∷ [])) where
    pub keeps_on : (t : EitherTask A B) (rs : List Reply) (r : Reply) → Keeps t rs → Keeps (after after_one after_other t r) (rs ++ r ∷ [])
    keeps_on (either.One t) rs r is = one t rs r is
    keeps_on (either.Other t) rs r is = other t rs r is
