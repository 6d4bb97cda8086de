-- What comes back keeps what is claimed of clients, so those that ended well have read their messages.
use Rattle.std.proofs.Common.{◌≡◌, ◌≤◌, ℕ, true, List, Option, Some, None, length, slice_get, refl, sym, subst, ◌∙◌, arith}
use Rattle.std.proofs.lemmas.Bool.Decides.{nat_tests}
use Rattle.std.proofs.lemmas.List.{take_all}
use Rattle.std.proofs.lemmas.Option.{none-some, same_Some}
use Rattle.net_base.specs.declared.history.Entry.{Entry}
use Rattle.net_base.specs.declared.reply.Reply.{Reply}
use Rattle.net_base.specs.declared.request.Request.{Request}
use Rattle.net_base.specs.declared.world.Script.{Script}
use Rattle.net_base.specs.declared.world.World.{World}
use Rattle.net_base.specs.Next.{own_replies}
use Rattle.net_base.specs.Steps.{Names}
use Rattle.agenda.specs.Given.{NoneElse, WasTold, WereTold, task_at}
use Rattle.agenda.proofs.Shared.{script_at, task_within}
use Rattle.played_task.specs.declared.either.EitherTask.{EitherTask}
use Rattle.played_task.specs.declared.either.EitherTask.TheVariants as either
use Rattle.echo_server.specs.declared.client.EchoClient.{EchoClient}
use Rattle.echo_server.specs.declared.server.EchoServer.{EchoServer}
use Rattle.echo_server.specs.Calling.{is_well}
use Rattle.echo_server.specs.Echoes.{AreEchoesAmong, KeepsEchoes, claimed, echo_texts, sent}
use Rattle.echo_server.specs.Reading.{HaveRead}

all_came : (c : EchoClient) → is_well c ≡ true → length c.messages ≤ c.echoed
all_came c is = grind (arith, nat_tests, is)

abbrev EchoTask : Type 0
EchoTask = EitherTask EchoServer EchoClient

module _ (asks : EchoTask → Names → Option Request) (after : EchoTask → Reply → EchoTask) (w : World) (given : List (Option EchoTask)) (h : List Entry)
    (back : List (Option EchoTask)) (told : WereTold asks after claimed w given h back) (many : length back ≡ length w.scripts) (none : NoneElse given back) where
  given_one : (c : ℕ) (s : Script) (t : EchoTask) (client : EchoClient) → slice_get w.scripts c ≡ Some s → task_at given c ≡ Some t
      → task_at back c ≡ Some (either.Other client) → is_well client ≡ true → AreEchoesAmong sent (echo_texts (own_replies h c))
  given_one c s t client there given_it back_it well =
      let was : WasTold asks after claimed t (own_replies h c) (task_at back c) = told c s t there given_it in
      let same : was.back ≡ either.Other client = same_Some was.back (either.Other client) (sym was.back_is ∙ back_it) in
      let keeps : KeepsEchoes client (own_replies h c) = subst (λ (b : EchoTask). claimed b (own_replies h c)) same was.keeps in
      subst (λ (xs : List (List ℕ)). AreEchoesAmong xs (echo_texts (own_replies h c)))
      (take_all client.echoed client.messages (all_came client well) ∙ keeps.0) keeps.1

  pub have_read : HaveRead h back
  have_read c client back_it well = by_given (task_at given c) refl
    where
      by_given : (o : Option EchoTask) → task_at given c ≡ o → AreEchoesAmong sent (echo_texts (own_replies h c))
      by_given None given_it = absurd (none-some (either.Other client) (sym (none c given_it) ∙ back_it))
      by_given (Some t) given_it =
          let s = script_at w c (omega (arith, task_within back c (either.Other client) back_it, many)) in
          given_one c s.0 t client s.1 given_it back_it well
