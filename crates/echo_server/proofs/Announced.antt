-- The server behind an announce, which ends once that is through.
use Rattle.std.proofs.Common.{◌≡◌, Bool, true, false, Option, is_none, unwrap_or, if◌then◌else◌, codes, refl, ap, sym, ◌∙◌, []}
use Rattle.std.specs.Bool.{then_some}
use Rattle.net_base.specs.declared.names.FileName.TheVariants as file
use Rattle.net_base.specs.declared.reply.Reply.{Reply}
use Rattle.net_base.specs.Steps.{no_names}
use Rattle.dial_lib.specs.declared.announce.Announce.{Announce}
use Rattle.dial_lib.specs.declared.beside.Beside.{Beside}
use Rattle.dial_lib.specs.Announce as announce
use Rattle.dial_lib.specs.Beside as beside
use Rattle.echo_server.specs.declared.server.EchoServer.{EchoServer}
use Rattle.echo_server.specs.declared.server.EchoServer.TheVariants as server
use Rattle.echo_server.specs.Serving.{after, announced}

one_of : (through : Bool) (next old : EchoServer) → unwrap_or (then_some through next) old ≡ if through then next else old
one_of true next old = refl
one_of false next old = refl

module _ (r : Reply) (t told : Announce) (listen : Beside) (old : EchoServer) (is : old ≡ server.Announce t) (after_it : told ≡ announce.after t r)
    (listens : listen ≡ beside.begun file.Listen (codes "c") (codes "a")) (through : Bool) (ends : through ≡ is_none (announce.asks told (no_names []))) where
  pub behind_announce : (next : Option EchoServer) → next ≡ then_some through (server.Listen listen) → unwrap_or next (server.Announce told) ≡ after old r
  behind_announce next gives =
      ap (λ (o : Option EchoServer). unwrap_or o (server.Announce told)) gives
      ∙ (one_of through (server.Listen listen) (server.Announce told)
      ∙ (ap (λ (b : Bool). if b then server.Listen listen else server.Announce told) ends
      ∙ (ap (λ (l : Beside). if is_none (announce.asks told (no_names [])) then server.Listen l else server.Announce told) listens
      ∙ (ap announced after_it
      ∙ ap (λ (s : EchoServer). after s r) (sym is)))))
