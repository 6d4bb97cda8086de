use Rattle.std.proofs.Common.{◌≡◌, ◌-◌, ◌∙◌, ap, arith, length, refl}
use Rattle.std.proofs.lemmas.Bool.Decides.{nat_tests}
use Rattle.il_queues.specs.Reading.{Waiting, after_read, unread_of}
use Rattle.il_machine.specs.Windows.{Windows, windows_of}
use Rattle.il_machine.specs.Stands.{StandsFor}
use Rattle.il_machine.specs.contracts.end.IlEnd.{the_view}
use Rattle.il_machine.proofs.Unread.{holds, read_kept, same_length}
use Rattle.il_machine.proofs.end.IlEnd.read.Goals as goal

pub returns-clause-end : goal.returns-clause-end
unfolding StandsFor
returns-clause-end c e stands =
    let is : the_view c.self.inside ≡ windows_of e = c.self.view_is ∙ stands in
    let h = holds c.self.inside.unread c.self.inside.got (the_view c.self.inside) e is refl refl refl refl c.self.invariant.unread_were_got c.self.invariant.first_is_cut in
    let left : Waiting = after_read c.args.count c.self.inside.unread in
    ap (λ (w : Waiting). the_view (record c.self.inside { unread = w })) c.in-Ok.ensures.rest
    ∙ ap (λ (w : Windows). record w { read_count = c.self.inside.got - length left.texts; read_offset = left.offset; unread = unread_of left }) is
    ∙ read_kept c.args.count c.self.inside.unread c.self.inside.got e h

pub returns-in_default-clause-err : goal.returns-in_default-clause-err
unfolding StandsFor
returns-in_default-clause-err c = (
  λ e stands.
      let is : the_view c.self.inside ≡ windows_of e = c.self.view_is ∙ stands in
      let h = holds c.self.inside.unread c.self.inside.got (the_view c.self.inside) e is refl refl refl refl c.self.invariant.unread_were_got c.self.invariant.first_is_cut in
      grind (arith, nat_tests, same_length c.self.inside.unread c.self.inside.got e h, c.in_default.ensures.memory),
  ap (λ (w : Waiting). the_view (record c.self.inside { unread = w })) c.in_default.ensures.err ∙ c.self.view_is,
)
