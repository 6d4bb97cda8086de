use Rattle.std.proofs.Common.{◌∙◌}
use Rattle.prefix_law.proofs.Both.{peer_proto, served}
use Rattle.prefix_law.proofs.imports.import_law.Goals as goal

pub returns : goal.returns
returns g c = λ w h e f world legal il is n near kind imports v s far i x.
    served w h e f legal (record {
      near = c.prefix_law.ensures.in_order w h e f world legal il is;
      far = c.prefix_law.ensures.in_order w h f e world legal (peer_proto w h e f is ∙ il) (c.a_pair_has_one_holder.ensures.each_other w h e f world legal is);
    }) n near kind imports v s far i x
