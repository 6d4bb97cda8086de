use Rattle.std.proofs.Common.{◌∙◌}
use Rattle.prefix_law.proofs.Both.{peer_proto}
use Rattle.prefix_law.proofs.Named.{undotted}
use Rattle.prefix_law.proofs.Stood.{in_steps}
use Rattle.prefix_law.proofs.Worlds.{answered}
use Rattle.prefix_law.proofs.imports.imports_are_answered.Goals as goal

pub returns : goal.returns
returns c = λ w h world legal e f il is n s near far is_near is_far all x.
    answered w h e f legal (record {
      near = c.prefix_law.ensures.in_order w h e f world legal il is;
      far = c.prefix_law.ensures.in_order w h f e world legal (peer_proto w h e f is ∙ il) (c.a_pair_has_one_holder.ensures.each_other w h e f world legal is);
    }) n s near far (in_steps w n near is_near h legal) (in_steps w s far is_far h legal) all x (undotted w h s far f world is_far x)
