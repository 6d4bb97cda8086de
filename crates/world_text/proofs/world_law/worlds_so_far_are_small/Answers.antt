use Rattle.world_text.proofs.WorldSmall.{led-next, small-led}
use Rattle.world_text.proofs.world_law.worlds_so_far_are_small.Goals as goal

pub returns : goal.returns
returns c = record {
  next = led-next;
  media = λ lines d led. (small-led lines d led).media;
  named = λ lines d led. (small-led lines d led).named;
  hosts = λ lines d led. (small-led lines d led).hosts;
  scripts = λ lines d led. (small-led lines d led).scripts;
}
