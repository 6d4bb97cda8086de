use Rattle.std.proofs.Common.{◌≡◌, drop}
use Rattle.netview.specs.Views.{medium_named}
use Rattle.netview.proofs.view.medium_named.Given as goal

-- what is left is to be looked through
abbrev pub invariant-loop-medium : goal.invariant-loop-medium
invariant-loop-medium l = medium_named l.name (drop l.medium-index l.medium-items) ≡ medium_named l.name l.world.media
