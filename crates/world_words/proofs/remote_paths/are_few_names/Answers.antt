use Rattle.std.proofs.Common.{◌≡◌, ℕ, sym, ap, ◌∙◌, arith}
use Rattle.net_base.specs.Addresses.{parts_at}
use Rattle.world_words.proofs.RemotePaths.{are_few, none_counted, too_many}
use Rattle.world_words.proofs.remote_paths.are_few_names.Goals as goal
use Rattle.net_base.proofs.Shared.{some_part}

-- behind 16 names another one stands
pub returns : goal.returns
returns c =
    let all : c.loop-i._i ≡ 16 = omega (arith, c.loop-i-test.false, c.loop-i.auto._i-end) in
    sym (sym (none_counted (parts_at 47 c.args.names.now)) ∙ c.loop-i.invariant ∙ ap (λ (n : ℕ). are_few n (parts_at 47 c.loop-i.rest.now)) all
    ∙ too_many (parts_at 47 c.loop-i.rest.now) (some_part 47 c.loop-i.rest.now))
