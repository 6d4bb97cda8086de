use Rattle.std.proofs.Common.{◌≡◌, ◌++◌, ◌/◌, ◌%◌, ◌*◌, List, ℕ, length, ap, ◌∙◌, append_assoc}
use Rattle.std.proofs.lemmas.Result.{on_ok_weaker}
use Rattle.replay_views.specs.Savefile as spec
use Rattle.replay_views.proofs.savefile.put_packet.Goals as goal

pub returns : goal.returns
returns c =
    let header : List ℕ = spec.record_header (c.args.moment / 1000) (c.args.moment % 1000 * 1000) (length c.args.packet.now) in
    let before = c.in_ok-append.ensures.ok ∙ ap (λ (h : List ℕ). c.args.out.now ++ h) c.record_header-header.ensures in
    on_ok_weaker c.append-2.result
    (λ (is : c.append-2.new.self ≡ c.append.new.self ++ c.args.packet.now). is
    ∙ (ap (λ (front : List ℕ). front ++ c.args.packet.now) before ∙ append_assoc c.args.out.now header c.args.packet.now))
    c.append-2.ensures.ok
