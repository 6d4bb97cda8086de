-- The law of two scripts of a world.
use Rattle.std.proofs.Common.{◌≡◌, ℕ, Bool, false, List, if◌then◌else◌, ap, ◌∙◌}
use Rattle.net_base.specs.declared.history.Entry.{Entry}
use Rattle.net_base.specs.declared.world.Script.{Script}
use Rattle.net_base.specs.declared.world.Step.{Step}
use Rattle.net_base.specs.declared.world.Step.TheVariants as step
use Rattle.net_base.specs.declared.world.World.{World}
use Rattle.net_base.specs.Exports.{Own, exported, exports, is_dotted, most_requests, own_of, unheard}
use Rattle.net_base.specs.Legal.{IsLegal}
use Rattle.net_base.specs.Next.{zone_of}
use Rattle.net_base.specs.Scripts.{Kept, step_play}
use Rattle.net_base.specs.Steps.{uses}
use Rattle.net_base.specs.Written.{Conversation}
use Rattle.prefix_law.specs.ImportLaw.{StandsInOrder, own_of_data}
use Rattle.prefix_law.specs.Scripted.{is_importing, scripted}
use Rattle.prefix_law.specs.WorldImports.{AllExported, AllImported, AnsweredInOrder}
use Rattle.prefix_law.proofs.Both.{BothWays, served}
use Rattle.prefix_law.proofs.Remotes.{of_data, whole}

-- the play of the exporting step
play_is : (far : Script) (f : Conversation) (k : Kept) (s : Step) (called : List ℕ) (own : Own) → s ≡ step.Export called → is_dotted called ≡ false → own_of far.host called k.names ≡ own
    → step_play far.host k s ≡ exports (exported far.host) own most_requests (unheard k.names)
play_is far f k s called own is plain same =
    ap (λ (x : Step). step_play far.host k x) is
    ∙ (ap (λ (b : Bool). if b then uses far.host called k.names else exports (exported far.host) (own_of far.host called k.names) most_requests (unheard k.names)) plain
    ∙ ap (λ (o : Own). exports (exported far.host) o most_requests (unheard k.names)) same)

pub answered : (w : World) (h : List Entry) (e f : Conversation) → IsLegal w h → BothWays w h e f → (c s : ℕ) (near far : Script)
    → StandsInOrder (scripted (zone_of w) near) h c → StandsInOrder (scripted (zone_of w) far) h s → AllImported w h c near e → (x : AllExported w h s far f) → is_dotted x.called ≡ false → AnsweredInOrder w h c s near far e f x
answered w h e f legal ways c s near far in_near in_far all x plain =
    served w h e f legal ways c (scripted (zone_of w) near) is_importing
    (record { in_order = in_near; whole = λ k st is. whole near.host k st is; all = all })
    (exported far.host) s (scripted (zone_of w) far) x.number
    (record {
      in_order = in_far;
      span = x.span;
      stands = x.stands;
      called = x.called;
      mode = x.mode;
      rounds = most_requests;
      start = unheard x.span.kept.names;
      play_is = play_is far f x.span.kept x.span.step x.called (own_of_data f x.called x.mode) x.exports plain
          (ap (λ (n : ℕ). own_of n x.called x.span.kept.names) x.here ∙ of_data f x.called x.mode x.span.kept.names x.bound);
      all = x.all;
    })
