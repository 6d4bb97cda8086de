-- The own entries of a script's caller are those of its steps, in order.
use Rattle.std.proofs.Common.{◌≡◌, ℕ, ◌-◌, Bool, true, false, List, length, take, sym, ap, subst, ◌∙◌}
use Rattle.std.proofs.lemmas.List.{length-map, take-map}
use Rattle.net_base.specs.declared.history.Entry.{Entry}
use Rattle.net_base.specs.declared.reply.Reply.{Reply}
use Rattle.net_base.specs.declared.world.Script.{Script}
use Rattle.net_base.specs.declared.world.World.{World}
use Rattle.net_base.specs.Calm.{owes}
use Rattle.net_base.specs.Callers.{IsScript, caller_of}
use Rattle.net_base.specs.Legal.{IsLegal}
use Rattle.net_base.specs.Net.{after}
use Rattle.net_base.specs.Next.{answered, finished_by, own_entries, own_replies, zone_of}
use Rattle.net_base.specs.Scripts.{at_first}
use Rattle.prefix_law.specs.Order.{StandInOrder}
use Rattle.prefix_law.specs.Scripted.{scripted}
use Rattle.prefix_law.proofs.Shared.{replies, stood_take, HasStood, finished, stood}
use Rattle.net_model.specs.ScriptOrder.{KeepsScript, settled_entries}
use Rattle.net_model.proofs.LastOwn.{of_last_step}

module _ (w : World) (c : ℕ) (s : Script) (caller_is : caller_of w c ≡ IsScript s) where
  -- the entries of steps of which nothing is owed stand in order too
  answers : (h : List Entry) (b : Bool) → HasStood w c s caller_is (own_entries h c) → StandInOrder (scripted (zone_of w) s) (at_first (zone_of w)) s.steps (answered w h c b s) (settled_entries b (own_entries h c))
  answers h false there = finished w c s caller_is (own_entries h c) there
  answers h true there =
      subst (λ (rs : List Reply). StandInOrder (scripted (zone_of w) s) (at_first (zone_of w)) s.steps (finished_by (zone_of w) rs s) (settled_entries true (own_entries h c))) cut
      (finished w c s caller_is (settled_entries true (own_entries h c)) (stood_take (zone_of w) s (at_first (zone_of w)) s.steps there.0 (own_entries h c) (length (own_entries h c) - 1) there.1))
    where
      cut : replies (settled_entries true (own_entries h c)) ≡ take (length (own_replies h c) - 1) (own_replies h c)
      cut =
          sym (take-map (λ (x : Entry). x.reply) (length (own_entries h c) - 1) (own_entries h c))
          ∙ ap (λ (n : ℕ). take (n - 1) (own_replies h c)) (sym (length-map (own_entries h c) (λ (x : Entry). x.reply)))

  pub keeps_script : (h : List Entry) → IsLegal w h → KeepsScript w h c s
  keeps_script h legal =
      record {
        finished = finished w c s caller_is (own_entries h c) (stood w c s caller_is h legal);
        answered_is = answers h (owes (after w h) c) (stood w c s caller_is h legal);
        owed_is = of_last_step w h c legal;
      }
