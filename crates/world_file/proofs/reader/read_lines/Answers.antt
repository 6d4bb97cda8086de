use Rattle.std.proofs.Common.{ℕ, List, [], ◌∷◌, ◌++◌, ◌∙◌, ap, arith, Bool}
use Rattle.world_text.specs.WorldLines.{Goes, opening_draft}
use Rattle.world_text.specs.WorldRefusal.{LeadsToWorld}
use Rattle.world_file.specs.Told.{going}
use Rattle.world_file.proofs.Cuts.{reading-line}
use Rattle.world_file.proofs.reader.read_lines.Goals as goal

pub loop-rest-preserved : goal.loop-rest-preserved
loop-rest-preserved c =
    let goes = c.in-Ok-false.ensures.ok ∙ ap (λ (b : Bool). going b c.take_text.new.self) c.in-Ok-false.field-0-test in
    let next = c.take_text.new.self in
    let line = c.cut_line.result.0.now in
    let before = c.loop-rest.invariant.led in
    let led : (lines : List (List ℕ)) × LeadsToWorld opening_draft lines next =
    (before.0 ++ line ∷ [], c.worlds_so_far_are_small.ensures.next before.0 line c.loop-rest.draft next before.1 goes) in
    let room = c.loop-rest.invariant.room in
    let less = c.cut_line.ensures.less in
    record {
      led = led;
      small = record {
        media = c.worlds_so_far_are_small.ensures.media led.0 next led.1;
        hosts = c.worlds_so_far_are_small.ensures.hosts led.0 next led.1;
        named = c.worlds_so_far_are_small.ensures.named led.0 next led.1;
      };
      room = omega (arith, room, less);
      reading = c.loop-rest.invariant.reading
          ∙ reading-line c.loop-rest.draft c.loop-rest.number c.loop-rest.rest.now c.cut_line.result.0.now c.cut_line.result.1.now (Goes c.take_text.new.self) c.cut_line.ensures.cut goes;
    }
