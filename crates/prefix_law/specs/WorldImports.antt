-- What is imported and exported in a history of a world, by scripts.
use Rattle.std.specs.Prelude.{◌≡◌, ℕ, List, Some, slice_get}
use Rattle.net_base.specs.declared.history.Entry.{Entry}
use Rattle.net_base.specs.declared.names.FileName.TheVariants as file
use Rattle.net_base.specs.declared.names.Mode.{Mode}
use Rattle.net_base.specs.declared.world.Script.{Script}
use Rattle.net_base.specs.declared.world.Step.{Step}
use Rattle.net_base.specs.declared.world.Step.TheVariants as step
use Rattle.net_base.specs.declared.world.World.{World}
use Rattle.net_base.specs.declared.address.Proto.TheVariants.{Il}
use Rattle.net_base.specs.Callers.{IsScript, caller_of}
use Rattle.net_base.specs.Exports.{Sharing, exported, unheard}
use Rattle.net_base.specs.Next.{zone_of}
use Rattle.net_base.specs.Scripts.{Kept}
use Rattle.net_base.specs.Steps.{fid_of}
use Rattle.net_base.specs.Written.{Conversation, peer}
use Rattle.prefix_law.specs.ImportLaw.{AreAll, Served, calls, of_steps, got_back}
use Rattle.prefix_law.specs.Phases.{Reads, on_own}
use Rattle.prefix_law.specs.Scripted.{is_importing, scripted}
use Rattle.prefix_law.specs.Spans.{Span, own_stamped, spans}

-- all that is read and written at a conversation is of the importing steps of a caller with this script
abbrev pub AllImported : World → List Entry → ℕ → Script → Conversation → Type 0
AllImported w h c near e = AreAll h e (of_steps is_importing (spans (scripted (zone_of w) near) (own_stamped h c)))

-- .. and at its peer of one exporting step of a caller with this script, on its own file: a name that is bound to a data file of the peer
pub record AllExported (w : World) (h : List Entry) (s : ℕ) (far : Script) (f : Conversation) : Type 0 where
  pub number : ℕ
  pub span : Span Kept Step
  pub stands : slice_get (spans (scripted (zone_of w) far) (own_stamped h s)) number ≡ Some span
  pub called : List ℕ
  pub exports : span.step ≡ step.Export called
  pub mode : Mode
  pub bound : fid_of called span.kept.names ≡ Some (record { proto = f.proto; slot = f.slot; generation = f.generation; file = file.Data; mode = mode })
  pub here : far.host ≡ f.host
  pub all : AreAll h f (on_own (exported far.host) (Reads (unheard span.kept.names)) span.entries)

-- the requests that were served begin the calls, the replies begin what was answered, and each reply is the session's answer to its call
abbrev pub AnsweredInOrder : (w : World) (h : List Entry) (c s : ℕ) (near far : Script) (e f : Conversation) → AllExported w h s far f → Type 0
AnsweredInOrder w h c s near far e f x =
    Served {S = Sharing} (exported far.host) (unheard x.span.kept.names) f (calls h c e (scripted (zone_of w) near) is_importing)
    (got_back h c e (scripted (zone_of w) near) is_importing) x.span.entries

-- What a history has of calls that carry files: where two scripts are all that reads and writes at the ends of a call of IL, what is
-- imported at the one end is what is answered at the other.
abbrev pub ImportsAnswered : World → List Entry → Type 0
ImportsAnswered w h =
    (e f : Conversation) → e.proto ≡ Il → peer w h e ≡ Some f
    → (c s : ℕ) (near far : Script) → caller_of w c ≡ IsScript near → caller_of w s ≡ IsScript far
    → AllImported w h c near e → (x : AllExported w h s far f) → AnsweredInOrder w h c s near far e f x
