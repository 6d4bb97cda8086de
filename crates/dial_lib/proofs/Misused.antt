-- What is asked where headers aren't those of the datagram that was heard.
use Rattle.std.proofs.Common.{◌≡◌, ◌∙◌, ℕ, Bool, true, false, List, Option, Some, None, option_map, is_some, sym, ap, if◌then◌else◌}
use Rattle.std.proofs.lemmas.Bool.{false≢true}
use Rattle.net_base.specs.DatagramHeaders.{text_behind}
use Rattle.net_base.specs.Steps.{Names, data_name, is_answer, open_call}
use Rattle.net_tree.specs.Bindings.{bound_file}
use Rattle.net_tree.specs.declared.fids.Fid.{Fid}
use Rattle.net_base.specs.declared.request.Request.TheVariants as request
use Rattle.dial_lib.specs.Hwrite.{hwrites_by, writes_so}

pub misused : (name called own bytes seen : List ℕ) (names : Names) (o : Option Fid) → name ≡ data_name → called ≡ own → seen ≡ bytes → is_some o ≡ true
    → option_map bound_file o ≡ open_call called names → is_answer seen names.heard ≡ false → request.Misuse name ≡ writes_so own bytes names
misused name called own bytes seen names None is owned same some found off = absurd (false≢true some)
misused name called own bytes seen names (Some f) is owned same some found off =
    ap (λ (n : List ℕ). request.Misuse n) is
    ∙ sym (
    ap (λ (o : _). hwrites_by bytes names o) (ap (λ (n : List ℕ). open_call n names) (sym owned) ∙ sym found)
    ∙ ap (λ (b : Bool). if b then request.Write data_name (text_behind bytes) else request.Misuse data_name) (ap (λ (t : List ℕ). is_answer t names.heard) (sym same) ∙ off)
    )
