-- Answering questions asks and moves as its play does.
use Rattle.std.proofs.Common.{◌≡◌, ℕ, zero, suc, ◌-◌, ◌<◌, Bool, true, false, ◌&&◌, nat_lt, List, [], Option, Some, None, if◌then◌else◌, refl, sym, subst, rules, tests, arith}
use Rattle.net_base.specs.declared.address.Addr.{Addr}
use Rattle.net_base.specs.declared.address.Proto.{Proto}
use Rattle.net_base.specs.declared.names.FileName.TheVariants as file
use Rattle.net_base.specs.declared.reply.Reply.{Reply}
use Rattle.net_base.specs.declared.world.Step.TheVariants as step
use Rattle.net_base.specs.DomainAnswers.{dns_answer, is_answered, answer_question}
use Rattle.net_base.specs.DomainQuestions.{question_of}
use Rattle.net_base.specs.Conversation.{nowhere}
use Rattle.net_base.specs.Steps.{Names, Play, Ends, unbind, is_accepted, closes_fid, data_name, call_name, taken_name, remote_name, local_name, bytes_in, address_told, leaves_call, answers_call, serves, with_call, play_of}
use Rattle.net_base.specs.Versions.{Tuples}
use Rattle.dial_lib.specs.declared.call.CallPhase.{CallPhase}
use Rattle.dial_lib.specs.declared.call.CallPhase.TheVariants as phase
use Rattle.dial_lib.specs.declared.dns.Dns.{Dns}
use Rattle.dial_lib.specs.Calls.{TakesCall, IsFresh, IsData, IsRemote, IsTellRemote, IsCloseRemote, IsLocal, IsTellLocal, IsCloseLocal, IsRead, IsShutRemote, IsShutLocal, IsShutData, IsShutCall, IsThrough, AreFree, asks_by, if_so, call_fid, data_fid, open_names, taken_names, shuts_data, shuts_call}
use Rattle.dial_lib.specs.CallLaws as laws
use Rattle.dial_lib.specs.Dns as spec
use Rattle.dial_lib.specs.Dns.{Stands, IsTaking, IsAnswer, IsLeaveData, IsLeaveCall}
use Rattle.dial_lib.specs.Moves.{MovesBy, moves_from}
use Rattle.dial_lib.specs.Slots.{HaveSlots}
use Rattle.net_base.specs.declared.request.Request.{Request}
use Rattle.net_base.specs.declared.request.Request.TheVariants as request
use Rattle.net_base.specs.Requests.{settled, settles}
use Rattle.script_task.specs.Task.{Heads, AsksSo, MovesSo, follow, fits_play}

-- Numbers and answers.

some_left : (more : ℕ) → nat_lt 0 (suc more) ≡ true
some_left more = lt_test 0 (suc more) (omega arith)
  where
    lt_test : (k n : ℕ) → k < n → nat_lt k n ≡ true
    lt_test k n lt = search (rules, tests, lt)

answer_is_some : (zone : Tuples) (message : List ℕ) → is_answered message ≡ true → dns_answer zone message ≡ Some (answer_question zone message (question_of message))
answer_is_some zone message is = rw is refl

-- The beginning.

-- so many more calls are one call, and then what follows
serves_is : (h : ℕ) (called : List ℕ) (names : Names) (more : ℕ) → serves h called names more ≡ with_call h called names (spec.serves_next h called more names)
serves_is h called names zero = refl
serves_is h called names (suc more) = refl

begins : (h : ℕ) (names : Names) (called : List ℕ) (more : ℕ) (message : List ℕ) → HaveSlots names → Stands h called names phase.Fresh more message (serves h called names more)
begins h names called more message slots =
    subst (λ (p : Play). Stands h called names phase.Fresh more message p) (sym (serves_is h called names more))
    (IsTaking names phase.Fresh more message nowhere nowhere _ (IsFresh names _ _ slots))

pub begun_so : (h : ℕ) (names : Names) (called : List ℕ) (more : ℕ) → HaveSlots names → Stands h called names phase.Fresh more [] (serves h called names more)
begun_so h names called more slots = begins h names called more [] slots

-- Its requests.

-- what a call asks for itself is a read
own_is : (h : ℕ) (called : List ℕ) (more : ℕ) (message : List ℕ) (names : Names) (ph : CallPhase) (remote local : Addr) (p : Play)
    → TakesCall h called (spec.serves_next h called more) names ph remote local p → asks_by ph called (Some (request.Read data_name 8192)) names ≡ spec.asks_by ph called message names
own_is h called more message _ _ _ _ _ (IsFresh names remote local slots) = refl
own_is h called more message _ _ _ _ _ (IsData base p n g remote local free low) = refl
own_is h called more message _ _ _ _ _ (IsRemote base p n g k remote local free low) = refl
own_is h called more message _ _ _ _ _ (IsTellRemote base p n g k j remote local free low) = refl
own_is h called more message _ _ _ _ _ (IsCloseRemote base p n g k j remote local free low) = refl
own_is h called more message _ _ _ _ _ (IsLocal base p n g k remote local free low) = refl
own_is h called more message _ _ _ _ _ (IsTellLocal base p n g k j remote local free) = refl
own_is h called more message _ _ _ _ _ (IsCloseLocal base p n g k j remote local free) = refl
own_is h called more message _ _ _ _ _ (IsRead base p n g k remote local free) = refl
own_is h called more message _ _ _ _ _ (IsShutRemote base p n g k j remote local free) = refl
own_is h called more message _ _ _ _ _ (IsShutLocal base p n g k j remote local free) = refl
own_is h called more message _ _ _ _ _ (IsShutData base p n g k remote local free) = refl
own_is h called more message _ _ _ _ _ (IsShutCall base p n g remote local free) = refl
own_is h called more message _ _ _ _ _ (IsThrough names remote local) = refl

heads_taking : (h : ℕ) (called : List ℕ) (more : ℕ) (message : List ℕ) (names : Names) (ph : CallPhase) (remote local : Addr) (p : Play)
    → TakesCall h called (spec.serves_next h called more) names ph remote local p → Heads h names (spec.asks_by ph called message names) p
heads_taking h called more message names ph remote local p takes =
    subst (λ (o : Option Request). Heads h names o p) (own_is h called more message names ph remote local p takes)
    (laws.call_heads h called (spec.serves_next h called more) (λ (a b : Addr). Some (request.Read data_name 8192)) (λ base q n g k a b. (_, refl, refl)) names ph remote local p takes)

heads_answer : (h : ℕ) (base : Names) (p : Proto) (n g k : ℕ) (next : Play) (o : Option (List ℕ))
    → Heads h (open_names base p n g k) (Some (spec.writes_by o)) (answers_call h (call_fid p n g) (data_fid p n k) o (Ends base) next)
heads_answer h base p n g k next None = (_, refl, refl)
heads_answer h base p n g k next (Some text) = (_, refl, refl)

heads : (h : ℕ) (called : List ℕ) (names : Names) (ph : CallPhase) (more : ℕ) (message : List ℕ) (p : Play) → Stands h called names ph more message p → Heads h names (spec.asks_by ph called message names) p
heads h called _ _ _ _ _ (IsTaking names ph more message remote local p takes) = heads_taking h called more message names ph remote local p takes
heads h called _ _ _ _ _ (IsAnswer base p n g k more message free is) = heads_answer h base p n g k (spec.then_more h called more base) (dns_answer base.zone message)
heads h called _ _ _ _ _ (IsLeaveData base p n g k more message free) = (_, refl, refl)
heads h called _ _ _ _ _ (IsLeaveCall base p n g more message free) = (_, refl, refl)

pub asks_so : AsksSo Dns spec.asks spec.StandsFor
asks_so h names t p stands = heads h t.name names t.phase t.more t.message p stands

-- Its replies.

-- what is read has an answer, or the call is closed
moved_read : (h : ℕ) (called : List ℕ) (more : ℕ) (base : Names) (p : Proto) (n g k : ℕ) (message : List ℕ) → AreFree base → (b : Bool) → is_answered message ≡ b
    → Stands h called (open_names base p n g k) (if_so b phase.Answer phase.LeaveData) more message
    (answers_call h (call_fid p n g) (data_fid p n k) (if b then Some (answer_question base.zone message (question_of message)) else None) (Ends base) (spec.then_more h called more base))
moved_read h called more base p n g k message free true is =
    subst (λ (o : Option (List ℕ)). Stands h called (open_names base p n g k) phase.Answer more message (answers_call h (call_fid p n g) (data_fid p n k) o (Ends base) (spec.then_more h called more base)))
    (answer_is_some base.zone message is) (IsAnswer base p n g k more message free is)
moved_read h called more base p n g k message free false is = IsLeaveData base p n g k more message free

moved_told : (h : ℕ) (called : List ℕ) (more : ℕ) (base : Names) (p : Proto) (n g k : ℕ) (message : List ℕ) (remote local : Addr) → AreFree base → (b : Bool)
    → Stands h called (open_names base p n g k) (if_so b (spec.read_phase message) phase.ShutData) more message
    (if b then answers_call h (call_fid p n g) (data_fid p n k) (dns_answer base.zone message) (Ends base) (spec.then_more h called more base) else shuts_data h base p n g k)
moved_told h called more base p n g k message remote local free true = moved_read h called more base p n g k message free (is_answered message) refl
moved_told h called more base p n g k message remote local free false = IsTaking _ _ more message _ _ _ (IsShutData base p n g k remote local free)

moved_taking : (h : ℕ) (called : List ℕ) (more : ℕ) (message : List ℕ) (names : Names) (ph : CallPhase) (remote local : Addr) (p : Play) (r : Reply)
    → TakesCall h called (spec.serves_next h called more) names ph remote local p → fits_play p r ≡ true
    → Stands h called (settles names (asks_by ph called (Some (request.Read data_name 8192)) names) r) (spec.phase_by ph more r) (spec.more_after ph more) (spec.message_after ph r message) (follow p r)
moved_taking h called more message _ _ _ _ _ r (IsFresh names remote local slots) fit = IsTaking _ _ more message _ _ _ (laws.moved_fresh h called (spec.serves_next h called more) names remote local r (taken_name names) refl slots fit)
moved_taking h called more message _ _ _ _ _ r (IsData base p n g remote local free low) fit = IsTaking _ _ more message _ _ _ (laws.moved_data h called (spec.serves_next h called more) base p n g remote local r free low fit)
moved_taking h called more message _ _ _ _ _ r (IsRemote base p n g k remote local free low) fit = IsTaking _ _ more message _ _ _ (laws.moved_remote h called (spec.serves_next h called more) base p n g k remote local r free low fit)
moved_taking h called more message _ _ _ _ _ r (IsTellRemote base p n g k j remote local free low) fit = IsTaking _ _ more message _ _ _ (laws.moved_tell_remote h called (spec.serves_next h called more) base p n g k j (address_told (bytes_in r)) local free low (is_accepted r))
moved_taking h called more message _ _ _ _ _ r (IsCloseRemote base p n g k j remote local free low) fit = IsTaking _ _ more message _ _ _ (laws.moved_close_remote h called (spec.serves_next h called more) base p n g k j remote local free low (is_accepted r))
moved_taking h called more message _ _ _ _ _ r (IsLocal base p n g k remote local free low) fit = IsTaking _ _ more message _ _ _ (laws.moved_local h called (spec.serves_next h called more) base p n g k remote local r free low fit)
moved_taking h called more message _ _ _ _ _ r (IsTellLocal base p n g k j remote local free) fit = IsTaking _ _ more message _ _ _ (laws.moved_tell_local h called (spec.serves_next h called more) base p n g k j remote (address_told (bytes_in r)) free (is_accepted r))
moved_taking h called more message _ _ _ _ _ r (IsCloseLocal base p n g k j remote local free) fit = IsTaking _ _ more message _ _ _ (laws.moved_close_local h called (spec.serves_next h called more) base p n g k j remote local free (is_accepted r))
moved_taking h called more message _ _ _ _ _ r (IsShutRemote base p n g k j remote local free) fit = IsTaking _ _ more message _ _ _ (laws.moved_shut_told h called (spec.serves_next h called more) remote_name file.Remote base p n g k j remote local free free.remote_free)
moved_taking h called more message _ _ _ _ _ r (IsShutLocal base p n g k j remote local free) fit = IsTaking _ _ more message _ _ _ (laws.moved_shut_told h called (spec.serves_next h called more) local_name file.Local base p n g k j remote local free free.local_free)
moved_taking h called more message _ _ _ _ _ r (IsShutData base p n g k remote local free) fit = IsTaking _ _ more message _ _ _ (laws.moved_shut_data h called (spec.serves_next h called more) base p n g k remote local free)
moved_taking h called more message _ _ _ _ _ r (IsShutCall base p n g remote local free) fit = IsTaking _ _ more message _ _ _ (laws.moved_shut_call h called (spec.serves_next h called more) base p n g remote local free)
moved_taking h called more message _ _ _ _ _ r (IsThrough names remote local) fit = IsTaking _ _ more message _ _ _ (IsThrough names remote local)
moved_taking h called more message _ _ _ _ _ r (IsRead base p n g k remote local free) fit = moved_told h called more base p n g k (bytes_in r) remote local free (is_accepted r)

-- an answer was written
moved_answer : (h : ℕ) (called : List ℕ) (more : ℕ) (message : List ℕ) (base : Names) (p : Proto) (n g k : ℕ) → AreFree base → (b : Bool)
    → Stands h called (open_names base p n g k) (if_so b phase.LeaveData phase.ShutData) more message
    (if b then leaves_call h (call_fid p n g) (data_fid p n k) (Ends base) (spec.then_more h called more base) else shuts_data h base p n g k)
moved_answer h called more message base p n g k free true = IsLeaveData base p n g k more message free
moved_answer h called more message base p n g k free false = IsTaking _ _ more message nowhere nowhere _ (IsShutData base p n g k nowhere nowhere free)

moved_by : (h : ℕ) (called : List ℕ) (more : ℕ) (message : List ℕ) (base : Names) (p : Proto) (n g k : ℕ) (r : Reply) → AreFree base → (text : List ℕ) (o : Option (List ℕ)) → Some text ≡ o
    → Stands h called (settled (open_names base p n g k) (spec.writes_by o) r) (if_so (is_accepted r) phase.LeaveData phase.ShutData) more message
    (follow (answers_call h (call_fid p n g) (data_fid p n k) o (Ends base) (spec.then_more h called more base)) r)
moved_by h called more message base p n g k r free text o is =
    subst (λ (x : Option (List ℕ)). Stands h called (settled (open_names base p n g k) (spec.writes_by x) r) (if_so (is_accepted r) phase.LeaveData phase.ShutData) more message
    (follow (answers_call h (call_fid p n g) (data_fid p n k) x (Ends base) (spec.then_more h called more base)) r)) is
    (moved_answer h called more message base p n g k free (is_accepted r))

-- the data file was closed
left_data : (h : ℕ) (called : List ℕ) (more : ℕ) (message : List ℕ) (base : Names) (p : Proto) (n g : ℕ) → AreFree base → (b : Bool)
    → Stands h called (taken_names base p n g) (if_so b phase.LeaveCall phase.ShutCall) more message
    (if b then closes_fid h (call_fid p n g) (Ends base) (spec.then_more h called more base) else shuts_call h base p n g)
left_data h called more message base p n g free true = IsLeaveCall base p n g more message free
left_data h called more message base p n g free false = IsTaking _ _ more message nowhere nowhere _ (IsShutCall base p n g nowhere nowhere free)

moved_data : (h : ℕ) (called : List ℕ) (more : ℕ) (message : List ℕ) (base : Names) (p : Proto) (n g k : ℕ) → AreFree base → (b : Bool)
    → Stands h called (unbind data_name (open_names base p n g k)) (if_so b phase.LeaveCall phase.ShutCall) more message
    (if b then closes_fid h (call_fid p n g) (Ends base) (spec.then_more h called more base) else shuts_call h base p n g)
moved_data h called more message base p n g k free b =
    subst (λ (names : Names). Stands h called names (if_so b phase.LeaveCall phase.ShutCall) more message (if b then closes_fid h (call_fid p n g) (Ends base) (spec.then_more h called more base) else shuts_call h base p n g))
    (sym (laws.data_left base p n g k free)) (left_data h called more message base p n g free b)

-- the ctl file was closed: the next call is taken, if one is left
left_call : (h : ℕ) (called : List ℕ) (more : ℕ) (message : List ℕ) (base : Names) → AreFree base → (b : Bool)
    → Stands h called base (if_so (b && nat_lt 0 more) phase.Fresh phase.Through) (more - 1) message (if b then spec.then_more h called more base else Ends base)
left_call h called zero message base free true = IsTaking base phase.Through (0 - 1) message nowhere nowhere (Ends base) (IsThrough base nowhere nowhere)
left_call h called (suc more) message base free true =
    let less : suc more - 1 ≡ more = omega arith in
    rw (some_left more, less) (begins h base called more message free.slots)
left_call h called more message base free false = IsTaking base phase.Through (more - 1) message nowhere nowhere (Ends base) (IsThrough base nowhere nowhere)

moved_call : (h : ℕ) (called : List ℕ) (more : ℕ) (message : List ℕ) (base : Names) (p : Proto) (n g : ℕ) → AreFree base → (b : Bool)
    → Stands h called (unbind call_name (taken_names base p n g)) (if_so (b && nat_lt 0 more) phase.Fresh phase.Through) (more - 1) message (if b then spec.then_more h called more base else Ends base)
moved_call h called more message base p n g free b =
    subst (λ (names : Names). Stands h called names (if_so (b && nat_lt 0 more) phase.Fresh phase.Through) (more - 1) message (if b then spec.then_more h called more base else Ends base))
    (sym (laws.call_left base p n g free)) (left_call h called more message base free b)

moves : (h : ℕ) (called : List ℕ) (names : Names) (ph : CallPhase) (more : ℕ) (message : List ℕ) (p : Play) (r : Reply) → Stands h called names ph more message p → fits_play p r ≡ true
    → Stands h called (settles names (spec.asks_by ph called message names) r) (spec.phase_by ph more r) (spec.more_after ph more) (spec.message_after ph r message) (follow p r)
moves h called _ _ _ _ _ r (IsTaking names ph more message remote local p takes) fit =
    subst (λ (o : Option Request). Stands h called (settles names o r) (spec.phase_by ph more r) (spec.more_after ph more) (spec.message_after ph r message) (follow p r))
    (own_is h called more message names ph remote local p takes) (moved_taking h called more message names ph remote local p r takes fit)
moves h called _ _ _ _ _ r (IsAnswer base p n g k more message free is) fit =
    moved_by h called more message base p n g k r free (answer_question base.zone message (question_of message)) (dns_answer base.zone message) (sym (answer_is_some base.zone message is))
moves h called _ _ _ _ _ r (IsLeaveData base p n g k more message free) fit = moved_data h called more message base p n g k free (is_accepted r)
moves h called _ _ _ _ _ r (IsLeaveCall base p n g more message free) fit = moved_call h called more message base p n g free (is_accepted r)

moves_by : MovesBy Dns spec.asks spec.after spec.StandsFor
moves_by h names t p q r stands asked fit = moves h t.name names t.phase t.more t.message p r stands fit

pub moves_so : MovesSo Dns spec.asks spec.after spec.StandsFor
moves_so = moves_from Dns spec.asks spec.after spec.StandsFor moves_by

-- a fresh one stands for its step
pub fresh : (h : ℕ) (names : Names) (called name : List ℕ) (times more : ℕ) (message : List ℕ) → name ≡ called → more ≡ times - 1 → HaveSlots names
    → spec.StandsFor h names (record { name = name; more = more; phase = phase.Fresh; message = message }) (play_of h names (step.Dns called times))
fresh h names called name times more message is left slots =
    subst (λ (x : List ℕ). Stands h x names phase.Fresh more message (play_of h names (step.Dns called times))) (sym is)
    (subst (λ (m : ℕ). Stands h called names phase.Fresh m message (play_of h names (step.Dns called times))) (sym left) (begins h names called (times - 1) message slots))
