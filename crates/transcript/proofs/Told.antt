-- Words say what they were made of, and are clean.
use Rattle.std.proofs.Common.{◌≡◌, ℕ, ◌+◌, ◌*◌, ◌/◌, ◌%◌, ◌^◌, ◌==◌, Bool, true, ◌&&◌, not, List, [], ◌∷◌, ◌++◌, Option, Some, None, refl, ◌∙◌, ap, append_assoc, arith, codes}
use Rattle.std.specs.List.{list_all}
use Rattle.net_base.specs.declared.actor.ActorName.{ActorName}
use Rattle.net_base.specs.declared.actor.ActorName.TheVariants as name
use Rattle.net_base.specs.declared.address.Addr.{Addr}
use Rattle.net_base.specs.declared.address.Proto.{Proto}
use Rattle.net_base.specs.declared.address.Proto.TheVariants as proto
use Rattle.net_base.specs.declared.il.Cause.{Cause}
use Rattle.net_base.specs.declared.il.Cause.TheVariants as cause
use Rattle.net_base.specs.declared.il.IlKind.{IlKind}
use Rattle.net_base.specs.declared.il.IlKind.TheVariants as kind
use Rattle.net_base.specs.declared.il.StateName.{StateName}
use Rattle.net_base.specs.declared.il.StateName.TheVariants as state
use Rattle.net_base.specs.declared.names.FileName.{FileName}
use Rattle.net_base.specs.declared.names.FileName.TheVariants as file
use Rattle.net_base.specs.declared.names.Mode.{Mode}
use Rattle.net_base.specs.declared.names.Mode.TheVariants as mode
use Rattle.net_base.specs.Numeral.{numeral}
use Rattle.net_base.specs.Paths.{proto_name, file_name}
use Rattle.net_base.specs.Plain.{IsClean}
use Rattle.net_base.specs.StateWords.{state_word}
use Rattle.net_base.specs.Transcript.{actor_word, addr_word, cause_number, ip_or_star, ip_word, kind_word, mode_word, number_or_dash, number_or_star}
use Rattle.transcript.proofs.Numbers.{number, take_number, numbers, numbers_last, numbers_more, number_before, number_told, number_starts, starts_with, clean_both, clean_numeral}
use Rattle.transcript.proofs.Readers.{read_mode, read_file, read_kind, read_state, numbered, read_number, read_ip, read_addr, read_actor, ip_of, addr_of, dir_of, conv_of}

-- Literal words.

abbrev pub is_clean : List ℕ → Bool
is_clean bytes = list_all (λ b. not (b == 32) && not (b == 10)) bytes

pub clean : (bytes : List ℕ) → is_clean bytes ≡ true → IsClean bytes
clean [] is = tt
clean (b ∷ bs) is = (λ blank. grind (arith, is, blank), λ newline. grind (arith, is, newline), clean bs (grind (arith, is)))

pub mode_told : (m : Mode) → read_mode (mode_word m) ≡ m
mode_told mode.Read = refl
mode_told mode.Write = refl
mode_told mode.Both = refl

pub clean_mode : (m : Mode) → IsClean (mode_word m)
clean_mode mode.Read = clean (codes "r") refl
clean_mode mode.Write = clean (codes "w") refl
clean_mode mode.Both = clean (codes "rw") refl

pub file_told : (f : FileName) → read_file (file_name f) ≡ f
file_told file.Ctl = refl
file_told file.Data = refl
file_told file.Err = refl
file_told file.Listen = refl
file_told file.Local = refl
file_told file.Remote = refl
file_told file.Status = refl

pub clean_file : (f : FileName) → IsClean (file_name f)
clean_file file.Ctl = clean (codes "ctl") refl
clean_file file.Data = clean (codes "data") refl
clean_file file.Err = clean (codes "err") refl
clean_file file.Listen = clean (codes "listen") refl
clean_file file.Local = clean (codes "local") refl
clean_file file.Remote = clean (codes "remote") refl
clean_file file.Status = clean (codes "status") refl

pub kind_told : (k : IlKind) → read_kind (kind_word k) ≡ k
kind_told kind.Sync = refl
kind_told kind.Data = refl
kind_told kind.DataQuery = refl
kind_told kind.Ack = refl
kind_told kind.Query = refl
kind_told kind.State = refl
kind_told kind.Close = refl

pub clean_kind : (k : IlKind) → IsClean (kind_word k)
clean_kind kind.Sync = clean (codes "sync") refl
clean_kind kind.Data = clean (codes "data") refl
clean_kind kind.DataQuery = clean (codes "dataquery") refl
clean_kind kind.Ack = clean (codes "ack") refl
clean_kind kind.Query = clean (codes "query") refl
clean_kind kind.State = clean (codes "state") refl
clean_kind kind.Close = clean (codes "close") refl

pub state_told : (s : StateName) → read_state (state_word s) ≡ s
state_told state.Free = refl
state_told state.Reserved = refl
state_told state.Announced = refl
state_told state.Granted = refl
state_told state.Withdrawn = refl
state_told state.Closed = refl
state_told state.Syncer = refl
state_told state.Syncee = refl
state_told state.Established = refl
state_told state.Listening = refl
state_told state.Closing = refl
state_told state.Open = refl

pub clean_state : (s : StateName) → IsClean (state_word s)
clean_state state.Free = clean (codes "Free") refl
clean_state state.Reserved = clean (codes "Reserved") refl
clean_state state.Announced = clean (codes "Announced") refl
clean_state state.Granted = clean (codes "Granted") refl
clean_state state.Withdrawn = clean (codes "Withdrawn") refl
clean_state state.Closed = clean (codes "Closed") refl
clean_state state.Syncer = clean (codes "Syncer") refl
clean_state state.Syncee = clean (codes "Syncee") refl
clean_state state.Established = clean (codes "Established") refl
clean_state state.Listening = clean (codes "Listening") refl
clean_state state.Closing = clean (codes "Closing") refl
clean_state state.Open = clean (codes "Open") refl

numbered_told : (c : Cause) → numbered (cause_number c) ≡ c
numbered_told cause.Refused = refl
numbered_told cause.TimedOut = refl
numbered_told cause.Hungup = refl
numbered_told cause.ByPeer = refl

pub cause_told : (c : Cause) → numbered (number (numeral (cause_number c))) ≡ c
cause_told c = ap numbered (number_told (cause_number c)) ∙ numbered_told c

-- Numbers or a mark.

pub dash_told : (n : Option ℕ) → read_number (number_or_dash n) ≡ n
unfolding read_number
dash_told None = refl
dash_told (Some n) = rw (number_starts n) (ap Some (number_told n))

pub star_told : (n : Option ℕ) → read_number (number_or_star n) ≡ n
unfolding read_number
star_told None = refl
star_told (Some n) = rw (number_starts n) (ap Some (number_told n))

pub clean_dash : (n : Option ℕ) → IsClean (number_or_dash n)
clean_dash None = clean (codes "-") refl
clean_dash (Some n) = clean_numeral n

pub clean_star : (n : Option ℕ) → IsClean (number_or_star n)
clean_star None = clean (codes "*") refl
clean_star (Some n) = clean_numeral n

-- Addresses.

-- an address, and what follows it
dotted : (ip : ℕ) (rest : List ℕ) → ip_word ip ++ rest ≡ numeral (ip / 2 ^ 24) ++ 46 ∷ (numeral (ip / 2 ^ 16 % 256) ++ 46 ∷ (numeral (ip / 2 ^ 8 % 256) ++ 46 ∷ (numeral (ip % 256) ++ rest)))
dotted ip rest = simp append_assoc refl

pub address_is : (ip : ℕ) → ip_word ip ≡ numeral (ip / 2 ^ 24) ++ 46 ∷ (numeral (ip / 2 ^ 16 % 256) ++ 46 ∷ (numeral (ip / 2 ^ 8 % 256) ++ 46 ∷ numeral (ip % 256)))
address_is ip = simp append_assoc refl

four_numbers : (a b c d : ℕ) → numbers 4 (numeral a ++ 46 ∷ (numeral b ++ 46 ∷ (numeral c ++ 46 ∷ numeral d))) ≡ a ∷ b ∷ c ∷ d ∷ []
four_numbers a b c d =
    numbers_more 3 a 46 (numeral b ++ 46 ∷ (numeral c ++ 46 ∷ numeral d)) refl
    ∙ ap (λ ns. a ∷ ns) (numbers_more 2 b 46 (numeral c ++ 46 ∷ numeral d) refl)
    ∙ ap (λ ns. a ∷ b ∷ ns) (numbers_more 1 c 46 (numeral d) refl)
    ∙ ap (λ ns. a ∷ b ∷ c ∷ ns) (numbers_last d)

five_numbers : (a b c d e : ℕ) → numbers 5 (numeral a ++ 46 ∷ (numeral b ++ 46 ∷ (numeral c ++ 46 ∷ (numeral d ++ 33 ∷ numeral e)))) ≡ a ∷ b ∷ c ∷ d ∷ e ∷ []
five_numbers a b c d e =
    numbers_more 4 a 46 (numeral b ++ 46 ∷ (numeral c ++ 46 ∷ (numeral d ++ 33 ∷ numeral e))) refl
    ∙ ap (λ ns. a ∷ ns) (numbers_more 3 b 46 (numeral c ++ 46 ∷ (numeral d ++ 33 ∷ numeral e)) refl)
    ∙ ap (λ ns. a ∷ b ∷ ns) (numbers_more 2 c 46 (numeral d ++ 33 ∷ numeral e) refl)
    ∙ ap (λ ns. a ∷ b ∷ c ∷ ns) (numbers_more 1 d 33 (numeral e) refl)
    ∙ ap (λ ns. a ∷ b ∷ c ∷ d ∷ ns) (numbers_last e)

joined : (ip : ℕ) → ((ip / 2 ^ 24 * 256 + ip / 2 ^ 16 % 256) * 256 + ip / 2 ^ 8 % 256) * 256 + ip % 256 ≡ ip
joined ip = omega arith

pub ip_told : (ip : Option ℕ) → read_ip (ip_or_star ip) ≡ ip
unfolding read_ip
ip_told None = refl
ip_told (Some ip) =
    rw (address_is ip, starts_with (ip / 2 ^ 24) (46 ∷ (numeral (ip / 2 ^ 16 % 256) ++ 46 ∷ (numeral (ip / 2 ^ 8 % 256) ++ 46 ∷ numeral (ip % 256)))))
    (ap (λ ns. Some (ip_of ns)) (four_numbers (ip / 2 ^ 24) (ip / 2 ^ 16 % 256) (ip / 2 ^ 8 % 256) (ip % 256))
    ∙ ap Some (joined ip))

pub addr_told : (a : Addr) → read_addr (addr_word a) ≡ a
unfolding read_addr addr_word
addr_told a =
    ap (λ word. addr_of (numbers 5 word)) (append_assoc (ip_word a.ip) (codes "!") (numeral a.port) ∙ dotted a.ip (33 ∷ numeral a.port))
    ∙ ap addr_of (five_numbers (a.ip / 2 ^ 24) (a.ip / 2 ^ 16 % 256) (a.ip / 2 ^ 8 % 256) (a.ip % 256) a.port)
    ∙ ap (λ ip. record { ip = ip; port = a.port }) (joined a.ip)

clean_dot : IsClean (46 ∷ [])
clean_dot = clean (codes ".") refl

clean_address : (ip : ℕ) → IsClean (ip_word ip)
clean_address ip =
    let dot = λ (bs : List ℕ) (n : ℕ) (cb : IsClean bs). clean_both (bs ++ codes ".") (numeral n) (clean_both bs (codes ".") cb clean_dot) (clean_numeral n) in
    dot _ (ip % 256) (dot _ (ip / 2 ^ 8 % 256) (dot _ (ip / 2 ^ 16 % 256) (clean_numeral (ip / 2 ^ 24))))

pub clean_ip : (ip : Option ℕ) → IsClean (ip_or_star ip)
clean_ip None = clean (codes "*") refl
clean_ip (Some ip) = clean_address ip

pub clean_addr : (a : Addr) → IsClean (addr_word a)
unfolding addr_word
clean_addr a = clean_both _ _ (clean_both _ _ (clean_address a.ip) (clean (codes "!") refl)) (clean_numeral a.port)

-- Actors.

dir_told : (h : ℕ) (p : Proto) → dir_of (h, 46 ∷ proto_name p) ≡ name.Dir h p
dir_told h proto.Il = refl
dir_told h proto.Udp = refl

conv_told : (h : ℕ) (p : Proto) (n : ℕ) → conv_of (h, 46 ∷ (proto_name p ++ 46 ∷ numeral n)) ≡ name.Conv h p n
conv_told h proto.Il n = ap (name.Conv h proto.Il) (number_told n)
conv_told h proto.Udp n = ap (name.Conv h proto.Udp) (number_told n)

conv_tail : (h n : ℕ) (p : Proto) → numeral h ++ codes "." ++ proto_name p ++ codes "." ++ numeral n ≡ numeral h ++ 46 ∷ (proto_name p ++ 46 ∷ numeral n)
conv_tail h n p = simp append_assoc refl

pub actor_told : (a : ActorName) → read_actor (actor_word a) ≡ a
unfolding read_actor
actor_told (name.Desk h) = ap name.Desk (number_told h)
actor_told (name.Dir h p) =
    ap (λ bytes. dir_of (take_number 0 bytes)) (append_assoc (numeral h) (codes ".") (proto_name p))
    ∙ ap dir_of (number_before h 46 (proto_name p) refl)
    ∙ dir_told h p
actor_told (name.Conv h p n) =
    ap (λ bytes. conv_of (take_number 0 bytes)) (conv_tail h n p)
    ∙ ap conv_of (number_before h 46 (proto_name p ++ 46 ∷ numeral n) refl)
    ∙ conv_told h p n
actor_told (name.Medium m) = ap name.Medium (number_told m)
actor_told name.Clock = refl

clean_proto : (p : Proto) → IsClean (proto_name p)
clean_proto proto.Il = clean (codes "il") refl
clean_proto proto.Udp = clean (codes "udp") refl

-- a word, a number and a dot
clean_front : (word : List ℕ) (n : ℕ) → IsClean word → IsClean (word ++ numeral n ++ 46 ∷ [])
clean_front word n cw = clean_both (word ++ numeral n) (46 ∷ []) (clean_both word (numeral n) cw (clean_numeral n)) clean_dot

pub clean_actor : (a : ActorName) → IsClean (actor_word a)
clean_actor (name.Desk h) = clean_both (codes "desk.") (numeral h) (clean (codes "desk.") refl) (clean_numeral h)
clean_actor (name.Dir h p) =
    clean_both (codes "dir." ++ numeral h ++ codes ".") (proto_name p) (clean_front (codes "dir.") h (clean (codes "dir.") refl)) (clean_proto p)
clean_actor (name.Conv h p n) =
    let front = clean_front (codes "conv.") h (clean (codes "conv.") refl) in
    let host = clean_both (codes "conv." ++ numeral h ++ codes ".") (proto_name p) front (clean_proto p) in
    let dot = clean_both (codes "conv." ++ numeral h ++ codes "." ++ proto_name p) (codes ".") host clean_dot in
    clean_both (codes "conv." ++ numeral h ++ codes "." ++ proto_name p ++ codes ".") (numeral n) dot (clean_numeral n)
clean_actor (name.Medium m) = clean_both (codes "medium.") (numeral m) (clean (codes "medium.") refl) (clean_numeral m)
clean_actor name.Clock = clean (codes "clock") refl
