-- The texts that are written to a ctl file.
--     spelling         the one text that a control is written as
--     IsSpelled        the text spells the control
--     Reads            the same, where a newline may follow
--     read             the control that a text says, or the number of its fault
use Rattle.std.specs.Prelude.{◌≡◌, ℕ, ◌+◌, ◌*◌, ◌^◌, ◌==◌, ◌⊎◌, Bool, true, false, ◌&&◌, ◌||◌, List, [], ◌∷◌, ◌++◌, Option, Some, None, Result, Err, codes, decimal, bytes_eq, nat_lt, option_map, ok_or, if◌then◌else◌}
use Rattle.std.specs.List.{before_first, slice_split, list_any}
use Rattle.std.specs.Option.{option_and_then, option_map_or}
use Rattle.std.specs.Str.Parse.{digits_value}
use Rattle.net_base.specs.declared.address.Addr.{Addr}
use Rattle.net_base.specs.declared.names.Ctl.{Ctl}
use Rattle.net_base.specs.declared.names.Ctl.TheVariants as ctl
pub use Rattle.net_base.specs.Addresses.{address_text as dotted}

-- Spellings.

-- an address with its port: A!PORT
abbrev pub place : Addr → List ℕ
place a = dotted a.ip ++ codes "!" ++ decimal a.port

-- the control as it is written, without a newline
abbrev pub spelling : Ctl → List ℕ
spelling (ctl.Connect remote None) = codes "connect " ++ place remote
spelling (ctl.Connect remote (Some port)) = codes "connect " ++ place remote ++ codes " " ++ decimal port
spelling (ctl.Announce None (Some port)) = codes "announce *!" ++ decimal port
spelling (ctl.Announce (Some ip) (Some port)) = codes "announce " ++ place (record { ip = ip; port = port })
spelling (ctl.Announce ip None) = codes "announce *"
spelling (ctl.Bind port) = codes "bind " ++ decimal port
spelling ctl.Hangup = codes "hangup"
spelling (ctl.Ttl n) = codes "ttl " ++ decimal n
spelling (ctl.Tos n) = codes "tos " ++ decimal n

-- a port alone is announced at any address
abbrev pub short_spelling : Ctl → Option (List ℕ)
short_spelling (ctl.Announce None (Some port)) = Some (codes "announce " ++ decimal port)
short_spelling _ = None

-- ports are 1 to 65535
abbrev pub is_port : ℕ → Bool
is_port port = nat_lt 0 port && nat_lt port 65536

abbrev pub is_place : Addr → Bool
is_place a = nat_lt a.ip (2 ^ 32) && is_port a.port

-- the numbers of the control are in their ranges
abbrev pub control_in_range : Ctl → Bool
control_in_range (ctl.Connect remote None) = is_place remote
control_in_range (ctl.Connect remote (Some port)) = is_place remote && is_port port
control_in_range (ctl.Announce None None) = true
control_in_range (ctl.Announce None (Some port)) = is_port port
control_in_range (ctl.Announce (Some ip) (Some port)) = is_place (record { ip = ip; port = port })
control_in_range (ctl.Announce (Some ip) None) = false
control_in_range (ctl.Bind port) = is_port port
control_in_range ctl.Hangup = true
control_in_range (ctl.Ttl n) = nat_lt 0 n && nat_lt n 256
control_in_range (ctl.Tos n) = nat_lt n 256

abbrev pub IsSpelled : Ctl → List ℕ → Type 0
IsSpelled c text = (control_in_range c ≡ true) × ((text ≡ spelling c) ⊎ (short_spelling c ≡ Some text))

abbrev pub newline : ℕ
newline = 10

-- one newline may follow
abbrev pub Reads : List ℕ → Ctl → Type 0
Reads text c = IsSpelled c text ⊎ ((line : List ℕ) × (text ≡ line ++ newline ∷ []) × IsSpelled c line)

-- The reading.

abbrev pub blank : ℕ
blank = 32

-- the bytes before the first blank or newline
abbrev pub first_word : List ℕ → List ℕ
first_word text = before_first (λ b. (b == blank) || (b == newline)) text

-- the six words
abbrev pub is_control_word : List ℕ → Bool
is_control_word word = list_any (bytes_eq word) (codes "connect" ∷ codes "announce" ∷ codes "bind" ∷ codes "hangup" ∷ codes "ttl" ∷ codes "tos" ∷ [])

-- the text without the newline at its end, if it has one
abbrev pub without_newline : List ℕ → List ℕ
without_newline [] = []
without_newline (b ∷ []) = if b == newline then [] else b ∷ []
without_newline (b ∷ c ∷ rest) = b ∷ without_newline (c ∷ rest)

-- the address whose four numbers these parts are
abbrev pub address_of : List (List ℕ) → Option ℕ
address_of (a ∷ b ∷ c ∷ d ∷ []) = Some (digits_value 10 a * 2 ^ 24 + digits_value 10 b * 2 ^ 16 + digits_value 10 c * 2 ^ 8 + digits_value 10 d)
address_of _ = None

abbrev pub place_of : List (List ℕ) → Option Addr
place_of (ip ∷ port ∷ []) = option_map (λ (n : ℕ). record { ip = n; port = digits_value 10 port }) (address_of (slice_split (λ b. b == 46) ip))
place_of _ = None

abbrev pub parts_of_place : List ℕ → List (List ℕ)
parts_of_place text = slice_split (λ b. b == 33) text

-- what these arguments of `connect` would say
abbrev pub connect_of : List (List ℕ) → Option Ctl
connect_of (at ∷ []) = option_map (λ (a : Addr). ctl.Connect a None) (place_of (parts_of_place at))
connect_of (at ∷ port ∷ []) = option_map (λ (a : Addr). ctl.Connect a (Some (digits_value 10 port))) (place_of (parts_of_place at))
connect_of _ = None

-- what these parts of the argument of `announce` would say
abbrev pub announce_of : List (List ℕ) → Option Ctl
announce_of (at ∷ []) = Some (ctl.Announce None (if bytes_eq at (codes "*") then None else Some (digits_value 10 at)))
announce_of (at ∷ port ∷ []) =
    if bytes_eq at (codes "*")
    then Some (ctl.Announce None (Some (digits_value 10 port)))
    else option_map (λ (a : Addr). ctl.Announce (Some a.ip) (Some a.port)) (place_of (at ∷ port ∷ []))
announce_of _ = None

abbrev pub with_number : (ℕ → Ctl) → List (List ℕ) → Option Ctl
with_number control (n ∷ []) = Some (control (digits_value 10 n))
with_number control _ = None

-- the one word of a list that has no other
abbrev pub single : List (List ℕ) → Option (List ℕ)
single (only ∷ []) = Some only
single _ = None

-- what these words of a line would say
abbrev pub control_of : List (List ℕ) → Option Ctl
control_of (word ∷ arguments) =
    if bytes_eq word (codes "connect")
    then connect_of arguments
    else (if bytes_eq word (codes "announce")
    then option_and_then (λ (at : List ℕ). announce_of (parts_of_place at)) (single arguments)
    else (if bytes_eq word (codes "bind")
    then with_number (λ n. ctl.Bind n) arguments
    else (if bytes_eq word (codes "hangup")
    then Some ctl.Hangup
    else (if bytes_eq word (codes "ttl")
    then with_number (λ n. ctl.Ttl n) arguments
    else with_number (λ n. ctl.Tos n) arguments))))
control_of [] = None

abbrev pub is_spelled : Ctl → List ℕ → Bool
is_spelled c line = control_in_range c && (bytes_eq line (spelling c) || option_map_or (λ (short : List ℕ). bytes_eq line short) (short_spelling c) false)

-- the control, where it spells the line
abbrev pub checked_control : List ℕ → Option Ctl → Option Ctl
checked_control line None = None
checked_control line (Some c) = if is_spelled c line then Some c else None

-- the control that a line says
abbrev pub said : List ℕ → Option Ctl
said line = checked_control line (control_of (slice_split (λ b. b == blank) line))

-- the fault of a text that has no reading
abbrev pub bad_word : ℕ
bad_word = 1

abbrev pub bad_argument : ℕ
bad_argument = 2

-- the control that a text says, or the number of its fault
abbrev pub read : List ℕ → Result Ctl ℕ
read text = if is_control_word (first_word text) then ok_or (said (without_newline text)) bad_argument else Err bad_word
