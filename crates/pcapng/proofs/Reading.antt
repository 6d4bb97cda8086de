-- A reader who goes from block to block finds each block, and the packet in it.
use Rattle.std.proofs.Common.{◌≡◌, ℕ, zero, suc, ◌+◌, ◌-◌, ◌*◌, ◌/◌, ◌%◌, ◌^◌, ◌<◌, ◌≤◌, List, [], ◌∷◌, ◌++◌, length, take, drop, flat_map, refl, sym, ap, subst, ◌∙◌, append_assoc, length-append, arith}
use Rattle.std.specs.Int.{bytes_low_first}
use Rattle.std.specs.List.{AllByRecursion}
use Rattle.byteorder.specs.Numbers.{little_number-reads_back}
use Rattle.pcapng.specs.Blocks.{Shown, block, interface_block, interface_body, interface_start, long_number, option_bytes, options_end, packet_block, packet_body, packet_start, padded, padding, section_block, section_body, short_number}
use Rattle.pcapng.specs.Reading.{ReadPacket, blocks_in, number_behind, packet_in}

-- One block.

take_front : (xs ys : List ℕ) → take (length xs) (xs ++ ys) ≡ xs
take_front [] ys = refl
take_front (x ∷ xs) ys = ap (λ (zs : List ℕ). x ∷ zs) (take_front xs ys)

drop_front : (xs ys : List ℕ) → drop (length xs) (xs ++ ys) ≡ ys
drop_front [] ys = refl
drop_front (x ∷ xs) ys = drop_front xs ys

long_read : (n : ℕ) (rest : List ℕ) → n < 2 ^ 32 → number_behind 0 (long_number n ++ rest) ≡ n
unfolding long_number
long_read n rest lt = little_number-reads_back 4 n rest (omega (arith, lt))

block_length : (k : ℕ) (body : List ℕ) → length (block k body) ≡ length body + 12
unfolding block long_number
block_length k body =
    let last : length (body ++ long_number (length body + 12)) ≡ length body + 4 = length-append body (long_number (length body + 12)) in
    omega (arith, last)

block_says : (k : ℕ) (body tail : List ℕ) → length body + 12 < 2 ^ 32 → number_behind 4 (block k body ++ tail) ≡ length body + 12
unfolding block long_number
block_says k body tail short = long_read (length body + 12) ((body ++ long_number (length body + 12)) ++ tail) short

blocks_step : (most : ℕ) (bytes : List ℕ) → 0 < length bytes
    → blocks_in (suc most) bytes ≡ take (number_behind 4 bytes) bytes ∷ blocks_in most (drop (number_behind 4 bytes) bytes)
blocks_step most [] some = absurd (omega (arith, some))
blocks_step most (b ∷ bs) some = refl

cut_at : (most n : ℕ) (front tail : List ℕ) → n ≡ length front
    → take n (front ++ tail) ∷ blocks_in most (drop n (front ++ tail)) ≡ front ∷ blocks_in most tail
cut_at most n front tail is =
    ap (λ (m : ℕ). take m (front ++ tail) ∷ blocks_in most (drop m (front ++ tail))) is
    ∙ (ap (λ (b : List ℕ). b ∷ blocks_in most (drop (length front) (front ++ tail))) (take_front front tail)
    ∙ ap (λ (rest : List ℕ). front ∷ blocks_in most rest) (drop_front front tail))

-- a block of fewer than 2^32 bytes, in which these packets are
pub record IsShortBlock (bytes : List ℕ) (packets : List ReadPacket) : Type 0 where
  pub kind : ℕ
  pub body : List ℕ
  pub is : bytes ≡ block kind body
  pub short : length body + 12 < 2 ^ 32
  pub has : packet_in bytes ≡ packets

first_block : (most : ℕ) (k : ℕ) (body tail : List ℕ) → length body + 12 < 2 ^ 32
    → blocks_in (suc most) (block k body ++ tail) ≡ block k body ∷ blocks_in most tail
first_block most k body tail short =
    let long = block_length k body in
    let all = length-append (block k body) tail in
    let some : 0 < length (block k body ++ tail) = omega (arith, long, all) in
    let says = block_says k body tail short in
    blocks_step most (block k body ++ tail) some ∙ cut_at most (number_behind 4 (block k body ++ tail)) (block k body) tail (says ∙ sym long)

-- Blocks one after another.

-- what is read of bytes with at most this number of blocks, if there is room for the rest
pub record ReadsOn (most : ℕ) (bytes rest : List ℕ) (packets : List ReadPacket) : Type 0 where
  pub left : ℕ
  pub room : length rest ≤ left
  pub read : flat_map packet_in (blocks_in most bytes) ≡ packets ++ flat_map packet_in (blocks_in left rest)

read_one : (most : ℕ) (bytes tail : List ℕ) (packets : List ReadPacket) → IsShortBlock bytes packets → length (bytes ++ tail) ≤ most
    → ReadsOn most (bytes ++ tail) tail packets
read_one zero bytes tail packets b fits =
    let long : length bytes ≡ length b.body + 12 = ap (λ (xs : List ℕ). length xs) b.is ∙ block_length b.kind b.body in
    absurd (omega (arith, fits, long, length-append bytes tail))
read_one (suc most) bytes tail packets b fits = record {
  left = most;
  room =
      let long : length bytes ≡ length b.body + 12 = ap (λ (xs : List ℕ). length xs) b.is ∙ block_length b.kind b.body in
      omega (arith, fits, long, length-append bytes tail);
  read =
      ap (λ (xs : List ℕ). flat_map packet_in (blocks_in (suc most) (xs ++ tail))) b.is
      ∙ (ap (λ (bs : List (List ℕ)). flat_map packet_in bs) (first_block most b.kind b.body tail b.short)
      ∙ (ap (λ (xs : List ℕ). packet_in xs ++ flat_map packet_in (blocks_in most tail)) (sym b.is)
      ∙ ap (λ (ps : List ReadPacket). ps ++ flat_map packet_in (blocks_in most tail)) b.has));
}

joined : (most : ℕ) (bytes middle rest : List ℕ) (ps qs : List ReadPacket) → (one : ReadsOn most bytes middle ps) → ReadsOn one.left middle rest qs
    → ReadsOn most bytes rest (ps ++ qs)
joined most bytes middle rest ps qs one two = record {
  left = two.left;
  room = two.room;
  read =
      one.read
      ∙ (ap (λ (more : List ReadPacket). ps ++ more) two.read ∙ sym (append_assoc ps qs (flat_map packet_in (blocks_in two.left rest))));
}

module _ {A : Type 0} (f : A → List ℕ) (g : A → List ReadPacket) where
  pub read_each : (xs : List A) (rest : List ℕ) (most : ℕ) → AllByRecursion (λ (x : A). IsShortBlock (f x) (g x)) xs → length (flat_map f xs ++ rest) ≤ most
      → ReadsOn most (flat_map f xs ++ rest) rest (flat_map g xs)
  read_each [] rest most all fits = record { left = most; room = fits; read = refl }
  read_each (x ∷ xs) rest most all fits =
      subst (λ (bytes : List ℕ). ReadsOn most bytes rest (g x ++ flat_map g xs)) (sym whole)
      (joined most (f x ++ (flat_map f xs ++ rest)) (flat_map f xs ++ rest) rest (g x) (flat_map g xs) one (read_each xs rest one.left all.1 one.room))
    where
      whole : flat_map f (x ∷ xs) ++ rest ≡ f x ++ (flat_map f xs ++ rest)
      whole = append_assoc (f x) (flat_map f xs) rest

      one : ReadsOn most (f x ++ (flat_map f xs ++ rest)) (flat_map f xs ++ rest) (g x)
      one = read_one most (f x) (flat_map f xs ++ rest) (g x) all.0 (subst (λ (bytes : List ℕ). length bytes ≤ most) whole fits)

-- the whole file
pub read_file : (one front back : List ℕ) (ps qs rs : List ReadPacket) → IsShortBlock one ps
    → ((rest : List ℕ) (most : ℕ) → length (front ++ rest) ≤ most → ReadsOn most (front ++ rest) rest qs)
    → ((most : ℕ) → length (back ++ []) ≤ most → ReadsOn most (back ++ []) [] rs)
    → (nil : back ++ [] ≡ back)
    → flat_map packet_in (blocks_in (length (one ++ (front ++ back))) (one ++ (front ++ back))) ≡ ps ++ (qs ++ rs)
read_file one front back ps qs rs is second third nil =
    let a = read_one (length (one ++ (front ++ back))) one (front ++ back) ps is (omega arith) in
    let b = second back a.left a.room in
    let c = third b.left (subst (λ (bytes : List ℕ). length bytes ≤ b.left) (sym nil) b.room) in
    let end : flat_map packet_in (blocks_in b.left back) ≡ rs ++ flat_map packet_in (blocks_in c.left []) =
    ap (λ (bytes : List ℕ). flat_map packet_in (blocks_in b.left bytes)) (sym nil) ∙ c.read in
    a.read ∙ ap (λ (more : List ReadPacket). ps ++ more) (b.read ∙ ap (λ (more : List ReadPacket). qs ++ more) (end ∙ none rs c.left))
  where
    none : (rs : List ReadPacket) (left : ℕ) → rs ++ flat_map packet_in (blocks_in left []) ≡ rs
    none rs zero = nothing rs
      where
        nothing : (rs : List ReadPacket) → rs ++ [] ≡ rs
        nothing [] = refl
        nothing (r ∷ rs) = ap (λ (more : List ReadPacket). r ∷ more) (nothing rs)
    none rs (suc left) = nothing rs
      where
        nothing : (rs : List ReadPacket) → rs ++ [] ≡ rs
        nothing [] = refl
        nothing (r ∷ rs) = ap (λ (more : List ReadPacket). r ∷ more) (nothing rs)

-- The three kinds of blocks.

pub section_read : IsShortBlock section_block []
unfolding section_block block long_number short_number
section_read = record { kind = 0x0a0d0d0a; body = section_body; is = refl; short = omega arith; has = refl }

few_taken : (n : ℕ) (xs : List ℕ) → length (take n xs) ≤ length xs
few_taken zero xs = omega arith
few_taken (suc n) [] = omega arith
few_taken (suc n) (x ∷ xs) = omega (arith, few_taken n xs)

padded_length : (bytes : List ℕ) → length (padded bytes) ≤ length bytes + 3
padded_length bytes =
    let all = length-append bytes (padding (length bytes)) in
    let few = few_taken ((4 - length bytes % 4) % 4) (0 ∷ 0 ∷ 0 ∷ []) in
    omega (arith, all, few)

option_length : (code : ℕ) (value : List ℕ) → length (option_bytes code value) ≤ length value + 7
unfolding option_bytes short_number
option_length code value = let few = padded_length value in omega (arith, few)

long_length : (n : ℕ) → length (long_number n) ≡ 4
unfolding long_number
long_length n = refl

short_length : (n : ℕ) → length (short_number n) ≡ 2
unfolding short_number
short_length n = refl

three_lengths : (a b c : List ℕ) → length ((a ++ b) ++ c) ≡ (length a + length b) + length c
three_lengths a b c = length-append (a ++ b) c ∙ ap (λ (n : ℕ). n + length c) (length-append a b)

four_lengths : (a b c d : List ℕ) → length (((a ++ b) ++ c) ++ d) ≡ ((length a + length b) + length c) + length d
four_lengths a b c d = length-append ((a ++ b) ++ c) d ∙ ap (λ (n : ℕ). n + length d) (three_lengths a b c)

interface_within : {all a b c d n : ℕ} → all ≡ ((a + b) + c) + d → a ≡ 8 → b ≤ n + 7 → c ≤ 8 → d ≡ 4 → n < 2 ^ 31 → all + 12 < 2 ^ 32
interface_within whole one two three four few = omega (arith, whole, one, two, three, four, few)

interface_start_length : length interface_start ≡ 8
unfolding short_number long_number
interface_start_length = refl

interface_short : (name : List ℕ) → length name < 2 ^ 31 → length (interface_body name) + 12 < 2 ^ 32
unfolding interface_body
interface_short name few =
    interface_within (four_lengths interface_start (option_bytes 2 name) (option_bytes 9 (3 ∷ [])) options_end) interface_start_length (option_length 2 name)
    (option_length 9 (3 ∷ [])) (long_length 0) few

-- a block with the name of an interface has no packet
pub interface_read : (name : List ℕ) → length name < 2 ^ 31 → IsShortBlock (interface_block name) []
unfolding interface_block block long_number
interface_read name few = record { kind = 1; body = interface_body name; is = refl; short = interface_short name few; has = refl }

-- Packets.

-- what is read of a packet
abbrev pub read_of : Shown → ReadPacket
read_of p = record { interface = p.interface; moment = p.moment; bytes = p.bytes }

same_read : {i j m n : ℕ} {xs ys : List ℕ} → i ≡ j → m ≡ n → xs ≡ ys
    → ◌≡◌ {A = List ReadPacket} (record { interface = i; moment = m; bytes = xs } ∷ []) (record { interface = j; moment = n; bytes = ys } ∷ [])
same_read one two three = rw (one, two, three) refl

packet_short : {all a b c d m k : ℕ} → all ≡ ((a + b) + c) + d → a ≡ 20 → b ≤ m + 3 → c ≤ k + 7 → d ≡ 4 → m < 2 ^ 16 → k < 2 ^ 16 → all + 12 < 2 ^ 32
packet_short whole one two three four five six = omega (arith, whole, one, two, three, four, five, six)

take_inside : (xs a b c d : List ℕ) → take (length xs) ((((xs ++ a) ++ b) ++ c) ++ d) ≡ xs
take_inside [] a b c d = refl
take_inside (x ∷ xs) a b c d = ap (λ (zs : List ℕ). x ∷ zs) (take_inside xs a b c d)

module _ (p : Shown) (interface : p.interface < 2 ^ 32) (moment : p.moment < 2 ^ 32) (bytes : length p.bytes < 2 ^ 16) (comment : length p.comment < 2 ^ 16) where
  kept : List ℕ
  kept = padded p.bytes ++ option_bytes 1 p.comment ++ options_end

  last : List ℕ
  last = long_number (length (packet_body p) + 12)

  reads_interface : number_behind 8 (packet_block p) ≡ p.interface
  unfolding packet_block block packet_body long_number
  reads_interface =
      long_read p.interface
      (long_number (p.moment / 2 ^ 32) ++ (long_number p.moment ++ (long_number (length p.bytes) ++ (long_number (length p.bytes) ++ (kept ++ last))))) interface

  reads_high : number_behind 12 (packet_block p) ≡ p.moment / 2 ^ 32
  unfolding packet_block block packet_body long_number
  reads_high =
      long_read (p.moment / 2 ^ 32) (long_number p.moment ++ (long_number (length p.bytes) ++ (long_number (length p.bytes) ++ (kept ++ last))))
      (omega (arith, moment))

  reads_low : number_behind 16 (packet_block p) ≡ p.moment
  unfolding packet_block block packet_body long_number
  reads_low = long_read p.moment (long_number (length p.bytes) ++ (long_number (length p.bytes) ++ (kept ++ last))) moment

  reads_count : number_behind 20 (packet_block p) ≡ length p.bytes
  unfolding packet_block block packet_body long_number
  reads_count = long_read (length p.bytes) (long_number (length p.bytes) ++ (kept ++ last)) (omega (arith, bytes))

  reads_bytes : take (length p.bytes) (drop 28 (packet_block p)) ≡ p.bytes
  unfolding packet_block block packet_body long_number last
  reads_bytes = take_inside p.bytes (padding (length p.bytes)) (option_bytes 1 p.comment) options_end last

  start : length (packet_start p.interface p.moment (length p.bytes)) ≡ 20
  unfolding long_number
  start = refl

  body_length : length (packet_body p) + 12 < 2 ^ 32
  unfolding packet_body
  body_length =
      packet_short (four_lengths (packet_start p.interface p.moment (length p.bytes)) (padded p.bytes) (option_bytes 1 p.comment) options_end) start
      (padded_length p.bytes) (option_length 1 p.comment) (long_length 0) bytes comment

  pub packet_read : IsShortBlock (packet_block p) (read_of p ∷ [])
  unfolding packet_block block long_number
  packet_read = record {
    kind = 6;
    body = packet_body p;
    is = refl;
    short = body_length;
    has =
        same_read reads_interface (ap (λ (high : ℕ). high * 2 ^ 32 + number_behind 16 (packet_block p)) reads_high ∙ (ap (λ (low : ℕ). p.moment / 2 ^ 32 * 2 ^ 32 + low) reads_low ∙ omega (arith, moment)))
        (ap (λ (n : ℕ). take n (drop 28 (packet_block p))) reads_count ∙ reads_bytes);
  }
