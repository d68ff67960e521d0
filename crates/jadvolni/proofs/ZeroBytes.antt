-- When words of bytes are 0.
use Rattle.std.proofs.Common.{◌≡◌, ◌∙◌, ◌==◌, ◌<◌, ℕ, Bool, zero, suc, ◌+◌, ◌*◌, ◌%◌, ◌&&◌, cond, nat_eq, nat_lt, true, false, List, [], ◌∷◌, ◌++◌, length, get_or, map, replicate, refl, ap, ap₂, sym, arith}
use lib.Lanes.{mask_l, top, zip2}
use Rattle.std.proofs.lemmas.Bool.Decides.{nat_tests}
use Rattle.std.proofs.lemmas.List.{ext_get_or}
use Rattle.std.proofs.lemmas.List.FromFn.{get_or-map-range_with_len, length-map-range_with_len}
use Rattle.std.proofs.lemmas.Simd.{bitmask_splat}
use Rattle.std.specs.Int.{from_le_bytes, w8, w16, w32, w64}
use Rattle.std.specs.List.{range_with_len}
use Rattle.jadvolni.specs.FormatFields.{are_zeros, has_bit}

-- a byte and what is above it
above : (byte rest : ℕ) → nat_eq (byte + 256 * rest) 0 ≡ (nat_eq byte 0 && nat_eq rest 0)
above zero zero = grind (arith, nat_tests)
above zero (suc rest) = grind (arith, nat_tests)
above (suc byte) rest = grind (arith, nat_tests)

-- a word is 0 where all of its bytes are
pub word_of_zeros : (a b c d e f g h : ℕ) → let bytes =
    a ∷ b ∷ c ∷ d ∷ e ∷ f ∷ g ∷ h ∷ [] in nat_eq (from_le_bytes w64 bytes) 0 ≡ are_zeros bytes
word_of_zeros a b c d e f g h =
    let bytes = a ∷ b ∷ c ∷ d ∷ e ∷ f ∷ g ∷ h ∷ [] in
    let parted : from_le_bytes w64 bytes
    ≡ a + 256 * (b + 256 * (c + 256 * (d + 256
    * (e + 256 * (f + 256 * (g + 256 * (h + 256 * 0))))))) = omega arith in
    ap (λ n. nat_eq n 0) parted
    ∙ above a (b + 256 * (c + 256 * (d + 256 * (e + 256 * (f + 256 * (g + 256 * (h + 256 * 0)))))))
    ∙ ap (λ x. nat_eq a 0 && x) (above b (c + 256 * (d + 256 * (e + 256 * (f + 256 * (g + 256 * (h + 256 * 0))))))
    ∙ ap (λ x. nat_eq b 0 && x) (above c (d + 256 * (e + 256 * (f + 256 * (g + 256 * (h + 256 * 0)))))
    ∙ ap (λ x. nat_eq c 0 && x) (above d (e + 256 * (f + 256 * (g + 256 * (h + 256 * 0))))
    ∙ ap (λ x. nat_eq d 0 && x) (above e (f + 256 * (g + 256 * (h + 256 * 0)))
    ∙ ap (λ x. nat_eq e 0 && x) (above f (g + 256 * (h + 256 * 0))
    ∙ ap (λ x. nat_eq f 0 && x) (above g (h + 256 * 0)
    ∙ ap (λ x. nat_eq g 0 && x) (above h 0)))))))

-- a word has nothing between its first byte and its last one where the bytes between are 0
pub radix_and_flag : (a b c d e f g h : ℕ)
    → nat_eq (from_le_bytes w64 (a ∷ b ∷ c ∷ d ∷ e ∷ f ∷ g ∷ h ∷ [])) (a + h * 72057594037927936)
    ≡ are_zeros (b ∷ c ∷ d ∷ e ∷ f ∷ g ∷ [])
radix_and_flag a b c d e f g h =
    let between = b + 256 * (c + 256 * (d + 256 * (e + 256 * (f + 256 * (g + 256 * 0))))) in
    let same : nat_eq (from_le_bytes w64 (a ∷ b ∷ c ∷ d ∷ e ∷ f ∷ g ∷ h ∷ []))
    (a + h * 72057594037927936) ≡ nat_eq between 0 = grind (arith, nat_tests) in
    same
    ∙ above b (c + 256 * (d + 256 * (e + 256 * (f + 256 * (g + 256 * 0)))))
    ∙ ap (λ x. nat_eq b 0 && x) (above c (d + 256 * (e + 256 * (f + 256 * (g + 256 * 0))))
    ∙ ap (λ x. nat_eq c 0 && x) (above d (e + 256 * (f + 256 * (g + 256 * 0)))
    ∙ ap (λ x. nat_eq d 0 && x) (above e (f + 256 * (g + 256 * 0))
    ∙ ap (λ x. nat_eq e 0 && x) (above f (g + 256 * 0)
    ∙ ap (λ x. nat_eq f 0 && x) (above g 0)))))

-- The bytes of the standard format, whose first is the radix, and whose last is the flag of required digits.
pub record AreStandard (a b c d e f g h : ℕ) : Type 0 where
  pub radix : a ≡ 10
  pub between : are_zeros (b ∷ c ∷ d ∷ e ∷ f ∷ g ∷ []) ≡ true
  pub flag : h ≡ 1

byte_of : (a rest n m : ℕ) → a < 256 → n < 256 → a + 256 * rest ≡ n + 256 * m → (a ≡ n) × (rest ≡ m)
byte_of a rest n m small low same = (omega arith, omega arith)

pub standard_word : (a b c d e f g h : ℕ) → a < 256 → b < 256 → c < 256 → d < 256 → e < 256 → f < 256 → g < 256
    → from_le_bytes w64 (a ∷ b ∷ c ∷ d ∷ e ∷ f ∷ g ∷ h ∷ []) ≡ 72057594037927946 → AreStandard a b c d e f g h
standard_word a b c d e f g h sa sb sc sd se sf sg same =
    let r7 = h + 256 * 0 in
    let r6 = g + 256 * r7 in
    let r5 = f + 256 * r6 in
    let r4 = e + 256 * r5 in
    let r3 = d + 256 * r4 in
    let r2 = c + 256 * r3 in
    let r1 = b + 256 * r2 in
    let whole : a + 256 * r1 ≡ 10 + 256 * 281474976710656 = omega arith in
    let at_a = byte_of a r1 10 281474976710656 sa (omega arith) whole in
    let at_b = byte_of b r2 0 1099511627776 sb (omega arith) (omega (arith, at_a.1)) in
    let at_c = byte_of c r3 0 4294967296 sc (omega arith) (omega (arith, at_b.1)) in
    let at_d = byte_of d r4 0 16777216 sd (omega arith) (omega (arith, at_c.1)) in
    let at_e = byte_of e r5 0 65536 se (omega arith) (omega (arith, at_d.1)) in
    let at_f = byte_of f r6 0 256 sf (omega arith) (omega (arith, at_e.1)) in
    let at_g = byte_of g r7 0 1 sg (omega arith) (omega (arith, at_f.1)) in
    record {
      radix = at_a.0;
      between =
          ap₂ (λ x y. (x == 0) && y) at_b.0 (ap₂ (λ x y. (x == 0) && y) at_c.0 (ap₂ (λ x y. (x == 0) && y) at_d.0
          (ap₂ (λ x y. (x == 0) && y) at_e.0 (ap₂ (λ x y. (x == 0) && y) at_f.0 (ap (λ x. (x == 0) && true) at_g.0)))));
      flag = omega (arith, at_g.1);
    }

-- The first bytes of a hexadecimal format whose prefix is `x`.
pub record AreOfX (a b c d : ℕ) : Type 0 where
  pub radix : a ≡ 16
  pub separator : b ≡ 0
  pub prefix : c ≡ 120
  pub suffix : d ≡ 0

pub word_of_x : (a b c d : ℕ) → a < 256 → b < 256 → c < 256
    → from_le_bytes w32 (a ∷ b ∷ c ∷ d ∷ []) ≡ 7864336 → AreOfX a b c d
word_of_x a b c d sa sb sc same =
    let r3 = d + 256 * 0 in
    let r2 = c + 256 * r3 in
    let r1 = b + 256 * r2 in
    let whole : a + 256 * r1 ≡ 16 + 256 * 30720 = omega arith in
    let at_a = byte_of a r1 16 30720 sa (omega arith) whole in
    let at_b = byte_of b r2 0 120 sb (omega arith) (omega (arith, at_a.1)) in
    let at_c = byte_of c r3 120 0 sc (omega arith) (omega (arith, at_b.1)) in
    record { radix = at_a.0; separator = at_b.0; prefix = at_c.0; suffix = omega (arith, at_c.1) }

-- a test of two, and one behind them
and_assoc : (a b c : Bool) → ((a && b) && c) ≡ (a && (b && c))
and_assoc true b c = refl
and_assoc false b c = refl

-- bytes in two parts are 0 where both parts are
in_two_parts : (xs ys : List ℕ) → (are_zeros xs && are_zeros ys) ≡ are_zeros (xs ++ ys)
in_two_parts [] ys = refl
in_two_parts (x ∷ xs) ys =
    let rest = in_two_parts xs ys in
    and_assoc (nat_eq x 0) (are_zeros xs) (are_zeros ys) ∙ ap (λ b. nat_eq x 0 && b) rest

-- a list is what stands at its places
by_places : (xs : List ℕ) (n : ℕ) → length xs ≡ n → map (λ k. get_or xs k 0) (range_with_len 0 n) ≡ xs
by_places xs n size =
    let at : ℕ → ℕ = λ k. get_or xs k 0 in
    let many = length-map-range_with_len at 0 n in
    ext_get_or 0 (map at (range_with_len 0 n)) xs (many ∙ sym size)
    (λ i below. get_or-map-range_with_len at 0 n i i 0 (omega arith) (omega arith))

-- a number whose lowest bit is a test, and one whose lowest bit is set
lowest_bit : (test : Bool) (n m : ℕ) → nat_eq (cond test 1 0 + 2 * n) (1 + 2 * m) ≡ (test && nat_eq n m)
lowest_bit true n m = grind (arith, nat_tests)
lowest_bit false n m = grind (arith, nat_tests)

-- a number of bits, all of which are set
abbrev all_bits : ℕ → ℕ
all_bits zero = 0
all_bits (suc count) = 1 + 2 * all_bits count

-- bytes are 0 where each sets its bit
all_set : (bytes : List ℕ) → nat_eq (mask_l (map (λ byte. nat_eq byte 0) bytes)) (all_bits (length bytes)) ≡ are_zeros bytes
all_set [] = refl
all_set (byte ∷ bytes) =
    lowest_bit (nat_eq byte 0) (mask_l (map (λ byte. nat_eq byte 0) bytes)) (all_bits (length bytes))
    ∙ ap (λ test. nat_eq byte 0 && test) (all_set bytes)

-- three bytes and thirteen are 0 where each of sixteen lanes is
pub lanes_of_zeros : (a b c : ℕ) (rest : List ℕ) → length rest ≡ 13 → let at = (λ (k : ℕ). get_or rest k 0) in
    let lanes = a ∷ b ∷ c ∷ at 0 ∷ at 1 ∷ at 2 ∷ at 3 ∷ at 4 ∷ at 5 ∷ at 6 ∷ at 7 ∷ at 8 ∷ at 9 ∷ at 10 ∷ at 11 ∷ at 12 ∷ [] in
    nat_eq (mask_l (map (top 7) (zip2 (λ x y. cond (nat_eq x y) 255 0) lanes (replicate 16 0))) % 18446744073709551616) 65535
    ≡ are_zeros (a ∷ b ∷ c ∷ rest)
lanes_of_zeros a b c rest size =
    let at : ℕ → ℕ = λ k. get_or rest k 0 in
    let lanes = a ∷ b ∷ c ∷ at 0 ∷ at 1 ∷ at 2 ∷ at 3 ∷ at 4 ∷ at 5 ∷ at 6 ∷ at 7 ∷ at 8 ∷ at 9 ∷ at 10 ∷ at 11 ∷ at 12 ∷ [] in
    ap (λ mask. nat_eq mask 65535) (bitmask_splat w8 nat_eq lanes 16 0 refl (omega arith))
    ∙ all_set lanes
    ∙ ap (λ xs. are_zeros (a ∷ b ∷ c ∷ xs)) (by_places rest 13 size)

-- two bytes as a number are below 8 where the first is, and the second is 0
low_bytes : (a b : ℕ) → nat_lt (from_le_bytes w16 (a ∷ b ∷ [])) 8 ≡ (nat_lt a 8 && nat_eq b 0)
low_bytes a b = grind (arith, nat_tests)

-- four bytes as a number are 0 where each is
four_zeros : (a b c d : ℕ) → nat_eq (from_le_bytes w32 (a ∷ b ∷ c ∷ d ∷ [])) 0 ≡ are_zeros (a ∷ b ∷ c ∷ d ∷ [])
four_zeros a b c d =
    let parted : from_le_bytes w32 (a ∷ b ∷ c ∷ d ∷ []) ≡ a + 256 * (b + 256 * (c + 256 * (d + 256 * 0))) = omega arith in
    ap (λ n. nat_eq n 0) parted
    ∙ above a (b + 256 * (c + 256 * (d + 256 * 0)))
    ∙ ap (λ x. nat_eq a 0 && x) (above b (c + 256 * (d + 256 * 0))
    ∙ ap (λ x. nat_eq b 0 && x) (above c (d + 256 * 0)
    ∙ ap (λ x. nat_eq c 0 && x) (above d 0)))

-- the last bytes of a format: those of which some bits have no meaning, and thirteen that are kept for later versions
pub last_bytes : (byte : ℕ) (kept : List ℕ) → length kept ≡ 13 → let at = (λ (k : ℕ). get_or kept k 0) in
    ((nat_lt (from_le_bytes w16 (byte ∷ at 0 ∷ [])) 8 && nat_eq (from_le_bytes w32 (at 1 ∷ at 2 ∷ at 3 ∷ at 4 ∷ [])) 0)
    && nat_eq (from_le_bytes w64 (at 5 ∷ at 6 ∷ at 7 ∷ at 8 ∷ at 9 ∷ at 10 ∷ at 11 ∷ at 12 ∷ [])) 0) ≡ (nat_lt byte 8 && are_zeros kept)
last_bytes byte kept size =
    let at : ℕ → ℕ = λ k. get_or kept k 0 in
    ap₂ (λ x y. x && y) (ap₂ (λ x y. x && y) (low_bytes byte (at 0)) (four_zeros (at 1) (at 2) (at 3) (at 4))
    ∙ and_assoc (nat_lt byte 8) (nat_eq (at 0) 0) (are_zeros (at 1 ∷ at 2 ∷ at 3 ∷ at 4 ∷ [])))
    (word_of_zeros (at 5) (at 6) (at 7) (at 8) (at 9) (at 10) (at 11) (at 12))
    ∙ and_assoc (nat_lt byte 8) (are_zeros (at 0 ∷ at 1 ∷ at 2 ∷ at 3 ∷ at 4 ∷ [])) (are_zeros (at 5 ∷ at 6 ∷ at 7 ∷ at 8 ∷ at 9 ∷ at 10 ∷ at 11 ∷ at 12 ∷ []))
    ∙ ap (λ zeros. nat_lt byte 8 && zeros) (in_two_parts (at 0 ∷ at 1 ∷ at 2 ∷ at 3 ∷ at 4 ∷ []) (at 5 ∷ at 6 ∷ at 7 ∷ at 8 ∷ at 9 ∷ at 10 ∷ at 11 ∷ at 12 ∷ []) ∙ ap are_zeros (by_places kept 13 size))

-- a test, and one that is always met
and_true : (a : Bool) → (a && true) ≡ a
and_true true = refl
and_true false = refl

-- nine bytes are 0 where eight of them as a word are, and the last
pub nine_zeros : (bytes : List ℕ) → length bytes ≡ 9 → let at = (λ (k : ℕ). get_or bytes k 0) in
    (nat_eq (from_le_bytes w64 (at 0 ∷ at 1 ∷ at 2 ∷ at 3 ∷ at 4 ∷ at 5 ∷ at 6 ∷ at 7 ∷ [])) 0 && nat_eq (at 8) 0)
    ≡ are_zeros bytes
nine_zeros bytes size =
    let at : ℕ → ℕ = λ k. get_or bytes k 0 in
    ap₂ (λ x y. x && y) (word_of_zeros (at 0) (at 1) (at 2) (at 3) (at 4) (at 5) (at 6) (at 7)) (sym (and_true (nat_eq (at 8) 0)))
    ∙ in_two_parts (at 0 ∷ at 1 ∷ at 2 ∷ at 3 ∷ at 4 ∷ at 5 ∷ at 6 ∷ at 7 ∷ []) (at 8 ∷ [])
    ∙ ap are_zeros (by_places bytes 9 size)

-- a byte below 8 that has none of three bits is 0
pub no_bits : (n : ℕ) → nat_lt n 8 ≡ true → has_bit 1 n ≡ false → has_bit 2 n ≡ false → has_bit 4 n ≡ false → n ≡ 0
no_bits zero low one two four = refl
no_bits (suc zero) low one two four = cc
no_bits (suc (suc zero)) low one two four = cc
no_bits (suc (suc (suc zero))) low one two four = cc
no_bits (suc (suc (suc (suc zero)))) low one two four = cc
no_bits (suc (suc (suc (suc (suc zero))))) low one two four = cc
no_bits (suc (suc (suc (suc (suc (suc zero)))))) low one two four = cc
no_bits (suc (suc (suc (suc (suc (suc (suc zero))))))) low one two four = cc
no_bits (suc (suc (suc (suc (suc (suc (suc (suc n)))))))) low one two four = grind (arith, nat_tests)
