-- The bytes that the definitions name.
use Rattle.std.specs.Prelude.{ℕ}

-- b'\t'
abbrev pub tab : ℕ
tab = 9

-- b'\n'
abbrev pub line_feed : ℕ
line_feed = 10

-- b'\r'
abbrev pub carriage_return : ℕ
carriage_return = 13

-- b' '
abbrev pub space : ℕ
space = 32

-- b'+'
abbrev pub plus : ℕ
plus = 43

-- b'-'
abbrev pub minus : ℕ
minus = 45

-- b'.'
abbrev pub full_stop : ℕ
full_stop = 46

-- b'0'
abbrev pub digit_zero : ℕ
digit_zero = 48

-- b'9'
abbrev pub digit_nine : ℕ
digit_nine = 57

-- b'A'
abbrev pub capital_a : ℕ
capital_a = 65

-- b'Z'
abbrev pub capital_z : ℕ
capital_z = 90

-- b'_'
abbrev pub underscore : ℕ
underscore = 95

-- b'a'
abbrev pub letter_a : ℕ
letter_a = 97

-- b'b'
abbrev pub letter_b : ℕ
letter_b = 98

-- b'o'
abbrev pub letter_o : ℕ
letter_o = 111

-- b'x'
abbrev pub letter_x : ℕ
letter_x = 120

-- b'z'
abbrev pub letter_z : ℕ
letter_z = 122
