-- The codes of columns stay right while numbers are put.
use Rattle.std.proofs.Common.{◌≡◌, ◌∙◌, ℕ, zero, suc, ◌<◌, ◌≤◌, Bool, false, true, not, List, [], ◌∷◌, length, get_or, Result, Option, Some, None, refl, ap, sym, subst, arith, ◌⊎◌, inl, inr}
use Rattle.std.proofs.lemmas.Bool.{cases_eq, false≢true}
use Rattle.std.proofs.lemmas.List.{length-map}
use Rattle.std.specs.Prelude.{is_some, option_map, slice_index}
use Rattle.lexical_util.specs.Format.{Format}
use Rattle.lexical_util.specs.Number.{IntegerType}
use Rattle.lexical_tables.specs.Readings.{FixedPoints, Integers, Reading, Texts, Value, keeps_texts}
use Rattle.lexical_tables.specs.ByColumn.{kind_of, kinds_of, put_read_at, put_row}
use Rattle.lexical_tables.specs.Amounts.{AreAmounts, AreAmountsIfFixed, HasAmounts, HasAmountsIfFixed, IsAmountsIn}
use Rattle.lexical_tables.specs.Cells.{Kind, ends_in_digit}
use Rattle.lexical_tables.specs.Codes.{AreCoded, AreCodes, IsBareIn, IsCode, IsCodeIn, IsReadAs, has_coded_bits}
use Rattle.lexical_tables.specs.Targets.{TargetView, has_bits, has_numbers, keeps_text}
use Rattle.lexical_tables.specs.declared.answers.CellFault.{CellFault}
use Rattle.lexical_tables.specs.declared.dialect.Dialect.{Dialect}
use Rattle.lexical_tables.proofs.PutSteps.{kinds_put, kinds_put_row}

-- what a code says of a column, it says of what that is read as
abbrev IsKindAs : ℕ → Option Kind → Type 0
IsKindAs code None = ⊥
IsKindAs code (Some kind) = AreCoded code kind.reading × (kind.may_miss ≡ has_coded_bits code)

to_kind : (code : ℕ) (target : Option TargetView) → IsReadAs code target → IsKindAs code (option_map kind_of target)
to_kind code None read = read
to_kind code (Some target) read = read

from_kind : (code : ℕ) (target : Option TargetView) → IsKindAs code (option_map kind_of target) → IsReadAs code target
from_kind code None read = read
from_kind code (Some target) read = read

there_is : (target : Option TargetView) → is_some (option_map kind_of target) ≡ is_some target
there_is None = refl
there_is (Some target) = refl

-- whether what a column is read as are texts
abbrev has_texts : Option Kind → Bool
has_texts None = false
has_texts (Some kind) = keeps_texts kind.reading

texts_are : (target : Option TargetView) → has_texts (option_map kind_of target) ≡ keeps_text target
texts_are None = refl
texts_are (Some target) = refl

-- whether they are numbers
abbrev are_numbers : Option Kind → Bool
are_numbers None = false
are_numbers (Some kind) = not (keeps_texts kind.reading)

numbers_are : (target : Option TargetView) → are_numbers (option_map kind_of target) ≡ has_numbers target
numbers_are None = refl
numbers_are (Some target) = refl

-- a column that is read by its code has numbers
numbers_read : (code : ℕ) (reading : Reading) → AreCoded code reading → not (keeps_texts reading) ≡ true
numbers_read code (Integers format type) coded = refl
numbers_read code (FixedPoints fixed type) coded = absurd coded
numbers_read code Texts coded = absurd coded

has_read : (code : ℕ) (target : Option TargetView) → IsReadAs code target → has_numbers target ≡ true
has_read code None read = absurd read
has_read code (Some target) read = numbers_read code target.reading read.0

-- so it may be asked at each cell
pub asked_code : (dialect : Dialect) (code : ℕ) (target : Option TargetView) → IsCode code target → 8 ≤ code
    → IsCodeIn dialect 3 target
asked_code dialect code target is read = record {
  column = record {
    unread = λ one. absurd (omega (arith, one));
    texts = λ two. absurd (omega (arith, two));
    numbers = λ three. has_read code target (is.read read);
    parsed = λ five. absurd (omega (arith, five));
    read = λ more. absurd (omega (arith, more));
  };
  no_number = λ more. absurd (omega (arith, more));
  amounts = λ seven. absurd (omega (arith, seven));
  bare = λ six. absurd (omega (arith, six));
}

-- a code of no type, but for that of amounts, says what the column does
pub low_code : (dialect : Dialect) (code : ℕ) (target : Option TargetView) → IsCode code target → code ≤ 3
    → IsCodeIn dialect code target
low_code dialect code target is low = record {
  column = is;
  no_number = λ more. absurd (omega (arith, low, more));
  amounts = λ seven. absurd (omega (arith, low, seven));
  bare = λ six. absurd (omega (arith, low, six));
}

-- so does that of numbers that are parsed
pub parsed_code : (dialect : Dialect) (code : ℕ) (target : Option TargetView) → IsCode code target → code ≡ 5
    → IsCodeIn dialect code target
parsed_code dialect code target is five = record {
  column = is;
  no_number = λ more. absurd (omega (arith, five, more));
  amounts = λ seven. absurd (omega (arith, five, seven));
  bare = λ six. absurd (omega (arith, five, six));
}

-- and where a cell is its number, that of bare ones
pub bare_code : (dialect : Dialect) (target : Option TargetView) → IsCode 5 target → dialect.allows_blanks ≡ false → has_bits target ≡ false → IsCodeIn dialect 6 target
bare_code dialect target is blanks bits = record {
  column = record {
    unread = λ one. absurd (omega (arith, one));
    texts = λ two. absurd (omega (arith, two));
    numbers = λ three. absurd (omega (arith, three));
    parsed = λ five. absurd (omega (arith, five));
    read = λ more. absurd (omega (arith, more));
  };
  no_number = λ more. absurd (omega (arith, more));
  amounts = λ seven. absurd (omega (arith, seven));
  bare = λ six. record { numbers = is.parsed refl; no_blanks = blanks; no_bits = bits };
}

-- integers under any format may be parsed
pub parsed_integers : (target : TargetView) (format : Format) (type : IntegerType) → target.reading ≡ Integers format type
    → IsCode 5 (Some target)
parsed_integers target format type integers = record {
  unread = λ one. absurd (omega (arith, one));
  texts = λ two. absurd (omega (arith, two));
  numbers = λ three. absurd (omega (arith, three));
  parsed = λ five. ap (λ reading. not (keeps_texts reading)) integers;
  read = λ more. absurd (omega (arith, more));
}

-- that nothing is known is always right
pub none_code : (dialect : Dialect) (target : Option TargetView) → IsCodeIn dialect 0 target
none_code dialect target = record {
  column = record {
    unread = λ one. absurd (omega (arith, one));
    texts = λ two. absurd (omega (arith, two));
    numbers = λ three. absurd (omega (arith, three));
    parsed = λ five. absurd (omega (arith, five));
    read = λ more. absurd (omega (arith, more));
  };
  no_number = λ more. absurd (omega (arith, more));
  amounts = λ seven. absurd (omega (arith, seven));
  bare = λ six. absurd (omega (arith, six));
}

-- the code of a type
pub type_code : (dialect : Dialect) (code : ℕ) (target : Option TargetView) → IsCode code target → 8 ≤ code
    → (has_coded_bits code ≡ true → ends_in_digit dialect.missing.now ≡ false)
    → IsCodeIn dialect code target
type_code dialect code target is type mark = record {
  column = is;
  no_number = λ more. mark;
  amounts = λ seven. absurd (omega (arith, type, seven));
  bare = λ six. absurd (omega (arith, type, six));
}

-- the code of amounts
pub amounts_code : (dialect : Dialect) (target : Option TargetView) → HasAmounts target → dialect.allows_blanks ≡ false
    → (has_bits target ≡ true → ends_in_digit dialect.missing.now ≡ false) → IsCodeIn dialect 7 target
amounts_code dialect target has blanks mark = record {
  column = record {
    unread = λ one. absurd (omega (arith, one));
    texts = λ two. absurd (omega (arith, two));
    numbers = λ three. absurd (omega (arith, three));
    parsed = λ five. absurd (omega (arith, five));
    read = λ more. absurd (omega (arith, more));
  };
  no_number = λ more. absurd (omega (arith, more));
  amounts = λ seven. record { column = has; no_blanks = blanks; no_number = mark };
  bare = λ six. absurd (omega (arith, six));
}

amounts_numbers : (reading : Reading) → AreAmounts reading → not (keeps_texts reading) ≡ true
amounts_numbers (Integers format type) are = absurd are
amounts_numbers (FixedPoints fixed type) are = refl
amounts_numbers Texts are = absurd are

amounts_have : (target : Option TargetView) → HasAmounts target → has_numbers target ≡ true
amounts_have None has = absurd has
amounts_have (Some target) has = amounts_numbers target.reading has

reading_if_fixed : (reading : Reading) → AreAmounts reading → AreAmountsIfFixed reading
reading_if_fixed (Integers format type) are = absurd are
reading_if_fixed (FixedPoints fixed type) are = are
reading_if_fixed Texts are = absurd are

-- a column that has amounts has no other fixed-point numbers
pub amounts_if_fixed : (target : Option TargetView) → HasAmounts target → HasAmountsIfFixed target
amounts_if_fixed None has = absurd has
amounts_if_fixed (Some target) has = reading_if_fixed target.reading has

-- a column of either code has numbers
pub numbers_said : (dialect : Dialect) (code : ℕ) (target : Option TargetView) → IsCodeIn dialect code target
    → (code ≡ 3) ⊎ (code ≡ 7) → has_numbers target ≡ true
numbers_said dialect code target is (inl three) = is.column.numbers three
numbers_said dialect code target is (inr seven) = amounts_have target (is.amounts seven).column

-- so has one with the code of amounts or of a type
pub numbers_coded : (dialect : Dialect) (code : ℕ) (target : Option TargetView) → IsCodeIn dialect code target → 7 ≤ code → has_numbers target ≡ true
numbers_coded dialect code target is more = elim (cases_eq code 7) [
  | inl seven ↦ amounts_have target (is.amounts seven).column
  | inr other ↦ has_read code target (is.column.read (omega arith))
]

-- where blanks are passed, the code is that of a type
pub typed_with_blanks : (dialect : Dialect) (code : ℕ) (target : Option TargetView) → IsCodeIn dialect code target → 7 ≤ code → dialect.allows_blanks ≡ true → 8 ≤ code
typed_with_blanks dialect code target is more blanks = elim (cases_eq code 7) [
  | inl seven ↦ absurd (let none = (is.amounts seven).no_blanks in false≢true (sym none ∙ blanks))
  | inr other ↦ omega arith
]

-- amounts of a kind
abbrev KindAmounts : Option Kind → Type 0
KindAmounts None = ⊥
KindAmounts (Some kind) = AreAmounts kind.reading

to_amounts : (target : Option TargetView) → HasAmounts target → KindAmounts (option_map kind_of target)
to_amounts None has = has
to_amounts (Some target) has = has

from_amounts : (target : Option TargetView) → KindAmounts (option_map kind_of target) → HasAmounts target
from_amounts None has = has
from_amounts (Some target) has = has

-- whether a value of a kind may be missing
abbrev may_miss : Option Kind → Bool
may_miss None = false
may_miss (Some kind) = kind.may_miss

misses : (target : Option TargetView) → may_miss (option_map kind_of target) ≡ has_bits target
misses None = refl
misses (Some target) = refl

-- they stay amounts
same_amounts : (dialect : Dialect) (old new : Option TargetView) → option_map kind_of new ≡ option_map kind_of old
    → IsAmountsIn dialect old → IsAmountsIn dialect new
same_amounts dialect old new same is = record {
  column = from_amounts new (subst KindAmounts (sym same) (to_amounts old is.column));
  no_blanks = is.no_blanks;
  no_number = λ has. is.no_number (sym (misses old) ∙ ap may_miss (sym same) ∙ misses new ∙ has);
}

-- they stay bare
same_bare : (dialect : Dialect) (old new : Option TargetView) → option_map kind_of new ≡ option_map kind_of old
    → IsBareIn dialect old → IsBareIn dialect new
same_bare dialect old new same is = record {
  numbers = sym (numbers_are new) ∙ ap are_numbers same ∙ numbers_are old ∙ is.numbers;
  no_blanks = is.no_blanks;
  no_bits = sym (misses new) ∙ ap may_miss same ∙ misses old ∙ is.no_bits;
}

-- so the code stays right where the column is read as before
same_code : (dialect : Dialect) (code : ℕ) (old new : Option TargetView)
    → option_map kind_of new ≡ option_map kind_of old → IsCodeIn dialect code old → IsCodeIn dialect code new
same_code dialect code old new same is = record {
  column = record {
    unread = λ one. sym (there_is new) ∙ ap is_some same ∙ there_is old ∙ is.column.unread one;
    texts = λ two. sym (texts_are new) ∙ ap has_texts same ∙ texts_are old ∙ is.column.texts two;
    numbers = λ three. sym (numbers_are new) ∙ ap are_numbers same ∙ numbers_are old ∙ is.column.numbers three;
    parsed = λ five. sym (numbers_are new) ∙ ap are_numbers same ∙ numbers_are old ∙ is.column.parsed five;
    read = λ some. from_kind code new (subst (IsKindAs code) (sym same) (to_kind code old (is.column.read some)));
  };
  no_number = is.no_number;
  amounts = λ seven. same_amounts dialect old new same (is.amounts seven);
  bare = λ six. same_bare dialect old new same (is.bare six);
}

-- what the column at a place is read as
kind_at : (targets : List (Option TargetView)) (k : ℕ)
    → get_or (kinds_of targets) k None ≡ option_map kind_of (get_or targets k None)
kind_at [] k = refl
kind_at (t ∷ ts) zero = refl
kind_at (t ∷ ts) (suc k) = kind_at ts k

-- codes stay right while no column is read otherwise
pub codes_stay : (dialect : Dialect) (codes : List ℕ) (old new : List (Option TargetView)) → kinds_of new ≡ kinds_of old
    → AreCodes dialect codes old → AreCodes dialect codes new
codes_stay dialect codes old new same are = λ k coded low.
    let as_many : length new ≡ length old =
    sym (length-map new (option_map kind_of)) ∙ ap length same ∙ length-map old (option_map kind_of) in
    same_code dialect (slice_index codes k) (get_or old k None) (get_or new k None)
    (sym (kind_at new k) ∙ ap (λ kinds. get_or kinds k None) same ∙ kind_at old k)
    (are k coded (omega (arith, as_many, low)))

-- the numbers of a cell and of a row change no code
pub codes_put : (dialect : Dialect) (codes : List ℕ) (row column : ℕ) (answer : Result (Option Value) CellFault)
    (targets : List (Option TargetView)) → AreCodes dialect codes targets
    → AreCodes dialect codes (put_read_at row column answer targets)
codes_put dialect codes row column answer targets =
    codes_stay dialect codes targets (put_read_at row column answer targets) (kinds_put row column answer targets)

pub codes_put_row : (dialect : Dialect) (codes : List ℕ) (row : ℕ) (values : List (Option Value))
    (targets : List (Option TargetView)) → AreCodes dialect codes targets
    → AreCodes dialect codes (put_row row values targets)
codes_put_row dialect codes row values targets =
    codes_stay dialect codes targets (put_row row values targets) (kinds_put_row row values targets)

-- the code of a column, whatever stands for one that isn't there
any_default : (targets : List (Option TargetView)) (k : ℕ) (c d : Option TargetView) → k < length targets
    → get_or targets k c ≡ get_or targets k d
any_default [] k c d low = absurd (omega arith)
any_default (t ∷ ts) zero c d low = refl
any_default (t ∷ ts) (suc k) c d low = any_default ts k c d (omega arith)

pub code_at : (dialect : Dialect) (codes : List ℕ) (targets : List (Option TargetView)) (k : ℕ) (d : Option TargetView)
    → AreCodes dialect codes targets → k < length codes → k < length targets
    → IsCodeIn dialect (slice_index codes k) (get_or targets k d)
code_at dialect codes targets k d are coded low =
    subst (IsCodeIn dialect (slice_index codes k)) (any_default targets k None d low) (are k coded low)

-- nothing is known of any column
pub unknown_codes : (dialect : Dialect) (codes : List ℕ) (targets : List (Option TargetView))
    → ((k : ℕ) → k < length codes → slice_index codes k ≡ 0) → AreCodes dialect codes targets
unknown_codes dialect codes targets unknown k coded low =
    subst (λ code. IsCodeIn dialect code (get_or targets k None)) (sym (unknown k coded)) (none_code dialect (get_or targets k None))

-- a column of texts has their code
pub text_code : (target : Option TargetView) → keeps_text target ≡ true → IsCode 2 target
text_code target texts = record {
  unread = λ is. absurd (omega (arith, is));
  texts = λ is. texts;
  numbers = λ is. absurd (omega (arith, is));
  parsed = λ is. absurd (omega (arith, is));
  read = λ low. absurd (omega (arith, low));
}
