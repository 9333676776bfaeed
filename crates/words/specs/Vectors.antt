-- The definitions tried on small texts.
use Rattle.std.specs.Prelude.{◌≡◌, refl, false, List, [], ◌∷◌, ℕ, negsuc}
use Rattle.words.specs.Words.{lines, words, word, digits, value_from, value, numeral, unsigned, signed}

-- ---- words of "up  cycle 0" with a carriage return behind: three of them
abbrev stroke : List ℕ
stroke = 117 ∷ 112 ∷ 32 ∷ 32 ∷ 99 ∷ 121 ∷ 99 ∷ 108 ∷ 101 ∷ 32 ∷ 48 ∷ 13 ∷ []

stroke_words : words stroke ≡ (117 ∷ 112 ∷ []) ∷ (99 ∷ 121 ∷ 99 ∷ 108 ∷ 101 ∷ []) ∷ (48 ∷ []) ∷ []
unfolding words
stroke_words = refl

-- there is no word 3
stroke_none : word stroke 3 ≡ []
unfolding words
stroke_none = refl

blank_words : words (32 ∷ 9 ∷ 32 ∷ 13 ∷ []) ≡ []
unfolding words
blank_words = refl

-- ---- lines of "a", an empty line, "b"; the last line may lack its line feed, and a line feed at the end begins no line
three_lines : lines (97 ∷ 10 ∷ 10 ∷ 98 ∷ []) ≡ (97 ∷ []) ∷ [] ∷ (98 ∷ []) ∷ []
unfolding lines
three_lines = refl

one_line : lines (97 ∷ 10 ∷ []) ≡ (97 ∷ []) ∷ []
unfolding lines
one_line = refl

-- ---- the numeral "-007", and what stands behind its sign
abbrev seven : List ℕ
seven = 45 ∷ 48 ∷ 48 ∷ 55 ∷ []

seven_is : value (unsigned seven) ≡ 7
unfolding value_from
seven_is = refl

seven_signed : signed seven ≡ negsuc 6
unfolding value_from
seven_signed = refl

-- "100" is too long for a numeral of two digits, and "-007" is none at all: the sign is no digit
too_long : numeral 2 (49 ∷ 48 ∷ 48 ∷ []) ≡ false
unfolding digits
too_long = refl

no_sign : numeral 7 seven ≡ false
unfolding digits
no_sign = refl
