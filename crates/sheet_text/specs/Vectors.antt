-- The sheet's definitions tried on figures of every kind. The paper's printed sheet is computed in `promises` `PaperSheet`, from the answers that are due.
use Rattle.std.specs.Prelude.{◌≡◌, refl, [], ◌∷◌, negsuc}
use Rattle.exact.specs.Value.{nought}
use Rattle.plain.specs.Digits.{digits, decimal, fraction, percent}
use Rattle.plain.specs.Plain.{refused_line}
use Rattle.due.specs.declared.Index.TheVariants as index
use Rattle.sheet_text.specs.Sheet.{index_line, last_line}

-- "0"
zero : decimal 0 ≡ 48 ∷ []
unfolding digits
zero = refl

-- "18446744073709551615"
largest : decimal 18446744073709551615 ≡ 49 ∷ 56 ∷ 52 ∷ 52 ∷ 54 ∷ 55 ∷ 52 ∷ 52 ∷ 48 ∷ 55 ∷ 51 ∷ 55 ∷ 48 ∷ 57 ∷ 53 ∷ 53 ∷ 49 ∷ 54 ∷ 49 ∷ 53 ∷ []
unfolding digits
largest = refl

-- "0.007"
small_percent : percent 7 ≡ 48 ∷ 46 ∷ 48 ∷ 48 ∷ 55 ∷ []
unfolding digits
small_percent = refl

-- "-1/20"
negative : fraction (record { num = negsuc 0; den = 20 }) ≡ 45 ∷ 49 ∷ 47 ∷ 50 ∷ 48 ∷ []
unfolding digits
negative = refl

-- "refused 7 at 1837\n"
refused_file : refused_line 7 1837 ≡ 114 ∷ 101 ∷ 102 ∷ 117 ∷ 115 ∷ 101 ∷ 100 ∷ 32 ∷ 55 ∷ 32 ∷ 97 ∷ 116 ∷ 32 ∷ 49 ∷ 56 ∷ 51 ∷ 55 ∷ 10 ∷ []
unfolding digits
refused_file = refl

-- "lh refused 12\n"
refused_index : index_line index.Lh (record { number = 12; place = 0; width = nought; slope = nought; offset = nought; index = nought; thousandths = 0 }) ≡ 108 ∷ 104 ∷ 32 ∷ 114 ∷ 101 ∷ 102 ∷ 117 ∷ 115 ∷ 101 ∷ 100 ∷ 32 ∷ 49 ∷ 50 ∷ 10 ∷ []
unfolding digits
refused_index = refl

-- "line refused 13\n"
refused_last : last_line (record { number = 13; place = 0; width = nought; slope = nought; offset = nought; index = nought; thousandths = 0 }) ≡ 108 ∷ 105 ∷ 110 ∷ 101 ∷ 32 ∷ 114 ∷ 101 ∷ 102 ∷ 117 ∷ 115 ∷ 101 ∷ 100 ∷ 32 ∷ 49 ∷ 51 ∷ 10 ∷ []
unfolding digits
refused_last = refl

-- "hysteresis refused 16\n", of a run with an up stroke only
refused_stroke : index_line index.Hysteresis (record { number = 16; place = 0; width = nought; slope = nought; offset = nought; index = nought; thousandths = 0 }) ≡ 104 ∷ 121 ∷ 115 ∷ 116 ∷ 101 ∷ 114 ∷ 101 ∷ 115 ∷ 105 ∷ 115 ∷ 32 ∷ 114 ∷ 101 ∷ 102 ∷ 117 ∷ 115 ∷ 101 ∷ 100 ∷ 32 ∷ 49 ∷ 54 ∷ 10 ∷ []
unfolding digits
refused_stroke = refl

-- "line refused 16\n"
refused_last_stroke : last_line (record { number = 16; place = 0; width = nought; slope = nought; offset = nought; index = nought; thousandths = 0 }) ≡ 108 ∷ 105 ∷ 110 ∷ 101 ∷ 32 ∷ 114 ∷ 101 ∷ 102 ∷ 117 ∷ 115 ∷ 101 ∷ 100 ∷ 32 ∷ 49 ∷ 54 ∷ 10 ∷ []
unfolding digits
refused_last_stroke = refl
