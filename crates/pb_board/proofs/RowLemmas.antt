-- The words of the rows, counted.
use Rattle.std.proofs.Common.{ℕ, suc, ◌+◌, ◌*◌, ◌<◌, ◌≤◌, arith, mul-le-mul_right, suc-mul}

-- the word j of a row is among the words of the rows
pub row_word_less : (row j workers len : ℕ) → row < workers → j < len → 2 + row * len + j < 2 + workers * len
row_word_less row j workers len below within =
    let rows : suc row * len ≤ workers * len = mul-le-mul_right len below in
    omega (arith, suc-mul row len)

pub row_words_le : (row workers len : ℕ) → row < workers → workers ≤ 64 → row * len ≤ 64 * len
row_words_le row workers len below few = mul-le-mul_right len (omega arith)
