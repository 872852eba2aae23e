-- Lines and words: a line ends at a newline, a word at a space. Assumes nothing.
use Rattle.std.specs.List.{count_by, position_or_len}
use Rattle.std.specs.Prelude.{List, ℕ, zero, suc, ◌+◌, eqb, take, drop}

-- how many bytes stand before the first such byte
abbrev pub before : ℕ → List ℕ → ℕ
before byte text = position_or_len (λ b. eqb b byte) text

-- the index of the first such byte at or after an index; where there is none, the text's end, or the index if that is past it
abbrev pub end_from : List ℕ → ℕ → ℕ → ℕ
end_from text from byte = from + before byte (drop from text)

-- a space
abbrev pub space : ℕ
space = 32

-- the k-th word of a line, counted from 0; past the last word there is nothing
unfoldable pub nth_word : ℕ → List ℕ → List ℕ
nth_word zero line = take (before space line) line
nth_word (suc k) line = nth_word k (drop (suc (before space line)) line)

-- how many words a line has: one more than it has spaces
abbrev pub word_count : List ℕ → ℕ
word_count line = 1 + count_by (λ b. eqb b space) line
