-- What a word is.
use Rattle.std.specs.Prelude.{ℕ, ◌||◌, ◌&&◌, Bool, IsTrue, List, length, nat_le, Option, Some, None}
use Rattle.std.specs.Prelude.{if◌then◌else◌}
use Rattle.std.specs.List.{list_all}

-- a byte of `a` to `z` or `0` to `9`
abbrev pub is_word_byte : ℕ → Bool
is_word_byte b = nat_le 97 b && nat_le b 122 || (nat_le 48 b && nat_le b 57)

-- 1 to 16 bytes, each of `a` to `z` or `0` to `9`
abbrev pub is_word : List ℕ → Bool
is_word bytes = nat_le 1 (length bytes) && nat_le (length bytes) 16 && list_all is_word_byte bytes

abbrev pub IsWord : List ℕ → Type 0
IsWord bytes = IsTrue (is_word bytes)

-- the word that the bytes are
abbrev pub word_of : List ℕ → Option (List ℕ)
word_of bytes = if is_word bytes then Some bytes else None
