-- How a line writes a key or a ticket.
use Rattle.std.specs.Prelude.{ℕ, ◌<◌, ◌^◌, ◌&&◌, List, Option, Some, None, nat_lt, decimal}
use Rattle.std.specs.Prelude.{if◌then◌else◌}
use Rattle.std.specs.Str.{bytes_eq}
use Rattle.std.specs.Str.Parse.{digits_value}

-- keys and tickets are below 2^64
abbrev pub IsNumber : ℕ → Type 0
IsNumber n = n < 2 ^ 64

-- the number whose decimal text is these bytes: digits alone, with no leading zero
unfoldable pub number_of : List ℕ → Option ℕ
number_of bytes =
    let n = digits_value 10 bytes in if nat_lt n (2 ^ 64) && bytes_eq
    (decimal n) bytes then Some n else None
