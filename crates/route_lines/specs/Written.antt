-- What a writer has taken of a text.
use Rattle.std.specs.Prelude.{◌≡◌, ◌⊎◌, ℕ, ◌+◌, ◌<◌, List, ◌++◌, length, Option}
use Rattle.std.specs.Io.KnownBytes.{Appends}

-- the known bytes grew by a beginning of the text, at least a byte short
pub record AppendsBeginning (old new : Option (List ℕ)) (text : List ℕ) : Type 0 where
  pub part : List ℕ
  pub missing : List ℕ
  pub whole : text ≡ part ++ missing
  pub short : 0 < length missing
  pub appended : Appends old new part

-- a text was written: no write failed, and the known bytes grew by it; or one did, and they grew by
-- a beginning of it, at least a byte short
abbrev pub Writes : ℕ → ℕ → Option (List ℕ) → Option (List ℕ) → List ℕ → Type 0
Writes failed later old new text =
    ((later ≡ failed) × Appends old new text)
    ⊎ ((later ≡ failed + 1) × AppendsBeginning old new text)
